-- Which goal a name and a number of arguments is, where it is no control: a builtin, or a predicate that a module sees.
use Rattle.std.specs.Prelude.{ℕ, zero, suc, Bool, ◌||◌, if◌then◌else◌, List, Option, Some, None, slice_get}
use Rattle.cp_goal.specs.declared.builtin.Builtin.{Builtin as TermGoal}
use Rattle.cp_goal.specs.Names.{builtin_named}
use Rattle.cp_ops.specs.Text.{Style, quoting, bare}
use Rattle.cp_code.specs.Bodies.{is}
use Rattle.cp_code.specs.Code.{Code, Pred}

-- goals on the facts of a shared predicate
pub data FactGoal : Type 0 where
  Current Retract CurrentNb RetractNb AddFront AddBack RetractAll Set Close Open : FactGoal

-- the goals of the language that are no control
pub data Builtin : Type 0 where
  -- unification, order, parts of terms, texts and arithmetic
  OnTerms : TermGoal → Builtin
  -- a property as a goal
  Property : List ℕ → Builtin
  Write : Style → Builtin
  NewLine : Builtin
  OnFacts : FactGoal → Builtin
  Post : Builtin
  Wait : Builtin

abbrev pub fact_goal_named : List ℕ → Option FactGoal
fact_goal_named f =
    if is f "current_fact" then Some Current
    else if is f "retract_fact" then Some Retract
    else if is f "current_fact_nb" then Some CurrentNb
    else if is f "retract_fact_nb" then Some RetractNb
    else if is f "asserta_fact" then Some AddFront
    else if is f "assertz_fact" then Some AddBack
    else if is f "retractall_fact" then Some RetractAll
    else if is f "set_fact" then Some Set
    else if is f "close_predicate" then Some Close
    else if is f "open_predicate" then Some Open
    else None

abbrev pub is_property_goal : List ℕ → Bool
is_property_goal f =
    is f "term" || is f "int" || is f "nnegint" || is f "num" || is f "atm" || is f "struct" || is f "gnd" || is f "constant" || is f "list"

abbrev pub or_term_goal : Option TermGoal → Option Builtin → Option Builtin
or_term_goal (Some b) other = Some (OnTerms b)
or_term_goal None other = other

abbrev pub on_facts : Option FactGoal → Option Builtin
on_facts (Some g) = Some (OnFacts g)
on_facts None = None

abbrev pub with_one_argument : List ℕ → Option Builtin
with_one_argument f =
    if is f "write" then Some (Write bare)
    else if is f "writeq" then Some (Write quoting)
    else if is f "eng_wait" then Some Wait
    else if is_property_goal f then Some (Property f)
    else on_facts (fact_goal_named f)

abbrev pub other_named : List ℕ → ℕ → Option Builtin
other_named f zero = if is f "nl" then Some NewLine else None
other_named f (suc zero) = with_one_argument f
other_named f (suc (suc (suc (suc zero)))) = if is f "eng_call" then Some Post else None
other_named f k = None

-- the goal of the language with this name and number of arguments; it goes before every predicate
unfoldable pub builtin_goal : List ℕ → ℕ → Option Builtin
builtin_goal f k = or_term_goal (builtin_named f k) (other_named f k)

-- ---- predicates

-- the predicate that a module sees under a name and arity
abbrev pub pred_at : Code → Option ℕ → Option Pred
pred_at code None = None
pred_at code (Some n) = slice_get code.preds n

abbrev pub seen_pred : Code → List ℕ → List ℕ → ℕ → Option Pred
seen_pred code m f k = pred_at code (code.sees m f k)
