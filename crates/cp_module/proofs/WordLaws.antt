-- The goals of the language by their words.
use Rattle.std.proofs.Common.{◌≡◌, ℕ, zero, suc, refl, sym, ap, ◌∙◌, Bool, true, false, Some, None, Option, List}
use Rattle.std.specs.Prelude.{◌||◌, if◌then◌else◌, is_some}
use Rattle.cp_goal.specs.declared.builtin.Builtin.{Builtin as TermGoal}
use Rattle.cp_goal.specs.Names.{builtin_named}
use Rattle.cp_ops.specs.Text.{Style, quoting, bare}
use Rattle.cp_code.specs.Bodies.{is}
use Rattle.cp_code.specs.Goals.{FactGoal, Current, Retract, CurrentNb, RetractNb, AddFront, AddBack, RetractAll, Set, Close, Open, Builtin, Property, Write, NewLine, Post, Wait, fact_goal_named, is_property_goal, or_term_goal, on_facts, with_one_argument, other_named, builtin_goal}
use Rattle.cp_module.specs.LanguageWords.{is_property_word, is_fact_word, is_unary_word, is_other_word}
use Rattle.cp_module.specs.Words.{is_control, is_language}

of_ten : (b1 b2 b3 b4 b5 b6 b7 b8 b9 b10 : Bool)
    → is_some (if b1 then Some Current else if b2 then Some Retract else if b3 then Some CurrentNb else if b4 then Some RetractNb else if b5 then Some AddFront else if b6 then Some AddBack else if b7 then Some RetractAll else if b8 then Some Set else if b9 then Some Close else if b10 then Some Open else None)
    ≡ (b1 || b2 || b3 || b4 || b5 || b6 || b7 || b8 || b9 || b10)
of_ten true b2 b3 b4 b5 b6 b7 b8 b9 b10 = refl
of_ten false true b3 b4 b5 b6 b7 b8 b9 b10 = refl
of_ten false false true b4 b5 b6 b7 b8 b9 b10 = refl
of_ten false false false true b5 b6 b7 b8 b9 b10 = refl
of_ten false false false false true b6 b7 b8 b9 b10 = refl
of_ten false false false false false true b7 b8 b9 b10 = refl
of_ten false false false false false false true b8 b9 b10 = refl
of_ten false false false false false false false true b9 b10 = refl
of_ten false false false false false false false false true b10 = refl
of_ten false false false false false false false false false true = refl
of_ten false false false false false false false false false false = refl

facts_named : (f : List ℕ) → is_some (fact_goal_named f) ≡ is_fact_word f
unfolding is_fact_word
facts_named f = of_ten (is f "current_fact") (is f "retract_fact") (is f "current_fact_nb") (is f "retract_fact_nb") (is f "asserta_fact") (is f "assertz_fact") (is f "retractall_fact") (is f "set_fact") (is f "close_predicate") (is f "open_predicate")

on_facts-some : (g : Option FactGoal) → is_some (on_facts g) ≡ is_some g
on_facts-some None = refl
on_facts-some (Some g) = refl

of_five : (b1 b2 b3 b4 b5 : Bool) (x1 x2 x3 x4 : Builtin) (o : Option Builtin) → is_some o ≡ b5
    → is_some (if b1 then Some x1 else if b2 then Some x2 else if b3 then Some x3 else if b4 then Some x4 else o) ≡ (b1 || b2 || b3 || b4 || b5)
of_five true b2 b3 b4 b5 x1 x2 x3 x4 o h = refl
of_five false true b3 b4 b5 x1 x2 x3 x4 o h = refl
of_five false false true b4 b5 x1 x2 x3 x4 o h = refl
of_five false false false true b5 x1 x2 x3 x4 o h = refl
of_five false false false false b5 x1 x2 x3 x4 o h = h

unary_named : (f : List ℕ) → is_some (with_one_argument f) ≡ is_unary_word f
unfolding is_unary_word is_property_word
unary_named f = of_five (is f "write") (is f "writeq") (is f "eng_wait") (is_property_goal f) (is_fact_word f) (Write bare) (Write quoting) Wait (Property f) (on_facts (fact_goal_named f)) (on_facts-some (fact_goal_named f) ∙ facts_named f)

of_one : (b : Bool) (x : Builtin) → is_some (if b then Some x else None) ≡ b
of_one true x = refl
of_one false x = refl

others_named : (f : List ℕ) (k : ℕ) → is_some (other_named f k) ≡ is_other_word f k
others_named f zero = of_one (is f "nl") NewLine
others_named f (suc zero) = unary_named f
others_named f (suc (suc zero)) = refl
others_named f (suc (suc (suc zero))) = refl
others_named f (suc (suc (suc (suc zero)))) = of_one (is f "eng_call") Post
others_named f (suc (suc (suc (suc (suc k))))) = refl

or_some : (a : Option TermGoal) (b : Option Builtin) → is_some (or_term_goal a b) ≡ (is_some a || is_some b)
or_some None b = refl
or_some (Some a) b = refl

or-assoc : (x y z : Bool) → ((x || y) || z) ≡ (x || (y || z))
or-assoc true y z = refl
or-assoc false y z = refl

pub by_words : (f : List ℕ) (k : ℕ) → (is_control f k || is_some (builtin_named f k) || is_other_word f k) ≡ is_language f k
unfolding builtin_goal
by_words f k =
    or-assoc (is_control f k) (is_some (builtin_named f k)) (is_other_word f k)
    ∙ ap (λ b. is_control f k || b) (ap (λ b. is_some (builtin_named f k) || b) (sym (others_named f k)) ∙ sym (or_some (builtin_named f k) (other_named f k)))
