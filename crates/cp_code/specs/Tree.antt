-- Resolution (ISO/IEC 13211-1, 7.7 and 7.8): what a goal does, as a search tree that is read from left to right.
--
-- A tree is of a list of goals, under a substitution. What it gives is read from left to right too: it uses up units and
-- inputs, and it ends. `row` says what the tree of a list of goals is by its first goal. In it `again` stands for the tree
-- of any other list of goals, so `row` is the table of the language, one line for each kind of goal. The tree itself is
-- `tree`: it is the row of itself (the law `TreeIsRow`). A definition has to end, so `tree` goes down to a bounded depth.
-- Each `again` stands behind a unit that was charged or an input that was read, so the depth of one more than the units
-- and inputs that are left is never met, and no other bound gives another tree.
--
-- The arguments stand in one order: the rest of the goals, the substitution s, the next free variable, the last level that
-- was opened, and what is left. Levels are numbered as they are opened on the way down, from 1; a `catch` has the number
-- of the level that it opens.
use Rattle.std.specs.Prelude.{ℕ, zero, suc, ◌+◌, Bool, true, false, ◌||◌, nat_eq, nat_lt, if◌then◌else◌, List, [], ◌∷◌, ◌++◌, map, length, slice_get, Option, Some, None, Result, Ok, Err, ℤ, pos, codes}
use Rattle.cp_term.specs.declared.cell.Cell.{Cell}
use Rattle.cp_term.specs.declared.cell.Cell.TheVariants.{Int, Atom, Func}
use Rattle.cp_term.specs.declared.pred_name.PredName.{PredName}
use Rattle.cp_term.specs.Preorder.{arguments}
use Rattle.cp_term.specs.Numbering.{fresh, canon, next_variable}
use Rattle.cp_term.specs.Substitution.{Substitution, apply}
use Rattle.cp_term.specs.Unification.{unify, unifiable_apart}
use Rattle.std.specs.List.{flat_map}
use Rattle.cp_goal.specs.Errors.{word, with_two, instantiation_error, type_error, resource_error}
use Rattle.cp_goal.specs.Builtins as builtins
use Rattle.cp_goal.specs.Builtins.{builtin, context, ball}
use Rattle.cp_goal.specs.Lists.{list_term}
use Rattle.cp_ops.specs.Text.{Style, text_of}
use Rattle.cp_call.specs.declared.item.PutReply.TheVariants as put
use Rattle.cp_call.specs.declared.item.How.TheVariants as how
use Rattle.cp_call.specs.declared.item.Next.{Next}
use Rattle.cp_call.specs.declared.item.Next.TheVariants as request
use Rattle.cp_call.specs.declared.item.Input.{Input}
use Rattle.cp_call.specs.declared.item.Input.TheVariants as input
use Rattle.cp_code.specs.Bodies.{Body, Cut, True, Fail, Both, Either, Choose, CallOf, CatchOf, ThrowOf, FindAll, Plain, body_of, fresh_body, Seen, seen_from}
use Rattle.cp_code.specs.Properties.{has}
use Rattle.cp_code.specs.Checks.{Check, broken_call, held, broken_exit}
use Rattle.cp_code.specs.Code.{Code, Clause, Pred, Kind, Rules, Shared, Remote, Wrapped}
use Rattle.cp_code.specs.Goals.{Builtin, OnTerms, Property, Write, NewLine, OnFacts, Post, Wait, builtin_goal, seen_pred}
use Rattle.cp_code.specs.Requests.{Asking, Follows, Again, Facts, Fact, Number, Rest, Nothing, Raises, follows, handed_out, is_qualified, functor_of, full_name, existence_error, system_error, fact_asking, pred_asking, post_goal, wait_goal, answers_of, RemoteFollows, Fails, Throws, Breaks, is_unbound, has_module}

-- ---- goals

-- A goal carries the level to which a cut in it goes.
pub data Item : Type 0 where
  Goal : (body : Body) (level : ℕ) → Item
  -- a question that is asked again behind a place; it costs a unit
  AskFrom : Asking → (place : ℤ) → Item
  -- the cut behind a condition; no unit is charged
  CutNow : (level : ℕ) → Item
  -- the end of what a `catch` protects
  Leave : (catcher : ℕ) → Item
  -- the end of a findall's goal, by the context of its errors; what stands behind it is not run from here
  Copy : (template error_context : List Cell) → Item
  -- the exit of a call whose success is tested
  Exit : (name : PredName) (checks : List Check) (goal : List Cell) → Item
  -- the test of the demands at a call
  Demands : (name : PredName) (checks : List Check) (goal : List Cell) → Item
  -- the call of a renamed predicate
  Renamed : (pred : ℕ) (checks : List Check) (goal : List Cell) → Item

-- the catchers whose end is still to come
abbrev pub catchers : List Item → List ℕ
catchers [] = []
catchers (Goal b l ∷ rest) = catchers rest
catchers (AskFrom a place ∷ rest) = catchers rest
catchers (CutNow l ∷ rest) = catchers rest
catchers (Leave k ∷ rest) = k ∷ catchers rest
catchers (Copy x ctx ∷ rest) = catchers rest
catchers (Exit p cs g ∷ rest) = catchers rest
catchers (Demands p cs g ∷ rest) = catchers rest
catchers (Renamed p cs g ∷ rest) = catchers rest

-- ---- how a tree ends, and what it leaves

pub data End : Type 0 where
  Done : End
  CutTo : (level : ℕ) → End
  Throw : (ball : List Cell) (catchers : List ℕ) → End
  Steps : End
  -- an input is due and none is left
  Waiting : Next → End

-- the units and inputs that are left, and the copies that the innermost findall has taken so far
pub record Left : Type 0 where
  pub units : ℕ
  pub inputs : List Input
  pub copies : List (List Cell)

pub data Run : Type 0 where
  Ends : End → Left → Run

-- a tree: of a list of goals, under a substitution, with the next free variable and the last level opened
abbrev pub Tree : Type 0
Tree = List Item → Substitution → ℕ → ℕ → Left → Run

-- one tree, and after it another, where the first ends Done
abbrev pub in_turn : Run → (Left → Run) → Run
in_turn (Ends Done left) on = on left
in_turn (Ends (CutTo l) left) on = Ends (CutTo l) left
in_turn (Ends (Throw b ks) left) on = Ends (Throw b ks) left
in_turn (Ends Steps left) on = Ends Steps left
in_turn (Ends (Waiting n) left) on = Ends (Waiting n) left

-- the tree that was opened at a level: a cut to that level is Done there
abbrev pub cut_at : Bool → ℕ → Left → Run
cut_at true l left = Ends Done left
cut_at false l left = Ends (CutTo l) left

abbrev pub opened : ℕ → Run → Run
opened level (Ends Done left) = Ends Done left
opened level (Ends (CutTo l) left) = cut_at (nat_eq l level) l left
opened level (Ends (Throw b ks) left) = Ends (Throw b ks) left
opened level (Ends Steps left) = Ends Steps left
opened level (Ends (Waiting n) left) = Ends (Waiting n) left

-- the tree behind a cut: where nothing more is found, the alternatives up to its level are dropped
abbrev pub cut_behind : ℕ → Run → Run
cut_behind level (Ends Done left) = Ends (CutTo level) left
cut_behind level (Ends (CutTo l) left) = Ends (CutTo l) left
cut_behind level (Ends (Throw b ks) left) = Ends (Throw b ks) left
cut_behind level (Ends Steps left) = Ends Steps left
cut_behind level (Ends (Waiting n) left) = Ends (Waiting n) left

-- one unit is charged, or Steps where none is left
abbrev pub charge_of : ℕ → Left → (Left → Run) → Run
charge_of zero left on = Ends Steps left
charge_of (suc units) left on = on (record { units = units; inputs = left.inputs; copies = left.copies })

abbrev pub charge : Left → (Left → Run) → Run
charge left on = charge_of left.units left on

-- the next input, or Waiting where none is left
abbrev pub read_of : List Input → Next → Left → (Input → Left → Run) → Run
read_of [] due left on = Ends (Waiting due) left
read_of (i ∷ inputs) due left on = on i (record { units = left.units; inputs = inputs; copies = left.copies })

abbrev pub read : Next → Left → (Input → Left → Run) → Run
read due left on = read_of left.inputs due left on

abbrev pub with_copies : List (List Cell) → Left → Left
with_copies ts left = record { units = left.units; inputs = left.inputs; copies = ts }

-- ---- errors

abbrev pub throw : List Cell → List Item → Left → Run
throw thrown rest left = Ends (Throw thrown (catchers rest)) left

-- an error of this kind, raised in this context
abbrev pub raise : (kind error_context : List Cell) → List Item → Left → Run
raise kind ctx rest left = throw (ball kind ctx) rest left

-- a term is thrown as it stands, or an error where it is too large
abbrev pub throw_copy : Result (List Cell) (List Cell) → List Cell → List Item → Left → Run
throw_copy (Ok thrown) ctx rest left = throw thrown rest left
throw_copy (Err kind) ctx rest left = raise kind ctx rest left

-- a term is thrown; one that is not bound raises an error
abbrev pub throw_if : Bool → List Cell → List Cell → List Item → Left → Run
throw_if true thrown ctx rest left = raise instantiation_error ctx rest left
throw_if false thrown ctx rest left = throw_copy (handed_out thrown) ctx rest left

-- the ball of an assertion that fails, by its number
abbrev pub check_ball : List ℕ → PredName → ℕ → List Cell
check_ball what p k = Func (codes "rtcheck") 3 ∷ Atom what ∷ full_name p ++ Int (pos k) ∷ []

-- ---- goals that are made at run time

-- The goal that a term with extra arguments is. Where `M:G` is left of it M is no atom, and the term is no callable.
abbrev pub with_arity : ℕ → List Cell → Result (List Cell) (List Cell)
with_arity k goal = if nat_lt 255 k then Err (resource_error (codes "arity")) else Ok goal

abbrev pub longer : List Cell → List (List Cell) → Result (List Cell) (List Cell)
longer (Atom a ∷ cells) extra = with_arity (length extra) (Func a (length extra) ∷ flat_map (λ t. t) extra)
longer (Func f k ∷ cells) extra = with_arity (k + length extra) (Func f (k + length extra) ∷ cells ++ flat_map (λ t. t) extra)
longer goal extra = Err (type_error (codes "callable") goal)

abbrev pub extended : List Cell → List (List Cell) → Result (List Cell) (List Cell)
extended goal [] = Ok goal
extended goal (x ∷ extra) = if is_qualified goal then Err (type_error (codes "callable") goal) else longer goal (x ∷ extra)

-- a term that is run as a goal, at a level of its own, in front of the rest
abbrev pub enter_body : Tree → Option Body → List Cell → List Cell → List Item → Substitution → ℕ → ℕ → Left → Run
enter_body again None g ctx rest s next level left = raise (type_error (codes "callable") g) ctx rest left
enter_body again (Some b) g ctx rest s next level left = opened (suc level) (again (Goal b (suc level) ∷ rest) s next (suc level) left)

abbrev pub enter_goal : Tree → List ℕ → Result (List Cell) (List Cell) → List Cell → List Item → Substitution → ℕ → ℕ → Left → Run
enter_goal again m (Ok g) ctx rest s next level left = enter_body again (body_of m g) g ctx rest s next level left
enter_goal again m (Err kind) ctx rest s next level left = raise kind ctx rest left

abbrev pub enter_seen : Tree → Seen → List (List Cell) → List Cell → List Item → Substitution → ℕ → ℕ → Left → Run
enter_seen again g extra ctx rest s next level left =
    if is_unbound g.goal then raise instantiation_error ctx rest left
    else enter_goal again g.seer (extended g.goal extra) ctx rest s next level left

-- the instance of a goal with extra arguments, as a module sees it
abbrev pub enter : Tree → List ℕ → List Cell → List (List Cell) → List Cell → List Item → Substitution → ℕ → ℕ → Left → Run
enter again m g extra ctx rest s next level left =
    enter_seen again (seen_from m (apply s g)) (map (apply s) extra) ctx rest s next level left

-- ---- unification

-- the rest, where two terms unify
abbrev pub rest_if : Tree → Option Substitution → List Item → ℕ → ℕ → Left → Run
rest_if again None rest next level left = Ends Done left
rest_if again (Some s) rest next level left = again rest s next level left

-- ---- predicates with rules

-- a clause's body in front of the rest, at the level of its call; a fact has none, and costs no unit
abbrev pub body_before : Option Body → (next level : ℕ) → List Item → List Item
body_before None next level rest = rest
body_before (Some b) next level rest = Goal (fresh_body next b) level ∷ rest

-- the clauses of a predicate in turn, at the level that was opened for the call
abbrev pub clause_if : Tree → Option Substitution → Clause → List Item → ℕ → ℕ → Left → Run
clause_if again None c rest next level left = Ends Done left
clause_if again (Some s) c rest next level left = again (body_before c.body next level rest) s (next + c.variables) level left

abbrev pub clauses : Tree → List Clause → List Cell → List Item → Substitution → ℕ → ℕ → Left → Run
clauses again [] g rest s next level left = Ends Done left
clauses again (c ∷ cs) g rest s next level left =
    in_turn (clause_if again (unify s g (fresh next c.head)) c rest next level left)
    (λ left. clauses again cs g rest s next level left)

-- what stands behind the bodies of a predicate's clauses: its exit, where something is tested there
abbrev pub behind : PredName → List Check → List Cell → List Item → List Item
behind p [] g rest = rest
behind p (c ∷ cs) g rest = Exit p (c ∷ cs) g ∷ rest

-- a call, where no demand is broken at it, and else the ball of the least that is
abbrev pub demand_if : Option ℕ → PredName → List Item → Left → Run → Run
demand_if (Some k) p rest left run = throw (check_ball (codes "calls") p k) rest left
demand_if None p rest left run = run

-- an exit, with the tree of what stands behind it
abbrev pub exit_if : Option ℕ → PredName → List Item → Left → Run → Run
exit_if (Some k) p rest left run = throw (check_ball (codes "success") p k) rest left
exit_if None p rest left run = run

-- a call's clauses, in front of its exit and the rest, at a level of their own
abbrev pub call_rules : Tree → Code → PredName → List Check → List Clause → List Cell → List Item → Substitution → ℕ → ℕ → Left → Run
call_rules again code p checks rules g rest s next level left =
    opened (suc level) (clauses again rules g (behind p (held code.types checks (arguments g)) g rest) s next (suc level) left)

-- the clauses of a renamed predicate, under the name that it had
abbrev pub rules_of_kind : Kind → List Clause
rules_of_kind (Rules checks rules) = rules
rules_of_kind kind = []

abbrev pub call_renamed : Tree → Code → Option Pred → List Check → List Cell → List Item → Substitution → ℕ → ℕ → Left → Run
call_renamed again code (Some p) checks g rest s next level left = call_rules again code p.name checks (rules_of_kind p.kind) g rest s next level left
call_renamed again code None checks g rest s next level left = Ends Done left

-- ---- requests

-- a fact that was found, and behind it the question again
abbrev pub facts_if : Tree → Option Substitution → Asking → ℤ → List Item → Substitution → ℕ → ℕ → ℕ → Left → Run
facts_if again None a place rest s next next' level left = Ends Done left
facts_if again (Some s') a place rest s next next' level left =
    in_turn (again rest s' next' level left) (again (AskFrom a place ∷ rest) s next level)

abbrev pub fact_if : Tree → Bool → List Item → Substitution → ℕ → ℕ → Left → Run
fact_if again true rest s next level left = again rest s next level left
fact_if again false rest s next level left = Ends Done left

-- what follows a reply; `retry` is the same question
abbrev pub followed : Tree → Follows → Asking → List Item → Substitution → ℕ → ℕ → Left → (Left → Run) → Run
followed again Again a rest s next level left retry = retry left
followed again (Facts place pattern fact) a rest s next level left retry =
    facts_if again (unify s pattern (fresh next fact)) a place rest s next (next + next_variable fact) level left
followed again (Fact pattern fact) a rest s next level left retry = fact_if again (unifiable_apart pattern fact) rest s next level left
followed again (Number number place) a rest s next level left retry = rest_if again (unify s number (Int place ∷ [])) rest next level left
followed again Rest a rest s next level left retry = again rest s next level left
followed again Nothing a rest s next level left retry = Ends Done left
followed again (Raises kind) a rest s next level left retry = raise kind a.error_context rest left

-- A question to a shared object, from this cursor on. An input that is no reply of an object cannot come.
abbrev pub asked : Tree → Asking → Option ℤ → List Item → Substitution → ℕ → ℕ → ℕ → List (List Cell) → List Input → Run
asked again a after rest s next level units copies [] =
    Ends (Waiting (request.Ask a.object (a.call after))) (record { units = units; inputs = []; copies = copies })
asked again a after rest s next level units copies (input.Reply r ∷ inputs) =
    followed again (follows a.manner r) a rest s next level (record { units = units; inputs = inputs; copies = copies })
    (λ left. asked again a after rest s next level units copies inputs)
asked again a after rest s next level units copies (i ∷ inputs) = Ends Done (record { units = units; inputs = inputs; copies = copies })

abbrev pub ask : Tree → Asking → Option ℤ → List Item → Substitution → ℕ → ℕ → Left → Run
ask again a after rest s next level left = asked again a after rest s next level left.units left.copies left.inputs

-- a question, or the error of the goal that would make it
abbrev pub ask_or_raise : Tree → Result Asking (List Cell) → List Cell → List Item → Substitution → ℕ → ℕ → Left → Run
ask_or_raise again (Ok a) ctx rest s next level left = ask again a None rest s next level left
ask_or_raise again (Err kind) ctx rest s next level left = raise kind ctx rest left

-- what a write was told
abbrev pub wrote : Tree → List Cell → List Item → Substitution → ℕ → ℕ → Input → Left → Run
wrote again ctx rest s next level (input.Put put.Wrote) left = again rest s next level left
wrote again ctx rest s next level (input.Put put.Failed) left = raise (system_error (codes "output")) ctx rest left
wrote again ctx rest s next level i left = Ends Done left

-- one piece on the port, of at most 65,535 bytes
abbrev pub write : Tree → List ℕ → List Cell → List Item → Substitution → ℕ → ℕ → Left → Run
write again bytes ctx rest s next level left =
    if nat_lt 65535 (length bytes) then raise (resource_error (codes "output_piece")) ctx rest left
    else read (request.Put bytes) left (wrote again ctx rest s next level)

-- the answers of a remote call in turn, and what stands behind them
abbrev pub behind_answers : RemoteFollows → List Cell → List Item → Left → Run
behind_answers Fails ctx rest left = Ends Done left
behind_answers (Throws thrown) ctx rest left = throw_copy (handed_out thrown) ctx rest left
behind_answers (Breaks kind) ctx rest left = raise kind ctx rest left

abbrev pub each_answer : Tree → List (List Cell) → RemoteFollows → List Cell → List Cell → List Item → Substitution → ℕ → ℕ → Left → Run
each_answer again [] after g ctx rest s next level left = behind_answers after ctx rest left
each_answer again (a ∷ answers) after g ctx rest s next level left =
    in_turn (rest_if again (unify s g (fresh next a)) rest (next + next_variable a) level left)
    (λ left. each_answer again answers after g ctx rest s next level left)

abbrev pub answered : Tree → PredName → List Cell → List Item → Substitution → ℕ → ℕ → Input → Left → Run
answered again p g rest s next level (input.Remote r) left =
    each_answer again ((answers_of p r).answers) ((answers_of p r).behind) g (full_name p) rest s next level left
answered again p g rest s next level i left = Ends Done left

abbrev pub call_remote : Tree → PredName → List Cell → Result (List Cell) (List Cell) → List Item → Substitution → ℕ → ℕ → Left → Run
call_remote again p g (Ok goal) rest s next level left =
    read (request.Remote (record { «module» = p.module; goal = goal; limit = 65535; looks = 10000 })) left (answered again p g rest s next level)
call_remote again p g (Err kind) rest s next level left = raise kind (full_name p) rest left

-- ---- catch and findall

abbrev pub is_among : ℕ → List ℕ → Bool
is_among k [] = false
is_among k (l ∷ ks) = nat_eq k l || is_among k ks

-- a ball that a catch meets: the ball is caught where the catch is among its catchers and the two unify
abbrev pub recover_if : Tree → Bool → Option Substitution → List ℕ → List Cell → List Item → ℕ → ℕ → List Cell → List ℕ → Left → Run
recover_if again true (Some s) m recovery rest next level b ks left = enter again m recovery [] (context m (codes "catch") 3) rest s next level left
recover_if again true None m recovery rest next level b ks left = Ends (Throw b ks) left
recover_if again false o m recovery rest next level b ks left = Ends (Throw b ks) left

-- the end of what a catch protects; where the ball is caught, the recovery and the rest follow, under the catch's own
-- substitution
abbrev pub caught : Tree → ℕ → List ℕ → List Cell → List Cell → List Item → Substitution → ℕ → ℕ → Run → Run
caught again k m catcher recovery rest s next level (Ends Done left) = Ends Done left
caught again k m catcher recovery rest s next level (Ends (CutTo l) left) = Ends (CutTo l) left
caught again k m catcher recovery rest s next level (Ends (Throw b ks) left) =
    recover_if again (is_among k ks) (unify s catcher (fresh next b)) m recovery rest (next + next_variable b) level b ks left
caught again k m catcher recovery rest s next level (Ends Steps left) = Ends Steps left
caught again k m catcher recovery rest s next level (Ends (Waiting n) left) = Ends (Waiting n) left

-- terms, each with variables of its own, and the number of these
abbrev pub apart : ℕ → List (List Cell) → List (List Cell)
apart next [] = []
apart next (t ∷ ts) = fresh next t ∷ apart (next + next_variable t) ts

abbrev pub variables_in : List (List Cell) → ℕ
variables_in [] = 0
variables_in (t ∷ ts) = next_variable t + variables_in ts

-- The end of a findall's goal: where it is Done, the list of the copies and then the rest. The outer findall goes on with
-- its own copies.
abbrev pub collected : Tree → List (List Cell) → List Cell → List Item → Substitution → ℕ → ℕ → Run → Run
collected again outer result rest s next level (Ends Done left) =
    rest_if again (unify s result (list_term (apart next left.copies))) rest (next + variables_in left.copies) level (with_copies outer left)
collected again outer result rest s next level (Ends (CutTo l) left) = Ends (CutTo l) (with_copies outer left)
collected again outer result rest s next level (Ends (Throw b ks) left) = Ends (Throw b ks) (with_copies outer left)
collected again outer result rest s next level (Ends Steps left) = Ends Steps (with_copies outer left)
collected again outer result rest s next level (Ends (Waiting n) left) = Ends (Waiting n) (with_copies outer left)

-- a copy is taken, or an error raised where it is too large
abbrev pub copied : Result (List Cell) (List Cell) → List Cell → List Item → Left → Run
copied (Ok t) ctx rest left = Ends Done (record { units = left.units; inputs = left.inputs; copies = left.copies ++ t ∷ [] })
copied (Err kind) ctx rest left = raise kind ctx rest left

-- ---- goals that are no control

-- a builtin on terms
abbrev pub ended : Tree → builtins.End → List Cell → List Item → ℕ → Left → Run
ended again (builtins.Succeeds s next) ctx rest level left = again rest s next level left
ended again builtins.Fails ctx rest level left = Ends Done left
ended again (builtins.Raises kind) ctx rest level left = raise kind ctx rest left

-- the goal arguments of a predicate that have no module of their own get the one that sees the goal
abbrev pub with_module : List ℕ → Bool → List Cell → List Cell
with_module m true t = if has_module t then t else with_two (codes ":") (word m) t
with_module m false t = t

abbrev pub with_modules : List ℕ → List Bool → List (List Cell) → List (List Cell)
with_modules m (mark ∷ marks) (t ∷ ts) = with_module m mark t ∷ with_modules m marks ts
with_modules m marks ts = ts

abbrev pub qualified : List ℕ → List Bool → List Cell → List Cell
qualified m marks [] = []
qualified m marks (c ∷ cells) = c ∷ flat_map (λ t. t) (with_modules m marks (arguments (c ∷ cells)))

-- the call of a predicate, whose instance is given
abbrev pub call_kind : Tree → Code → PredName → Kind → List Cell → List Item → Substitution → ℕ → ℕ → Left → Run
call_kind again code p (Rules checks rules) g rest s next level left =
    demand_if (broken_call code.types checks checks (arguments g)) p rest left (call_rules again code p checks rules g rest s next level left)
call_kind again code p (Shared object suspends) g rest s next level left =
    ask_or_raise again (pred_asking object g p) (full_name p) rest s next level left
call_kind again code p Remote g rest s next level left = call_remote again p g (handed_out g) rest s next level left
call_kind again code p (Wrapped checks renamed) g rest s next level left =
    again (Demands p checks g ∷ Renamed renamed checks g ∷ rest) s next level left

-- the text of a term under the operators of a module
abbrev pub piece_of : Code → Style → List ℕ → List (List Cell) → List ℕ
piece_of code style m (t ∷ ts) = text_of style (code.ops m) (canon t)
piece_of code style m [] = []

abbrev pub first_of : List (List Cell) → List Cell
first_of [] = []
first_of (t ∷ ts) = t

-- what a goal of the language does; its arguments as they stand and the context of its errors are given
abbrev pub builtin_row : Tree → Code → List ℕ → Builtin → List (List Cell) → List Cell → List Item → Substitution → ℕ → ℕ → Left → Run
builtin_row again code m (OnTerms b) args ctx rest s next level left = ended again (builtin b args s next) ctx rest level left
builtin_row again code m (Property name) args ctx rest s next level left = fact_if again (has code.types name (first_of args)) rest s next level left
builtin_row again code m (Write style) args ctx rest s next level left = write again (piece_of code style m args) ctx rest s next level left
builtin_row again code m NewLine args ctx rest s next level left = write again (codes "\n") ctx rest s next level left
builtin_row again code m (OnFacts f) args ctx rest s next level left =
    ask_or_raise again (fact_asking code f (seen_from m (first_of args)) ctx) ctx rest s next level left
builtin_row again code m Post args ctx rest s next level left = ask_or_raise again (post_goal m args ctx) ctx rest s next level left
builtin_row again code m Wait args ctx rest s next level left = ask_or_raise again (wait_goal args ctx) ctx rest s next level left

-- what the call of a predicate does, or of none
abbrev pub called_row : Tree → Code → List ℕ → Option Pred → List Cell → List Cell → List Item → Substitution → ℕ → ℕ → Left → Run
called_row again code m (Some p) g ctx rest s next level left = call_kind again code p.name p.kind (qualified m p.goals g) rest s next level left
called_row again code m None g ctx rest s next level left = raise (existence_error (codes "procedure") ctx) ctx rest left

abbrev pub named_row : Tree → Code → List ℕ → Option Builtin → (List ℕ × ℕ) → List Cell → List Item → Substitution → ℕ → ℕ → Left → Run
named_row again code m (Some b) f g rest s next level left = builtin_row again code m b (arguments g) (context m f.0 f.1) rest s next level left
named_row again code m None f g rest s next level left = called_row again code m (seen_pred code m f.0 f.1) g (context m f.0 f.1) rest s next level left

abbrev pub functor_row : Tree → Code → List ℕ → Option (List ℕ × ℕ) → List Cell → List Item → Substitution → ℕ → ℕ → Left → Run
functor_row again code m (Some f) g rest s next level left = named_row again code m (builtin_goal f.0 f.1) f g rest s next level left
functor_row again code m None g rest s next level left = Ends Done left

-- a goal that is no control, as it stands
abbrev pub plain_row : Tree → Code → List ℕ → List Cell → List Item → Substitution → ℕ → ℕ → Left → Run
plain_row again code m g rest s next level left = functor_row again code m (functor_of g) g rest s next level left

-- ---- the table

-- the tree by the first goal's body, which carries the level l. All but a conjunction cost a unit.
abbrev pub body_row : Tree → Code → Body → ℕ → List Item → Substitution → ℕ → ℕ → Left → Run
body_row again code Cut l rest s next level left = charge left (λ left. cut_behind l (again rest s next level left))
body_row again code True l rest s next level left = charge left (λ left. again rest s next level left)
body_row again code Fail l rest s next level left = charge left (λ left. Ends Done left)
body_row again code (Both a b) l rest s next level left = body_row again code a l (Goal b l ∷ rest) s next level left
body_row again code (Either a b) l rest s next level left =
    charge left (λ left. in_turn (again (Goal a l ∷ rest) s next level left) (again (Goal b l ∷ rest) s next level))
body_row again code (Choose c t e) l rest s next level left =
    charge left (λ left.
    opened (level + 1)
    (in_turn (opened (level + 2) (again (Goal c (level + 2) ∷ CutNow (level + 1) ∷ Goal t l ∷ rest) s next (level + 2) left))
    (again (Goal e l ∷ rest) s next (level + 1))))
body_row again code (CallOf m g extra) l rest s next level left =
    charge left (λ left. enter again m g extra (context m (codes "call") (suc (length extra))) rest s next level left)
body_row again code (CatchOf m g catcher recovery) l rest s next level left =
    charge left (λ left. caught again (suc level) m catcher recovery rest s next level
    (enter again m g [] (context m (codes "catch") 3) (Leave (suc level) ∷ rest) s next level left))
body_row again code (ThrowOf m thrown) l rest s next level left =
    charge left (λ left. throw_if (is_unbound (apply s thrown)) (apply s thrown) (context m (codes "throw") 1) rest left)
body_row again code (FindAll m x g result) l rest s next level left =
    charge left (λ left. collected again left.copies result rest s next level
    (enter again m g [] (context m (codes "findall") 3) (Copy x (context m (codes "findall") 3) ∷ rest) s next level (with_copies [] left)))
body_row again code (Plain m g) l rest s next level left = charge left (λ left. plain_row again code m (apply s g) rest s next level left)

-- the started goal without its outer module
abbrev pub without_module : List Cell → List (List Cell) → List Cell
without_module goal (m ∷ inner ∷ []) = if has_module goal then inner else goal
without_module goal args = goal

-- the context of an answer's error: the started goal's name and arity, in the module that sees it
abbrev pub context_of_functor : List ℕ → Option (List ℕ × ℕ) → List Cell
context_of_functor m (Some f) = context m f.0 f.1
context_of_functor m None = context m (codes "call") 1

abbrev pub goal_context : Code → Seen → List Cell
goal_context code g = context_of_functor g.seer (functor_of g.goal)

-- an answer, or an error where it is too large
abbrev pub answer : Code → List Cell → Result (List Cell) (List Cell) → Left → Run
answer code goal (Ok t) left = read (request.Answer t) left (λ i left. Ends Done left)
answer code goal (Err kind) left = raise kind (goal_context code (seen_from code.first goal)) [] left

-- The tree by the first goal, of the goal that was started. Nothing but a goal's body and a question that is asked again
-- costs a unit. A renamed predicate's call costs nothing, so its clauses are run by `inside`, which is this same but that it
-- knows no renamed predicate: none of them begins with the call of another.
abbrev pub row : Tree → Tree → Code → List Cell → Tree
row again inside code goal [] s next level left =
    answer code goal (handed_out (apply s (without_module goal (arguments goal)))) left
row again inside code goal (Goal b l ∷ rest) s next level left = body_row again code b l rest s next level left
row again inside code goal (AskFrom a place ∷ rest) s next level left = charge left (λ left. ask again a (Some place) rest s next level left)
row again inside code goal (CutNow l ∷ rest) s next level left = cut_behind l (row again inside code goal rest s next level left)
row again inside code goal (Leave k ∷ rest) s next level left = row again inside code goal rest s next level left
row again inside code goal (Demands p cs g ∷ rest) s next level left =
    demand_if (broken_call code.types cs cs (arguments g)) p rest left (row again inside code goal rest s next level left)
row again inside code goal (Renamed p cs g ∷ rest) s next level left =
    call_renamed inside code (slice_get code.renamed p) cs g rest s next level left
row again inside code goal (Exit p cs g ∷ rest) s next level left =
    exit_if (broken_exit code.types cs (arguments (apply s g))) p rest left (row again inside code goal rest s next level left)
row again inside code goal (Copy x ctx ∷ rest) s next level left = copied (handed_out (apply s x)) ctx rest left

-- what stands for the trees that are not asked for
abbrev pub nothing : Tree
nothing items s next level left = Ends Done left

-- the tree by the first goal, with the clauses of renamed predicates
abbrev pub whole_row : Tree → Code → List Cell → Tree
whole_row again code goal items s next level left = row again (row again nothing code goal) code goal items s next level left

-- the tree, to a depth of n
abbrev pub tree_to : ℕ → Code → List Cell → Tree
tree_to zero code goal items s next level left = Ends Steps left
tree_to (suc n) code goal items s next level left = whole_row (tree_to n code goal) code goal items s next level left

-- the tree, to a depth that is enough
unfoldable pub tree : Code → List Cell → Tree
tree code goal items s next level left = tree_to (suc (left.units + length left.inputs)) code goal items s next level left

-- ---- what is asked next

-- the end of a goal that has no more answers is Done
abbrev pub next_of : Run → Next
next_of (Ends Done left) = request.End how.Done
next_of (Ends (CutTo l) left) = request.End how.Done
next_of (Ends (Throw b ks) left) = request.End (how.Ball b)
next_of (Ends Steps left) = request.End how.Steps
next_of (Ends (Waiting n) left) = n

-- What the engine of a goal asks, or how it ends, once it was handed these inputs. A goal without a module is seen by the
-- program's first module.
abbrev pub asks : Code → List Cell → List Input → Next
asks code goal inputs =
    next_of (enter (tree code goal) code.first goal [] (context code.first (codes "call") 1) [] [] (next_variable goal) 0
    (record { units = code.budget; inputs = inputs; copies = [] }))
