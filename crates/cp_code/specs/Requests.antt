-- What a goal asks of the shared objects and the outside, and what follows each reply.
use Rattle.std.specs.Prelude.{ℕ, zero, suc, Bool, true, false, cond, nat_lt, if◌then◌else◌, List, [], ◌∷◌, length, Option, Some, None, Result, Ok, Err, ℤ, pos, codes}
use Rattle.cp_term.specs.declared.cell.Cell.{Cell}
use Rattle.cp_term.specs.declared.cell.Cell.TheVariants.{Var, Int, Atom, Func}
use Rattle.cp_term.specs.declared.pred_name.PredName.{PredName}
use Rattle.cp_term.specs.Numbering.{canon}
use Rattle.cp_goal.specs.Errors.{word, with_one, with_two, instantiation_error, type_error, domain_error, resource_error}
use Rattle.cp_goal.specs.Builtins.{context}
use Rattle.cp_call.specs.declared.call.Call.{Call}
use Rattle.cp_call.specs.declared.call.Call.TheVariants as call
use Rattle.cp_call.specs.declared.call.Reply.{Reply}
use Rattle.cp_call.specs.declared.call.Reply.TheVariants as reply
use Rattle.cp_call.specs.declared.call.FullBy.{FullBy}
use Rattle.cp_call.specs.declared.call.FullBy.TheVariants as full
use Rattle.cp_call.specs.declared.item.RemoteReply.{RemoteReply}
use Rattle.cp_call.specs.declared.item.RemoteReply.TheVariants as remote
use Rattle.cp_call.specs.declared.item.RemoteEnd.{RemoteEnd}
use Rattle.cp_call.specs.declared.item.RemoteEnd.TheVariants as remote_end
use Rattle.cp_code.specs.Bodies.{Body, is, body_of, Seen, seen_from}
use Rattle.cp_code.specs.Code.{Code, Pred, Kind, Shared}
use Rattle.cp_code.specs.Goals.{FactGoal, Current, Retract, CurrentNb, RetractNb, AddFront, AddBack, RetractAll, Set, Close, Open, seen_pred}

-- a refusal: the kind of an error
abbrev pub Refused : Type 0
Refused = List Cell

-- ---- sizes

-- the term that is handed out: it is numbered by first occurrence and has at most 4,096 cells
abbrev pub handed_out : List Cell → Result (List Cell) Refused
handed_out t = if nat_lt 4096 (length t) then Err (resource_error (codes "term_size")) else Ok (canon t)

-- ---- asking

-- what is done with the reply: a fact is looked for, or waited for once; something is added, removed, closed or opened; or
-- a goal is posted, whose number is this term
pub data Manner : Type 0 where
  Finds : (pattern : List Cell) → Manner
  FindsOnce : (pattern : List Cell) → Manner
  Changes : Manner
  Posts : (number : List Cell) → Manner

-- a question to a shared object, by the cursor from which it is asked
pub record Asking : Type 0 where
  pub object : ℕ
  pub call : Option ℤ → Call
  pub manner : Manner
  pub error_context : List Cell

-- what follows a reply: the same question; the rest, and behind it the question from this place on; the rest alone, where
-- these two terms unify; nothing; or an error
pub data Follows : Type 0 where
  Again : Follows
  Facts : (place : ℤ) (pattern fact : List Cell) → Follows
  Fact : (pattern fact : List Cell) → Follows
  Number : (number : List Cell) (place : ℤ) → Follows
  Rest : Follows
  Nothing : Follows
  Raises : (kind : List Cell) → Follows

abbrev pub full_kind : FullBy → List Cell
full_kind full.Entries = resource_error (codes "predicate")
full_kind full.Cells = resource_error (codes "predicate")
full_kind full.Posts = resource_error (codes "goals")

-- whichever limit the list of goals has met, it takes no more goals
abbrev pub met_limit : Manner → FullBy → FullBy
met_limit (Posts number) by = full.Posts
met_limit manner by = by

abbrev pub found_follows : Manner → ℤ → List Cell → Follows
found_follows (Finds pattern) place fact = Facts place pattern fact
found_follows (FindsOnce pattern) place fact = Fact pattern fact
found_follows Changes place fact = Nothing
found_follows (Posts number) place fact = Nothing

abbrev pub added_follows : Manner → ℤ → Follows
added_follows (Posts number) place = Number number place
added_follows manner place = Rest

abbrev pub other_follows : Manner → Follows
other_follows (Posts number) = Nothing
other_follows manner = Rest

abbrev pub follows : Manner → Reply → Follows
follows manner (reply.Found place fact) = found_follows manner place fact
follows manner reply.NoMore = Nothing
follows manner reply.Parked = Again
follows manner (reply.Full why count) = Raises (full_kind (met_limit manner why))
follows manner (reply.Added place woken) = added_follows manner place
follows manner (reply.Purged count) = other_follows manner
follows manner (reply.Replaced place woken) = other_follows manner
follows manner (reply.Closed woken) = other_follows manner
follows manner reply.Reopened = other_follows manner
follows manner reply.Left = other_follows manner
follows manner reply.NotParked = other_follows manner

-- ---- goals on facts

-- the call of a goal, with its fact or pattern
abbrev pub call_of : FactGoal → List Cell → Option ℤ → Call
call_of Current t after = call.Next t after
call_of Retract t after = call.Take t after
call_of CurrentNb t after = call.NextNb t after
call_of RetractNb t after = call.TakeNb t after
call_of AddFront t after = call.AddFront t
call_of AddBack t after = call.AddBack t
call_of RetractAll t after = call.Purge t
call_of Set t after = call.Replace t
call_of Close t after = call.Close
call_of Open t after = call.Reopen

abbrev pub manner_of : FactGoal → List Cell → Manner
manner_of Current t = Finds t
manner_of Retract t = Finds t
manner_of CurrentNb t = Finds t
manner_of RetractNb t = Finds t
manner_of AddFront t = Changes
manner_of AddBack t = Changes
manner_of RetractAll t = Changes
manner_of Set t = Changes
manner_of Close t = Changes
manner_of Open t = Changes

-- a `data` predicate can be neither closed nor reopened
abbrev pub needs_concurrent : FactGoal → Bool
needs_concurrent Close = true
needs_concurrent Open = true
needs_concurrent g = false

-- the functor of a callable term, and its module-qualified name
abbrev pub functor_of : List Cell → Option (List ℕ × ℕ)
functor_of (Atom a ∷ cells) = Some (a, 0)
functor_of (Func f k ∷ cells) = Some (f, k)
functor_of cells = None

-- `M:G`, whatever M is
abbrev pub is_qualified : List Cell → Bool
is_qualified (Func f (suc (suc zero)) ∷ cells) = is f ":"
is_qualified cells = false

-- the functor of a fact without the modules in front of it: where `M:F` is left M is no atom, and the term is no callable
abbrev pub fact_functor : List Cell → Option (List ℕ × ℕ)
fact_functor t = cond (is_qualified t) None (functor_of t)

abbrev pub full_name : PredName → List Cell
full_name p = context p.module p.name p.arity

-- the question that asks with this copy of a fact; what is found is unified with the fact itself, whose variables are the goal's
abbrev pub asking_with : FactGoal → ℕ → (error_context fact : List Cell) → (copy : Result (List Cell) Refused) → Result Asking Refused
asking_with g object ctx fact (Ok t) = Ok (record { object = object; call = call_of g t; manner = manner_of g fact; error_context = ctx })
asking_with g object ctx fact (Err kind) = Err kind

abbrev pub existence_error : List ℕ → List Cell → List Cell
existence_error what culprit = with_two (codes "existence_error") (word what) culprit

-- no shared predicate is seen under this name and arity
abbrev pub no_data : Seen → (List ℕ × ℕ) → Refused
no_data fact f = existence_error (codes "data") (context fact.seer f.0 f.1)

-- The copy of a fact. To close or to open a predicate hands over no term, so that no limit holds for the one that names it.
abbrev pub handed_over : FactGoal → List Cell → Result (List Cell) Refused
handed_over g t = if needs_concurrent g then Ok (canon t) else handed_out t

-- the question of a goal on facts, to what the module that sees its fact sees under that name and arity
abbrev pub asking_of_kind : FactGoal → Seen → (List ℕ × ℕ) → PredName → Kind → List Cell → Result Asking Refused
asking_of_kind g fact f p (Shared object true) ctx = asking_with g object ctx fact.goal (handed_over g fact.goal)
asking_of_kind g fact f p (Shared object false) ctx =
    if needs_concurrent g then Err (domain_error (codes "concurrent") (full_name p)) else asking_with g object ctx fact.goal (handed_over g fact.goal)
asking_of_kind g fact f p kind ctx = Err (no_data fact f)

abbrev pub asking_of_pred : FactGoal → Seen → (List ℕ × ℕ) → Option Pred → List Cell → Result Asking Refused
asking_of_pred g fact f (Some p) ctx = asking_of_kind g fact f p.name p.kind ctx
asking_of_pred g fact f None ctx = Err (no_data fact f)

-- a term that has to be callable and is not
abbrev pub not_callable : List Cell → Refused
not_callable (Var v ∷ cells) = instantiation_error
not_callable t = type_error (codes "callable") t

abbrev pub asking_of_functor : Code → FactGoal → Seen → Option (List ℕ × ℕ) → List Cell → Result Asking Refused
asking_of_functor code g fact (Some f) ctx = asking_of_pred g fact f (seen_pred code fact.seer f.0 f.1) ctx
asking_of_functor code g fact None ctx = Err (not_callable fact.goal)

-- the question of a goal on a fact, whose instance is given, by the module that sees the goal
abbrev pub fact_asking : Code → FactGoal → Seen → List Cell → Result Asking Refused
fact_asking code g fact ctx = asking_of_functor code g fact (fact_functor fact.goal) ctx

-- a shared predicate as a goal: `current_fact` of it, in its own name
abbrev pub pred_asking : ℕ → List Cell → PredName → Result Asking Refused
pred_asking object goal p = asking_with Current object (full_name p) goal (handed_out goal)

-- ---- goals on engines

abbrev pub is_create : List Cell → Bool
is_create (Atom a ∷ []) = is a "create"
is_create cells = false

abbrev pub is_unbound : List Cell → Bool
is_unbound (Var v ∷ cells) = true
is_unbound cells = false

-- the goal is posted with its own module, or else with the one that sees it
abbrev pub has_module : List Cell → Bool
has_module (Func f (suc (suc zero)) ∷ Atom m ∷ cells) = is f ":"
has_module cells = false

abbrev pub posted : List ℕ → List Cell → List Cell
posted m goal = if has_module goal then goal else with_two (codes ":") (word m) goal

abbrev pub post_asking : List Cell → List Cell → Result (List Cell) Refused → Result Asking Refused
post_asking id ctx (Ok goal) = Ok (record { object = 0; call = (λ after. call.AddBack goal); manner = Posts id; error_context = ctx })
post_asking id ctx (Err kind) = Err kind

abbrev pub create_kind : List Cell → Refused
create_kind t = if is_unbound t then instantiation_error else domain_error (codes "create") t

-- the checks of `eng_call(G, E, T, Id)` behind those of G
abbrev pub post_checked : List ℕ → (goal engine thread id : List Cell) → List Cell → Result Asking Refused
post_checked m goal engine thread id ctx =
    if is_create engine then
    (if is_create thread then
    (if is_unbound id then post_asking id ctx (handed_out (posted m goal)) else Err (type_error (codes "variable") id))
    else Err (create_kind thread))
    else Err (create_kind engine)

abbrev pub post_of_body : Option Body → Seen → List ℕ → (goal engine thread id : List Cell) → List Cell → Result Asking Refused
post_of_body (Some body) seen m goal engine thread id ctx = post_checked m goal engine thread id ctx
post_of_body None seen m goal engine thread id ctx = Err (type_error (codes "callable") seen.goal)

abbrev pub post_of_goal : Seen → List ℕ → (goal engine thread id : List Cell) → List Cell → Result Asking Refused
post_of_goal seen m goal engine thread id ctx =
    if is_unbound seen.goal then Err instantiation_error
    else post_of_body (body_of seen.seer seen.goal) seen m goal engine thread id ctx

-- `eng_call(G, E, T, Id)`, whose arguments' instances are given, by the module that sees it
abbrev pub post_goal : List ℕ → List (List Cell) → List Cell → Result Asking Refused
post_goal m (goal ∷ engine ∷ thread ∷ id ∷ []) ctx = post_of_goal (seen_from m goal) m goal engine thread id ctx
post_goal m args ctx = Err instantiation_error

-- the pattern `ended(Id, _)`
abbrev pub ended_pattern : ℤ → List Cell
ended_pattern id = with_two (codes "ended") (Int id ∷ []) (Var 0 ∷ [])

abbrev pub wait_asking : ℤ → List Cell → Asking
wait_asking id ctx = record { object = 1; call = (λ after. call.Next (ended_pattern id) after); manner = FindsOnce (ended_pattern id); error_context = ctx }

-- `eng_wait(Id)`, whose argument's instance is given
abbrev pub wait_goal : List (List Cell) → List Cell → Result Asking Refused
wait_goal ((Var v ∷ cells) ∷ []) ctx = Err instantiation_error
wait_goal ((Int (pos (suc n)) ∷ cells) ∷ []) ctx = Ok (wait_asking (pos (suc n)) ctx)
wait_goal ((Int i ∷ cells) ∷ []) ctx = Err (domain_error (codes "goal_id") (Int i ∷ []))
wait_goal (t ∷ []) ctx = Err (type_error (codes "integer") t)
wait_goal args ctx = Err instantiation_error

-- ---- remote predicates

-- what follows the answers of a remote call
pub data RemoteFollows : Type 0 where
  Fails : RemoteFollows
  Throws : (ball : List Cell) → RemoteFollows
  Breaks : (kind : List Cell) → RemoteFollows

abbrev pub end_follows : PredName → RemoteEnd → RemoteFollows
end_follows p remote_end.Done = Fails
end_follows p remote_end.Limit = Breaks (resource_error (codes "remote_answers"))
end_follows p (remote_end.Ball ball) = Throws ball
end_follows p remote_end.Steps = Breaks (resource_error (codes "remote_steps"))
end_follows p remote_end.Suspended = Breaks (resource_error (codes "remote_suspended"))
end_follows p remote_end.Refused = Breaks (existence_error (codes "procedure") (full_name p))

abbrev pub system_error : List ℕ → List Cell
system_error what = with_one (codes "system_error") (word what)

-- the answers of a reply, and what follows them
pub record Answers : Type 0 where
  pub answers : List (List Cell)
  pub behind : RemoteFollows

abbrev pub answers_of : PredName → RemoteReply → Answers
answers_of p (remote.Answers a) = record { answers = a.answers; behind = end_follows p a.end }
answers_of p remote.LinkFault = record { answers = []; behind = Breaks (system_error (codes "link")) }
answers_of p remote.PeerEnded = record { answers = []; behind = Breaks (system_error (codes "peer_ended")) }
answers_of p (remote.BadReply at) = record { answers = []; behind = Breaks (system_error (codes "bad_reply")) }
answers_of p remote.NoDialer = record { answers = []; behind = Breaks (existence_error (codes "active_module") (word p.module)) }
