-- How a run enters a clause.
use Rattle.std.specs.Prelude.{◌≡◌, ℕ, ◌+◌, ◌<◌, Bool, true, List, length, Option, Some, None, IfSome, is_some, get_or, reverse, drop, [], ◌∷◌}
use Rattle.std.specs.Option.{option_map}
use Rattle.cp_term.specs.declared.cell.Cell.{Cell}
use Rattle.cp_term.specs.declared.cell.Cell.TheVariants.{Func}
use Rattle.cp_term.specs.Numbering.{fresh, next_variable}
use Rattle.cp_term.specs.Substitution.{Substitution}
use Rattle.cp_term.specs.Unification.{unify}
use Rattle.cp_heap.specs.declared.reference.Ref.{Ref}
use Rattle.cp_heap.specs.State.{State, term, substitution, Extends}
use Rattle.cp_code.specs.declared.clause.Clause.{Clause}
use Rattle.cp_code.specs.Bodies.{body_of}
use Rattle.cp_code.specs.Clauses.{is_neck, head_of, body_term}
use Rattle.cp_code.specs.Code as code
use Rattle.cp_code.specs.Code.{Code}
use Rattle.cp_code.specs.Programs.{or_fail}
use Rattle.cp_code.specs.Tree as tree
use Rattle.cp_code.specs.Machine as machine
use Rattle.cp_term.specs.declared.pred_name.PredName.{PredName}
use Rattle.cp_code.specs.Requests.{full_name}
use Rattle.cp_request.specs.declared.remote.RemoteAnswer.{RemoteAnswer}
use Rattle.cp_request.specs.Told.{remote_shown}
use Rattle.cp_run.specs.declared.clause_parts.ClauseParts.{ClauseParts}
use Rattle.cp_run.specs.declared.moment.Moment.{Moment}
use Rattle.cp_run.specs.declared.run.Run.{Run}
use Rattle.cp_run.specs.Shown.{Here, back, bound, instance_in, rules_from, here_of, goals_shown, frames_shown, frames_of}
use Rattle.cp_run.specs.Stands.{Holds, Grows}

-- this functor is the one of a rule
abbrev pub IsNeckOf : List ℕ → ℕ → Bool → Type 0
IsNeckOf f k b = (b ≡ is_neck (Func f k)) × (b ≡ true → k ≡ 2)

-- the body of a rule is a goal, as the module of its file sees it
abbrev pub IsBodyOf : List ℕ → Option (List Cell) → Type 0
IsBodyOf m None = Unit {0}
IsBodyOf m (Some b) = is_some (body_of m b) ≡ true

abbrev pub HasGoodBody : Clause → Type 0
HasGoodBody c = IsBodyOf c.module (body_term c.whole)

-- terms were added to the heap of a run, and nothing else changed
pub record IsExtended (old new : Run) : Type 0 where
  pub state : new ≡ record old { heap = new.heap }
  pub heap : Extends old.heap new.heap
  pub holds : Holds new
  pub goals : (n : ℕ) → n < length old.goals → goals_shown (here_of new) n ≡ goals_shown (here_of old) n
  pub frames : (code : Code) → frames_of code new ≡ frames_of code old
  pub grows : Grows (here_of old) (here_of new)

-- a clause was put on the heap with new variables
pub record HasClause (old new : State) (whole : List Cell) (parts : ClauseParts) : Type 0 where
  pub variables : new.variables ≡ old.variables + next_variable whole
  pub bindings : substitution new ≡ substitution old
  pub extends : Extends old new
  pub head : term new parts.head.at ≡ fresh old.variables (head_of whole)
  pub body : option_map (λ (r : Ref). term new r.at) parts.body ≡ option_map (fresh old.variables) (body_term whole)
  pub head_there : parts.head.at < length new.terms
  pub body_there : IfSome parts.body (λ r. r.at < length new.terms)

-- a body that stands on the heap, in front of the rest
abbrev pub body_shown : List (List Cell) → List ℕ → Option Ref → (level : ℕ) → List tree.Item → List tree.Item
body_shown terms m None level rest = rest
body_shown terms m (Some r) level rest = tree.Goal (or_fail (body_of m (get_or terms r.at []))) level ∷ rest

abbrev pub HasBody : List (List Cell) → List ℕ → Option Ref → Type 0
HasBody terms m None = Unit {0}
HasBody terms m (Some r) = (r.at < length terms) × (is_some (body_of m (get_or terms r.at [])) ≡ true)

-- a body was put in front of a list of goals
pub record IsBodyPut (old new : Run) (m : List ℕ) (body : Option Ref) (rest level n : ℕ) : Type 0 where
  pub place : n < length new.goals
  pub goals : goals_shown (here_of new) n ≡ body_shown old.heap.terms m body level (goals_shown (here_of old) rest)
  pub state : new ≡ record old { goals = new.goals }
  pub frames : (code : Code) → frames_of code new ≡ frames_of code old

-- the clauses of a predicate from this one on, as a frame that was pushed at a moment
abbrev pub clauses_frame : Code → Here → Moment → (pred from goal rest level : ℕ) → machine.Frame
clauses_frame code h m pred from goal rest level =
    machine.Clauses (rules_from code pred from) (instance_in (back m h) goal) (goals_shown (back m h) rest) (bound (back m h)) m.mark.variables level

-- other goals, as a frame that was pushed at a moment
abbrev pub alternative_frame : Here → Moment → (goals level : ℕ) → machine.Frame
alternative_frame h m goals level = machine.Alternative (goals_shown (back m h) goals) (bound (back m h)) m.mark.variables level

-- the answers of a remote call from this one on, as a frame that was pushed at a moment
abbrev pub answering_frame : Here → Moment → PredName → RemoteAnswer → (from goal rest level : ℕ) → machine.Frame
answering_frame h m p a from goal rest level =
    machine.Answering (drop from a.answers) (remote_shown p a.behind) (instance_in (back m h) goal) (full_name p) (goals_shown (back m h) rest) (bound (back m h)) m.mark.variables level

-- the state behind a clause that was entered
abbrev pub clause_entered : Code → Run → List ℕ → Option Ref → Moment → (pred from goal rest level : ℕ) → machine.State
clause_entered code r m body moment pred from goal rest level = record {
  point = machine.Runs (body_shown r.heap.terms m body level (goals_shown (here_of r) rest)) (bound (here_of r)) r.heap.variables level;
  units = r.units;
  copies = r.copies;
  frames = clauses_frame code (here_of r) moment pred from goal rest level ∷ frames_shown code (back moment (here_of r)) (reverse r.frames.items);
}

-- what is done with a clause that is tried, and with those behind it
abbrev pub clause_row : List code.Clause → code.Clause → List Cell → List tree.Item → Substitution → ℕ → ℕ → machine.Move
clause_row cs c g rest s next level = machine.clause_move (unify s g (fresh next c.head)) c cs g rest s next level
