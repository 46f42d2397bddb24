-- A goal that is charged and run.
use Rattle.std.proofs.Common.{◌≡◌, ℕ, suc, Some, None, Option, List, refl, sym, ◌∙◌, ap}
use Rattle.cp_term.specs.declared.cell.Cell.{Cell}
use Rattle.cp_term.specs.Substitution.{Substitution}
use Rattle.cp_heap.specs.declared.reference.Ref.{Ref}
use Rattle.cp_code.specs.Bodies.{Body, Cut, True, Fail, Both, Either, Choose, CallOf, CatchOf, ThrowOf, FindAll, Plain, two_bodies, three_bodies}
use Rattle.cp_code.specs.Code.{Code}
use Rattle.cp_code.specs.Programs.{or_fail}
use Rattle.cp_code.specs.Tree as tree
use Rattle.cp_code.specs.Machine as machine
use Rattle.cp_code.specs.Machine.{charged, goal_move, body_move}
use Rattle.cp_control.specs.declared.control.Control.{Control}
use Rattle.cp_control.specs.declared.control.Control.TheVariants as control
use Rattle.cp_control.specs.Control.{body_read, body_at, IsNotWithin}
use Rattle.cp_run.specs.declared.run.Run.{Run}
use Rattle.cp_run.specs.Shown.{here_of, bound, goals_shown, frames_of, moved}
use Rattle.cp_run.specs.Starting.{IsNotBoth}

either-alone : (x y : Option Body) → IsNotBoth (or_fail (two_bodies Either x y))
either-alone None y = tt
either-alone (Some a) None = tt
either-alone (Some a) (Some b) = tt

choose-alone : (x y z : Option Body) → IsNotBoth (or_fail (three_bodies Choose x y z))
choose-alone None y z = tt
choose-alone (Some a) None z = tt
choose-alone (Some a) (Some b) None = tt
choose-alone (Some a) (Some b) (Some c) = tt

pub read-alone : (terms : List (List Cell)) (at : ℕ) (m : List ℕ) (c : Control) → IsNotWithin c → ((a b : Ref) → c ≡ control.Both a b → ⊥) → IsNotBoth (or_fail (body_read terms at c m))
read-alone terms at m control.Cut w h = tt
read-alone terms at m control.True w h = tt
read-alone terms at m control.Fail w h = tt
read-alone terms at m (control.Both a b) w h = absurd (h a b refl)
read-alone terms at m (control.Either a b) w h = either-alone (body_at terms m a) (body_at terms m b)
read-alone terms at m (control.Choose c t e) w h = choose-alone (body_at terms m c) (body_at terms m t) (body_at terms m e)
read-alone terms at m (control.IfThen c t) w h = choose-alone (body_at terms m c) (body_at terms m t) (Some Fail)
read-alone terms at m (control.Not g) w h = choose-alone (body_at terms m g) (Some Fail) (Some True)
read-alone terms at m (control.Call g first count) w h = tt
read-alone terms at m (control.Catch g ball recovery) w h = tt
read-alone terms at m (control.Throw ball) w h = tt
read-alone terms at m (control.FindAll x g result) w h = tt
read-alone terms at m (control.Within inner g) w h = absurd w
read-alone terms at m control.Plain w h = tt
read-alone terms at m control.NoGoal w h = tt

charged-body : (code : Code) (b : Body) (own : ℕ) (rest : List tree.Item) (s : Substitution) (next level units : ℕ) (copies : List (List Cell)) (fs : List machine.Frame) → IsNotBoth b
    → body_move code b own rest s next level units copies fs ≡ charged units copies fs (λ units. goal_move code b own rest s next level units copies fs)
charged-body code (Both a b) own rest s next level units copies fs h = absurd h
charged-body code Cut own rest s next level units copies fs h = refl
charged-body code True own rest s next level units copies fs h = refl
charged-body code Fail own rest s next level units copies fs h = refl
charged-body code (Either a b) own rest s next level units copies fs h = refl
charged-body code (Choose c t e) own rest s next level units copies fs h = refl
charged-body code (CallOf m g extra) own rest s next level units copies fs h = refl
charged-body code (CatchOf m g ball recovery) own rest s next level units copies fs h = refl
charged-body code (ThrowOf m ball) own rest s next level units copies fs h = refl
charged-body code (FindAll m x g result) own rest s next level units copies fs h = refl
charged-body code (Plain m g) own rest s next level units copies fs h = refl

-- a goal that was charged is run as its body, with one unit less
pub charged-moved : (code : Code) (old new : Run) (b b' : Body) (own rest level : ℕ) → IsNotBoth b' → b ≡ b' → old.units ≡ suc new.units → new ≡ record old { units = new.units }
    → moved code new rest level (goal_move code b' own) ≡ moved code old rest level (body_move code b own)
charged-moved code old new b b' own rest level alone is units state =
    let gs = goals_shown (here_of old) rest in
    let s = bound (here_of old) in
    let v = old.heap.variables in
    let fs = frames_of code old in
    ap (λ (r : Run). moved code r rest level (goal_move code b' own)) state
    ∙ sym (ap (λ n. charged n old.copies fs (λ units. goal_move code b' own gs s v level units old.copies fs)) units)
    ∙ sym (charged-body code b' own gs s v level old.units old.copies fs alone)
    ∙ ap (λ x. body_move code x own gs s v level old.units old.copies fs) (sym is)
