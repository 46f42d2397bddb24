-- What stands below a frame that was taken off.
use Rattle.std.proofs.Common.{◌≡◌, ℕ, List, ◌∷◌, refl, sym, ◌∙◌, ap, subst}
use Rattle.cp_term.specs.declared.cell.Cell.{Cell}
use Rattle.cp_heap.proofs.BuildLaws.{Extends-trans}
use Rattle.cp_code.specs.Code.{Code}
use Rattle.cp_code.specs.Machine as machine
use Rattle.cp_code.specs.Machine.{throw_move}
use Rattle.cp_run.specs.declared.moment.Moment.{Moment}
use Rattle.cp_run.specs.declared.frame.Frame.{Frame}
use Rattle.cp_run.specs.declared.frame.Frame.TheVariants as frame
use Rattle.cp_run.specs.declared.run.Run.{Run}
use Rattle.cp_run.specs.Shown.{Here, back, frames_shown}
use Rattle.cp_run.specs.Stands.{IsMoment, FramesStand, Holds}
use Rattle.cp_run.specs.Entering.{IsExtended}
use Rattle.cp_run.proofs.GrowthLaws.{back-is-grown, stand-grow, frames-grow}
use Rattle.cp_run.proofs.EnteringLaws.{extended-is}
use Rattle.cp_back.specs.Undoing.{IsPassedBy}

-- the frames below one that speaks of a moment stand now, and stand for the same
pub below-moment : (m : Moment) (fs : List Frame) (h : Here) → IsMoment m h → FramesStand (back m h) fs
    → FramesStand h fs × ((code : Code) → frames_shown code h fs ≡ frames_shown code (back m h) fs)
below-moment m fs h i s =
    let g = back-is-grown m h i in
    (stand-grow fs (back m h) h g s, λ code. frames-grow code fs (back m h) h g s)

-- a ball passes a frame
abbrev pub Passes : Frame → List Frame → Here → Type 0
Passes f fs h =
    FramesStand h fs
    × ((code : Code) (b : List Cell) (ks : List ℕ) (units : ℕ) (copies : List (List Cell)) → machine.to (machine.Throws b ks) units copies (frames_shown code h fs) ≡ throw_move (frames_shown code h (f ∷ fs)) b ks units copies)

passed-moment : (m : Moment) (fs : List Frame) (h : Here) → IsMoment m h → FramesStand (back m h) fs
    → FramesStand h fs × ((code : Code) (b : List Cell) (ks : List ℕ) (units : ℕ) (copies : List (List Cell)) → machine.to (machine.Throws b ks) units copies (frames_shown code h fs) ≡ machine.to (machine.Throws b ks) units copies (frames_shown code (back m h) fs))
passed-moment m fs h i s =
    let below = below-moment m fs h i s in
    (below.0, λ code b ks units copies. ap (machine.to (machine.Throws b ks) units copies) (below.1 code))

pub passed : (f : Frame) (fs : List Frame) (h : Here) → IsPassedBy f → FramesStand h (f ∷ fs) → Passes f fs h
passed (frame.Alternative m n level) fs h p s = passed-moment m fs h s.0 s.2
passed (frame.Clauses m pred from g rest level) fs h p s = passed-moment m fs h s.0 s.3
passed (frame.Opened level) fs h p s = (s, λ code b ks units copies. refl)
passed (frame.Catching m seer ball recovery rest level) fs h p s = absurd p
passed (frame.Gathering m outer result rest level) fs h p s = absurd p
passed (frame.Answering m p a from g rest level) fs h q s = passed-moment m fs h s.0 s.3

-- a frame that is neither a catch nor a findall
pub is-passed : (f : Frame)
    → ((moment : _) (seer : _) (ball : _) (recovery : _) (rest : _) (level : _) → f ≡ frame.Catching moment seer ball recovery rest level → ⊥)
    → ((moment : _) (outer : _) (result : _) (rest : _) (level : _) → f ≡ frame.Gathering moment outer result rest level → ⊥)
    → IsPassedBy f
is-passed (frame.Alternative m n level) c g = tt
is-passed (frame.Clauses m pred from g0 rest level) c g = tt
is-passed (frame.Opened level) c g = tt
is-passed (frame.Catching m seer ball recovery rest level) c g = absurd (c m seer ball recovery rest level refl)
is-passed (frame.Gathering m outer result rest level) c g = absurd (g m outer result rest level refl)
is-passed (frame.Answering m p a from g0 rest level) c g = tt

-- what is extended twice is extended
pub extended-trans : (a b c : Run) → Holds a → IsExtended a b → IsExtended b c → IsExtended a c
extended-trans a b c holds x y =
    let e : c ≡ record a { heap = c.heap } = y.state ∙ ap (λ (r : Run). record r { heap = c.heap }) x.state in
    let P : Run → Type 0 = λ r. IsExtended a r in
    subst P (sym e) (extended-is a c.heap holds (Extends-trans a.heap b.heap c.heap x.heap y.heap))
