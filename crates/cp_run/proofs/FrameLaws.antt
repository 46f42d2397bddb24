-- Frames that are pushed and dropped.
use Rattle.std.proofs.Common.{◌≡◌, ℕ, true, false, cond, List, [], ◌∷◌, ◌++◌, reverse, length, sym, ◌∙◌, ap, subst, arith}
use Rattle.std.proofs.lemmas.List.{reverse-append}
use Rattle.cp_code.specs.Code.{Code}
use Rattle.cp_code.specs.Machine as machine
use Rattle.cp_code.specs.Machine.{drop_to}
use Rattle.cp_run.specs.declared.frame.Frame.{Frame}
use Rattle.cp_run.specs.declared.frame.Frame.TheVariants as frame
use Rattle.cp_run.specs.Shown.{Here, back, frames_shown}
use Rattle.cp_run.specs.Stands.{FramesStand, AreDropped, is_opened}
use Rattle.cp_run.proofs.GrowthLaws.{back-is-grown, stand-grow, frames-grow}

pub reverse-push : {A : Type 0} (new old : List A) (x : A) → new ≡ old ++ x ∷ [] → reverse new ≡ x ∷ reverse old
reverse-push new old x e = ap reverse e ∙ reverse-append old (x ∷ [])

-- the frame on top is dropped
pub drop_one : (level : ℕ) (f : Frame) (fs : List Frame) → is_opened level f ≡ false → (h : Here) → FramesStand h (f ∷ fs)
    → FramesStand h fs × ((code : Code) → drop_to level (frames_shown code h fs) ≡ drop_to level (frames_shown code h (f ∷ fs)))
drop_one level (frame.Alternative m n l) fs shut h s =
    let g = back-is-grown m h s.0 in
    (stand-grow fs (back m h) h g s.2, λ code. ap (drop_to level) (frames-grow code fs (back m h) h g s.2))
drop_one level (frame.Clauses m pred from g0 rest l) fs shut h s =
    let g = back-is-grown m h s.0 in
    (stand-grow fs (back m h) h g s.3, λ code. ap (drop_to level) (frames-grow code fs (back m h) h g s.3))
drop_one level (frame.Catching m seer ball recovery rest l) fs shut h s =
    let g = back-is-grown m h s.0 in
    (stand-grow fs (back m h) h g s.4, λ code. ap (drop_to level) (frames-grow code fs (back m h) h g s.4))
drop_one level (frame.Gathering m outer result rest l) fs shut h s =
    let g = back-is-grown m h s.0 in
    (stand-grow fs (back m h) h g s.3, λ code. ap (drop_to level) (frames-grow code fs (back m h) h g s.3))
drop_one level (frame.Answering m p a from g0 rest l) fs shut h s =
    let g = back-is-grown m h s.0 in
    (stand-grow fs (back m h) h g s.3, λ code. ap (drop_to level) (frames-grow code fs (back m h) h g s.3))
drop_one level (frame.Opened l) fs shut h s =
    (s, λ code. ap (λ b. cond b (machine.Mark l ∷ frames_shown code h fs) (drop_to level (frames_shown code h fs))) (sym shut))

-- the mark is on top
pub drop_none : (level : ℕ) (f : Frame) (fs : List Frame) → is_opened level f ≡ true → (code : Code) (h : Here) → frames_shown code h (f ∷ fs) ≡ drop_to level (frames_shown code h (f ∷ fs))
drop_none level (frame.Alternative m n l) fs open_here code h = absurd (grind arith)
drop_none level (frame.Clauses m pred from g0 rest l) fs open_here code h = absurd (grind arith)
drop_none level (frame.Catching m seer ball recovery rest l) fs open_here code h = absurd (grind arith)
drop_none level (frame.Gathering m outer result rest l) fs open_here code h = absurd (grind arith)
drop_none level (frame.Answering m p a from g0 rest l) fs open_here code h = absurd (grind arith)
drop_none level (frame.Opened l) fs open_here code h =
    ap (λ b. cond b (machine.Mark l ∷ frames_shown code h fs) (drop_to level (frames_shown code h fs))) (sym open_here)

-- what the loop knows of the frames that are left
abbrev pub AreLeft : ℕ → List Frame → List Frame → Type 0
AreLeft level old now =
    (h : Here) → FramesStand h old → FramesStand h now × ((code : Code) → drop_to level (frames_shown code h now) ≡ drop_to level (frames_shown code h old))

pub left-fewer : (level : ℕ) (old now next : List Frame) (f : Frame) → AreLeft level old (reverse now) → now ≡ next ++ f ∷ [] → is_opened level f ≡ false → AreLeft level old (reverse next)
left-fewer level old now next f left e shut h s =
    let P : List Frame → Type 0 = λ fs. FramesStand h fs × ((code : Code) → drop_to level (frames_shown code h fs) ≡ drop_to level (frames_shown code h old)) in
    let all = subst P (reverse-push now next f e) (left h s) in
    let one = drop_one level f (reverse next) shut h all.0 in
    (one.0, λ code. one.1 code ∙ all.1 code)

pub left-mark : (level : ℕ) (old now next new : List Frame) (f : Frame) → AreLeft level old (reverse now) → now ≡ next ++ f ∷ [] → is_opened level f ≡ true → new ≡ next ++ f ∷ [] → AreDropped level old (reverse new)
left-mark level old now next new f left e open_here k h s =
    let P : List Frame → Type 0 = λ fs. FramesStand h fs × ((code : Code) → drop_to level (frames_shown code h fs) ≡ drop_to level (frames_shown code h old)) in
    let all = subst P (reverse-push now next f e) (left h s) in
    let Q : List Frame → Type 0 = λ fs. FramesStand h fs × ((code : Code) → frames_shown code h fs ≡ drop_to level (frames_shown code h old)) in
    subst Q (sym (reverse-push new next f k)) (all.0, λ code. drop_none level f (reverse next) open_here code h ∙ all.1 code)

pub left-none : (level : ℕ) (old now new : List Frame) → AreLeft level old (reverse now) → length now ≡ 0 → length new ≡ 0 → AreDropped level old (reverse new)
left-none level old [] [] left e k h s = (tt, λ code. (left h s).1 code)
left-none level old (x ∷ now) new left e k h s = absurd (omega arith)
left-none level old [] (x ∷ new) left e k h s = absurd (omega arith)
