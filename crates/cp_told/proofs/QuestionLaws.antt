-- Whether frames are left.
use Rattle.std.proofs.Common.{◌≡◌, ◌<◌, List, [], ◌∷◌, Some, None, reverse, length, refl, sym, ◌∙◌, arith}
use Rattle.std.proofs.lemmas.List.{length-reverse}
use Rattle.cp_call.specs.declared.item.Next.{Next}
use Rattle.cp_code.specs.Code.{Code}
use Rattle.cp_code.specs.Machine.{last_of}
use Rattle.cp_run.specs.declared.frame.Frame.{Frame}
use Rattle.cp_run.specs.declared.frame.Frame.TheVariants as frame
use Rattle.cp_run.specs.declared.run.Run.{Run}
use Rattle.cp_run.specs.Shown.{Here, here_of, frames_shown, frames_of}

none-of : (code : Code) (h : Here) (fs : List Frame) (n : Next) → length fs ≡ 0 → last_of (frames_shown code h fs) n ≡ Some n
none-of code h [] n e = refl
none-of code h (f ∷ fs) n e = absurd (omega arith)

some-of : (code : Code) (h : Here) (fs : List Frame) (n : Next) → 0 < length fs → last_of (frames_shown code h fs) n ≡ None
some-of code h [] n lt = absurd (omega arith)
some-of code h (frame.Alternative m goals level ∷ fs) n lt = refl
some-of code h (frame.Clauses m pred from g rest level ∷ fs) n lt = refl
some-of code h (frame.Opened level ∷ fs) n lt = refl
some-of code h (frame.Catching m seer ball recovery rest level ∷ fs) n lt = refl
some-of code h (frame.Gathering m outer result rest level ∷ fs) n lt = refl
some-of code h (frame.Answering m p a from g rest level ∷ fs) n lt = refl

pub no-frames : (code : Code) (r : Run) (n : Next) → length r.frames.items ≡ 0 → Some n ≡ last_of (frames_of code r) n
no-frames code r n e = sym (none-of code (here_of r) (reverse r.frames.items) n (length-reverse r.frames.items ∙ e))

pub some-frames : (code : Code) (r : Run) (n : Next) → 0 < length r.frames.items → None ≡ last_of (frames_of code r) n
some-frames code r n lt =
    let e = length-reverse r.frames.items in
    sym (some-of code (here_of r) (reverse r.frames.items) n (omega arith))
