-- What follows a reply, over the terms of a run.
use Rattle.std.proofs.Common.{◌≡◌, ℕ, zero, suc, ◌<◌, List, [], ◌∷◌, length, get_or, refl, sym, ◌∙◌, ap, subst, arith}
use Rattle.cp_term.specs.declared.cell.Cell.{Cell}
use Rattle.cp_term.specs.declared.cell.Cell.TheVariants.{Atom}
use Rattle.cp_heap.specs.State.{State}
use Rattle.cp_call.specs.declared.call.Reply.{Reply}
use Rattle.cp_call.specs.declared.call.Reply.TheVariants as reply
use Rattle.cp_code.specs.Code.{Code}
use Rattle.cp_code.specs.Requests as requests
use Rattle.cp_request.specs.declared.manner.Manner.{Manner}
use Rattle.cp_request.specs.declared.manner.Manner.TheVariants as manner
use Rattle.cp_request.specs.declared.follows.Follows.{Follows}
use Rattle.cp_request.specs.declared.follows.Follows.TheVariants as follows
use Rattle.cp_request.specs.Asked as asked
use Rattle.cp_request.specs.Told as told
use Rattle.cp_run.specs.declared.item.Item.{Item}
use Rattle.cp_run.specs.declared.run.Run.{Run}
use Rattle.cp_run.specs.Shown.{here_of, bound, manner_shown, goals_shown, frames_of, moved}
use Rattle.cp_run.specs.Stands.{HasManner, IsPut}
use Rattle.cp_run.specs.Gaining.{Row}
use Rattle.cp_told.specs.Rows.{follows_shown, HasFollows}

-- a heap of these terms, with no bindings
pub unbound : List (List Cell) → State
unbound terms = record { terms = terms; trail = []; variables = 0; names = [] }

pub follows-unbound : (terms : List (List Cell)) (copy : List Cell) (f : Follows) → follows_shown terms copy f ≡ told.follows_shown (unbound terms) copy f
unfolding unbound
follows-unbound terms copy follows.Again = refl
follows-unbound terms copy (follows.Facts place pattern fact) = refl
follows-unbound terms copy (follows.Fact fact) = refl
follows-unbound terms copy (follows.Number number place) = refl
follows-unbound terms copy follows.Rest = refl
follows-unbound terms copy follows.Nothing = refl
follows-unbound terms copy (follows.Raises by) = refl

pub manner-unbound : (terms : List (List Cell)) (copy : List Cell) (m : Manner) → asked.manner_shown (unbound terms) copy m ≡ manner_shown terms copy m
unfolding unbound
manner-unbound terms copy (manner.Finds r) = refl
manner-unbound terms copy manner.FindsOnce = refl
manner-unbound terms copy manner.Changes = refl
manner-unbound terms copy (manner.Posts r) = refl

-- ---- the term of the goal is there

-- as many terms, which are all the same
abbrev pub marked : List Cell
marked = Atom [] ∷ []

abbrev pub marks : List (List Cell) → List (List Cell)
marks [] = []
marks (t ∷ terms) = marked ∷ marks terms

there-marked : (terms : List (List Cell)) (n : ℕ) → n < length terms → get_or (marks terms) n [] ≡ marked
there-marked [] n lt = absurd (omega arith)
there-marked (t ∷ terms) zero lt = refl
there-marked (t ∷ terms) (suc n) lt = there-marked terms n (omega arith)

marked-there : (terms : List (List Cell)) (n : ℕ) → get_or (marks terms) n [] ≡ marked → n < length terms
marked-there [] n e = absurd (cc)
marked-there (t ∷ terms) zero e = omega arith
marked-there (t ∷ terms) (suc n) e = let lt = marked-there terms n e in omega arith

abbrev pub IsMarked : requests.Follows → Type 0
IsMarked (requests.Facts place pattern fact) = pattern ≡ marked
IsMarked (requests.Number number place) = number ≡ marked
IsMarked requests.Again = Unit {0}
IsMarked (requests.Fact pattern fact) = Unit {0}
IsMarked requests.Rest = Unit {0}
IsMarked requests.Nothing = Unit {0}
IsMarked (requests.Raises kind) = Unit {0}

other-marked : (terms : List (List Cell)) (m : Manner) → IsMarked (requests.other_follows (manner_shown (marks terms) [] m))
other-marked terms (manner.Finds r) = tt
other-marked terms manner.FindsOnce = tt
other-marked terms manner.Changes = tt
other-marked terms (manner.Posts r) = tt

marked-by : (terms : List (List Cell)) (m : Manner) (r : Reply) → HasManner terms m → IsMarked (requests.follows (manner_shown (marks terms) [] m) r)
marked-by terms (manner.Finds r) (reply.Found place fact) has = there-marked terms r.at has
marked-by terms manner.FindsOnce (reply.Found place fact) has = tt
marked-by terms manner.Changes (reply.Found place fact) has = tt
marked-by terms (manner.Posts r) (reply.Found place fact) has = tt
marked-by terms m reply.NoMore has = tt
marked-by terms m reply.Parked has = tt
marked-by terms m (reply.Full why count) has = tt
marked-by terms (manner.Posts r) (reply.Added place woken) has = there-marked terms r.at has
marked-by terms (manner.Finds r) (reply.Added place woken) has = tt
marked-by terms manner.FindsOnce (reply.Added place woken) has = tt
marked-by terms manner.Changes (reply.Added place woken) has = tt
marked-by terms m (reply.Purged count) has = other-marked terms m
marked-by terms m (reply.Replaced place woken) has = other-marked terms m
marked-by terms m (reply.Closed woken) has = other-marked terms m
marked-by terms m reply.Reopened has = other-marked terms m
marked-by terms m reply.Left has = other-marked terms m
marked-by terms m reply.NotParked has = other-marked terms m

there-by : (terms : List (List Cell)) (f : Follows) → IsMarked (follows_shown (marks terms) [] f) → HasFollows terms f
there-by terms follows.Again is = tt
there-by terms (follows.Facts place pattern fact) is = marked-there terms pattern.at is
there-by terms (follows.Fact fact) is = tt
there-by terms (follows.Number number place) is = marked-there terms number.at is
there-by terms follows.Rest is = tt
there-by terms follows.Nothing is = tt
there-by terms (follows.Raises by) is = tt

pub follows-there : (terms : List (List Cell)) (m : Manner) (r : Reply) (f : Follows) → ((ts : List (List Cell)) (copy : List Cell) → follows_shown ts copy f ≡ requests.follows (manner_shown ts copy m) r) → HasManner terms m → HasFollows terms f
follows-there terms m r f e has = there-by terms f (subst IsMarked (sym (e (marks terms) [])) (marked-by terms m r has))

-- ---- an item in front of a list of goals

pub put-moved : (code : Code) (old new : Run) (i : Item) (rest n level : ℕ) (row : Row) → IsPut old new i rest n → rest < length old.goals → moved code new rest level row ≡ moved code old rest level row
put-moved code old new i rest n level row put lt =
    ap (λ gs. row gs (bound (here_of new)) new.heap.variables level new.units new.copies (frames_of code new)) ((put.older rest lt).1)
    ∙ ap (λ fs. row (goals_shown (here_of old) rest) (bound (here_of new)) new.heap.variables level new.units new.copies fs) (put.frames code)
    ∙ ap (λ (r : Run). row (goals_shown (here_of old) rest) (bound (here_of r)) r.heap.variables level r.units r.copies (frames_of code old)) put.state
