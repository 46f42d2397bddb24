-- A whole run.
use Rattle.std.proofs.Common.{◌≡◌, suc, ◌+◌, ◌*◌, ◌<◌, List, [], ◌∷◌, length, refl, sym, ◌∙◌, ap, subst, arith}
use Rattle.std.proofs.lemmas.List.{length-reverse}
use Rattle.std.specs.Prelude.{reverse, Err}
use Rattle.cp_term.specs.declared.cell.Cell.{Cell}
use Rattle.cp_ops.specs.Operators.{Ops}
use Rattle.cp_lex.specs.declared.token.Token.{Token}
use Rattle.cp_read.specs.declared.frame.Frame.{Frame}
use Rattle.cp_read.specs.declared.frame.Turn.{Turn}
use Rattle.cp_read.specs.declared.frame.Turn.TheVariants as turns
use Rattle.cp_read.specs.declared.frame.Stop as frame
use Rattle.cp_read.specs.declared.frame.Stop.TheVariants as stops
use Rattle.cp_read.specs.Lexemes.{lexemes}
use Rattle.cp_read.specs.Progress.{Progress}
use Rattle.cp_read.specs.SeenNames.{Seen, Knows}
use Rattle.cp_read.specs.Machine.{Open, State, expects, meaning, weight}
use Rattle.cp_read.specs.Stands.{IsState, Stacked, Keeps, Steps, IsFresh, Reached, left_to_do, Gives}
use Rattle.cp_read.proofs.lemmas.CloseLaws.{lexemes-length}
use Rattle.cp_read.proofs.lemmas.KnowsLaws.{nothing-known}

stacked-length : (fs : List Frame) (pieces : List (List Cell)) (os : List Open) → Stacked fs pieces os → length fs ≡ length os
stacked-length [] pieces [] h = refl
stacked-length [] pieces (o ∷ os) h = absurd h
stacked-length (f ∷ fs) pieces [] h = absurd h
stacked-length (f ∷ fs) pieces (o ∷ os) h = ap suc (stacked-length fs (h.0) os (h.5))

frames-length : (fs : List Frame) (pieces : List (List Cell)) (os : List Open) → Stacked (reverse fs) pieces os → length fs ≡ length os
frames-length fs pieces os h = sym (length-reverse fs) ∙ stacked-length (reverse fs) pieces os h

heavy : (turn : Turn) (r : Progress) (t : State) → IsState turn r t → left_to_do turn r ≡ suc (weight t)
heavy (turns.Expects max) r t (list, os, knows, stack, is) =
    let w : weight t ≡ 3 * length (lexemes list r.tokens) + length os + 1 = ap weight is in
    omega (arith, w, lexemes-length list r.tokens, frames-length r.frames r.pieces os stack)
heavy (turns.Has start priority max) r t (list, os, before, own, filled, knows, stack, pieces, begins, is) =
    let w : weight t ≡ 3 * length (lexemes list r.tokens) + length os = ap weight is in
    omega (arith, w, lexemes-length list r.tokens, frames-length r.frames before os stack)
heavy turns.Ended r t h = absurd h

pub goes_on : (ops : Ops) (s t : State) (next : Turn) (r : Progress) → meaning ops s ≡ meaning ops t → Keeps ops t next r → Reached ops s next r
goes_on ops s t (turns.Expects max) r e (u, is, same, less) = (u, is, e ∙ same)
goes_on ops s t (turns.Has start priority max) r e (u, is, same, less) = (u, is, e ∙ same)
goes_on ops s t turns.Ended r e (list, same) = (list, e ∙ same)

pub falls : (ops : Ops) (t : State) (turn next : Turn) (r new : Progress) → IsState turn r t → Keeps ops t next new → left_to_do next new < left_to_do turn r
falls ops t turn (turns.Expects max) r new h (u, is, same, less) = omega (arith, heavy turn r t h, heavy (turns.Expects max) new u is, less)
falls ops t turn (turns.Has start priority max) r new h (u, is, same, less) = omega (arith, heavy turn r t h, heavy (turns.Has start priority max) new u is, less)
falls ops t turn turns.Ended r new h k = omega (arith, heavy turn r t h)

abbrev pub first_state : List Token → State
first_state ts = expects [] 1200 (lexemes [] ts)

pub begins : (ops : Ops) (r : Progress) → IsFresh r → Reached ops (first_state r.tokens) (turns.Expects 1200) r
begins ops r (seen, pieces, frames) = (
  first_state r.tokens,
  (
    [],
    [],
    subst (λ (s : Seen). Knows s []) (sym seen) nothing-known,
    subst (λ (fs : List Frame). Stacked (reverse fs) r.pieces []) (sym frames) pieces,
    refl,
  ),
  refl,
)

pub stops_so : (ops : Ops) (ts : List Token) (t : State) (stop : frame.Stop) (r : Progress) → meaning ops (first_state ts) ≡ meaning ops t → Steps ops t (Err stop) r → Gives ops ts (Err stop) r
stops_so ops ts t (stops.Fault why) r e (list, same) = (list, e ∙ same)
stops_so ops ts t stops.NoMemory r e h = tt
