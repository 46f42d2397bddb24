-- Whom a fact wakes among one parked caller more.
use Rattle.std.proofs.Common.{◌≡◌, ℕ, ◌+◌, ◌<◌, List, [], ◌∷◌, ◌++◌, length, take, get_or, refl, sym, ◌∙◌, ap, true, false, Bool, not, cond, append-nil}
use Rattle.std.specs.Prelude.{map, ℤ, pos, ◌+ℤ◌}
use Rattle.std.proofs.lemmas.List.{take_more, length-take-le}
use Rattle.std.proofs.lemmas.List.Elements.{filter-append}
use Rattle.std.proofs.lemmas.Int.{ints}
use Rattle.std.proofs.Common.{arith, suc}
use Rattle.cp_term.specs.declared.cell.Cell.{Cell}
use Rattle.cp_call.specs.declared.outcome.FactRow.{FactRow}
use Rattle.cp_call.specs.declared.outcome.ParkedRow.{ParkedRow}
use Rattle.cp_call.specs.Object.{sees, woken_by, left_parked, callers_of, placed_from}

more_is : (rows : List ParkedRow) (i : ℕ) (row : ParkedRow) → i < length rows → row ≡ get_or rows i row → take (i + 1) rows ≡ take i rows ++ row ∷ []
more_is rows i row h e = take_more rows i row h ∙ ap (λ r. take i rows ++ r ∷ []) (sym e)

callers_push : (rows : List ParkedRow) (row : ParkedRow) → callers_of (rows ++ row ∷ []) ≡ callers_of rows ++ row.caller ∷ []
callers_push [] row = refl
callers_push (r ∷ rows) row = ap (λ t. r.caller ∷ t) (callers_push rows row)

module _ (fact : FactRow) (rows : List ParkedRow) (i : ℕ) (row : ParkedRow) (h : i < length rows) (e : row ≡ get_or rows i row) where
  pub woken_more : sees row.pattern row.after fact ≡ true → callers_of (woken_by fact (take (i + 1) rows)) ≡ callers_of (woken_by fact (take i rows)) ++ row.caller ∷ []
  woken_more s = ap (λ t. callers_of (woken_by fact t)) (more_is rows i row h e)
      ∙ (ap callers_of (filter-append (λ (w : ParkedRow). sees w.pattern w.after fact) (take i rows) (row ∷ []) ∙ rw s refl)
      ∙ callers_push (woken_by fact (take i rows)) row)

  pub woken_same : sees row.pattern row.after fact ≡ false → callers_of (woken_by fact (take (i + 1) rows)) ≡ callers_of (woken_by fact (take i rows))
  woken_same s = ap (λ t. callers_of (woken_by fact t)) (more_is rows i row h e)
      ∙ ap callers_of (filter-append (λ (w : ParkedRow). sees w.pattern w.after fact) (take i rows) (row ∷ []) ∙ rw s (append-nil _))

  pub left_more : sees row.pattern row.after fact ≡ false → left_parked fact (take (i + 1) rows) ≡ left_parked fact (take i rows) ++ row ∷ []
  left_more s = ap (left_parked fact) (more_is rows i row h e)
      ∙ (filter-append (λ (w : ParkedRow). not (sees w.pattern w.after fact)) (take i rows) (row ∷ []) ∙ rw s refl)

  pub left_same : sees row.pattern row.after fact ≡ true → left_parked fact (take (i + 1) rows) ≡ left_parked fact (take i rows)
  left_same s = ap (left_parked fact) (more_is rows i row h e)
      ∙ (filter-append (λ (w : ParkedRow). not (sees w.pattern w.after fact)) (take i rows) (row ∷ []) ∙ rw s (append-nil _))

placed_push : (place : ℤ) (facts : List (List Cell)) (fact : List Cell) → placed_from place (facts ++ fact ∷ []) ≡ placed_from place facts ++ record { place = place +ℤ pos (length facts); fact = fact } ∷ []
placed_push place [] fact = let z : place ≡ (place +ℤ pos 0) = omega (arith, ints) in ap (λ p. record { place = p; fact = fact } ∷ []) z
placed_push place (f ∷ facts) fact =
    let z : ((place +ℤ pos 1) +ℤ pos (length facts)) ≡ (place +ℤ pos (suc (length facts))) = omega (arith, ints) in
    ap (λ r. record { place = place; fact = f } ∷ r) (placed_push (place +ℤ pos 1) facts fact ∙ ap (λ p. placed_from (place +ℤ pos 1) facts ++ record { place = p; fact = fact } ∷ []) z)

pub placed_more : (facts : List (List Cell)) (i : ℕ) (fact : List Cell) (place : ℤ) → i < length facts → fact ≡ get_or facts i fact → place ≡ pos (i + 1)
    → placed_from (pos 1) (take (i + 1) facts) ≡ placed_from (pos 1) (take i facts) ++ record { place = place; fact = fact } ∷ []
placed_more facts i fact place h e p =
    let n : length (take i facts) ≡ i = length-take-le i facts (omega arith) in
    let z : (pos 1 +ℤ pos (length (take i facts))) ≡ place = omega (arith, ints, n, p) in
    ap (placed_from (pos 1)) (take_more facts i fact h ∙ ap (λ r. take i facts ++ r ∷ []) (sym e))
    ∙ (placed_push (pos 1) (take i facts) fact ∙ ap (λ q. placed_from (pos 1) (take i facts) ++ record { place = q; fact = fact } ∷ []) z)

pub placed_next : (facts : List (List Cell)) (i : ℕ) (fact copy : List Cell) (place : ℤ) (before after : List FactRow) → i < length facts → fact ≡ get_or facts i fact → place ≡ pos (i + 1)
    → before ≡ placed_from (pos 1) (take i facts) → copy ≡ fact → after ≡ before ++ record { place = place; fact = copy } ∷ [] → after ≡ placed_from (pos 1) (take (i + 1) facts)
placed_next facts i fact copy place before after h e p eb ec ea =
    ea ∙ (ap (λ (rows : List FactRow). rows ++ record { place = place; fact = copy } ∷ []) eb
    ∙ (ap (λ (x : List Cell). placed_from (pos 1) (take i facts) ++ record { place = place; fact = x } ∷ []) ec
    ∙ sym (placed_more facts i fact place h e p)))
