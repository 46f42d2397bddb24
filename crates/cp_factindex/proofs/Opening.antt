-- The opening facts, placed one after another.
use Rattle.std.proofs.Common.{◌≡◌, ℕ, ◌+◌, ◌<◌, List, [], ◌∷◌, ◌++◌, length, take, get_or, sym, ◌∙◌, ap, subst, suc, arith}
use Rattle.std.specs.Prelude.{ℤ, pos, ◌+ℤ◌}
use Rattle.std.proofs.lemmas.List.{take_more, length-take-le}
use Rattle.std.proofs.lemmas.Int.{ints}
use Rattle.cp_term.specs.declared.cell.Cell.{Cell}
use Rattle.cp_call.specs.declared.outcome.FactRow.{FactRow}
use Rattle.cp_call.specs.Object.{placed_from}
use Rattle.cp_keyed.specs.Index.{AreBelow}
use Rattle.cp_factindex.specs.Contents.{facts_in}
use Rattle.cp_factindex.specs.Effect.{AreBetween}
use Rattle.cp_factindex.proofs.Effects.{facts_push}
use Rattle.cp_factindex.proofs.Placing.{opening_between, below_from}

placed_push : (place : ℤ) (facts : List (List Cell)) (fact : List Cell) → placed_from place (facts ++ fact ∷ []) ≡ placed_from place facts ++ record { place = place +ℤ pos (length facts); fact = fact } ∷ []
placed_push place [] fact = let z : place ≡ (place +ℤ pos 0) = omega (arith, ints) in ap (λ p. record { place = p; fact = fact } ∷ []) z
placed_push place (f ∷ facts) fact =
    let z : ((place +ℤ pos 1) +ℤ pos (length facts)) ≡ (place +ℤ pos (suc (length facts))) = omega (arith, ints) in
    ap (λ r. record { place = place; fact = f } ∷ r) (placed_push (place +ℤ pos 1) facts fact ∙ ap (λ p. placed_from (place +ℤ pos 1) facts ++ record { place = p; fact = fact } ∷ []) z)

placed_more : (facts : List (List Cell)) (i : ℕ) (fact : List Cell) (place : ℤ) → i < length facts → fact ≡ get_or facts i fact → place ≡ pos (i + 1)
    → placed_from (pos 1) (take (i + 1) facts) ≡ placed_from (pos 1) (take i facts) ++ record { place = place; fact = fact } ∷ []
placed_more facts i fact place h e p =
    let n : length (take i facts) ≡ i = length-take-le i facts (omega arith) in
    let z : (pos 1 +ℤ pos (length (take i facts))) ≡ place = omega (arith, ints, n, p) in
    ap (placed_from (pos 1)) (take_more facts i fact h ∙ ap (λ r. take i facts ++ r ∷ []) (sym e))
    ∙ (placed_push (pos 1) (take i facts) fact ∙ ap (λ q. placed_from (pos 1) (take i facts) ++ record { place = q; fact = fact } ∷ []) z)

-- one fact more
pub placed_next : (facts : List (List Cell)) (i : ℕ) (fact copy : List Cell) (place : ℤ) (before after : List (ℤ × List Cell)) → i < length facts → fact ≡ get_or facts i fact → place ≡ pos (i + 1)
    → facts_in before ≡ placed_from (pos 1) (take i facts) → copy ≡ fact → after ≡ before ++ (place, copy) ∷ [] → facts_in after ≡ placed_from (pos 1) (take (i + 1) facts)
placed_next facts i fact copy place before after h e p eb ec ea =
    ap facts_in ea ∙ (facts_push before (place, copy)
    ∙ (ap (λ (rows : List FactRow). rows ++ record { place = place; fact = copy } ∷ []) eb
    ∙ (ap (λ (x : List Cell). placed_from (pos 1) (take i facts) ++ record { place = place; fact = x } ∷ []) ec
    ∙ sym (placed_more facts i fact place h e p))))

-- the next place lies behind the facts that are placed
pub placed_below : (facts : List (List Cell)) (i : ℕ) (place : ℤ) (rows : List (ℤ × List Cell)) → i < length facts → place ≡ pos (i + 1) → facts_in rows ≡ placed_from (pos 1) (take i facts) → AreBelow place rows
placed_below facts i place rows h p e =
    let n : length (take i facts) ≡ i = length-take-le i facts (omega arith) in
    let z : (pos i +ℤ pos 1) ≡ place = omega (arith, ints, p) in
    let high : (pos 1 +ℤ pos (length (take i facts))) ≡ (pos i +ℤ pos 1) = omega (arith, ints, n) in
    subst (λ q. AreBelow q rows) z (below_from (pos 1) (pos i) rows (subst (AreBetween (pos 1) (pos i)) (sym e) (opening_between (pos 1) (take i facts) (pos i) high)))
