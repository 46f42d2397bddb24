-- The classes to begin with: each place by itself.
use Rattle.std.proofs.Common.{◌≡◌, ℕ, zero, suc, ◌<◌, inl, inr, length, get_or, map, List, [], ◌∷◌, refl, ◌∙◌, ap, arith, length-append}
use Rattle.std.proofs.lemmas.Bool.{cases_lt}
use Rattle.std.proofs.lemmas.List.{get_or_append_left, get_or_at}
use Rattle.cp_term.specs.declared.cell.Cell.{Cell}
use Rattle.cp_term.specs.declared.classes.Pair.{Pair}
use Rattle.cp_term.specs.TermGraph.{cell_of, argument_places}
use Rattle.cp_term.specs.Classes.{Begins, Joining, numbers_below}

length-numbers_below : (n : ℕ) → length (numbers_below n) ≡ n
length-numbers_below zero = refl
length-numbers_below (suc n) = let all = length-append (numbers_below n) (n ∷ []) in let front = length-numbers_below n in omega arith

get_or-numbers_below : (n p : ℕ) → p < n → get_or (numbers_below n) p 0 ≡ p
get_or-numbers_below zero p h = absurd (omega arith)
get_or-numbers_below (suc n) p h =
    let front = length-numbers_below n in
    elim (cases_lt p n) [
      | inl below ↦ get_or_append_left (numbers_below n) (n ∷ []) 0 p (omega arith) ∙ get_or-numbers_below n p below
      | inr above ↦ let same : n ≡ p = omega arith in get_or_at (numbers_below n) n [] 0 p (omega arith) ∙ same
    ]

pub Joining-start : (cells : List Cell) (ends : List ℕ) (second : ℕ) (pairs : List Pair) → Begins cells ends second pairs
    → Joining cells ends second (numbers_below (length cells)) (numbers_below (length cells)) pairs
Joining-start cells ends second pairs b =
    let n = length cells in
    let len : length (numbers_below n) ≡ n = length-numbers_below n in
    let own : (p : ℕ) → p < n → get_or (numbers_below n) p 0 ≡ p = get_or-numbers_below n in
    record {
      first = b.first;
      root = λ p. p;
      first_within = b.first_within;
      len = len;
      falls = λ p h. let e = own p (omega arith) in omega arith;
      forest = record {
        above = λ p h. own p (omega arith);
        top = λ p h e. refl;
        below = λ p h. omega arith;
        once = λ p h. refl;
      };
      has_schemas = record {
        len = len;
        within = λ p h. let e = own p h in omega arith;
        inside = λ p h. own p h;
        same = λ p h none. ap (cell_of cells) (own p h);
      };
      within = b.within;
      sound = λ m p h. refl;
      sound_pairs = b.sound;
      complete = λ f h a. record {
        equal = b.equal f a;
        variables = b.variables f a;
        compounds = λ p below none. ap (λ q. map f (argument_places cells ends q)) (own p below);
      };
    }
