-- What the walk through all classes keeps, and what it shows at its end.
use Rattle.std.proofs.Common.{◌≡◌, ℕ, zero, suc, ◌+◌, ◌*◌, ◌<◌, ◌≤◌, inl, inr, ◌⊎◌, true, cond, nat_eq, length, get_or, set, replicate, map, List, [], ◌∷◌, ◌++◌, refl, sym, ◌∙◌, ap, subst, arith, length-append, append-nil, append_assoc}
use Rattle.std.specs.List.{flat_map, count_by}
use Rattle.std.specs.Prelude.{Option, Some, None}
use Rattle.std.proofs.Math.Nat.{zero-add}
use Rattle.std.proofs.lemmas.Bool.{cases_eq, and_from, eq-eqb, ne_eqb, cond-true, cond-false}
use Rattle.std.proofs.lemmas.List.{length-set, length-replicate, get_or-set_same, get_or-set_other}
use Rattle.std.proofs.lemmas.List.Sums.{sum_by-set}
use Rattle.cp_term.specs.declared.cell.Cell.{Cell}
use Rattle.cp_term.specs.declared.cell.Cell.TheVariants.{Var, Int, Atom, Func}
use Rattle.cp_term.specs.declared.walk.Visit.{Visit}
use Rattle.cp_term.specs.declared.walk.Visit.TheVariants.{Enter, Leave}
use Rattle.cp_term.specs.declared.walk.Progress.{Progress}
use Rattle.cp_term.specs.declared.walk.Progress.TheVariants.{New, Open, Done}
use Rattle.cp_term.specs.CellRefs.{variable_of}
use Rattle.cp_term.specs.Preorder.{arity_of, has_arity, is_terms, terms_after}
use Rattle.cp_term.specs.TermGraph.{cell_of, next_of, places, argument_places, Every, IsGraph, Model}
use Rattle.cp_term.specs.Classes.{Falls, IsForest, Joining}
use Rattle.cp_term.specs.Walk.{Some_of, visited_place, entries, IsDone, Finishes, WillBeDone, IsInOrder, Shrinks, IsBuilt, Walking, all_entries, is_new}
use Rattle.cp_term.proofs.lemmas.PreorderLaws.{is_terms-append, terms_after-arity}
use Rattle.cp_term.proofs.lemmas.TermGraphLaws.{at_place, arguments-within, arity-within}

-- ---- lists

module _ {A : Type 0} (P : A → Type 0) where
  Every-front : (xs ys : List A) → Every P (xs ++ ys) → Every P xs
  Every-front [] ys h = tt
  Every-front (x ∷ xs) ys h = (h.0, Every-front xs ys h.1)

  Every-back : (xs ys : List A) → Every P (xs ++ ys) → Every P ys
  Every-back [] ys h = h
  Every-back (x ∷ xs) ys h = Every-back xs ys h.1

  Every-join : (xs ys : List A) → Every P xs → Every P ys → Every P (xs ++ ys)
  Every-join [] ys h k = k
  Every-join (x ∷ xs) ys h k = (h.0, Every-join xs ys h.1 k)

  Every-map : (Q : A → Type 0) (xs : List A) → ((x : A) → P x → Q x) → Every P xs → Every Q xs
  Every-map Q [] f h = tt
  Every-map Q (x ∷ xs) f h = (f x h.0, Every-map Q xs f h.1)

  Every-both : (Q R : A → Type 0) (xs : List A) → ((x : A) → P x → Q x → R x) → Every P xs → Every Q xs → Every R xs
  Every-both Q R [] f h k = tt
  Every-both Q R (x ∷ xs) f h k = (f x h.0 k.0, Every-both Q R xs f h.1 k.1)

  some_front : (xs ys : List A) → Some_of P xs → Some_of P (xs ++ ys)
  some_front [] ys h = absurd h
  some_front (x ∷ xs) ys (inl h) = inl h
  some_front (x ∷ xs) ys (inr h) = inr (some_front xs ys h)

  some_back : (xs ys : List A) → Some_of P ys → Some_of P (xs ++ ys)
  some_back [] ys h = h
  some_back (x ∷ xs) ys h = inr (some_back xs ys h)

  some_split : (xs ys : List A) → Some_of P (xs ++ ys) → Some_of P xs ⊎ Some_of P ys
  some_split [] ys h = inr h
  some_split (x ∷ xs) ys (inl h) = inl (inl h)
  some_split (x ∷ xs) ys (inr h) = elim (some_split xs ys h) [ inl k ↦ inl (inr k) | inr k ↦ inr k ]

flat_map-same : (f g : ℕ → List Cell) (xs : List ℕ) → Every (λ q. f q ≡ g q) xs → flat_map f xs ≡ flat_map g xs
flat_map-same f g [] h = refl
flat_map-same f g (x ∷ xs) h = λ i. h.0 i ++ flat_map-same f g xs h.1 i

flat_map-map : (f : ℕ → List Cell) (root : ℕ → ℕ) (xs : List ℕ) → flat_map (λ q. f (root q)) xs ≡ flat_map f (map root xs)
flat_map-map f root [] = refl
flat_map-map f root (x ∷ xs) = ap (λ ys. f (root x) ++ ys) (flat_map-map f root xs)

part-shorter : (f : ℕ → List Cell) (xs : List ℕ) → Every (λ q. length (f q) ≤ length (flat_map f xs)) xs
part-shorter f [] = tt
part-shorter f (x ∷ xs) =
    let all = length-append (f x) (flat_map f xs) in
    (omega arith, Every-map (λ q. length (f q) ≤ length (flat_map f xs)) (λ q. length (f q) ≤ length (f x ++ flat_map f xs)) xs (λ q h. omega arith) (part-shorter f xs))

flat_map-terms : (f : ℕ → List Cell) (ends : List ℕ) (k p : ℕ) → Every (λ q. is_terms 1 (f q) ≡ true) (places ends k p) → is_terms k (flat_map f (places ends k p)) ≡ true
flat_map-terms f ends zero p h = refl
flat_map-terms f ends (suc k) p h =
    let one : suc k ≡ 1 + k = omega arith in
    let rest = flat_map f (places ends k (next_of ends p)) in
    ap (λ j. is_terms j (f p ++ rest)) one ∙ is_terms-append 1 k (f p) rest h.0 ∙ flat_map-terms f ends k (next_of ends p) h.1

-- ---- the visits to arguments

entries-Every : (P : Visit → Type 0) (ends : List ℕ) (k p : ℕ) → Every (λ q. P (Enter q)) (places ends k p) → Every P (entries ends k p)
entries-Every P ends zero p h = tt
entries-Every P ends (suc k) p h = (h.0, entries-Every P ends k (next_of ends p) h.1)

entries-finish : (root : ℕ → ℕ) (ends : List ℕ) (k p : ℕ) → Every (λ q. Some_of (Finishes root q) (entries ends k p)) (places ends k p)
entries-finish root ends zero p = tt
entries-finish root ends (suc k) p = (
  inl refl,
  Every-map (λ q. Some_of (Finishes root q) (entries ends k (next_of ends p))) (λ q. Some_of (Finishes root q) (entries ends (suc k) p))
      (places ends k (next_of ends p)) (λ q h. inr h) (entries-finish root ends k (next_of ends p)),
)

entries-in_order : (cells : List Cell) (ends schemas : List ℕ) (root : ℕ → ℕ) (progress : List Progress) (k p : ℕ) → IsInOrder cells ends schemas root progress (entries ends k p)
entries-in_order cells ends schemas root progress zero p = tt
entries-in_order cells ends schemas root progress (suc k) p = entries-in_order cells ends schemas root progress k (next_of ends p)

entries-shrink : (size : ℕ → ℕ) (ends : List ℕ) (k p : ℕ) → Shrinks size (entries ends k p)
entries-shrink size ends zero p = tt
entries-shrink size ends (suc k) p = entries-shrink size ends k (next_of ends p)

length-entries : (ends : List ℕ) (k p : ℕ) → length (entries ends k p) ≡ k
length-entries ends zero p = refl
length-entries ends (suc k) p = ap suc (length-entries ends k (next_of ends p))

-- ---- the last visit is replaced by others

module _ (cells : List Cell) (ends schemas : List ℕ) (root : ℕ → ℕ) (before after : List Progress) (kept : (p : ℕ) → IsDone before p → IsDone after p)
    (v : Visit) (new : List Visit) (finish : (q : ℕ) → Finishes root q v → WillBeDone root after new q) where
  will-after : (xs : List Visit) (q : ℕ) → WillBeDone root before (xs ++ v ∷ []) q → WillBeDone root after (xs ++ new) q
  will-after xs q (inl d) = inl (kept (root q) d)
  will-after xs q (inr s) = elim (some_split (Finishes root q) xs (v ∷ []) s) [
    | inl k ↦ inr (some_front (Finishes root q) xs new k)
    | inr k ↦ elim k [
      | inl f ↦ elim (finish q f) [ inl d ↦ inl d | inr j ↦ inr (some_back (Finishes root q) xs new j) ]
      | inr none ↦ absurd none
    ]
  ]

  order-after : (xs : List Visit) → IsInOrder cells ends schemas root before (xs ++ v ∷ []) → IsInOrder cells ends schemas root after new → IsInOrder cells ends schemas root after (xs ++ new)
  order-after [] h k = k
  order-after (Enter p ∷ xs) h k = order-after xs h k
  order-after (Leave r ∷ xs) h k =
      (Every-map (WillBeDone root before (xs ++ v ∷ [])) (WillBeDone root after (xs ++ new)) (argument_places cells ends (get_or schemas r 0)) (will-after xs) h.0, order-after xs h.1 k)

order-last : (cells : List Cell) (ends schemas : List ℕ) (root : ℕ → ℕ) (progress : List Progress) (r : ℕ) (xs : List Visit)
    → IsInOrder cells ends schemas root progress (xs ++ Leave r ∷ []) → Every (WillBeDone root progress []) (argument_places cells ends (get_or schemas r 0))
order-last cells ends schemas root progress r [] h = h.0
order-last cells ends schemas root progress r (Enter p ∷ xs) h = order-last cells ends schemas root progress r xs h
order-last cells ends schemas root progress r (Leave q ∷ xs) h = order-last cells ends schemas root progress r xs h.1

module _ (size : ℕ → ℕ) (v : Visit) where
  shrinks-after : (new xs : List Visit) → Every (λ x. size (visited_place x) ≤ size (visited_place v)) new → Shrinks size new → Shrinks size (xs ++ v ∷ []) → Shrinks size (xs ++ new)
  shrinks-after new [] small k h = k
  shrinks-after new (Enter p ∷ xs) small k h = shrinks-after new xs small k h
  shrinks-after new (Leave r ∷ xs) small k h =
      let front = Every-front (λ x. size (visited_place x) < size r) xs (v ∷ []) h.0 in
      let last : size (visited_place v) < size r = (Every-back (λ x. size (visited_place x) < size r) xs (v ∷ []) h.0).0 in (
        Every-join (λ x. size (visited_place x) < size r) xs new front
            (Every-map (λ x. size (visited_place x) ≤ size (visited_place v)) (λ x. size (visited_place x) < size r) new (λ x le. omega arith) small),
        shrinks-after new xs small k h.1,
      )

  -- the last visit is below each class that is open
  shrinks-below : (r : ℕ) (xs : List Visit) → Shrinks size (xs ++ v ∷ []) → Some_of (λ x. x ≡ Leave r) xs → size (visited_place v) < size r
  shrinks-below r [] h s = absurd s
  shrinks-below r (Enter p ∷ xs) h (inl e) = cc
  shrinks-below r (Enter p ∷ xs) h (inr s) = shrinks-below r xs h s
  shrinks-below r (Leave q ∷ xs) h (inl e) =
      let same : q ≡ r = cc in
      subst (λ k. size (visited_place v) < size k) same (Every-back (λ x. size (visited_place x) < size q) xs (v ∷ []) h.0).0
  shrinks-below r (Leave q ∷ xs) h (inr s) = shrinks-below r xs h.1 s

-- ---- progress

new≢done : New ≡ Done → ⊥
new≢done e = cc

open≢done : Open ≡ Done → ⊥
open≢done e = cc

done≢open : Done ≡ Open → ⊥
done≢open e = cc

enter≢leave : (p r : ℕ) → Enter p ≡ Leave r → ⊥
enter≢leave p r e = cc

leave-same : (p r : ℕ) → Leave p ≡ Leave r → p ≡ r
leave-same p r e = cc

abbrev one_if_new : Progress → ℕ
one_if_new p = cond (is_new p) 1 0

pub count-Open : (progress : List Progress) (r : ℕ) → r < length progress → get_or progress r New ≡ New → count_by is_new (set progress r Open) + 1 ≡ count_by is_new progress
count-Open progress r h e =
    let all = sum_by-set one_if_new progress r Open New h in
    let old : one_if_new (get_or progress r New) ≡ 1 = ap one_if_new e in
    omega arith

pub count-Done : (progress : List Progress) (r : ℕ) → r < length progress → count_by is_new (set progress r Done) ≤ count_by is_new progress
count-Done progress r h = let all = sum_by-set one_if_new progress r Done New h in omega arith

-- ---- a step

module _ (cells : List Cell) (ends : List ℕ) (second : ℕ) (g : IsGraph cells ends) (parents schemas : List ℕ) (progress : List Progress) (visits : List Visit) where
  abbrev Walks : Visit → Type 0
  Walks v = Walking cells ends second parents schemas progress (visits ++ v ∷ [])

  pub last-within : (v : Visit) → Walks v → visited_place v < length cells
  last-within v w = (Every-back (λ x. visited_place x < length cells) visits (v ∷ []) w.within).0

  pub root-within : (v : Visit) (w : Walks v) (p : ℕ) → p < length cells → w.root p < length cells
  root-within v w p h = let len = w.len in let below = w.forest.below p (omega arith) in omega arith

  module _ (p : ℕ) (w : Walks (Enter p)) where
    abbrev n : ℕ
    n = length cells

    abbrev r : ℕ
    r = w.root p

    below : p < n
    below = last-within (Enter p) w

    r_below : r < n
    r_below = root-within (Enter p) w p below

    open_front : (q : ℕ) → Some_of (λ x. x ≡ Leave q) (visits ++ Enter p ∷ []) → Some_of (λ x. x ≡ Leave q) visits
    open_front q s = elim (some_split (λ x. x ≡ Leave q) visits (Enter p ∷ []) s) [
      | inl k ↦ k
      | inr k ↦ elim k [ inl e ↦ absurd (enter≢leave p q e) | inr none ↦ absurd none ]
    ]

    -- a class that is met while it is open is below itself
    pub open-no_model : get_or progress r New ≡ Open → Model cells ends second → ⊥
    open-no_model e m =
        let less = shrinks-below (λ q. length (m.term q)) (Enter p) r visits (w.shrinks m) (open_front r (w.are_open r r_below e)) in
        let same = ap length (w.sound m p below) in
        omega arith

    module _ (now : List ℕ) (len : length now ≡ n) (falls : Falls now) (forest : IsForest now w.root) where
      -- a class that is done is passed over
      pub Walking-done : IsDone progress r → Walking cells ends second now schemas progress visits
      Walking-done done = record {
        first = w.first;
        root = w.root;
        term = w.term;
        first_within = w.first_within;
        len = len;
        progress_len = w.progress_len;
        falls = falls;
        forest = forest;
        has_schemas = w.has_schemas;
        sound = w.sound;
        closed = w.closed;
        within = Every-front (λ x. visited_place x < n) visits (Enter p ∷ []) w.within;
        built = w.built;
        all_done = λ q h. no_more_will q (will-after cells ends schemas w.root progress progress (λ x d. d) (Enter p) [] finish visits q (w.all_done q h));
        in_order = subst (IsInOrder cells ends schemas w.root progress) (append-nil visits)
            (order-after cells ends schemas w.root progress progress (λ x d. d) (Enter p) [] finish visits w.in_order tt);
        are_open = λ q h e. open_front q (w.are_open q h e);
        shrinks = λ m. subst (Shrinks (λ q. length (m.term q))) (append-nil visits) (shrinks-after (λ q. length (m.term q)) (Enter p) [] visits tt tt (w.shrinks m));
      } where
        finish : (q : ℕ) → p ≡ q → WillBeDone w.root progress [] q
        finish q e = inl (ap (λ x. get_or progress (w.root x) New) (sym e) ∙ done)

        no_more_will : (q : ℕ) → WillBeDone w.root progress (visits ++ []) q → WillBeDone w.root progress visits q
        no_more_will q h = subst (λ xs. WillBeDone w.root progress xs q) (append-nil visits) h

      -- a class that is new is opened
      module _ (is_new_class : get_or progress r New ≡ New) where
        abbrev s : ℕ
        s = get_or schemas r 0

        abbrev count : ℕ
        count = arity_of (cell_of cells s)

        abbrev after : List Progress
        after = set progress r Open

        abbrev more : List Visit
        more = Leave r ∷ entries ends count (s + 1)

        s_below : s < n
        s_below = w.has_schemas.within r r_below

        at_r : get_or after r New ≡ Open
        at_r = let same = w.progress_len in let inside = r_below in get_or-set_same progress r Open New (omega arith)

        elsewhere : (q : ℕ) → (q ≡ r → ⊥) → get_or after q New ≡ get_or progress q New
        elsewhere q ne = get_or-set_other progress r q Open New ne

        kept : (q : ℕ) → IsDone progress q → IsDone after q
        kept q d = elim (cases_eq q r) [
          | inl e ↦ absurd (new≢done (sym is_new_class ∙ ap (λ x. get_or progress x New) (sym e) ∙ d))
          | inr ne ↦ elsewhere q ne ∙ d
        ]

        back : (q : ℕ) → IsDone after q → IsDone progress q
        back q d = elim (cases_eq q r) [
          | inl e ↦ absurd (open≢done (sym at_r ∙ ap (λ x. get_or after x New) (sym e) ∙ d))
          | inr ne ↦ sym (elsewhere q ne) ∙ d
        ]

        finish : (q : ℕ) → p ≡ q → WillBeDone w.root after more q
        finish q e = inr (inl (ap w.root e))

        more_order : IsInOrder cells ends schemas w.root after more
        more_order = (
          Every-map (λ q. Some_of (Finishes w.root q) (entries ends count (s + 1))) (WillBeDone w.root after (entries ends count (s + 1)))
              (argument_places cells ends s) (λ q h. inr h) (entries-finish w.root ends count (s + 1)),
          entries-in_order cells ends schemas w.root after count (s + 1),
        )

        schema_size : (m : Model cells ends second) → m.term s ≡ m.term r
        schema_size m = w.sound m s s_below ∙ ap m.term (w.has_schemas.inside p below)

        smaller_by : (m : Model cells ends second) (o : Option ℕ) → variable_of (cell_of cells s) ≡ o → Every (λ q. length (m.term q) < length (m.term s)) (argument_places cells ends s)
        smaller_by m (Some v) e = subst (λ k. Every (λ q. length (m.term q) < length (m.term s)) (places ends k (s + 1))) (sym (no_arguments (cell_of cells s) v e)) tt where
          no_arguments : (c : Cell) (v : ℕ) → variable_of c ≡ Some v → arity_of c ≡ 0
          no_arguments (Var u) v e = refl
          no_arguments (Int i) v e = refl
          no_arguments (Atom a) v e = refl
          no_arguments (Func f k) v e = cc
        smaller_by m None e =
            let made = ap length (m.is_model.compounds s s_below e) in
            Every-map (λ q. length (m.term q) ≤ length (flat_map m.term (argument_places cells ends s))) (λ q. length (m.term q) < length (m.term s))
            (argument_places cells ends s) (λ q h. omega arith) (part-shorter m.term (argument_places cells ends s))

        smaller : (m : Model cells ends second) → Every (λ q. length (m.term q) < length (m.term r)) (argument_places cells ends s)
        smaller m = subst (λ xs. Every (λ q. length (m.term q) < length xs) (argument_places cells ends s)) (schema_size m) (smaller_by m (variable_of (cell_of cells s)) refl)

        more_small : (m : Model cells ends second) → Every (λ x. length (m.term (visited_place x)) ≤ length (m.term p)) more
        more_small m =
            let same = ap length (w.sound m p below) in (
              omega arith,
              entries-Every (λ x. length (m.term (visited_place x)) ≤ length (m.term p)) ends count (s + 1)
                  (Every-map (λ q. length (m.term q) < length (m.term r)) (λ q. length (m.term q) ≤ length (m.term p)) (argument_places cells ends s) (λ q h. omega arith) (smaller m)),
            )

        more_shrinks : (m : Model cells ends second) → Shrinks (λ q. length (m.term q)) more
        more_shrinks m = (
          entries-Every (λ x. length (m.term (visited_place x)) < length (m.term r)) ends count (s + 1) (smaller m),
          entries-shrink (λ q. length (m.term q)) ends count (s + 1),
        )

        more_within : Every (λ x. visited_place x < n) more
        more_within = (r_below, entries-Every (λ x. visited_place x < n) ends count (s + 1) (arguments-within cells ends g s s_below))

        pub Walking-open : Walking cells ends second now schemas after (visits ++ more)
        Walking-open = record {
          first = w.first;
          root = w.root;
          term = w.term;
          first_within = w.first_within;
          len = len;
          progress_len = length-set progress r Open ∙ w.progress_len;
          falls = falls;
          forest = forest;
          has_schemas = w.has_schemas;
          sound = w.sound;
          closed = w.closed;
          within = Every-join (λ x. visited_place x < n) visits more (Every-front (λ x. visited_place x < n) visits (Enter p ∷ []) w.within) more_within;
          built = λ q h d.
              let old = w.built q h (back q d) in
              record {
                is_term = old.is_term;
                made = old.made;
                arguments = Every-map (λ x. IsDone progress (w.root x)) (λ x. IsDone after (w.root x)) (argument_places cells ends (get_or schemas q 0)) (λ x. kept (w.root x)) old.arguments;
              };
          all_done = λ q h. will-after cells ends schemas w.root progress after kept (Enter p) more finish visits q (w.all_done q h);
          in_order = order-after cells ends schemas w.root progress after kept (Enter p) more finish visits w.in_order more_order;
          are_open = λ q h e. elim (cases_eq q r) [
            | inl same ↦ some_back (λ x. x ≡ Leave q) visits more (inl (ap (λ x. Leave x) (sym same)))
            | inr ne ↦ some_front (λ x. x ≡ Leave q) visits more (open_front q (w.are_open q h (sym (elsewhere q ne) ∙ e)))
          ];
          shrinks = λ m. shrinks-after (λ q. length (m.term q)) (Enter p) more visits (more_small m) (more_shrinks m) (w.shrinks m);
        }

        pub more-few : length more ≤ 256
        more-few = let few = arity-within cells ends g s s_below in let all = length-entries ends count (s + 1) in omega arith

  -- ---- a class is left

  module _ (r : ℕ) (w : Walks (Leave r)) where
    abbrev left : List Progress
    left = set progress r Done

    r_inside : r < length cells
    r_inside = last-within (Leave r) w

    left_r : IsDone left r
    left_r = let same = w.progress_len in let inside = r_inside in get_or-set_same progress r Done New (omega arith)

    left_other : (q : ℕ) → (q ≡ r → ⊥) → get_or left q New ≡ get_or progress q New
    left_other q ne = get_or-set_other progress r q Done New ne

    left_kept : (q : ℕ) → IsDone progress q → IsDone left q
    left_kept q d = elim (cases_eq q r) [
      | inl e ↦ ap (λ x. get_or left x New) e ∙ left_r
      | inr ne ↦ left_other q ne ∙ d
    ]

    left_finish : (q : ℕ) → r ≡ w.root q → WillBeDone w.root left [] q
    left_finish q e = inl (ap (λ x. get_or left x New) (sym e) ∙ left_r)

    abbrev arguments_of : ℕ → List ℕ
    arguments_of q = argument_places cells ends (get_or schemas q 0)

    -- the arguments are done
    done_by : (q : ℕ) → WillBeDone w.root progress [] q → IsDone progress (w.root q)
    done_by q (inl d) = d
    done_by q (inr none) = absurd none

    arguments_done : Every (λ q. IsDone progress (w.root q)) (arguments_of r)
    arguments_done = Every-map (WillBeDone w.root progress []) (λ q. IsDone progress (w.root q)) (arguments_of r) done_by (order-last cells ends schemas w.root progress r visits w.in_order)

    arguments_inside : Every (λ q. q < length cells) (arguments_of r)
    arguments_inside = arguments-within cells ends g (get_or schemas r 0) (w.has_schemas.within r r_inside)

    abbrev made_of : (ℕ → List Cell) → ℕ → List Cell
    made_of term q = cell_of cells (get_or schemas q 0) ∷ flat_map (λ x. term (w.root x)) (arguments_of q)

    made_is_term : is_terms 1 (made_of w.term r) ≡ true
    made_is_term =
        let c = cell_of cells (get_or schemas r 0) in
        let rest = flat_map (λ x. w.term (w.root x)) (arguments_of r) in
        let terms = flat_map-terms (λ x. w.term (w.root x)) ends (arity_of c) (get_or schemas r 0 + 1)
        (Every-both (λ q. IsDone progress (w.root q)) (λ q. q < length cells) (λ q. is_terms 1 (w.term (w.root q)) ≡ true) (arguments_of r)
        (λ q d h. (w.built (w.root q) (root-within (Leave r) w q h) d).is_term) arguments_done arguments_inside) in
        and_from (has_arity c) (is_terms (terms_after c 0) rest) (at_place cells ends g (get_or schemas r 0) (w.has_schemas.within r r_inside)).1
        (ap (λ k. is_terms k rest) (terms_after-arity c 0 ∙ zero-add (arity_of c)) ∙ terms)

    abbrev Left : Type 0
    Left = Walking cells ends second parents schemas left visits

    Left-by : (term : ℕ → List Cell) → ((q : ℕ) → q < length cells → IsDone left q → IsBuilt cells ends schemas w.root left term q) → Left
    Left-by term built = record {
      first = w.first;
      root = w.root;
      term = term;
      first_within = w.first_within;
      len = w.len;
      progress_len = length-set progress r Done ∙ w.progress_len;
      falls = w.falls;
      forest = w.forest;
      has_schemas = w.has_schemas;
      sound = w.sound;
      closed = w.closed;
      within = Every-front (λ x. visited_place x < length cells) visits (Leave r ∷ []) w.within;
      built = built;
      all_done = λ q h. subst (λ xs. WillBeDone w.root left xs q) (append-nil visits)
          (will-after cells ends schemas w.root progress left left_kept (Leave r) [] left_finish visits q (w.all_done q h));
      in_order = subst (IsInOrder cells ends schemas w.root left) (append-nil visits)
          (order-after cells ends schemas w.root progress left left_kept (Leave r) [] left_finish visits w.in_order tt);
      are_open = λ q h e. elim (cases_eq q r) [
        | inl same ↦ absurd (done≢open (sym left_r ∙ ap (λ x. get_or left x New) (sym same) ∙ e))
        | inr ne ↦ elim (some_split (λ x. x ≡ Leave q) visits (Leave r ∷ []) (w.are_open q h (sym (left_other q ne) ∙ e))) [
          | inl k ↦ k
          | inr k ↦ elim k [ inl same ↦ absurd (ne (sym (leave-same r q same))) | inr none ↦ absurd none ]
        ]
      ];
      shrinks = λ m. subst (Shrinks (λ q. length (m.term q))) (append-nil visits) (shrinks-after (λ q. length (m.term q)) (Leave r) [] visits tt tt (w.shrinks m));
    }

    kept_arguments : (q : ℕ) → Every (λ x. IsDone progress (w.root x)) (arguments_of q) → Every (λ x. IsDone left (w.root x)) (arguments_of q)
    kept_arguments q = Every-map (λ x. IsDone progress (w.root x)) (λ x. IsDone left (w.root x)) (arguments_of q) (λ x. left_kept (w.root x))

    -- it was done before
    Left-again : IsDone progress r → Left
    Left-again done = Left-by w.term (λ q h d.
        let old = w.built q h (elim (cases_eq q r) [ inl e ↦ ap (λ x. get_or progress x New) e ∙ done | inr ne ↦ sym (left_other q ne) ∙ d ]) in
        record { is_term = old.is_term; made = old.made; arguments = kept_arguments q old.arguments })

    -- it gets its term
    module _ (not_done : IsDone progress r → ⊥) where
      abbrev term_after : ℕ → List Cell
      term_after q = cond (nat_eq q r) (made_of w.term r) (w.term q)

      term_at : term_after r ≡ made_of w.term r
      term_at = cond-true (nat_eq r r) (made_of w.term r) (w.term r) (eq-eqb r r refl)

      term_other : (q : ℕ) → (q ≡ r → ⊥) → term_after q ≡ w.term q
      term_other q ne = cond-false (nat_eq q r) (made_of w.term r) (w.term q) (ne_eqb q r ne)

      same_made : (q : ℕ) → Every (λ x. IsDone progress (w.root x)) (arguments_of q) → made_of w.term q ≡ made_of term_after q
      same_made q done =
          ap (λ xs. cell_of cells (get_or schemas q 0) ∷ xs)
          (flat_map-same (λ x. w.term (w.root x)) (λ x. term_after (w.root x)) (arguments_of q)
          (Every-map (λ x. IsDone progress (w.root x)) (λ x. w.term (w.root x) ≡ term_after (w.root x)) (arguments_of q)
          (λ x d. sym (term_other (w.root x) (λ e. not_done (ap (λ y. get_or progress y New) (sym e) ∙ d)))) done))

      Left-built : Left
      Left-built = Left-by term_after (λ q h d. elim (cases_eq q r) [
        | inl e ↦ record {
          is_term = ap (λ x. is_terms 1 (term_after x)) e ∙ ap (is_terms 1) term_at ∙ made_is_term;
          made = ap term_after e ∙ term_at ∙ same_made r arguments_done ∙ ap (made_of term_after) (sym e);
          arguments = subst (λ x. Every (λ y. IsDone left (w.root y)) (arguments_of x)) (sym e) (kept_arguments r arguments_done);
        }
        | inr ne ↦
            let old = w.built q h (sym (left_other q ne) ∙ d) in
            record {
              is_term = ap (is_terms 1) (term_other q ne) ∙ old.is_term;
              made = term_other q ne ∙ old.made ∙ same_made q old.arguments;
              arguments = kept_arguments q old.arguments;
            }
      ])

    by_progress : (o : Progress) → get_or progress r New ≡ o → Left
    by_progress Done e = Left-again e
    by_progress New e = Left-built (λ d. new≢done (sym e ∙ d))
    by_progress Open e = Left-built (λ d. open≢done (sym e ∙ d))

    pub Walking-left : Left
    Walking-left = by_progress (get_or progress r New) refl

-- ---- the same, where the root is known by another name

module _ (cells : List Cell) (ends : List ℕ) (second : ℕ) (g : IsGraph cells ends) (parents schemas : List ℕ) (progress : List Progress) (visits : List Visit)
    (p : ℕ) (w : Walking cells ends second parents schemas progress (visits ++ Enter p ∷ [])) (r : ℕ) (at_root : r ≡ w.root p) where
  pub named-no_model : get_or progress r New ≡ Open → Model cells ends second → ⊥
  named-no_model e = open-no_model cells ends second g parents schemas progress visits p w (ap (λ x. get_or progress x New) (sym at_root) ∙ e)

  pub named-within : r < length cells
  named-within = subst (λ x. x < length cells) (sym at_root)
      (root-within cells ends second g parents schemas progress visits (Enter p) w p (last-within cells ends second g parents schemas progress visits (Enter p) w))

  module _ (now : List ℕ) (len : length now ≡ length cells) (falls : Falls now) (forest : IsForest now w.root) where
    pub named-done : get_or progress r New ≡ Done → Walking cells ends second now schemas progress visits
    named-done e = Walking-done cells ends second g parents schemas progress visits p w now len falls forest (ap (λ x. get_or progress x New) (sym at_root) ∙ e)

    abbrev opened : ℕ → ℕ → List Visit
    opened x k = (visits ++ Leave x ∷ []) ++ entries ends k (get_or schemas x 0 + 1)

    abbrev Opened : ℕ → ℕ → Type 0
    Opened x k =
        Walking cells ends second now schemas (set progress x Open) (opened x k)
        × (257 * count_by is_new (set progress x Open) + length (opened x k) ≤ 257 * count_by is_new progress + length visits)

    opened_at : get_or progress (w.root p) New ≡ New → Opened (w.root p) (arity_of (cell_of cells (get_or schemas (w.root p) 0)))
    opened_at e =
        let k = arity_of (cell_of cells (get_or schemas (w.root p) 0)) in
        let same = append_assoc visits (Leave (w.root p) ∷ []) (entries ends k (get_or schemas (w.root p) 0 + 1)) in
        let walking = Walking-open cells ends second g parents schemas progress visits p w now len falls forest e in
        let few = more-few cells ends second g parents schemas progress visits p w now len falls forest e in
        let all = length-append visits (Leave (w.root p) ∷ entries ends k (get_or schemas (w.root p) 0 + 1)) in
        let same_len = ap length same in
        let inside = named-within in
        let progress_len = w.progress_len in
        let less = count-Open progress (w.root p) (omega arith) e in
        (subst (Walking cells ends second now schemas (set progress (w.root p) Open)) (sym same) walking, omega arith)

    pub named-open : get_or progress r New ≡ New → (k : ℕ) → k ≡ arity_of (cell_of cells (get_or schemas r 0)) → Opened r k
    named-open e k arity =
        subst (Opened r) (sym arity)
        (subst (λ x. Opened x (arity_of (cell_of cells (get_or schemas x 0)))) (sym at_root) (opened_at (ap (λ x. get_or progress x New) (sym at_root) ∙ e)))

-- ---- the beginning

all_entries-within : (n p k : ℕ) → p + k ≤ n → Every (λ x. visited_place x < n) (all_entries p k)
all_entries-within n p zero h = tt
all_entries-within n p (suc k) h = (omega arith, all_entries-within n (p + 1) k (omega arith))

all_entries-finish : (root : ℕ → ℕ) (q p k : ℕ) → p ≤ q → q < p + k → Some_of (Finishes root q) (all_entries p k)
all_entries-finish root q p zero h j = absurd (omega arith)
all_entries-finish root q p (suc k) h j = elim (cases_eq p q) [
  | inl e ↦ inl e
  | inr ne ↦ inr (all_entries-finish root q (p + 1) k (omega arith) (omega arith))
]

all_entries-in_order : (cells : List Cell) (ends schemas : List ℕ) (root : ℕ → ℕ) (progress : List Progress) (p k : ℕ) → IsInOrder cells ends schemas root progress (all_entries p k)
all_entries-in_order cells ends schemas root progress p zero = tt
all_entries-in_order cells ends schemas root progress p (suc k) = all_entries-in_order cells ends schemas root progress (p + 1) k

all_entries-shrink : (size : ℕ → ℕ) (p k : ℕ) → Shrinks size (all_entries p k)
all_entries-shrink size p zero = tt
all_entries-shrink size p (suc k) = all_entries-shrink size (p + 1) k

all_new : (n p : ℕ) → get_or (replicate n New) p New ≡ New
all_new zero p = refl
all_new (suc n) zero = refl
all_new (suc n) (suc p) = all_new n p

new≢open : New ≡ Open → ⊥
new≢open e = cc

pub Walking-start : (cells : List Cell) (ends : List ℕ) (second : ℕ) (parents schemas : List ℕ) → Joining cells ends second parents schemas []
    → Walking cells ends second parents schemas (replicate (length cells) New) (all_entries 0 (length cells))
Walking-start cells ends second parents schemas j = record {
  first = j.first;
  root = j.root;
  term = λ _. [];
  first_within = j.first_within;
  len = j.len;
  progress_len = length-replicate (length cells) New;
  falls = j.falls;
  forest = j.forest;
  has_schemas = j.has_schemas;
  sound = j.sound;
  closed = j.complete j.root (λ p h. let len = j.len in sym (j.forest.once p (omega arith))) tt;
  within = all_entries-within (length cells) 0 (length cells) (omega arith);
  built = λ r h d. absurd (new≢done (sym (all_new (length cells) r) ∙ d));
  all_done = λ p h. inr (all_entries-finish j.root p 0 (length cells) (omega arith) (omega arith));
  in_order = all_entries-in_order cells ends schemas j.root (replicate (length cells) New) 0 (length cells);
  are_open = λ r h e. absurd (new≢open (sym (all_new (length cells) r) ∙ e));
  shrinks = λ m. all_entries-shrink (λ q. length (m.term q)) 0 (length cells);
}

-- ---- the end

module _ (cells : List Cell) (ends : List ℕ) (second : ℕ) (parents schemas : List ℕ) (progress : List Progress) (w : Walking cells ends second parents schemas progress []) where
  inside : (p : ℕ) → p < length cells → w.root p < length cells
  inside p h = let len = w.len in let below = w.forest.below p (omega arith) in omega arith

  done_at : (p : ℕ) → WillBeDone w.root progress [] p → IsDone progress (w.root p)
  done_at p (inl d) = d
  done_at p (inr none) = absurd none

  built_at : (p : ℕ) → p < length cells → IsBuilt cells ends schemas w.root progress w.term (w.root p)
  built_at p h = w.built (w.root p) (inside p h) (done_at p (w.all_done p h))

  pub Model-end : Model cells ends second
  Model-end = record {
    value = λ v. w.term (w.root (w.first v));
    term = λ p. w.term (w.root p);
    is_model = record {
      values = λ v. (built_at (w.first v) (w.first_within v)).is_term;
      terms = λ p h. (built_at p h).is_term;
      variables = λ p v h e. ap w.term (w.closed.variables p v h e);
      compounds = λ p h none.
          let s = get_or schemas (w.root p) 0 in
          let arguments = flat_map-map w.term w.root (argument_places cells ends s) ∙ ap (flat_map w.term) (w.closed.compounds p h none)
          ∙ sym (flat_map-map w.term w.root (argument_places cells ends p)) in
          (built_at p h).made ∙ (λ i. w.has_schemas.same p h none i ∷ arguments i);
    };
    equal = ap w.term w.closed.equal;
  }
