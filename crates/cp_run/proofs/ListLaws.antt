-- Lists that share their tails.
use Rattle.std.proofs.Common.{◌≡◌, ℕ, zero, suc, ◌+◌, ◌-◌, ◌<◌, ◌^◌, List, [], ◌∷◌, ◌++◌, length, take, get_or, refl, sym, ◌∙◌, ap, subst, append_assoc, append-nil, arith, length-append}
use Rattle.std.proofs.lemmas.List.{length-take}
use Rattle.cp_run.specs.declared.item.Item.{Item}
use Rattle.cp_run.specs.declared.goals.Node.{Node}
use Rattle.cp_run.specs.Lists.{lists_after, lists_of, AreOlder, AreLinked}

pub get_or-front : {A : Type 0} (xs ys : List A) (i : ℕ) (d : A) → i < length xs → get_or (xs ++ ys) i d ≡ get_or xs i d
get_or-front [] ys i d h = absurd (omega arith)
get_or-front (x ∷ xs) ys zero d h = refl
get_or-front (x ∷ xs) ys (suc i) d h = get_or-front xs ys i d (omega arith)

pub get_or-last : {A : Type 0} (xs : List A) (y : A) (i : ℕ) (d : A) → i ≡ length xs → get_or (xs ++ y ∷ []) i d ≡ y
get_or-last [] y zero d h = refl
get_or-last [] y (suc i) d h = absurd (omega arith)
get_or-last (x ∷ xs) y zero d h = absurd (omega arith)
get_or-last (x ∷ xs) y (suc i) d h = get_or-last xs y i d (omega arith)

pub get_or-take : {A : Type 0} (xs : List A) (n i : ℕ) (d : A) → i < n → get_or (take n xs) i d ≡ get_or xs i d
get_or-take [] zero i d h = absurd (omega arith)
get_or-take [] (suc n) i d h = refl
get_or-take (x ∷ xs) zero i d h = absurd (omega arith)
get_or-take (x ∷ xs) (suc n) zero d h = refl
get_or-take (x ∷ xs) (suc n) (suc i) d h = get_or-take xs n i d (omega arith)

push_after : (made : List (List Item)) (nodes : List Node) (n : Node) → lists_after made (nodes ++ n ∷ []) ≡ lists_after made nodes ++ (n.item ∷ get_or (lists_after made nodes) n.rest []) ∷ []
push_after made [] n = refl
push_after made (m ∷ nodes) n = push_after (made ++ (m.item ∷ get_or made m.rest []) ∷ []) nodes n

pub lists-push : (nodes : List Node) (n : Node) → lists_of (nodes ++ n ∷ []) ≡ lists_of nodes ++ (n.item ∷ get_or (lists_of nodes) n.rest []) ∷ []
unfolding lists_of
lists-push nodes n = push_after ([] ∷ []) nodes n

length-after : (made : List (List Item)) (nodes : List Node) → length (lists_after made nodes) ≡ length made + length nodes
length-after made [] = omega arith
length-after made (n ∷ nodes) =
    let more = made ++ (n.item ∷ get_or made n.rest []) ∷ [] in
    let e = length-after more nodes in
    let f = length-append made ((n.item ∷ get_or made n.rest []) ∷ []) in
    omega arith

pub length-lists : (nodes : List Node) → length (lists_of nodes) ≡ suc (length nodes)
unfolding lists_of
length-lists nodes = let e = length-after ([] ∷ []) nodes in omega arith

-- what was made stays
front_after : (made : List (List Item)) (nodes : List Node) (i : ℕ) → i < length made → get_or (lists_after made nodes) i [] ≡ get_or made i []
front_after made [] i h = refl
front_after made (n ∷ nodes) i h =
    let f = length-append made ((n.item ∷ get_or made n.rest []) ∷ []) in
    front_after (made ++ (n.item ∷ get_or made n.rest []) ∷ []) nodes i (omega arith)
    ∙ get_or-front made ((n.item ∷ get_or made n.rest []) ∷ []) i [] h

pub lists-empty : (nodes : List Node) → get_or (lists_of nodes) 0 [] ≡ []
unfolding lists_of
lists-empty nodes = front_after ([] ∷ []) nodes 0 (omega arith)

-- a node begins the list of its item and its tail
at_after : (made : List (List Item)) (nodes : List Node) (i : ℕ) (d : Node) → AreOlder (length made) nodes → i < length nodes
    → (get_or (lists_after made nodes) (length made + i) [] ≡ (get_or nodes i d).item ∷ get_or (lists_after made nodes) ((get_or nodes i d).rest) []) × ((get_or nodes i d).rest < length made + i)
at_after made [] i d older h = absurd (omega arith)
at_after made (n ∷ nodes) zero d older h =
    let new : List Item = n.item ∷ get_or made n.rest [] in
    let f = length-append made (new ∷ []) in
    let e : length made + zero ≡ length made = omega arith in (
      front_after (made ++ new ∷ []) nodes (length made + zero) (omega arith)
          ∙ get_or-last made new (length made + zero) [] e
          ∙ ap (λ t. n.item ∷ t) (sym (front_after (made ++ new ∷ []) nodes n.rest (let o = older.0 in omega arith) ∙ get_or-front made (new ∷ []) n.rest [] older.0)),
      let o = older.0 in omega arith,
    )
at_after made (n ∷ nodes) (suc i) d older h =
    let new : List Item = n.item ∷ get_or made n.rest [] in
    let f = length-append made (new ∷ []) in
    let e : length (made ++ new ∷ []) ≡ suc (length made) = omega arith in
    let k : length (made ++ new ∷ []) + i ≡ length made + suc i = omega arith in
    let more = at_after (made ++ new ∷ []) nodes i d (let P : ℕ → Type 0 = λ n. AreOlder n nodes in subst P (sym e) older.1) (omega arith) in (
      ap (λ j. get_or (lists_after (made ++ new ∷ []) nodes) j []) (sym k) ∙ more.0,
      let m = more.1 in omega arith,
    )

pub lists-at : (nodes : List Node) (at : ℕ) (d : Node) → AreLinked nodes → 0 < at → at < suc (length nodes)
    → (get_or (lists_of nodes) at [] ≡ (get_or nodes (at - 1) d).item ∷ get_or (lists_of nodes) ((get_or nodes (at - 1) d).rest) []) × ((get_or nodes (at - 1) d).rest < at)
unfolding lists_of
lists-at nodes zero d linked some h = absurd (omega arith)
lists-at nodes (suc i) d linked some h =
    let e : suc i - 1 ≡ i = omega arith in
    let k : 1 + i ≡ suc i = omega arith in
    let both = at_after ([] ∷ []) nodes i d linked.older (omega arith) in
    rw (e, ← k) both

later : List (List Item) → List Node → List (List Item)
later made [] = []
later made (n ∷ nodes) = (n.item ∷ get_or made n.rest []) ∷ later (made ++ (n.item ∷ get_or made n.rest []) ∷ []) nodes

split : (made : List (List Item)) (nodes : List Node) → lists_after made nodes ≡ made ++ later made nodes
unfolding later
split made [] = sym (append-nil made)
split made (n ∷ nodes) =
    let new : List Item = n.item ∷ get_or made n.rest [] in
    split (made ++ new ∷ []) nodes ∙ append_assoc made (new ∷ []) (later (made ++ new ∷ []) nodes)

take_later : (made : List (List Item)) (nodes : List Node) (k : ℕ) → take k (later made nodes) ≡ later made (take k nodes)
unfolding later
take_later made nodes zero = refl
take_later made [] (suc k) = refl
take_later made (n ∷ nodes) (suc k) =
    ap (λ t. (n.item ∷ get_or made n.rest []) ∷ t) (take_later (made ++ (n.item ∷ get_or made n.rest []) ∷ []) nodes k)

pub lists-take : (nodes : List Node) (k : ℕ) → lists_of (take k nodes) ≡ take (suc k) (lists_of nodes)
unfolding lists_of
lists-take nodes k =
    split ([] ∷ []) (take k nodes) ∙ ap (λ t. [] ∷ t) (sym (take_later ([] ∷ []) nodes k)) ∙ ap (take (suc k)) (sym (split ([] ∷ []) nodes))

-- ---- links

pub AreOlder-push : (n : ℕ) (nodes : List Node) (x : Node) → AreOlder n nodes → x.rest < n + length nodes → AreOlder n (nodes ++ x ∷ [])
AreOlder-push n [] x o h = (omega arith, tt)
AreOlder-push n (y ∷ nodes) x o h = (o.0, AreOlder-push (suc n) nodes x o.1 (omega arith))

pub AreOlder-take : (n : ℕ) (nodes : List Node) (k : ℕ) → AreOlder n nodes → AreOlder n (take k nodes)
AreOlder-take n nodes zero o = tt
AreOlder-take n [] (suc k) o = tt
AreOlder-take n (y ∷ nodes) (suc k) o = (o.0, AreOlder-take (suc n) nodes k o.1)

pub AreLinked-take : (nodes : List Node) (k : ℕ) → AreLinked nodes → AreLinked (take k nodes)
AreLinked-take nodes k l =
    record {
      older = AreOlder-take 1 nodes k l.older;
      fits = let e = length-take k nodes in let f = l.fits in omega arith;
    }

pub AreLinked-push : (nodes : List Node) (x : Node) → AreLinked nodes → x.rest < suc (length nodes) → suc (suc (length nodes)) < 2 ^ 32 → AreLinked (nodes ++ x ∷ [])
AreLinked-push nodes x l h fits =
    record {
      older = AreOlder-push 1 nodes x l.older (omega arith);
      fits = let e = length-append nodes (x ∷ []) in omega arith;
    }
