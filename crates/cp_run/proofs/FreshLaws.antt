-- A body with new variables is the body of the term with new variables.
use Rattle.std.proofs.Common.{◌≡◌, ℕ, zero, suc, ◌+◌, Bool, true, false, Some, None, Option, List, [], ◌∷◌, ◌++◌, map, take, drop, slice_index_or, refl, sym, ◌∙◌, ap}
use Rattle.std.specs.Prelude.{◌&&◌, nat_le, if◌then◌else◌}
use Rattle.std.specs.Option.{option_map}
use Rattle.std.specs.List.{flat_map}
use Rattle.cp_term.specs.declared.cell.Cell.{Cell}
use Rattle.cp_term.specs.declared.cell.Cell.TheVariants.{Var, Int, Atom, Func}
use Rattle.cp_term.specs.Numbering.{renamed, fresh}
use Rattle.cp_goal.specs.Folds.{of_terms}
use Rattle.cp_code.specs.Bodies.{Body, True, Fail, Both, Either, Choose, CallOf, CatchOf, ThrowOf, FindAll, Plain, Reads, Read, Arrow, NoArrow, IfThen, two_bodies, three_bodies, read_of, unread, cells_of, body_of, fresh_body, is, atom_body, within_module, either_body, unary_body, binary_body, ternary_body, longer_body, compound_body, arrow_of}

module _ (n : ℕ) where
  new : Option Body → Option Body
  new = option_map (fresh_body n)

  abbrev AreNew : Reads → Reads → Type 0
  AreNew b' b = (m : List ℕ) → b' m ≡ option_map (fresh_body n) (b m)

  abbrev IsNewArrow : Arrow → Arrow → Type 0
  IsNewArrow NoArrow NoArrow = Unit {0}
  IsNewArrow NoArrow (IfThen c t) = ⊥
  IsNewArrow (IfThen c' t') NoArrow = ⊥
  IsNewArrow (IfThen c' t') (IfThen c t) = AreNew c' c × AreNew t' t

  record IsNew (r' r : Read) : Type 0 where
    pub cells : r'.cells ≡ fresh n r.cells
    pub body : AreNew r'.body r.body
    pub arrow : IsNewArrow r'.arrow r.arrow

  abbrev AllNew : List Read → List Read → Type 0
  AllNew [] [] = Unit {0}
  AllNew [] (r ∷ rs) = ⊥
  AllNew (r' ∷ rs') [] = ⊥
  AllNew (r' ∷ rs') (r ∷ rs) = IsNew r' r × AllNew rs' rs

  AllNew-take : (k : ℕ) (rs' rs : List Read) → AllNew rs' rs → AllNew (take k rs') (take k rs)
  AllNew-take zero rs' rs a = tt
  AllNew-take (suc k) [] [] a = tt
  AllNew-take (suc k) [] (r ∷ rs) a = absurd a
  AllNew-take (suc k) (r' ∷ rs') [] a = absurd a
  AllNew-take (suc k) (r' ∷ rs') (r ∷ rs) a = (a.0, AllNew-take k rs' rs a.1)

  AllNew-drop : (k : ℕ) (rs' rs : List Read) → AllNew rs' rs → AllNew (drop k rs') (drop k rs)
  AllNew-drop zero rs' rs a = a
  AllNew-drop (suc k) [] [] a = tt
  AllNew-drop (suc k) [] (r ∷ rs) a = absurd a
  AllNew-drop (suc k) (r' ∷ rs') [] a = absurd a
  AllNew-drop (suc k) (r' ∷ rs') (r ∷ rs) a = AllNew-drop k rs' rs a.1

  map-append : (f : Cell → Cell) (xs ys : List Cell) → map f (xs ++ ys) ≡ map f xs ++ map f ys
  map-append f [] ys = refl
  map-append f (x ∷ xs) ys = ap (λ t. f x ∷ t) (map-append f xs ys)

  cells-new : (rs' rs : List Read) → AllNew rs' rs → flat_map (λ (r : Read). r.cells) rs' ≡ fresh n (flat_map (λ (r : Read). r.cells) rs)
  cells-new [] [] a = refl
  cells-new [] (r ∷ rs) a = absurd a
  cells-new (r' ∷ rs') [] a = absurd a
  cells-new (r' ∷ rs') (r ∷ rs) a =
      ap (λ t. t ++ flat_map (λ (x : Read). x.cells) rs') a.0.cells
      ∙ ap (λ t. fresh n r.cells ++ t) (cells-new rs' rs a.1)
      ∙ sym (map-append (renamed (λ v. v + n)) r.cells (flat_map (λ (x : Read). x.cells) rs))

  extra-new : (rs' rs : List Read) → AllNew rs' rs → map (λ (r : Read). r.cells) rs' ≡ map (fresh n) (map (λ (r : Read). r.cells) rs)
  extra-new [] [] a = refl
  extra-new [] (r ∷ rs) a = absurd a
  extra-new (r' ∷ rs') [] a = absurd a
  extra-new (r' ∷ rs') (r ∷ rs) a =
      ap (λ t. t ∷ map (λ (x : Read). x.cells) rs') a.0.cells ∙ ap (λ t. fresh n r.cells ∷ t) (extra-new rs' rs a.1)

  if_new : (b : Bool) (x' y' x y : Option Body) → x' ≡ option_map (fresh_body n) x → y' ≡ option_map (fresh_body n) y → (if b then x' else y') ≡ option_map (fresh_body n) (if b then x else y)
  if_new true x' y' x y e f = e
  if_new false x' y' x y e f = f

  both_new : (a b : Option Body) → two_bodies Both (option_map (fresh_body n) a) (option_map (fresh_body n) b) ≡ option_map (fresh_body n) (two_bodies Both a b)
  unfolding fresh_body
  both_new None b = refl
  both_new (Some a) None = refl
  both_new (Some a) (Some b) = refl

  either_new : (a b : Option Body) → two_bodies Either (option_map (fresh_body n) a) (option_map (fresh_body n) b) ≡ option_map (fresh_body n) (two_bodies Either a b)
  unfolding fresh_body
  either_new None b = refl
  either_new (Some a) None = refl
  either_new (Some a) (Some b) = refl

  choose_new : (c t e : Option Body) → three_bodies Choose (option_map (fresh_body n) c) (option_map (fresh_body n) t) (option_map (fresh_body n) e) ≡ option_map (fresh_body n) (three_bodies Choose c t e)
  unfolding fresh_body
  choose_new None t e = refl
  choose_new (Some c) None e = refl
  choose_new (Some c) (Some t) None = refl
  choose_new (Some c) (Some t) (Some e) = refl

  plain_new : (m : List ℕ) (cells' cells : List Cell) → cells' ≡ fresh n cells → Some (Plain m cells') ≡ option_map (fresh_body n) (Some (Plain m cells))
  unfolding fresh_body
  plain_new m cells' cells e = ap (λ t. Some (Plain m t)) e

  call_new : (m : List ℕ) (g' g : List Cell) (x' x : List (List Cell)) → g' ≡ fresh n g → x' ≡ map (fresh n) x → Some (CallOf m g' x') ≡ option_map (fresh_body n) (Some (CallOf m g x))
  unfolding fresh_body
  call_new m g' g x' x e f = ap (λ t. Some (CallOf m t x')) e ∙ ap (λ t. Some (CallOf m (fresh n g) t)) f

  throw_new : (m : List ℕ) (b' b : List Cell) → b' ≡ fresh n b → Some (ThrowOf m b') ≡ option_map (fresh_body n) (Some (ThrowOf m b))
  unfolding fresh_body
  throw_new m b' b e = ap (λ t. Some (ThrowOf m t)) e

  catch_new : (m : List ℕ) (g' g b' b r' r : List Cell) → g' ≡ fresh n g → b' ≡ fresh n b → r' ≡ fresh n r → Some (CatchOf m g' b' r') ≡ option_map (fresh_body n) (Some (CatchOf m g b r))
  unfolding fresh_body
  catch_new m g' g b' b r' r e f h =
      ap (λ t. Some (CatchOf m t b' r')) e ∙ ap (λ t. Some (CatchOf m (fresh n g) t r')) f ∙ ap (λ t. Some (CatchOf m (fresh n g) (fresh n b) t)) h

  find_new : (m : List ℕ) (x' x g' g l' l : List Cell) → x' ≡ fresh n x → g' ≡ fresh n g → l' ≡ fresh n l → Some (FindAll m x' g' l') ≡ option_map (fresh_body n) (Some (FindAll m x g l))
  unfolding fresh_body
  find_new m x' x g' g l' l e f h =
      ap (λ t. Some (FindAll m t g' l')) e ∙ ap (λ t. Some (FindAll m (fresh n x) t l')) f ∙ ap (λ t. Some (FindAll m (fresh n x) (fresh n g) t)) h

  atom_new : (m a : List ℕ) → atom_body a m ≡ option_map (fresh_body n) (atom_body a m)
  unfolding fresh_body
  atom_new m a = if_new (is a "!") _ _ _ _ refl (if_new (is a "true") _ _ _ _ refl (if_new (is a "fail") _ _ _ _ refl refl))

  within_new : (cells : List Cell) (b' b : Reads) → AreNew b' b → within_module (fresh n cells) b' ≡ option_map (fresh_body n) (within_module cells b)
  within_new [] b' b h = refl
  within_new (Var v ∷ cells) b' b h = refl
  within_new (Int i ∷ cells) b' b h = refl
  within_new (Func f k ∷ cells) b' b h = refl
  within_new (Atom a ∷ []) b' b h = h a
  within_new (Atom a ∷ c ∷ cells) b' b h = refl

  choice_new : (w' w : Arrow) (a' a e' e : Reads) (m : List ℕ) → IsNewArrow w' w → AreNew a' a → AreNew e' e → either_body w' a' e' m ≡ option_map (fresh_body n) (either_body w a e m)
  choice_new NoArrow NoArrow a' a e' e m w h k =
      ap (λ x. two_bodies Either x (e' m)) (h m) ∙ ap (λ x. two_bodies Either (option_map (fresh_body n) (a m)) x) (k m) ∙ either_new (a m) (e m)
  choice_new NoArrow (IfThen c t) a' a e' e m w h k = absurd w
  choice_new (IfThen c' t') NoArrow a' a e' e m w h k = absurd w
  choice_new (IfThen c' t') (IfThen c t) a' a e' e m w h k =
      ap (λ x. three_bodies Choose x (t' m) (e' m)) (w.0 m) ∙ ap (λ x. three_bodies Choose (option_map (fresh_body n) (c m)) x (e' m)) (w.1 m)
      ∙ ap (λ x. three_bodies Choose (option_map (fresh_body n) (c m)) (option_map (fresh_body n) (t m)) x) (k m) ∙ choose_new (c m) (t m) (e m)

  unary_new : (f m : List ℕ) (cells' cells : List Cell) (a' a : Read) → cells' ≡ fresh n cells → IsNew a' a → unary_body f cells' a' m ≡ option_map (fresh_body n) (unary_body f cells a m)
  unfolding fresh_body
  unary_new f m cells' cells a' a e h =
      if_new (is f "\\+") _ _ _ _ (ap (λ x. three_bodies Choose x (Some Fail) (Some True)) (h.body m) ∙ choose_new (a.body m) (Some Fail) (Some True))
      (if_new (is f "call") _ _ _ _ (call_new m a'.cells a.cells [] [] h.cells refl)
      (if_new (is f "throw") _ _ _ _ (throw_new m a'.cells a.cells h.cells)
      (plain_new m cells' cells e)))

  binary_new : (f m : List ℕ) (cells' cells : List Cell) (a' a b' b : Read) → cells' ≡ fresh n cells → IsNew a' a → IsNew b' b → binary_body f cells' a' b' m ≡ option_map (fresh_body n) (binary_body f cells a b m)
  unfolding fresh_body
  binary_new f m cells' cells a' a b' b e h k =
      if_new (is f ",") _ _ _ _ (ap (λ x. two_bodies Both x (b'.body m)) (h.body m) ∙ ap (λ x. two_bodies Both (option_map (fresh_body n) (a.body m)) x) (k.body m) ∙ both_new (a.body m) (b.body m))
      (if_new (is f ";") _ _ _ _ (choice_new a'.arrow a.arrow a'.body a.body b'.body b.body m h.arrow h.body k.body)
      (if_new (is f "->") _ _ _ _ (ap (λ x. three_bodies Choose x (b'.body m) (Some Fail)) (h.body m) ∙ ap (λ x. three_bodies Choose (option_map (fresh_body n) (a.body m)) x (Some Fail)) (k.body m) ∙ choose_new (a.body m) (b.body m) (Some Fail))
      (if_new (is f ":") _ _ _ _ (ap (λ x. within_module x b'.body) h.cells ∙ within_new a.cells b'.body b.body k.body)
      (if_new (is f "call") _ _ _ _ (call_new m a'.cells a.cells (b'.cells ∷ []) (b.cells ∷ []) h.cells (ap (λ t. t ∷ []) k.cells))
      (plain_new m cells' cells e)))))

  ternary_new : (f m : List ℕ) (cells' cells : List Cell) (a' a b' b c' c : Read) → cells' ≡ fresh n cells → IsNew a' a → IsNew b' b → IsNew c' c → ternary_body f cells' a' b' c' m ≡ option_map (fresh_body n) (ternary_body f cells a b c m)
  ternary_new f m cells' cells a' a b' b c' c e h k l =
      if_new (is f "catch") _ _ _ _ (catch_new m a'.cells a.cells b'.cells b.cells c'.cells c.cells h.cells k.cells l.cells)
      (if_new (is f "findall") _ _ _ _ (find_new m a'.cells a.cells b'.cells b.cells c'.cells c.cells h.cells k.cells l.cells)
      (if_new (is f "call") _ _ _ _ (call_new m a'.cells a.cells (b'.cells ∷ c'.cells ∷ []) (b.cells ∷ c.cells ∷ []) h.cells (ap (λ t. t ∷ c'.cells ∷ []) k.cells ∙ ap (λ t. fresh n b.cells ∷ t ∷ []) l.cells))
      (plain_new m cells' cells e)))

  longer_new : (f m : List ℕ) (k : ℕ) (cells' cells : List Cell) (a' a : Read) (more' more : List Read) → cells' ≡ fresh n cells → IsNew a' a → AllNew more' more → longer_body f k cells' a' more' m ≡ option_map (fresh_body n) (longer_body f k cells a more m)
  longer_new f m k cells' cells a' a more' more e h l =
      if_new (is f "call" && nat_le k 8) _ _ _ _ (call_new m a'.cells a.cells (map (λ (r : Read). r.cells) more') (map (λ (r : Read). r.cells) more) h.cells (extra-new more' more l)) (plain_new m cells' cells e)

  compound_new : (f m : List ℕ) (k : ℕ) (cells' cells : List Cell) (rs' rs : List Read) → cells' ≡ fresh n cells → AllNew rs' rs → compound_body f k cells' rs' m ≡ option_map (fresh_body n) (compound_body f k cells rs m)
  compound_new f m k cells' cells [] [] e a = plain_new m cells' cells e
  compound_new f m k cells' cells [] (r ∷ rs) e a = absurd a
  compound_new f m k cells' cells (r' ∷ rs') [] e a = absurd a
  compound_new f m k cells' cells (x' ∷ []) (x ∷ []) e a = unary_new f m cells' cells x' x e a.0
  compound_new f m k cells' cells (x' ∷ []) (x ∷ y ∷ rs) e a = absurd a.1
  compound_new f m k cells' cells (x' ∷ y' ∷ rs') (x ∷ []) e a = absurd a.1
  compound_new f m k cells' cells (x' ∷ y' ∷ []) (x ∷ y ∷ []) e a = binary_new f m cells' cells x' x y' y e a.0 a.1.0
  compound_new f m k cells' cells (x' ∷ y' ∷ []) (x ∷ y ∷ z ∷ rs) e a = absurd a.1.1
  compound_new f m k cells' cells (x' ∷ y' ∷ z' ∷ rs') (x ∷ y ∷ []) e a = absurd a.1.1
  compound_new f m k cells' cells (x' ∷ y' ∷ z' ∷ []) (x ∷ y ∷ z ∷ []) e a = ternary_new f m cells' cells x' x y' y z' z e a.0 a.1.0 a.1.1.0
  compound_new f m k cells' cells (x' ∷ y' ∷ z' ∷ []) (x ∷ y ∷ z ∷ u ∷ rs) e a = absurd a.1.1.1
  compound_new f m k cells' cells (x' ∷ y' ∷ z' ∷ u' ∷ rs') (x ∷ y ∷ z ∷ []) e a = absurd a.1.1.1
  compound_new f m k cells' cells (x' ∷ y' ∷ z' ∷ u' ∷ rs') (x ∷ y ∷ z ∷ u ∷ rs) e a = longer_new f m k cells' cells x' x (y' ∷ z' ∷ u' ∷ rs') (y ∷ z ∷ u ∷ rs) e a.0 a.1

  arrow_if_new : (b : Bool) (c' t' c t : Reads) → AreNew c' c → AreNew t' t → IsNewArrow (if b then IfThen c' t' else NoArrow) (if b then IfThen c t else NoArrow)
  arrow_if_new true c' t' c t h k = (h, k)
  arrow_if_new false c' t' c t h k = tt

  arrow_new : (f : List ℕ) (rs' rs : List Read) → AllNew rs' rs → IsNewArrow (arrow_of f rs') (arrow_of f rs)
  arrow_new f [] [] a = tt
  arrow_new f [] (r ∷ rs) a = absurd a
  arrow_new f (r' ∷ rs') [] a = absurd a
  arrow_new f (x' ∷ []) (x ∷ []) a = tt
  arrow_new f (x' ∷ []) (x ∷ y ∷ rs) a = absurd a.1
  arrow_new f (x' ∷ y' ∷ rs') (x ∷ []) a = absurd a.1
  arrow_new f (x' ∷ y' ∷ []) (x ∷ y ∷ []) a = arrow_if_new (is f "->") x'.body y'.body x.body y.body a.0.body a.1.0.body
  arrow_new f (x' ∷ y' ∷ []) (x ∷ y ∷ z ∷ rs) a = absurd a.1.1
  arrow_new f (x' ∷ y' ∷ z' ∷ rs') (x ∷ y ∷ []) a = absurd a.1.1
  arrow_new f (x' ∷ y' ∷ z' ∷ rs') (x ∷ y ∷ z ∷ rs) a = tt

  read_new : (c : Cell) (rs' rs : List Read) → AllNew rs' rs → IsNew (read_of (renamed (λ v. v + n) c) rs') (read_of c rs)
  unfolding fresh_body
  read_new (Var v) rs' rs a = record { cells = ap (λ t. Var (v + n) ∷ t) (cells-new rs' rs a); body = λ m. refl; arrow = tt }
  read_new (Int i) rs' rs a = record { cells = ap (λ t. Int i ∷ t) (cells-new rs' rs a); body = λ m. refl; arrow = tt }
  read_new (Atom x) rs' rs a = record { cells = ap (λ t. Atom x ∷ t) (cells-new rs' rs a); body = λ m. atom_new m x; arrow = tt }
  read_new (Func f k) rs' rs a =
      record {
        cells = ap (λ t. Func f k ∷ t) (cells-new rs' rs a);
        body = λ m. compound_new f m k (cells_of (Func f k) rs') (cells_of (Func f k) rs) rs' rs (ap (λ t. Func f k ∷ t) (cells-new rs' rs a)) a;
        arrow = arrow_new f rs' rs a;
      }

  all_new : (cells : List Cell) → AllNew (of_terms read_of (fresh n cells)) (of_terms read_of cells)
  all_new [] = tt
  all_new (Var v ∷ cells) = (read_new (Var v) [] [] tt, all_new cells)
  all_new (Int i ∷ cells) = (read_new (Int i) [] [] tt, all_new cells)
  all_new (Atom a ∷ cells) = (read_new (Atom a) [] [] tt, all_new cells)
  all_new (Func f k ∷ cells) =
      let ih = all_new cells in
      (read_new (Func f k) (take k (of_terms read_of (fresh n cells))) (take k (of_terms read_of cells)) (AllNew-take k (of_terms read_of (fresh n cells)) (of_terms read_of cells) ih), AllNew-drop k (of_terms read_of (fresh n cells)) (of_terms read_of cells) ih)

  first_new : (rs' rs : List Read) → AllNew rs' rs → (m : List ℕ) → (slice_index_or rs' 0 unread).body m ≡ option_map (fresh_body n) ((slice_index_or rs 0 unread).body m)
  first_new [] [] a m = refl
  first_new [] (r ∷ rs) a m = absurd a
  first_new (r' ∷ rs') [] a m = absurd a
  first_new (r' ∷ rs') (r ∷ rs) a m = a.0.body m

pub body-fresh : (n : ℕ) (m : List ℕ) (t : List Cell) → body_of m (fresh n t) ≡ option_map (fresh_body n) (body_of m t)
unfolding body_of
body-fresh n m t = first_new n (of_terms read_of (fresh n t)) (of_terms read_of t) (all_new n t) m
