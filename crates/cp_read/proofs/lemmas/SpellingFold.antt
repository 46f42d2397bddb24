-- What is so for each form of term is so for the terms that cells in preorder are.
use Rattle.std.proofs.Common.{◌≡◌, ℕ, zero, suc, ◌+◌, ◌<◌, ◌^◌, Bool, true, false, cond, List, [], ◌∷◌, ◌++◌, length, take, drop, refl, sym, ◌∙◌, ap, subst, arith, append-nil}
use Rattle.std.specs.Prelude.{⊤, nat_lt, Option, Some, None, ℤ, codes}
use Rattle.std.specs.List.{list_all}
use Rattle.std.specs.Str.{bytes_eq, is_utf8}
use Rattle.std.proofs.lemmas.Bool.{and_parts, ltb-true}
use Rattle.std.proofs.lemmas.List.{take-append-drop}
use Rattle.std.proofs.lemmas.List.Concat.{flat_map-append}
use Rattle.std.proofs.lemmas.Slice.Eq.{bytes_eq-Decides}
use Rattle.cp_term.specs.declared.cell.Cell.{Cell}
use Rattle.cp_term.specs.declared.cell.Cell.TheVariants.{Var, Int, Atom, Func}
use Rattle.cp_term.specs.Preorder.{is_terms, is_arity}
use Rattle.cp_ops.specs.declared.fix.Fix.{Fix}
use Rattle.cp_ops.specs.Operators.{Ops, look_up, is_operator, IsTable}
use Rattle.cp_read.specs.Pieces.{Piece, variable, sign}
use Rattle.cp_read.specs.ReadBack.{is_proper}
use Rattle.cp_read.proofs.lemmas.Spelling.{Each, none, one, Shape, operator_atom, empty_brackets, elements, operation, simple, Spelling, simply, within, cells_of, atom, atom_pieces, integer_pieces, canonical, list_by, prefix_term, infix_term, braces, compound, before_terms, spellings}
use Rattle.cp_read.proofs.lemmas.SpellingReads.{IsRead}
use Rattle.cp_read.proofs.lemmas.SpellingTerms.{variable-read, integer-read, atom-read, canonical-read, braces-read, list-read, prefix_term-read, infix_term-read}

pub Each-take : (P : Spelling → Type 0) (k : ℕ) (ts : List Spelling) → Each P ts → Each P (take k ts)
Each-take P zero ts h = none
Each-take P (suc k) _ none = none
Each-take P (suc k) _ (one t ts h hs) = one t (take k ts) h (Each-take P k ts hs)

pub Each-drop : (P : Spelling → Type 0) (k : ℕ) (ts : List Spelling) → Each P ts → Each P (drop k ts)
Each-drop P zero ts h = h
Each-drop P (suc k) _ none = none
Each-drop P (suc k) _ (one t ts h hs) = Each-drop P k ts hs

-- ---- the cells of the spellings are the cells

pub list_by-cells : (cells : List Cell) (s : Shape) (t u : Spelling) → (list_by cells s (t.pieces) u).cells ≡ cells
list_by-cells cells operator_atom t u = refl
list_by-cells cells empty_brackets t u = refl
list_by-cells cells (elements es) t u = refl
list_by-cells cells (operation fix) t u = refl
list_by-cells cells simple t u = refl

prefix-cells : (name : List ℕ) (o : Option (ℕ × Fix)) (t : Spelling) → (prefix_term name o t).cells ≡ Func name 1 ∷ t.cells ++ []
prefix-cells name None t = refl
prefix-cells name (Some op) t = ap (λ cells. Func name 1 ∷ cells) (sym (append-nil (t.cells)))

infix-cells : (name : List ℕ) (o : Option (ℕ × Fix)) (t u : Spelling) → (infix_term name o t u).cells ≡ Func name 2 ∷ t.cells ++ (u.cells ++ [])
infix-cells name None t u = refl
infix-cells name (Some op) t u = ap (λ cells. Func name 2 ∷ t.cells ++ cells) (sym (append-nil (u.cells)))

named : (name : List ℕ) (k : ℕ) (other : List ℕ) (cells more : List Cell) → bytes_eq name other ≡ true → cells ≡ more → Func other k ∷ cells ≡ Func name k ∷ more
named name k other cells more e f = λ i. Func (sym ((bytes_eq-Decides name other).0 e) i) k ∷ f i

compound-cells : (ops : Ops) (name : List ℕ) (ts : List Spelling) → (compound ops name ts).cells ≡ Func name (length ts) ∷ cells_of ts
compound-cells ops name [] = refl
compound-cells ops name (t ∷ []) =
    elim (bytes_eq name (codes "{}")) as (λ b. bytes_eq name (codes "{}") ≡ b → (cond b (braces t) (prefix_term name (look_up (ops.prefixes) name) t)).cells ≡ Func name 1 ∷ t.cells ++ []) [
      | true ↦ λ e. named name 1 (codes "{}") (t.cells) (t.cells ++ []) e (sym (append-nil (t.cells)))
      | false ↦ λ e. prefix-cells name (look_up (ops.prefixes) name) t
    ] refl
compound-cells ops name (t ∷ u ∷ []) =
    let listed = Func (codes ".") 2 ∷ t.cells ++ u.cells in
    elim (bytes_eq name (codes ".")) as (λ b. bytes_eq name (codes ".") ≡ b → (cond b (list_by listed (u.shape) ((within 999 t).pieces) u) (infix_term name (look_up (ops.infixes) name) t u)).cells ≡ Func name 2 ∷ t.cells ++ (u.cells ++ [])) [
      | true ↦ λ e. list_by-cells listed (u.shape) (within 999 t) u ∙ named name 2 (codes ".") (t.cells ++ u.cells) (t.cells ++ (u.cells ++ [])) e (ap (λ cells. t.cells ++ cells) (sym (append-nil (u.cells))))
      | false ↦ λ e. infix-cells name (look_up (ops.infixes) name) t u
    ] refl
compound-cells ops name (t ∷ u ∷ v ∷ ts) = refl

-- ---- they are as many as the terms, and each is read

pub record AreTheTerms (ops : Ops) (n : ℕ) (cells : List Cell) : Type 0 where
  pub each : Each (IsRead ops) (spellings ops cells)
  pub many : length (spellings ops cells) ≡ n
  pub same : cells_of (spellings ops cells) ≡ cells

compound-read : (ops : Ops) (table : IsTable ops) (name : List ℕ) (ts : List Spelling) → 0 < length ts → Each (IsRead ops) ts → IsRead ops (compound ops name ts)
compound-read ops table name _ some none = absurd (omega (arith, some))
compound-read ops table name _ some (one t _ h none) =
    elim (bytes_eq name (codes "{}")) as (λ b. IsRead ops (cond b (braces t) (prefix_term name (look_up (ops.prefixes) name) t))) [
      | true ↦ braces-read ops t h
      | false ↦ prefix_term-read ops table name (look_up (ops.prefixes) name) t refl h
    ]
compound-read ops table name _ some (one t _ h (one u _ g none)) =
    elim (bytes_eq name (codes ".")) as (λ b. IsRead ops (cond b (list_by (Func (codes ".") 2 ∷ t.cells ++ u.cells) (u.shape) ((within 999 t).pieces) u) (infix_term name (look_up (ops.infixes) name) t u))) [
      | true ↦ list-read ops table t u h g
      | false ↦ infix_term-read ops table name (look_up (ops.infixes) name) t u refl h g
    ]
compound-read ops table name _ some (one t _ h (one u _ g (one v ts f fs))) = canonical-read ops table name t (u ∷ v ∷ ts) h (one u _ g (one v ts f fs))

length_take : {A : Type 0} (k n : ℕ) (xs : List A) → length xs ≡ k + n → length (take k xs) ≡ k
length_take zero n xs e = refl
length_take (suc k) n [] e = absurd (omega (arith, e))
length_take (suc k) n (x ∷ xs) e = ap suc (length_take k n xs (omega (arith, e)))

length_drop : {A : Type 0} (k n : ℕ) (xs : List A) → length xs ≡ k + n → length (drop k xs) ≡ n
length_drop zero n xs e = omega (arith, e)
length_drop (suc k) n [] e = absurd (omega (arith, e))
length_drop (suc k) n (x ∷ xs) e = length_drop k n xs (omega (arith, e))

module _ (ops : Ops) (table : IsTable ops) where
  compound_terms : (name : List ℕ) (k n : ℕ) (cells : List Cell) → is_arity k ≡ true → AreTheTerms ops (k + n) cells → AreTheTerms ops (suc n) (Func name k ∷ cells)
  compound_terms name k n cells h r =
      let ts = spellings ops cells in
      let some : 0 < k = ltb-true 0 k ((and_parts (nat_lt 0 k) (nat_lt k 256) h).0) in
      let taken : length (take k ts) ≡ k = length_take k n ts (r.many) in
      record {
        each = one (compound ops name (take k ts)) (drop k ts) (compound-read ops table name (take k ts) (omega (arith, taken, some)) (Each-take (IsRead ops) k ts (r.each))) (Each-drop (IsRead ops) k ts (r.each));
        many = ap suc (length_drop k n ts (r.many));
        same =
            ap (λ cs. cs ++ cells_of (drop k ts)) (compound-cells ops name (take k ts) ∙ ap (λ m. Func name m ∷ cells_of (take k ts)) taken)
            ∙ ap (λ cs. Func name k ∷ cs) (sym (flat_map-append (λ (t : Spelling). t.cells) (take k ts) (drop k ts)) ∙ ap cells_of (take-append-drop k ts) ∙ r.same);
      }

  leaf_terms : (c : Cell) (t : Spelling) (n : ℕ) (cells : List Cell) → before_terms ops c (spellings ops cells) ≡ t ∷ spellings ops cells → t.cells ≡ c ∷ [] → IsRead ops t → AreTheTerms ops n cells → AreTheTerms ops (suc n) (c ∷ cells)
  leaf_terms c t n cells e f h r = record {
    each = subst (Each (IsRead ops)) (sym e) (one t (spellings ops cells) h (r.each));
    many = ap (λ ts. length ts) e ∙ ap suc (r.many);
    same = ap cells_of e ∙ (λ i. f i ++ r.same i);
  }

  pub are_the_terms : (n : ℕ) (cells : List Cell) → is_terms n cells ≡ true → list_all is_proper cells ≡ true → AreTheTerms ops n cells
  are_the_terms zero [] h p = record { each = none; many = refl; same = refl }
  are_the_terms zero (c ∷ cells) h p = absurd (let never : ⊥ = cc in never)
  are_the_terms (suc n) [] h p = absurd (let never : ⊥ = cc in never)
  are_the_terms (suc n) (Var v ∷ cells) h p = leaf_terms (Var v) _ n cells refl refl (variable-read ops v) (are_the_terms n cells h p)
  are_the_terms (suc n) (Int i ∷ cells) h p =
      let q = and_parts (is_proper (Int i)) (list_all is_proper cells) p in
      leaf_terms (Int i) _ n cells refl refl (integer-read ops i (q.0)) (are_the_terms n cells h (q.1))
  are_the_terms (suc n) (Atom a ∷ cells) h p =
      let q = and_parts (is_proper (Atom a)) (list_all is_proper cells) p in
      leaf_terms (Atom a) _ n cells refl refl (atom-read ops a) (are_the_terms n cells h (q.1))
  are_the_terms (suc n) (Func name k ∷ cells) h p =
      let q = and_parts (is_proper (Func name k)) (list_all is_proper cells) p in
      let a = and_parts (is_arity k) (is_terms (k + n) cells) h in
      compound_terms name k n cells (a.0) (are_the_terms (k + n) cells (a.1) (q.1))

-- ---- what holds of each form of term

-- the number of a variable is one of 64 bits
abbrev pub is_numbered : Cell → Bool
is_numbered (Var v) = nat_lt v (2 ^ 64)
is_numbered (Int i) = true
is_numbered (Atom a) = true
is_numbered (Func f k) = true

pub record Holds (ops : Ops) (P : Spelling → Type 0) : Type 0 where
  pub of_variable : (v : ℕ) → nat_lt v (2 ^ 64) ≡ true → P (simply (Var v ∷ []) (variable v ∷ []))
  pub of_integer : (i : ℤ) → is_proper (Int i) ≡ true → P (simply (Int i ∷ []) (integer_pieces i))
  pub of_atom : (a : List ℕ) → is_utf8 a ≡ true → P (atom ops a)
  pub of_canonical : (name : List ℕ) (ts : List Spelling) → is_utf8 name ≡ true → Each P ts → P (canonical name ts)
  pub of_braces : (t : Spelling) → P t → P (braces t)
  pub of_prefix : (name : List ℕ) (op : ℕ × Fix) (t : Spelling) → is_utf8 name ≡ true → look_up (ops.prefixes) name ≡ Some op → P t → P (prefix_term name (Some op) t)
  pub of_list : (t u : Spelling) → P t → P u → P (list_by (Func (codes ".") 2 ∷ t.cells ++ u.cells) (u.shape) ((within 999 t).pieces) u)
  pub of_infix : (name : List ℕ) (op : ℕ × Fix) (t u : Spelling) → is_utf8 name ≡ true → look_up (ops.infixes) name ≡ Some op → P t → P u → P (infix_term name (Some op) t u)

module _ (ops : Ops) (P : Spelling → Type 0) (h : Holds ops P) where
  prefix-holds : (name : List ℕ) (o : Option (ℕ × Fix)) (t : Spelling) → is_utf8 name ≡ true → look_up (ops.prefixes) name ≡ o → P t → P (prefix_term name o t)
  prefix-holds name None t proper e p = h.of_canonical name (t ∷ []) proper (one t [] p none)
  prefix-holds name (Some op) t proper e p = h.of_prefix name op t proper e p

  infix-holds : (name : List ℕ) (o : Option (ℕ × Fix)) (t u : Spelling) → is_utf8 name ≡ true → look_up (ops.infixes) name ≡ o → P t → P u → P (infix_term name o t u)
  infix-holds name None t u proper e p q = h.of_canonical name (t ∷ u ∷ []) proper (one t (u ∷ []) p (one u [] q none))
  infix-holds name (Some op) t u proper e p q = h.of_infix name op t u proper e p q

  compound-holds : (name : List ℕ) (ts : List Spelling) → is_utf8 name ≡ true → Each P ts → P (compound ops name ts)
  compound-holds name _ proper none = h.of_canonical name [] proper none
  compound-holds name _ proper (one t _ p none) =
      elim (bytes_eq name (codes "{}")) as (λ b. P (cond b (braces t) (prefix_term name (look_up (ops.prefixes) name) t))) [
        | true ↦ h.of_braces t p
        | false ↦ prefix-holds name (look_up (ops.prefixes) name) t proper refl p
      ]
  compound-holds name _ proper (one t _ p (one u _ q none)) =
      elim (bytes_eq name (codes ".")) as (λ b. P (cond b (list_by (Func (codes ".") 2 ∷ t.cells ++ u.cells) (u.shape) ((within 999 t).pieces) u) (infix_term name (look_up (ops.infixes) name) t u))) [
        | true ↦ h.of_list t u p q
        | false ↦ infix-holds name (look_up (ops.infixes) name) t u proper refl p q
      ]
  compound-holds name _ proper (one t _ p (one u _ q (one v ts r rs))) = h.of_canonical name (t ∷ u ∷ v ∷ ts) proper (one t (u ∷ v ∷ ts) p (one u (v ∷ ts) q (one v ts r rs)))

  pub each-holds : (cells : List Cell) → list_all is_proper cells ≡ true → list_all is_numbered cells ≡ true → Each P (spellings ops cells)
  each-holds [] p n = none
  each-holds (Var v ∷ cells) p n =
      let m = and_parts (is_numbered (Var v)) (list_all is_numbered cells) n in
      one _ _ (h.of_variable v (m.0)) (each-holds cells p (m.1))
  each-holds (Int i ∷ cells) p n =
      let q = and_parts (is_proper (Int i)) (list_all is_proper cells) p in
      one _ _ (h.of_integer i (q.0)) (each-holds cells (q.1) n)
  each-holds (Atom a ∷ cells) p n =
      let q = and_parts (is_proper (Atom a)) (list_all is_proper cells) p in
      one _ _ (h.of_atom a (q.0)) (each-holds cells (q.1) n)
  each-holds (Func name k ∷ cells) p n =
      let q = and_parts (is_proper (Func name k)) (list_all is_proper cells) p in
      let ts = spellings ops cells in
      let hs = each-holds cells (q.1) n in
      one (compound ops name (take k ts)) (drop k ts) (compound-holds name (take k ts) (q.0) (Each-take P k ts hs)) (Each-drop P k ts hs)

-- ---- the shape says what the pieces are

abbrev pub IsShapedBy : Spelling → Shape → Type 0
IsShapedBy t operator_atom = ⊤
IsShapedBy t empty_brackets = t.cells ≡ Atom (codes "[]") ∷ []
IsShapedBy t (elements es) = t.pieces ≡ sign 91 ∷ es ++ sign 93 ∷ []
IsShapedBy t (operation fix) = ⊤
IsShapedBy t simple = ⊤

abbrev pub IsShaped : Spelling → Type 0
IsShaped t = IsShapedBy t (t.shape)

atom-shaped : (a : List ℕ) (f g : Bool) → bytes_eq a (codes "[]") ≡ g →
    IsShaped (record { cells = Atom a ∷ []; pieces = atom_pieces a; priority = 0; shape = cond f operator_atom (cond g empty_brackets simple) })
atom-shaped a true g e = tt
atom-shaped a false true e = ap (λ n. Atom n ∷ []) ((bytes_eq-Decides a (codes "[]")).0 e)
atom-shaped a false false e = tt

list_by-shaped : (cells : List Cell) (s : Shape) (head : List Piece) (u : Spelling) → IsShaped (list_by cells s head u)
list_by-shaped cells operator_atom head u = refl
list_by-shaped cells empty_brackets head u = refl
list_by-shaped cells (elements es) head u = refl
list_by-shaped cells (operation fix) head u = refl
list_by-shaped cells simple head u = refl

pub shaped : (ops : Ops) → Holds ops IsShaped
shaped ops = record {
  of_variable = λ v h. tt;
  of_integer = λ i h. tt;
  of_atom = λ a h. atom-shaped a (is_operator ops a) (bytes_eq a (codes "[]")) refl;
  of_canonical = λ name ts h hs. tt;
  of_braces = λ t h. tt;
  of_prefix = λ name op t h e p. tt;
  of_list = λ t u p q. list_by-shaped (Func (codes ".") 2 ∷ t.cells ++ u.cells) (u.shape) ((within 999 t).pieces) u;
  of_infix = λ name op t u h e p q. tt;
}
