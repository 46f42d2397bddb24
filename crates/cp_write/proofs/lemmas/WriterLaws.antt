-- Steps of the writer: what is written and what is left to write are together what they were.
use Rattle.std.proofs.Common.{◌≡◌, ◌≢◌, ℕ, zero, suc, ◌+◌, ◌≤◌, Bool, true, false, List, [], ◌∷◌, ◌++◌, length, drop, refl, sym, ◌∙◌, ap, subst, arith}
use Rattle.std.specs.Prelude.{codes, sum_by, decimal, nat_lt, ℤ}
use Rattle.std.specs.Fmt.{signed_decimal}
use Rattle.std.specs.Borrow.{Bor}
use Rattle.std.proofs.lemmas.List.{drop-drop, length-drop}
use Rattle.std.proofs.lemmas.List.Sums.{sum_by-append}
use Rattle.std.proofs.lemmas.Bool.{false≢true, and_parts}
use Rattle.cp_char.specs.Characters.{is_symbol, first}
use Rattle.cp_term.specs.declared.cell.Cell.{Cell}
use Rattle.cp_term.specs.declared.cell.Cell.TheVariants.{Var, Int, Atom, Func}
use Rattle.cp_term.specs.Preorder.{arity_of, has_arity, is_arity, is_terms, terms_after}
use Rattle.cp_term.proofs.lemmas.PreorderLaws.{terms_after-arity}
use Rattle.cp_ops.specs.declared.fix.Fix.{Fix}
use Rattle.cp_ops.specs.Operators.{Ops, right_of}
use Rattle.cp_ops.specs.Text.{Style, Written, Form, operator_atom, no_elements, elements, operation, simple, within, operand, left_operand, beside, name_text, functor_text, before_terms, written, text_of}
use Rattle.cp_write.specs.declared.shape.Shape.{Shape}
use Rattle.cp_write.specs.declared.shape.Shape.TheVariants.{Leaf, OperatorAtom, NoElements, Element, Braces, Prefix, Infix, Canonical}
use Rattle.cp_write.specs.declared.place.Place.{Place}
use Rattle.cp_write.specs.declared.place.Place.TheVariants.{Nothing, Whole, Within, Operand, Left, Tail as TailPlace}
use Rattle.cp_write.specs.declared.frame.Frame.{Frame}
use Rattle.cp_write.specs.declared.frame.Frame.TheVariants.{Close, Operator, Arguments, Tail}
use Rattle.cp_write.specs.Writing.{placed, text_at, shape_of, tail_text_by, enclosed, priority_in, is_element, is_no_elements, Fits, first_term, tail_by, tail_text, further, Going, with_text, at_place, after, operator_put, resumed, finished, awaited_at, awaited_by, awaited, leaf_text, text_by, is_leaf, Continues, Reaches, Passes}
use Rattle.cp_write.proofs.lemmas.BesideLaws.{beside-plain, beside-none, beside-assoc, around, behind, operator-between}
use Rattle.cp_write.proofs.lemmas.ShapeLaws.{placed-IsShaped, cell-IsShaped, drop-before_terms}

pub resumed-push : (style : Style) (fs : List Frame) (f : Frame) (g : Going) → resumed style (fs ++ f ∷ []) g ≡ resumed style fs (after style f g)
resumed-push style [] f g = refl
resumed-push style (x ∷ fs) f g = ap (after style x) (resumed-push style fs f g)

pub awaited-push : (fs : List Frame) (f : Frame) → sum_by awaited_by (fs ++ f ∷ []) ≡ sum_by awaited_by fs + awaited_by f
awaited-push fs f = let e = sum_by-append awaited_by fs (f ∷ []) in omega (arith, e)

pub going : (a b : List ℕ) (ts us : List Written) → a ≡ b → ts ≡ us → ◌≡◌ {A = Going} (record { out = a; terms = ts }) (record { out = b; terms = us })
going a b ts us e f =
    ap (λ (x : List ℕ). let g : Going = record { out = x; terms = ts } in g) e
    ∙ ap (λ (x : List Written). let g : Going = record { out = b; terms = x } in g) f

module _ (style : Style) (k : ℕ) (text : List Written → List ℕ) (out : List ℕ) (frames : List Frame) where
  pub moved : (a x : List ℕ) (b y : List Frame) (c z : Place) → Continues style k text out frames a b c → x ≡ a → y ≡ b → z ≡ c → Continues style k text out frames x y z
  moved a x b y c z h ea eb ec =
      subst (λ z. Continues style k text out frames x y z) (sym ec)
      (subst (λ y. Continues style k text out frames x y c) (sym eb)
      (subst (λ x. Continues style k text out frames x b c) (sym ea) h))

  -- the same for a text that is the same
  pub same-text : (new : List Written → List ℕ) (a : List ℕ) (b : List Frame) (c : Place) → ((ts : List Written) → k ≤ length ts → new ts ≡ text ts) → Continues style k text out frames a b c → Continues style k new out frames a b c
  same-text new a b c e h = record {
    same = λ ts w. ap (λ x. resumed style frames (with_text (record { out = out; terms = ts }) x k)) (e ts w) ∙ h.same ts w;
    count = h.count;
    done = h.done;
  }

  -- one frame more, and a place
  pub expecting : (out1 : List ℕ) (f : Frame) (place : Place) → (place ≢ Nothing) → awaited_by f + awaited_at place ≡ k
      → ((ts : List Written) → k ≤ length ts → with_text (record { out = out; terms = ts }) (text ts) k ≡ after style f (at_place place (record { out = out1; terms = ts })))
      → (x : List ℕ) (y : List Frame) (z : Place) → x ≡ out1 → y ≡ frames ++ f ∷ [] → z ≡ place → Continues style k text out frames x y z
  expecting out1 f place some few step x y z ex ey ez =
      let push = awaited-push frames f in
      moved out1 x (frames ++ f ∷ []) y place z (record {
        same = λ ts w. ap (resumed style frames) (step ts w) ∙ sym (resumed-push style frames f (at_place place (record { out = out1; terms = ts })));
        count = omega (arith, push, few);
        done = λ e. absurd (some e);
      }) ex ey ez

-- ---- leaves

pub leaf-Continues : (style : Style) (text out out1 : List ℕ) (frames : List Frame) (a : List ℕ) (b : List Frame) (c : Place) → out1 ≡ beside out text
    → Continues style 0 (λ ts. []) out1 frames a b c → Continues style 0 (λ ts. text) out frames a b c
leaf-Continues style text out out1 frames a b c e h = record {
  same = λ ts w. ap (resumed style frames) (going (beside out text) (beside out1 []) ts ts (sym e ∙ sym (beside-none out1)) refl) ∙ h.same ts w;
  count = h.count;
  done = h.done;
}

pub leaf-text : (style : Style) (c : Cell) (s : Shape) (ts : List Written) → is_leaf s ≡ true → text_by style c s ts ≡ leaf_text style c
leaf-text style c Leaf ts h = refl
leaf-text style c OperatorAtom ts h = refl
leaf-text style c NoElements ts h = refl
leaf-text style c Element ts h = absurd (false≢true h)
leaf-text style c Braces ts h = absurd (false≢true h)
leaf-text style c (Prefix p fix) ts h = absurd (false≢true h)
leaf-text style c (Infix p fix) ts h = absurd (false≢true h)
leaf-text style c (Canonical k) ts h = absurd (false≢true h)

pub at-variable : (style : Style) (s : Shape) (c : Cell) (n : ℕ) (out out1 : List ℕ) (frames : List Frame) (a : List ℕ) (b : List Frame) (p : Place) → c ≡ Var n → Fits s c
    → out1 ≡ beside out (codes "_" ++ decimal n) → Continues style 0 (λ ts. []) out1 frames a b p → Continues style (arity_of c) (text_by style c s) out frames a b p
at-variable style s c n out out1 frames a b p e fits put h =
    let leaf : is_leaf s ≡ true = subst (λ x. Fits s x) e fits in
    subst (λ x. Continues style (arity_of x) (text_by style x s) out frames a b p) (sym e)
    (same-text style 0 (λ ts. codes "_" ++ decimal n) out frames (text_by style (Var n) s) a b p (λ ts w. leaf-text style (Var n) s ts leaf)
    (leaf-Continues style (codes "_" ++ decimal n) out out1 frames a b p put h))

pub at-integer : (style : Style) (s : Shape) (c : Cell) (i : ℤ) (out out1 : List ℕ) (frames : List Frame) (a : List ℕ) (b : List Frame) (p : Place) → c ≡ Int i → Fits s c
    → out1 ≡ beside out (signed_decimal i) → Continues style 0 (λ ts. []) out1 frames a b p → Continues style (arity_of c) (text_by style c s) out frames a b p
at-integer style s c i out out1 frames a b p e fits put h =
    let leaf : is_leaf s ≡ true = subst (λ x. Fits s x) e fits in
    subst (λ x. Continues style (arity_of x) (text_by style x s) out frames a b p) (sym e)
    (same-text style 0 (λ ts. signed_decimal i) out frames (text_by style (Int i) s) a b p (λ ts w. leaf-text style (Int i) s ts leaf)
    (leaf-Continues style (signed_decimal i) out out1 frames a b p put h))

pub at-atom : (style : Style) (s : Shape) (c : Cell) (name token : List ℕ) (out out1 : List ℕ) (frames : List Frame) (a : List ℕ) (b : List Frame) (p : Place) → c ≡ Atom name → token ≡ name → Fits s c
    → out1 ≡ beside out (name_text style token) → Continues style 0 (λ ts. []) out1 frames a b p → Continues style (arity_of c) (text_by style c s) out frames a b p
at-atom style s c name token out out1 frames a b p e t fits put h =
    let leaf : is_leaf s ≡ true = subst (λ x. Fits s x) e fits in
    subst (λ x. Continues style (arity_of x) (text_by style x s) out frames a b p) (sym e)
    (same-text style 0 (λ ts. name_text style name) out frames (text_by style (Atom name) s) a b p (λ ts w. leaf-text style (Atom name) s ts leaf)
    (leaf-Continues style (name_text style name) out out1 frames a b p (put ∙ ap (λ x. beside out (name_text style x)) t) h))

-- ---- brackets

pub bracketed-Continues : (style : Style) (k : ℕ) (text : List Written → List ℕ) (out out1 : List ℕ) (frames frames1 : List Frame) (o e : ℕ) (a : List ℕ) (b : List Frame) (c : Place)
    → is_symbol o ≡ false → is_symbol e ≡ false → out1 ≡ beside out (o ∷ []) → frames1 ≡ frames ++ Close e ∷ []
    → Continues style k text out1 frames1 a b c → Continues style k (λ ts. o ∷ (text ts ++ e ∷ [])) out frames a b c
bracketed-Continues style k text out out1 frames frames1 o e a b c ho he eo ef h =
    let inner : Continues style k text (beside out (o ∷ [])) (frames ++ Close e ∷ []) a b c =
    subst (λ y. Continues style k text (beside out (o ∷ [])) y a b c) ef (subst (λ x. Continues style k text x frames1 a b c) eo h) in
    let push = awaited-push frames (Close e) in
    let count = inner.count in
    record {
      same = λ ts w. ap (resumed style frames) (going (beside out (o ∷ (text ts ++ e ∷ []))) (beside (beside (beside out (o ∷ [])) (text ts)) (e ∷ [])) (drop k ts) (drop k ts) (sym (behind out o (text ts) (e ∷ []) ho he)) refl)
          ∙ (sym (resumed-push style frames (Close e) (with_text (record { out = beside out (o ∷ []); terms = ts }) (text ts) k)) ∙ inner.same ts w);
      count = omega (arith, push, count);
      done = inner.done;
    }

-- ---- compounds

tail_by-begins : (f : Form) (t : Written) → is_symbol (first (tail_by f t)) ≡ false
tail_by-begins no_elements t = refl
tail_by-begins (elements es) t = refl
tail_by-begins operator_atom t = refl
tail_by-begins (operation fix) t = refl
tail_by-begins simple t = refl

further-begins : (k : ℕ) (ts : List Written) → is_symbol (first (further k ts)) ≡ false
further-begins zero ts = refl
further-begins (suc k) ts = refl

next : {T : Type 0} (k : ℕ) (ts : List T) → drop (suc k) ts ≡ drop k (drop 1 ts)
next k ts = let e : suc k ≡ 1 + k = omega arith in ap (λ n. drop n ts) e ∙ sym (drop-drop k 1 ts)

no_place : (max : ℕ) → Within max ≢ Nothing
no_place max e = cc

no_left : (p : ℕ) (fix : Fix) → Left p fix ≢ Nothing
no_left p fix e = cc

pub no_operand : (max : ℕ) → Operand max ≢ Nothing
no_operand max e = cc

pub no_tail : TailPlace ≢ Nothing
no_tail e = cc

-- an element of a list behind a bracket or a comma
pub element-Continues : (style : Style) (o : ℕ) (out : List ℕ) (frames : List Frame) (x : List ℕ) (y : List Frame) (z : Place)
    → is_symbol o ≡ false → x ≡ beside out (o ∷ []) → y ≡ frames ++ Tail ∷ [] → z ≡ Within 999
    → Continues style 2 (λ ts. o ∷ (within 999 (first_term ts) ++ tail_text (first_term (drop 1 ts)))) out frames x y z
element-Continues style o out frames x y z ho ex ey ez =
    expecting style 2 (λ ts. o ∷ (within 999 (first_term ts) ++ tail_text (first_term (drop 1 ts)))) out frames (beside out (o ∷ [])) Tail (Within 999) (no_place 999) refl
    (λ ts w. going _ _ (drop 2 ts) (drop 1 (drop 1 ts))
    (sym (behind out o (within 999 (first_term ts)) (tail_text (first_term (drop 1 ts))) ho (tail_by-begins (first_term (drop 1 ts)).form (first_term (drop 1 ts))))) (sym (drop-drop 1 1 ts)))
    x y z ex ey ez

pub braces-Continues : (style : Style) (name out : List ℕ) (frames : List Frame) (x : List ℕ) (y : List Frame) (z : Place)
    → x ≡ beside out (codes "{") → y ≡ frames ++ Close 125 ∷ [] → z ≡ Within 1200 → Continues style 1 (text_by style (Func name 1) Braces) out frames x y z
braces-Continues style name out frames x y z ex ey ez =
    expecting style 1 (text_by style (Func name 1) Braces) out frames (beside out (codes "{")) (Close 125) (Within 1200) (no_place 1200) refl
    (λ ts w. going _ _ (drop 1 ts) (drop 1 ts) (sym (behind out 123 (within 1200 (first_term ts)) (125 ∷ []) refl refl)) refl)
    x y z ex ey ez

pub infix-Continues : (style : Style) (name : Bor (List ℕ)) (p : ℕ) (fix : Fix) (out : List ℕ) (frames : List Frame) (x : List ℕ) (y : List Frame) (z : Place)
    → x ≡ out → y ≡ frames ++ Operator name p fix ∷ [] → z ≡ Left p fix → Continues style 2 (text_by style (Func name.now 2) (Infix p fix)) out frames x y z
infix-Continues style name p fix out frames x y z ex ey ez =
    expecting style 2 (text_by style (Func name.now 2) (Infix p fix)) out frames out (Operator name p fix) (Left p fix) (no_left p fix) refl
    (λ ts w. going _ _ (drop 2 ts) (drop 1 (drop 1 ts))
    (sym (operator-between style name.now out (left_operand p fix (first_term ts)) (operand (right_of p fix) (first_term (drop 1 ts))))) (sym (drop-drop 1 1 ts)))
    x y z ex ey ez

pub canonical-Continues : (style : Style) (name : List ℕ) (k : ℕ) (out : List ℕ) (frames : List Frame) (x : List ℕ) (y : List Frame) (z : Place)
    → x ≡ beside (beside out (functor_text style name)) (codes "(") → y ≡ frames ++ Arguments k ∷ [] → z ≡ Within 999
    → Continues style (suc k) (text_by style (Func name (suc k)) (Canonical (suc k))) out frames x y z
canonical-Continues style name k out frames x y z ex ey ez =
    let own = functor_text style name in
    let few : awaited_by (Arguments k) + awaited_at (Within 999) ≡ suc k = omega arith in
    expecting style (suc k) (text_by style (Func name (suc k)) (Canonical (suc k))) out frames (beside (beside out own) (codes "(")) (Arguments k) (Within 999) (no_place 999) few
    (λ ts w. let rest = further k (drop 1 ts) in let head = within 999 (first_term ts) in
    going _ _ (drop (suc k) ts) (drop k (drop 1 ts))
    (sym (behind (beside out own) 40 head rest refl (further-begins k (drop 1 ts)) ∙ (beside-assoc out own (40 ∷ (head ++ rest)) ∙ ap (beside out) (beside-plain own (40 ∷ (head ++ rest)) refl)))) (next k ts))
    x y z ex ey ez

pub prefix-Continues : (style : Style) (name : List ℕ) (p : ℕ) (fix : Fix) (out : List ℕ) (frames : List Frame) (x : List ℕ) (y : List Frame) (z : Place)
    → x ≡ beside (beside out (name_text style name)) (codes " ") → y ≡ frames → z ≡ Operand (right_of p fix)
    → Continues style 1 (text_by style (Func name 1) (Prefix p fix)) out frames x y z
prefix-Continues style name p fix out frames x y z ex ey ez =
    let text = text_by style (Func name 1) (Prefix p fix) in
    moved style 1 text out frames (beside (beside out (name_text style name)) (codes " ")) x frames y (Operand (right_of p fix)) z (record {
      same = λ ts w. ap (resumed style frames) (going _ _ (drop 1 ts) (drop 1 ts) (sym (around out (name_text style name) 32 (operand (right_of p fix) (first_term ts)) refl)) refl);
      count = refl;
      done = λ e. absurd (no_operand (right_of p fix) e);
    }) ex ey ez

-- ---- behind an element

element-shape : (s : Shape) → is_element s ≡ true → s ≡ Element
element-shape Element h = refl
element-shape Leaf h = absurd (false≢true h)
element-shape OperatorAtom h = absurd (false≢true h)
element-shape NoElements h = absurd (false≢true h)
element-shape Braces h = absurd (false≢true h)
element-shape (Prefix p fix) h = absurd (false≢true h)
element-shape (Infix p fix) h = absurd (false≢true h)
element-shape (Canonical k) h = absurd (false≢true h)

no_elements-shape : (s : Shape) → is_no_elements s ≡ true → s ≡ NoElements
no_elements-shape NoElements h = refl
no_elements-shape Leaf h = absurd (false≢true h)
no_elements-shape OperatorAtom h = absurd (false≢true h)
no_elements-shape Element h = absurd (false≢true h)
no_elements-shape Braces h = absurd (false≢true h)
no_elements-shape (Prefix p fix) h = absurd (false≢true h)
no_elements-shape (Infix p fix) h = absurd (false≢true h)
no_elements-shape (Canonical k) h = absurd (false≢true h)

other-tail : (style : Style) (c : Cell) (s : Shape) (ts : List Written) → is_element s ≡ false → is_no_elements s ≡ false
    → tail_text_by style c s ts ≡ 124 ∷ (enclosed (nat_lt 999 (priority_in s)) (text_by style c s ts) ++ 93 ∷ [])
other-tail style c Element ts h k = absurd (false≢true (sym h))
other-tail style c NoElements ts h k = absurd (false≢true (sym k))
other-tail style c Leaf ts h k = refl
other-tail style c OperatorAtom ts h k = refl
other-tail style c Braces ts h k = refl
other-tail style c (Prefix p fix) ts h k = refl
other-tail style c (Infix p fix) ts h k = refl
other-tail style c (Canonical k) ts h j = refl

two : (c : Cell) → Fits Element c → arity_of c ≡ 2
two (Var n) fits = absurd (false≢true fits)
two (Int i) fits = absurd (false≢true fits)
two (Atom name) fits = absurd (false≢true fits)
two (Func name k) fits = sym fits.0

none : (c : Cell) → Fits NoElements c → arity_of c ≡ 0
none (Var n) fits = refl
none (Int i) fits = refl
none (Atom name) fits = refl
none (Func name k) fits = sym fits.0

pub tail-element : (style : Style) (c : Cell) (s : Shape) (out : List ℕ) (frames : List Frame) (x : List ℕ) (y : List Frame) (z : Place) → is_element s ≡ true → Fits s c
    → x ≡ beside out (codes ",") → y ≡ frames ++ Tail ∷ [] → z ≡ Within 999 → Continues style (arity_of c) (tail_text_by style c s) out frames x y z
tail-element style c s out frames x y z h fits ex ey ez =
    let e = element-shape s h in
    subst (λ t. Continues style (arity_of c) (tail_text_by style c t) out frames x y z) (sym e)
    (subst (λ k. Continues style k (tail_text_by style c Element) out frames x y z) (sym (two c (subst (λ t. Fits t c) e fits)))
    (element-Continues style 44 out frames x y z refl ex ey ez))

pub tail-end : (style : Style) (c : Cell) (s : Shape) (out out1 : List ℕ) (frames : List Frame) (a : List ℕ) (b : List Frame) (p : Place) → is_no_elements s ≡ true → Fits s c
    → out1 ≡ beside out (codes "]") → Continues style 0 (λ ts. []) out1 frames a b p → Continues style (arity_of c) (tail_text_by style c s) out frames a b p
tail-end style c s out out1 frames a b p h fits put settled =
    let e = no_elements-shape s h in
    subst (λ t. Continues style (arity_of c) (tail_text_by style c t) out frames a b p) (sym e)
    (subst (λ k. Continues style k (tail_text_by style c NoElements) out frames a b p) (sym (none c (subst (λ t. Fits t c) e fits)))
    (leaf-Continues style (codes "]") out out1 frames a b p put settled))

pub tail-other : (style : Style) (c : Cell) (s : Shape) (t : Bool) (out out1 : List ℕ) (frames frames1 : List Frame) (a : List ℕ) (b : List Frame) (p : Place)
    → is_element s ≡ false → is_no_elements s ≡ false → t ≡ nat_lt 999 (priority_in s)
    → out1 ≡ beside out (codes "|") → frames1 ≡ frames ++ Close 93 ∷ []
    → Continues style (arity_of c) (λ ts. enclosed t (text_by style c s ts)) out1 frames1 a b p
    → Continues style (arity_of c) (tail_text_by style c s) out frames a b p
tail-other style c s t out out1 frames frames1 a b p h k e put push inner =
    same-text style (arity_of c) (λ ts. 124 ∷ (enclosed t (text_by style c s ts) ++ 93 ∷ [])) out frames (tail_text_by style c s) a b p
    (λ ts w. other-tail style c s ts h k ∙ ap (λ x. 124 ∷ (enclosed x (text_by style c s ts) ++ 93 ∷ [])) (sym e))
    (bracketed-Continues style (arity_of c) (λ ts. enclosed t (text_by style c s ts)) out out1 frames frames1 124 93 a b p refl refl put push inner)

-- ---- frames

pub close-Passes : (style : Style) (b : ℕ) (out : List ℕ) (frames : List Frame) (x : List ℕ) (y : List Frame) → x ≡ beside out (b ∷ []) → y ≡ frames → Passes style (Close b) out frames x y
close-Passes style b out frames x y ex ey = record { same = λ ts. going _ _ ts ts (sym ex) refl; kept = ey; count = refl }

pub last-Passes : (style : Style) (out : List ℕ) (frames : List Frame) (x : List ℕ) (y : List Frame) → x ≡ beside out (codes ")") → y ≡ frames → Passes style (Arguments 0) out frames x y
last-Passes style out frames x y ex ey = record { same = λ ts. going _ _ ts ts (sym ex) refl; kept = ey; count = refl }

reached : (style : Style) (f : Frame) (out : List ℕ) (frames : List Frame) (a x : List ℕ) (b y : List Frame) (c z : Place) → Reaches style f out frames a b c → x ≡ a → y ≡ b → z ≡ c → Reaches style f out frames x y z
reached style f out frames a x b y c z h ea eb ec =
    subst (λ z. Reaches style f out frames x y z) (sym ec)
    (subst (λ y. Reaches style f out frames x y c) (sym eb)
    (subst (λ x. Reaches style f out frames x b c) (sym ea) h))

pub operator-Reaches : (style : Style) (name : Bor (List ℕ)) (p : ℕ) (fix : Fix) (out : List ℕ) (frames : List Frame) (x : List ℕ) (y : List Frame) (z : Place)
    → x ≡ operator_put style name.now out → y ≡ frames → z ≡ Operand (right_of p fix) → Reaches style (Operator name p fix) out frames x y z
operator-Reaches style name p fix out frames x y z ex ey ez =
    reached style (Operator name p fix) out frames (operator_put style name.now out) x frames y (Operand (right_of p fix)) z
    (record { same = λ ts. refl; count = refl; place = no_operand (right_of p fix) }) ex ey ez

pub tail-Reaches : (style : Style) (out : List ℕ) (frames : List Frame) (x : List ℕ) (y : List Frame) (z : Place) → x ≡ out → y ≡ frames → z ≡ TailPlace → Reaches style Tail out frames x y z
tail-Reaches style out frames x y z ex ey ez =
    reached style Tail out frames out x frames y TailPlace z (record { same = λ ts. refl; count = refl; place = no_tail }) ex ey ez

pub argument-Reaches : (style : Style) (k : ℕ) (out : List ℕ) (frames : List Frame) (x : List ℕ) (y : List Frame) (z : Place)
    → x ≡ beside out (codes ",") → y ≡ frames ++ Arguments k ∷ [] → z ≡ Within 999 → Reaches style (Arguments (suc k)) out frames x y z
argument-Reaches style k out frames x y z ex ey ez =
    let push = awaited-push frames (Arguments k) in
    reached style (Arguments (suc k)) out frames (beside out (codes ",")) x (frames ++ Arguments k ∷ []) y (Within 999) z
    (record {
      same = λ ts. ap (resumed style frames) (going _ _ (drop (suc k) ts) (drop k (drop 1 ts)) (sym (behind out 44 (within 999 (first_term ts)) (further k (drop 1 ts)) refl (further-begins k (drop 1 ts)))) (next k ts))
          ∙ sym (resumed-push style frames (Arguments k) (at_place (Within 999) (record { out = beside out (codes ","); terms = ts })));
      count = omega (arith, push);
      place = no_place 999;
    }) ex ey ez

-- ---- what stands behind a finished term

pub reached-Continues : (style : Style) (f : Frame) (out0 : List ℕ) (frames0 : List Frame) (out : List ℕ) (frames popped : List Frame) (a : List ℕ) (b : List Frame) (p : Place)
    → ((ts : List Written) → resumed style frames (record { out = out; terms = ts }) ≡ resumed style frames0 (record { out = out0; terms = ts }))
    → sum_by awaited_by frames ≡ sum_by awaited_by frames0 → frames ≡ popped ++ f ∷ [] → Reaches style f out popped a b p → Continues style 0 (λ ts. []) out0 frames0 a b p
reached-Continues style f out0 frames0 out frames popped a b p same count pop h =
    let push = awaited-push popped f in
    let all : sum_by awaited_by frames ≡ sum_by awaited_by (popped ++ f ∷ []) = ap (sum_by awaited_by) pop in
    let reached = h.count in
    record {
      same = λ ts w. ap (resumed style frames0) (going (beside out0 []) out0 ts ts (beside-none out0) refl)
          ∙ (sym (same ts) ∙ (ap (λ fs. resumed style fs (record { out = out; terms = ts })) pop
          ∙ (resumed-push style popped f (record { out = out; terms = ts }) ∙ h.same ts)));
      count = omega (arith, push, all, count, reached);
      done = λ e. absurd (h.place e);
    }

pub passed-same : (style : Style) (f : Frame) (out0 : List ℕ) (frames0 : List Frame) (out : List ℕ) (frames popped : List Frame) (a : List ℕ) (b : List Frame)
    → ((ts : List Written) → resumed style frames (record { out = out; terms = ts }) ≡ resumed style frames0 (record { out = out0; terms = ts }))
    → frames ≡ popped ++ f ∷ [] → Passes style f out popped a b → (ts : List Written) → resumed style b (record { out = a; terms = ts }) ≡ resumed style frames0 (record { out = out0; terms = ts })
passed-same style f out0 frames0 out frames popped a b same pop h ts =
    ap (λ fs. resumed style fs (record { out = a; terms = ts })) h.kept
    ∙ (ap (resumed style popped) (sym (h.same ts))
    ∙ (sym (resumed-push style popped f (record { out = out; terms = ts }))
    ∙ (ap (λ fs. resumed style fs (record { out = out; terms = ts })) (sym pop) ∙ same ts)))

pub passed-count : (style : Style) (f : Frame) (frames0 : List Frame) (out : List ℕ) (frames popped : List Frame) (a : List ℕ) (b : List Frame)
    → sum_by awaited_by frames ≡ sum_by awaited_by frames0 → frames ≡ popped ++ f ∷ [] → Passes style f out popped a b → sum_by awaited_by b ≡ sum_by awaited_by frames0
passed-count style f frames0 out frames popped a b count pop h =
    let push = awaited-push popped f in
    let all : sum_by awaited_by frames ≡ sum_by awaited_by (popped ++ f ∷ []) = ap (sum_by awaited_by) pop in
    let kept : sum_by awaited_by b ≡ sum_by awaited_by popped = ap (sum_by awaited_by) h.kept in
    let zero_count = h.count in
    omega (arith, push, all, count, kept, zero_count)

-- ---- the whole

pub length-written : (style : Style) (ops : Ops) (n : ℕ) (cells : List Cell) → is_terms n cells ≡ true → length (written style ops cells) ≡ n
length-written style ops zero [] h = refl
length-written style ops zero (c ∷ cells) h = absurd (false≢true h)
length-written style ops (suc n) [] h = absurd (false≢true h)
length-written style ops (suc n) (Var v ∷ cells) h = ap suc (length-written style ops n cells h)
length-written style ops (suc n) (Int i ∷ cells) h = ap suc (length-written style ops n cells h)
length-written style ops (suc n) (Atom name ∷ cells) h = ap suc (length-written style ops n cells h)
length-written style ops (suc n) (Func name k ∷ cells) h =
    let rest : length (written style ops cells) ≡ k + n = length-written style ops (k + n) cells (and_parts (is_arity k) (is_terms (k + n) cells) h).1 in
    let cut = length-drop k (written style ops cells) in
    let e : length (drop k (written style ops cells)) ≡ n = omega (arith, rest, cut) in
    ap suc e

at_place-is : (place : Place) (g : Going) → (place ≢ Nothing) → at_place place g ≡ with_text g (placed place (first_term g.terms)) 1
at_place-is Nothing g h = absurd (h refl)
at_place-is Whole g h = refl
at_place-is TailPlace g h = refl
at_place-is (Within max) g h = refl
at_place-is (Operand max) g h = refl
at_place-is (Left p fix) g h = refl

pub step-same : (style : Style) (ops : Ops) (c : Cell) (cells : List Cell) (out : List ℕ) (frames : List Frame) (place : Place) (a : List ℕ) (b : List Frame) (p : Place)
    → (place ≢ Nothing) → arity_of c ≤ length (written style ops cells) → Continues style (arity_of c) (text_at style c (shape_of ops c) place) out frames a b p
    → finished style a b p (written style ops cells) ≡ finished style out frames place (written style ops (c ∷ cells))
step-same style ops c cells out frames place a b p some enough h =
    let ts = written style ops cells in
    let terms = before_terms style ops c ts in
    sym (ap (resumed style frames) (at_place-is place (record { out = out; terms = terms }) some
    ∙ going (beside out (placed place (first_term terms))) (beside out (text_at style c (shape_of ops c) place ts)) (drop 1 terms) (drop (arity_of c) ts)
    (ap (beside out) (placed-IsShaped style c (shape_of ops c) ts (first_term terms) place (cell-IsShaped style ops c ts enough))) (drop-before_terms style ops c ts))
    ∙ h.same ts enough)

awaited-some : (frames : List Frame) (place : Place) → (place ≢ Nothing) → awaited frames place ≡ sum_by awaited_by frames + 1
awaited-some frames Nothing h = absurd (h refl)
awaited-some frames Whole h = refl
awaited-some frames TailPlace h = refl
awaited-some frames (Within max) h = refl
awaited-some frames (Operand max) h = refl
awaited-some frames (Left p fix) h = refl

-- one cell of terms that are awaited
after_cell : (n : ℕ) (c : Cell) (cells : List Cell) → is_terms n (c ∷ cells) ≡ true → (has_arity c ≡ true) × ((m : ℕ) → n ≡ m + 1 → is_terms (m + arity_of c) cells ≡ true)
after_cell zero c cells h = absurd (false≢true h)
after_cell (suc n) c cells h =
    let parts = and_parts (has_arity c) (is_terms (terms_after c n) cells) h in
    (parts.0, λ m e. let same : m ≡ n = omega (arith, e) in subst (λ k. is_terms k cells ≡ true) (terms_after-arity c n ∙ ap (λ k. k + arity_of c) (sym same)) parts.1)

pub cell-arity : (n : ℕ) (c : Cell) (cells : List Cell) → is_terms n (c ∷ cells) ≡ true → has_arity c ≡ true
cell-arity n c cells h = (after_cell n c cells h).0

pub step-count : (style : Style) (text : List Written → List ℕ) (c : Cell) (cells : List Cell) (out : List ℕ) (frames : List Frame) (place : Place) (a : List ℕ) (b : List Frame) (p : Place)
    → (place ≢ Nothing) → is_terms (awaited frames place) (c ∷ cells) ≡ true → Continues style (arity_of c) text out frames a b p → is_terms (awaited b p) cells ≡ true
step-count style text c cells out frames place a b p some h go =
    subst (λ n. is_terms n cells ≡ true) (sym go.count) ((after_cell (awaited frames place) c cells h).1 (sum_by awaited_by frames) (awaited-some frames place some))

-- enough terms follow the cell
pub enough-terms : (style : Style) (ops : Ops) (n : ℕ) (c : Cell) (cells : List Cell) → is_terms n (c ∷ cells) ≡ true → arity_of c ≤ length (written style ops cells)
enough-terms style ops zero c cells h = absurd (false≢true h)
enough-terms style ops (suc n) c cells h =
    let parts = and_parts (has_arity c) (is_terms (terms_after c n) cells) h in
    let len = length-written style ops (terms_after c n) cells parts.1 in
    let e = terms_after-arity c n in
    omega (arith, len, e)

no_terms : (n : ℕ) → is_terms n [] ≡ true → n ≡ 0
no_terms zero h = refl
no_terms (suc n) h = absurd (false≢true h)

-- a place is left where a cell is
pub place-left : (frames : List Frame) (place : Place) (c : Cell) (cells : List Cell) → is_terms (awaited frames place) (c ∷ cells) ≡ true → (place ≡ Nothing → frames ≡ []) → place ≢ Nothing
place-left frames place c cells h done e =
    let none : awaited frames place ≡ 0 = ap (λ p. awaited frames p) e ∙ ap (λ fs. awaited fs Nothing) (done e) in
    false≢true (subst (λ n. is_terms n (c ∷ cells) ≡ true) none h)

whole-out : (style : Style) (out : List ℕ) (frames : List Frame) (place : Place) (w : Going) → awaited frames place ≡ 0 → (place ≡ Nothing → frames ≡ []) → finished style out frames place [] ≡ w → out ≡ w.out
whole-out style out frames Nothing w n done e =
    ap (λ (g : Going). g.out) (sym (ap (λ fs. resumed style fs (record { out = out; terms = [] })) (done refl)) ∙ e)
whole-out style out frames Whole w n done e = absurd (omega (arith, n))
whole-out style out frames TailPlace w n done e = absurd (omega (arith, n))
whole-out style out frames (Within max) w n done e = absurd (omega (arith, n))
whole-out style out frames (Operand max) w n done e = absurd (omega (arith, n))
whole-out style out frames (Left p fix) w n done e = absurd (omega (arith, n))

pub all-written : (style : Style) (ops : Ops) (cells : List Cell) (out : List ℕ) (frames : List Frame) (place : Place) → is_terms (awaited frames place) [] ≡ true → (place ≡ Nothing → frames ≡ [])
    → finished style out frames place [] ≡ finished style [] [] Whole (written style ops cells) → out ≡ text_of style ops cells
all-written style ops cells out frames place h done e = whole-out style out frames place _ (no_terms (awaited frames place) h) done e
