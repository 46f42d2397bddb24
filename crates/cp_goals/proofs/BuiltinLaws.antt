-- How a builtin ends depends on the instances of its arguments alone.
use Rattle.std.proofs.Common.{◌≡◌, ℕ, zero, suc, ◌+◌, not, List, [], ◌∷◌, ◌++◌, map, length, refl, sym, ◌∙◌, ap}
use Rattle.std.specs.Prelude.{Option, Some, None, is_some, Result, Ok, Err, ℤ, pos, negsuc, codes, nat_lt, slice_get, if◌then◌else◌}
use Rattle.std.specs.Str.{encode_utf8_all}
use Rattle.std.specs.declared.cmp.Ordering.{Ordering}
use Rattle.cp_term.specs.declared.cell.Cell.{Cell}
use Rattle.cp_term.specs.declared.cell.Cell.TheVariants.{Var, Int, Atom, Func}
use Rattle.cp_term.specs.Preorder.{arguments}
use Rattle.cp_term.specs.Numbering.{fresh, canon, variables}
use Rattle.cp_term.specs.Order.{term_cmp}
use Rattle.cp_term.specs.Substitution.{Substitution, apply}
use Rattle.cp_term.specs.Unification.{unify}
use Rattle.cp_term.proofs.lemmas.SubstitutionLaws.{apply-append}
use Rattle.cp_heap.proofs.UnifyLaws.{unify-instances}
use Rattle.cp_goal.specs.declared.builtin.Builtin.{Builtin}
use Rattle.cp_goal.specs.declared.builtin.Builtin.TheVariants.{Is, Unify, NotUnify, InOrder, Compare, Functor, Argument, Univ, CopyTerm, AtomCodes, NumberCodes, AtomLength, Evaluate, InValue}
use Rattle.cp_goal.specs.Builtins.{Raises, by, where_true, passes, holds, related, evaluated, is_order, order_word, compared, made_term, with_made, made_functor, functor_row, argument_if, argument_at, argument_of, argument_row, univ_term, or_raises, univ_by, univ_row, copied, atom_made, atom_codes_row, number_text, number_made, number_codes_row, atom_length_row, one_argument, two_arguments, three_arguments, builtin}
use Rattle.cp_goal.specs.Errors.{domain_error, resource_error, word}
use Rattle.cp_goal.specs.Evaluation.{Value, value}
use Rattle.cp_goal.specs.Lists.{Spine, Proper, spine, text_in, number_of}
use Rattle.cp_builtin.specs.Ends.{end_of_goal}

same-by : (a a2 b b2 : List Cell) (s : Substitution) (n : ℕ) → apply s a ≡ apply s a2 → apply s b ≡ apply s b2 → by (unify s a b) n ≡ by (unify s a2 b2) n
same-by a a2 b b2 s n e f = ap (λ o. by o n) (unify-instances a a2 b b2 s e f)

same-left : (a a2 b : List Cell) (s : Substitution) (n : ℕ) → apply s a ≡ apply s a2 → by (unify s a b) n ≡ by (unify s a2 b) n
same-left a a2 b s n e = same-by a a2 b b s n e refl

-- ---- terms and their parts

same-compared : (t : List Cell) (order : Ordering) (o o2 : List Cell) (s : Substitution) (n : ℕ) → apply s o ≡ apply s o2 → compared t order o s n ≡ compared t order o2 s n
same-compared (Var v ∷ cells) order o o2 s n e = same-left o o2 (word (order_word order)) s n e
same-compared (Atom a ∷ cells) order o o2 s n e =
    ap (λ r. if is_order a then r else Raises (domain_error (codes "order") (word a))) (same-left o o2 (word (order_word order)) s n e)
same-compared t order o o2 s n e = refl

same-made : (r : Result (List Cell) (List Cell)) (t t2 : List Cell) (k : ℕ) (s : Substitution) (n : ℕ) → apply s t ≡ apply s t2 → with_made r t k s n ≡ with_made r t2 k s n
same-made (Ok made) t t2 k s n e = same-left t t2 made s (n + k) e
same-made (Err kind) t t2 k s n e = refl

same-made_functor : (name arity t t2 : List Cell) (s : Substitution) (n : ℕ) → apply s t ≡ apply s t2 → made_functor name arity t s n ≡ made_functor name arity t2 s n
same-made_functor (Var v ∷ cells) arity t t2 s n e = refl
same-made_functor name (Int (pos k) ∷ cells) t t2 s n e =
    ap (λ r. if nat_lt 255 k then Raises (resource_error (codes "arity")) else r) (same-made (made_term name k n) t t2 k s n e)
same-made_functor name arity t t2 s n e = refl

same-appended : (a a2 b b2 : List Cell) (s : Substitution) → apply s a ≡ apply s a2 → apply s b ≡ apply s b2 → apply s (a ++ b) ≡ apply s (a2 ++ b2)
same-appended a a2 b b2 s e f = apply-append s a b ∙ ap (λ x. x ++ apply s b) e ∙ ap (λ x. apply s a2 ++ x) f ∙ sym (apply-append s a2 b2)

same-functor : (x t t2 name name2 arity arity2 : List Cell) (s : Substitution) (n : ℕ) → apply s t ≡ apply s t2 → apply s name ≡ apply s name2 → apply s arity ≡ apply s arity2
    → functor_row x t name arity s n ≡ functor_row x t2 name2 arity2 s n
same-functor (Func f k ∷ cells) t t2 name name2 arity arity2 s n e f2 g = same-left (name ++ arity) (name2 ++ arity2) _ s n (same-appended name name2 arity arity2 s f2 g)
same-functor (Int i ∷ cells) t t2 name name2 arity arity2 s n e f2 g = same-left (name ++ arity) (name2 ++ arity2) _ s n (same-appended name name2 arity arity2 s f2 g)
same-functor (Atom a ∷ cells) t t2 name name2 arity arity2 s n e f2 g = same-left (name ++ arity) (name2 ++ arity2) _ s n (same-appended name name2 arity arity2 s f2 g)
same-functor x t t2 name name2 arity arity2 s n e f2 g =
    ap (λ u. made_functor u (apply s arity) t s n) f2 ∙ ap (λ u. made_functor (apply s name2) u t s n) g ∙ same-made_functor (apply s name2) (apply s arity2) t t2 s n e

same-argument_if : (o : Option (List Cell)) (x x2 : List Cell) (s : Substitution) (n : ℕ) → apply s x ≡ apply s x2 → argument_if o x s n ≡ argument_if o x2 s n
same-argument_if (Some a) x x2 s n e = same-left x x2 a s n e
same-argument_if None x x2 s n e = refl

same-argument_at : (i : ℤ) (t x x2 : List Cell) (s : Substitution) (n : ℕ) → apply s x ≡ apply s x2 → argument_at i t x s n ≡ argument_at i t x2 s n
same-argument_at (negsuc k) t x x2 s n e = refl
same-argument_at (pos zero) t x x2 s n e = refl
same-argument_at (pos (suc k)) t x x2 s n e = same-argument_if (slice_get (arguments t) k) x x2 s n e

same-argument_of : (i : ℤ) (t x x2 : List Cell) (s : Substitution) (n : ℕ) → apply s x ≡ apply s x2 → argument_of i t x s n ≡ argument_of i t x2 s n
same-argument_of i (Func f k ∷ cells) x x2 s n e = same-argument_at i (Func f k ∷ cells) x x2 s n e
same-argument_of i t x x2 s n e = refl

same-argument : (index t x x2 : List Cell) (s : Substitution) (n : ℕ) → apply s x ≡ apply s x2 → argument_row index t x s n ≡ argument_row index t x2 s n
same-argument (Int i ∷ cells) t x x2 s n e = same-argument_of i t x x2 s n e
same-argument index t x x2 s n e = refl

same-or_raises : (r : Result (List Cell) (List Cell)) (t t2 : List Cell) (s : Substitution) (n : ℕ) → apply s t ≡ apply s t2 → or_raises r t s n ≡ or_raises r t2 s n
same-or_raises (Ok made) t t2 s n e = same-left t t2 made s n e
same-or_raises (Err kind) t t2 s n e = refl

same-univ_by : (l : Spine) (list t t2 : List Cell) (s : Substitution) (n : ℕ) → apply s t ≡ apply s t2 → univ_by l list t s n ≡ univ_by l list t2 s n
same-univ_by (Proper (head ∷ ts)) list t t2 s n e = same-or_raises (univ_term head ts) t t2 s n e
same-univ_by l list t t2 s n e = refl

same-univ : (x t t2 list list2 : List Cell) (s : Substitution) (n : ℕ) → apply s t ≡ apply s t2 → apply s list ≡ apply s list2 → univ_row x t list s n ≡ univ_row x t2 list2 s n
same-univ (Func f k ∷ cells) t t2 list list2 s n e g = same-left list list2 _ s n g
same-univ (Int i ∷ cells) t t2 list list2 s n e g = same-left list list2 _ s n g
same-univ (Atom a ∷ cells) t t2 list list2 s n e g = same-left list list2 _ s n g
same-univ x t t2 list list2 s n e g = ap (λ u. univ_by (spine u) u t s n) g ∙ same-univ_by (spine (apply s list2)) (apply s list2) t t2 s n e

-- ---- texts

same-atom_made : (r : Result (List ℕ) (List Cell)) (a a2 : List Cell) (s : Substitution) (n : ℕ) → apply s a ≡ apply s a2 → atom_made r a s n ≡ atom_made r a2 s n
same-atom_made (Err kind) a a2 s n e = refl
same-atom_made (Ok text) a a2 s n e =
    ap (λ r. if nat_lt 1024 (length (encode_utf8_all text)) then Raises (resource_error (codes "atom")) else r) (same-left a a2 (word (encode_utf8_all text)) s n e)

same-atom_codes : (x a a2 list list2 : List Cell) (s : Substitution) (n : ℕ) → apply s a ≡ apply s a2 → apply s list ≡ apply s list2 → atom_codes_row x a list s n ≡ atom_codes_row x a2 list2 s n
same-atom_codes (Atom name ∷ cells) a a2 list list2 s n e g = same-left list list2 _ s n g
same-atom_codes (Int i ∷ cells) a a2 list list2 s n e g = same-left list list2 _ s n g
same-atom_codes (Func f k ∷ cells) a a2 list list2 s n e g = refl
same-atom_codes x a a2 list list2 s n e g = ap (λ u. atom_made (text_in u) a s n) g ∙ same-atom_made (text_in (apply s list2)) a a2 s n e

same-number_text : (x list list2 : List Cell) (s : Substitution) (n : ℕ) → apply s list ≡ apply s list2 → number_text x list s n ≡ number_text x list2 s n
same-number_text (Int i ∷ cells) list list2 s n g = same-left list list2 _ s n g
same-number_text x list list2 s n g = refl

same-number_made : (o : Option ℤ) (x x2 : List Cell) (s : Substitution) (n : ℕ) → apply s x ≡ apply s x2 → number_made o x s n ≡ number_made o x2 s n
same-number_made (Some z) x x2 s n e = same-left x x2 (Int z ∷ []) s n e
same-number_made None x x2 s n e = refl

same-number_codes : (r : Result (List ℕ) (List Cell)) (x x2 list list2 : List Cell) (s : Substitution) (n : ℕ) → apply s x ≡ apply s x2 → apply s list ≡ apply s list2 → number_codes_row r x list s n ≡ number_codes_row r x2 list2 s n
same-number_codes (Ok text) x x2 list list2 s n e g = same-number_made (number_of text) x x2 s n e
same-number_codes (Err kind) x x2 list list2 s n e g = ap (λ u. number_text u list s n) e ∙ same-number_text (apply s x2) list list2 s n g

same-atom_length : (a x x2 : List Cell) (s : Substitution) (n : ℕ) → apply s x ≡ apply s x2 → atom_length_row a x s n ≡ atom_length_row a x2 s n
same-atom_length (Atom name ∷ cells) x x2 s n e = same-left x x2 _ s n e
same-atom_length a x x2 s n e = refl

same-evaluated : (z : Value) (x x2 : List Cell) (s : Substitution) (n : ℕ) → apply s x ≡ apply s x2 → evaluated z x s n ≡ evaluated z x2 s n
same-evaluated (Ok z) x x2 s n e = same-left x x2 (Int z ∷ []) s n e
same-evaluated (Err why) x x2 s n e = refl

-- ---- goals

same-one : (goal : Builtin) (x x2 : List Cell) (s : Substitution) (n : ℕ) → apply s x ≡ apply s x2 → one_argument goal x s n ≡ one_argument goal x2 s n
same-one (Is t) x x2 s n e = ap (λ u. where_true (passes t u) s n) e
same-one goal x x2 s n e = refl

same-two : (goal : Builtin) (x x2 y y2 : List Cell) (s : Substitution) (n : ℕ) → apply s x ≡ apply s x2 → apply s y ≡ apply s y2 → two_arguments goal x y s n ≡ two_arguments goal x2 y2 s n
same-two Unify x x2 y y2 s n e f = same-by x x2 y y2 s n e f
same-two NotUnify x x2 y y2 s n e f = ap (λ o. where_true (not (is_some o)) s n) (unify-instances x x2 y y2 s e f)
same-two (InOrder r) x x2 y y2 s n e f =
    ap (λ u. where_true (holds r (term_cmp u (apply s y))) s n) e ∙ ap (λ u. where_true (holds r (term_cmp (apply s x2) u)) s n) f
same-two Univ x x2 y y2 s n e f = ap (λ u. univ_row u x y s n) e ∙ same-univ (apply s x2) x x2 y y2 s n e f
same-two CopyTerm x x2 y y2 s n e f = ap (λ u. copied u y s n) e ∙ same-left y y2 (fresh n (canon (apply s x2))) s (n + length (variables (apply s x2))) f
same-two AtomCodes x x2 y y2 s n e f = ap (λ u. atom_codes_row u x y s n) e ∙ same-atom_codes (apply s x2) x x2 y y2 s n e f
same-two NumberCodes x x2 y y2 s n e f = ap (λ u. number_codes_row (text_in u) x y s n) f ∙ same-number_codes (text_in (apply s y2)) x x2 y y2 s n e f
same-two AtomLength x x2 y y2 s n e f = ap (λ u. atom_length_row u y s n) e ∙ same-atom_length (apply s x2) y y2 s n f
same-two Evaluate x x2 y y2 s n e f = ap (λ u. evaluated (value u) x s n) f ∙ same-evaluated (value (apply s y2)) x x2 s n e
same-two (InValue r) x x2 y y2 s n e f = ap (λ u. related r (value u) (value (apply s y)) s n) e ∙ ap (λ u. related r (value (apply s x2)) (value u) s n) f
same-two goal x x2 y y2 s n e f = refl

same-three : (goal : Builtin) (x x2 y y2 z z2 : List Cell) (s : Substitution) (n : ℕ) → apply s x ≡ apply s x2 → apply s y ≡ apply s y2 → apply s z ≡ apply s z2
    → three_arguments goal x y z s n ≡ three_arguments goal x2 y2 z2 s n
same-three Compare x x2 y y2 z z2 s n e f g =
    ap (λ u. compared u (term_cmp (apply s y) (apply s z)) x s n) e
    ∙ ap (λ u. compared (apply s x2) (term_cmp u (apply s z)) x s n) f
    ∙ ap (λ u. compared (apply s x2) (term_cmp (apply s y2) u) x s n) g
    ∙ same-compared (apply s x2) (term_cmp (apply s y2) (apply s z2)) x x2 s n e
same-three Functor x x2 y y2 z z2 s n e f g = ap (λ u. functor_row u x y z s n) e ∙ same-functor (apply s x2) x x2 y y2 z z2 s n e f g
same-three Argument x x2 y y2 z z2 s n e f g =
    ap (λ u. argument_row u (apply s y) z s n) e ∙ ap (λ u. argument_row (apply s x2) u z s n) f ∙ same-argument (apply s x2) (apply s y2) z z2 s n g
same-three goal x x2 y y2 z z2 s n e f g = refl

same-builtin : (goal : Builtin) (ts : List (List Cell)) (s : Substitution) (n : ℕ) → ((t : List Cell) → apply s (apply s t) ≡ apply s t) → builtin goal ts s n ≡ builtin goal (map (apply s) ts) s n
same-builtin goal [] s n again = refl
same-builtin goal (x ∷ []) s n again = same-one goal x (apply s x) s n (sym (again x))
same-builtin goal (x ∷ y ∷ []) s n again = same-two goal x (apply s x) y (apply s y) s n (sym (again x)) (sym (again y))
same-builtin goal (x ∷ y ∷ z ∷ []) s n again = same-three goal x (apply s x) y (apply s y) z (apply s z) s n (sym (again x)) (sym (again y)) (sym (again z))
same-builtin goal (x ∷ y ∷ z ∷ w ∷ ts) s n again = refl

pub same-end : (goal : Option Builtin) (ts : List (List Cell)) (s : Substitution) (n : ℕ) → ((t : List Cell) → apply s (apply s t) ≡ apply s t) → end_of_goal goal ts s n ≡ end_of_goal goal (map (apply s) ts) s n
same-end (Some goal) ts s n again = same-builtin goal ts s n again
same-end None ts s n again = refl
