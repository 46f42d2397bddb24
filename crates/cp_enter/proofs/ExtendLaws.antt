-- A goal with further arguments.
use Rattle.std.proofs.Common.{◌≡◌, ℕ, ◌+◌, ◌<◌, ◌≤◌, Ok, Err, false, cond, None, List, [], ◌∷◌, ◌++◌, map, length, take, drop, get_or, sym, ◌∙◌, ap, arith, length-drop}
use Rattle.std.specs.Prelude.{nat_lt, codes}
use Rattle.std.specs.List.{flat_map}
use Rattle.std.proofs.lemmas.List.{map-append, length-map, get_or-drop, take_more}
use Rattle.std.proofs.lemmas.Grind.{flat_map-append}
use Rattle.cp_term.specs.declared.cell.Cell.{Cell}
use Rattle.cp_term.specs.declared.cell.Cell.TheVariants.{Var, Int, Atom, Func}
use Rattle.cp_term.specs.Substitution.{Substitution, apply}
use Rattle.cp_term.proofs.lemmas.SubstitutionLaws.{apply-append, apply-nil, apply-Int, apply-Atom, apply-Func}
use Rattle.cp_goal.specs.Errors.{type_error, resource_error}
use Rattle.cp_heap.specs.declared.reference.Ref.{Ref}
use Rattle.cp_heap.specs.State.{State, term, substitution, terms_at, found}
use Rattle.cp_heap.proofs.TrailLaws.{unbound}
use Rattle.cp_code.specs.Tree.{with_arity, longer}

apply-all : (s : Substitution) (ts : List (List Cell)) → apply s (flat_map (λ t. t) ts) ≡ flat_map (λ t. t) (map (apply s) ts)
apply-all s [] = apply-nil s
apply-all s (t ∷ ts) = apply-append s t (flat_map (λ t. t) ts) ∙ ap (λ cs. apply s t ++ cs) (apply-all s ts)

pub length-terms : (s : Substitution) (h : State) (refs : List Ref) → length (map (apply s) (terms_at h refs)) ≡ length refs
length-terms s h refs = length-map (terms_at h refs) (apply s) ∙ length-map refs (λ r. term h r.at)

-- ---- what a term with further arguments is

pub longer-Func : (s : Substitution) (t whole : List Cell) (f : List ℕ) (k n : ℕ) (cells : List Cell) (extra : List (List Cell))
    → t ≡ Func f k ∷ cells → apply s t ≡ whole → length extra ≡ n
    → with_arity (k + n) (Func f (k + n) ∷ apply s cells ++ flat_map (λ t. t) extra) ≡ longer whole extra
longer-Func s t whole f k n cells extra is same len =
    ap (λ m. with_arity (k + m) (Func f (k + m) ∷ apply s cells ++ flat_map (λ t. t) extra)) (sym len)
    ∙ ap (λ w. longer w extra) (sym (apply-Func s f k cells) ∙ ap (apply s) (sym is) ∙ same)

pub longer-Atom : (s : Substitution) (t whole : List Cell) (a : List ℕ) (n : ℕ) (extra : List (List Cell))
    → t ≡ Atom a ∷ [] → apply s t ≡ whole → length extra ≡ n
    → with_arity n (Func a n ∷ apply s [] ++ flat_map (λ t. t) extra) ≡ longer whole extra
longer-Atom s t whole a n extra is same len =
    ap (λ m. with_arity m (Func a m ∷ apply s [] ++ flat_map (λ t. t) extra)) (sym len)
    ∙ ap (λ cs. with_arity (length extra) (Func a (length extra) ∷ cs ++ flat_map (λ t. t) extra)) (apply-nil s)
    ∙ ap (λ w. longer w extra) (sym (apply-Atom s a []) ∙ ap (apply s) (sym is) ∙ same)

pub longer-Int : (s : Substitution) (t whole : List Cell) (i : _) (extra : List (List Cell))
    → t ≡ Int i ∷ [] → apply s t ≡ whole → Err (type_error (codes "callable") (apply s t)) ≡ longer whole extra
longer-Int s t whole i extra is same =
    let e : apply s t ≡ Int i ∷ [] = ap (apply s) is ∙ apply-Int s i [] ∙ ap (λ cs. Int i ∷ cs) (apply-nil s) in
    ap (λ w. Err (type_error (codes "callable") w)) e ∙ ap (λ w. longer w extra) (sym e ∙ same)

pub longer-Var : (h : State) (t whole : List Cell) (v : ℕ) (extra : List (List Cell))
    → t ≡ Var v ∷ [] → found v h.trail ≡ None → apply (substitution h) t ≡ whole → Err (type_error (codes "callable") (apply (substitution h) t)) ≡ longer whole extra
longer-Var h t whole v extra is none same =
    let s : Substitution = substitution h in
    let e : apply s t ≡ Var v ∷ [] = ap (apply s) is ∙ unbound h.terms h.trail v none in
    ap (λ w. Err (type_error (codes "callable") w)) e ∙ ap (λ w. longer w extra) (sym e ∙ same)

-- ---- the compound that is made

pub goal-made : (s s' : Substitution) (t : List Cell) (f f' : List ℕ) (n m : ℕ) (args extra all : List (List Cell))
    → s' ≡ s → t ≡ Func f' m ∷ flat_map (λ t. t) all → f' ≡ f → m ≡ n → all ≡ args ++ extra → n ≤ 255
    → with_arity n (Func f n ∷ apply s (flat_map (λ t. t) args) ++ flat_map (λ t. t) (map (apply s) extra)) ≡ Ok (apply s' t)
goal-made s s' t f f' n m args extra all es et ef em ea le =
    let no : nat_lt 255 n ≡ false = grind arith in
    let g : List Cell = Func f n ∷ apply s (flat_map (λ t. t) args) ++ flat_map (λ t. t) (map (apply s) extra) in
    let made : apply s' t ≡ g =
    ap (λ x. apply x t) es ∙ ap (apply s) et ∙ apply-Func s f' m (flat_map (λ t. t) all)
    ∙ ap (λ x. Func x m ∷ apply s (flat_map (λ t. t) all)) ef
    ∙ ap (λ x. Func f x ∷ apply s (flat_map (λ t. t) all)) em
    ∙ ap (λ x. Func f n ∷ apply s (flat_map (λ t. t) x)) ea
    ∙ ap (λ x. Func f n ∷ apply s x) (flat_map-append (λ t. t) args extra)
    ∙ ap (λ x. Func f n ∷ x) (apply-append s (flat_map (λ t. t) args) (flat_map (λ t. t) extra))
    ∙ ap (λ x. Func f n ∷ apply s (flat_map (λ t. t) args) ++ x) (apply-all s extra) in
    ap (λ b. cond b (Err (resource_error (codes "arity"))) (Ok g)) no ∙ ap Ok (sym made)

pub terms-both : (h : State) (all first extra : List Ref) (args : List (List Cell)) → all ≡ first ++ extra → terms_at h first ≡ args → terms_at h all ≡ args ++ terms_at h extra
terms-both h all first extra args ea ef =
    ap (terms_at h) ea ∙ map-append (λ r. term h r.at) first extra ∙ ap (λ ts. ts ++ terms_at h extra) ef

-- ---- places side by side

pub place-more : (terms : List (List Cell)) (first count index : ℕ) (places all : List Ref) (r : Ref)
    → all ≡ places ++ r ∷ [] → r.at ≡ first + index → index < count → first + count ≤ length terms
    → map (λ r. get_or terms r.at []) places ≡ take index (drop first terms)
    → map (λ r. get_or terms r.at []) all ≡ take (index + 1) (drop first terms)
place-more terms first count index places all r grown at lt le before =
    let within : index < length (drop first terms) = omega (arith, length-drop first terms) in
    ap (map (λ r. get_or terms r.at [])) grown
    ∙ map-append (λ r. get_or terms r.at []) places (r ∷ [])
    ∙ ap (λ ts. ts ++ get_or terms r.at [] ∷ []) before
    ∙ ap (λ n. take index (drop first terms) ++ get_or terms n [] ∷ []) at
    ∙ ap (λ t. take index (drop first terms) ++ t ∷ []) (sym (get_or-drop first terms index []))
    ∙ sym (take_more (drop first terms) index [] within)
