-- A stack of places, and the arguments of a compound that are put on it.
use Rattle.std.proofs.Common.{◌≡◌, ℕ, zero, suc, ◌+◌, ◌-◌, ◌<◌, true, List, [], ◌∷◌, ◌++◌, length, drop, get_or, refl, sym, ◌∙◌, ap, subst, arith, append-nil, append_assoc, length-append}
use Rattle.std.specs.Prelude.{Some, slice_get}
use Rattle.std.specs.List.{flat_map}
use Rattle.std.proofs.lemmas.Bool.{and_parts, false≢true}
use Rattle.std.proofs.lemmas.Option.{slice_get_within, get_or_from_slice_get}
use Rattle.std.proofs.Math.Nat.{add-zero}
use Rattle.std.proofs.Math.Seq.{drop-cons}
use Rattle.cp_term.specs.declared.cell.Cell.{Cell}
use Rattle.cp_term.specs.declared.cell.Cell.TheVariants.{Func}
use Rattle.cp_term.specs.Preorder.{arity_of, has_arity, terms_after, is_terms, take_terms, drop_terms, split_terms, arguments}
use Rattle.cp_term.proofs.lemmas.PreorderLaws.{take_terms-drop_terms, is_terms-drop_terms, terms_after-arity}
use Rattle.cp_heap.specs.declared.reference.Ref.{Ref}
use Rattle.cp_heap.specs.State.{State, instance_at}
use Rattle.cp_props.specs.Pending.{pending, IsCompound, behind_first}

pub pending-push : (h : State) (places : List Ref) (r : Ref) → pending h (places ++ r ∷ []) ≡ instance_at h r.at ++ pending h places
pending-push h [] r = sym (append-nil (instance_at h r.at))
pending-push h (p ∷ places) r =
    ap (λ cs. cs ++ instance_at h p.at) (pending-push h places r) ∙ append_assoc (instance_at h r.at) (pending h places) (instance_at h p.at)

-- ---- arguments

length-split : (n : ℕ) (cells : List Cell) → length (split_terms n cells) ≡ n
length-split zero cells = refl
length-split (suc n) cells = ap suc (length-split n (drop_terms 1 cells))

flat-split : (n : ℕ) (cells : List Cell) → is_terms n cells ≡ true → flat_map (λ t. t) (split_terms n cells) ≡ cells
flat-split zero [] h = refl
flat-split zero (c ∷ cells) h = absurd (false≢true h)
flat-split (suc n) cells h =
    let one : suc n ≡ 1 + n = omega arith in
    ap (λ cs. take_terms 1 cells ++ cs) (flat-split n (drop_terms 1 cells) (is_terms-drop_terms 1 n cells (subst (λ k. is_terms k cells ≡ true) one h)))
    ∙ take_terms-drop_terms 1 cells

pub length-arguments : (k : ℕ) (cells : List Cell) → IsCompound k cells → length (arguments cells) ≡ k
length-arguments k cells (f, rest, e) = ap (λ cs. length (arguments cs)) e ∙ length-split (k + 0) rest ∙ add-zero k

pub flat-arguments : (k : ℕ) (cells : List Cell) → IsCompound k cells → is_terms 1 cells ≡ true → flat_map (λ t. t) (arguments cells) ≡ behind_first cells
flat-arguments k cells (f, rest, e) h =
    let inner : is_terms 1 (Func f k ∷ rest) ≡ true = subst (λ cs. is_terms 1 cs ≡ true) e h in
    ap (λ cs. flat_map (λ t. t) (arguments cs)) e
    ∙ flat-split (k + 0) rest (and_parts (has_arity (Func f k)) (is_terms (k + 0) rest) inner).1
    ∙ ap behind_first (sym e)

-- ---- one more

pub drop-got : {X : Type 0} (xs : List X) (i : ℕ) (x : X) → slice_get xs i ≡ Some x → drop i xs ≡ x ∷ drop (i + 1) xs
drop-got xs i x e =
    let next : suc i ≡ i + 1 = omega arith in
    drop-cons xs i x (slice_get_within xs i x e)
    ∙ ap (λ y. y ∷ drop (suc i) xs) (get_or_from_slice_get xs i x x e)
    ∙ ap (λ k. x ∷ drop k xs) next

-- the argument before those that are on the stack
pub pushed-one : (h : State) (old new base : List Ref) (parts : List (List Cell)) (i : ℕ) (r : Ref) → 0 < i
    → slice_get parts (i - 1) ≡ Some (instance_at h r.at)
    → pending h old ≡ flat_map (λ t. t) (drop i parts) ++ pending h base
    → new ≡ old ++ r ∷ []
    → pending h new ≡ flat_map (λ t. t) (drop (i - 1) parts) ++ pending h base
pushed-one h old new base parts i r some got is grown =
    let here : i - 1 + 1 ≡ i = omega arith in
    ap (pending h) grown
    ∙ pending-push h old r
    ∙ ap (λ cs. instance_at h r.at ++ cs) is
    ∙ sym (append_assoc (instance_at h r.at) (flat_map (λ t. t) (drop i parts)) (pending h base))
    ∙ ap (λ k. (instance_at h r.at ++ flat_map (λ t. t) (drop k parts)) ++ pending h base) (sym here)
    ∙ ap (λ ts. flat_map (λ t. t) ts ++ pending h base) (sym (drop-got parts (i - 1) (instance_at h r.at) got))

-- ---- the top

first-counts : (cells : List Cell) → is_terms 1 cells ≡ true → suc (length (behind_first cells)) ≡ length cells
first-counts [] h = absurd (false≢true h)
first-counts (c ∷ cells) h = refl

-- its arguments in its place
pub walked-one : (h : State) (old rest new : List Ref) (r : Ref) → old ≡ rest ++ r ∷ [] → is_terms 1 (instance_at h r.at) ≡ true
    → pending h new ≡ behind_first (instance_at h r.at) ++ pending h rest
    → suc (length (pending h new)) ≡ length (pending h old)
walked-one h old rest new r popped term pushed =
    let before : length (pending h old) ≡ length (instance_at h r.at) + length (pending h rest) =
    ap (λ rs. length (pending h rs)) popped ∙ ap length (pending-push h rest r) ∙ length-append (instance_at h r.at) (pending h rest) in
    let now : length (pending h new) ≡ length (behind_first (instance_at h r.at)) + length (pending h rest) =
    ap length pushed ∙ length-append (behind_first (instance_at h r.at)) (pending h rest) in
    let first = first-counts (instance_at h r.at) term in
    omega arith

pub pending-top : (h : State) (old rest : List Ref) (r : Ref) → old ≡ rest ++ r ∷ [] → pending h old ≡ instance_at h r.at ++ pending h rest
pending-top h old rest r popped = ap (pending h) popped ∙ pending-push h rest r

pub drop-item : {X : Type 0} (xs : List X) (i : ℕ) (x : X) → i < length xs → x ≡ get_or xs i x → drop i xs ≡ x ∷ drop (i + 1) xs
drop-item xs i x within is =
    let next : suc i ≡ i + 1 = omega arith in
    drop-cons xs i x within ∙ ap (λ y. y ∷ drop (suc i) xs) (sym is) ∙ ap (λ k. x ∷ drop k xs) next

pub terms-step : (old new : ℕ) (c : Cell) (rest : List Cell) → new + 1 ≡ old + arity_of c → is_terms old (c ∷ rest) ≡ true → is_terms new rest ≡ true
terms-step zero new c rest e h = absurd (false≢true h)
terms-step (suc n) new c rest e h =
    let after : terms_after c n ≡ new = omega (arith, terms_after-arity c n) in
    subst (λ k. is_terms k rest ≡ true) after (and_parts (has_arity c) (is_terms (terms_after c n) rest) h).1
