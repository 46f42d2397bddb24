-- The first element of a list.
use Rattle.std.proofs.Common.{◌≡◌, ℕ, suc, ◌+◌, ◌<◌, Bool, true, false, List, [], ◌∷◌, length, take, refl, sym, ◌∙◌, ap, subst, arith}
use Rattle.std.specs.Prelude.{Some, unwrap_or, slice_get, if◌then◌else◌, codes}
use Rattle.std.specs.Str.{bytes_eq}
use Rattle.std.proofs.lemmas.List.{length-append}
use Rattle.cp_term.specs.declared.cell.Cell.{Cell}
use Rattle.cp_term.specs.declared.cell.Cell.TheVariants.{Atom, Func}
use Rattle.cp_term.specs.Preorder.{is_terms, arguments}
use Rattle.cp_heap.specs.declared.reference.Ref.{Ref}
use Rattle.cp_heap.specs.State.{State, instance_at}
use Rattle.cp_heap.specs.Looks.{name_of}
use Rattle.cp_goal.specs.Lists.{Proper, Improper, Listed, longer, compound_spine, listed_of, spine}
use Rattle.cp_goal.specs.Folds.{of_terms}
use Rattle.cp_lists.specs.Steps.{Begins}
use Rattle.cp_lists.proofs.lemmas.Spines.{spine-pair, two}

pub begins : (h : State) (cells rest : List Cell) (head tail : Ref) (f : List ℕ) → cells ≡ Func f 2 ∷ rest → is_terms 1 cells ≡ true
    → bytes_eq f (codes ".") ≡ true
    → slice_get (arguments cells) 0 ≡ Some (instance_at h head.at) → slice_get (arguments cells) 1 ≡ Some (instance_at h tail.at)
    → head.at < length h.terms → tail.at < length h.terms → Begins h cells head tail
begins h cells rest head tail f e term dot first second head_live tail_live =
    let a = instance_at h head.at in
    let b = instance_at h tail.at in
    let parts = two f rest a b
    (subst (λ cs. is_terms 1 cs ≡ true) e term)
    (subst (λ cs. slice_get (arguments cs) 0 ≡ Some a) e first)
    (subst (λ cs. slice_get (arguments cs) 1 ≡ Some b) e second) in
    record {
      head_live = head_live;
      tail_live = tail_live;
      is = ap spine (e ∙ ap (λ r. Func f 2 ∷ r) parts.are) ∙ spine-pair f a b parts.first parts.second
          ∙ ap (λ t. if t then longer a (spine b) else Improper) dot;
      shorter =
          let all : length cells ≡ suc (length rest) = ap length e in
          let split : length rest ≡ length a + length b = ap length parts.are ∙ length-append a b in
          omega arith;
    }

not_dotted : (f : List ℕ) (ts : List Listed) → bytes_eq f (codes ".") ≡ false → compound_spine f ts ≡ Improper
not_dotted f [] h = refl
not_dotted f (x ∷ []) h = refl
not_dotted f (x ∷ y ∷ []) h = ap (λ t. if t then longer x.cells y.spine else Improper) h
not_dotted f (x ∷ y ∷ z ∷ ts) h = refl

-- the name that is seen of a compound is its own
pub same_name : (cells rest : List Cell) (f n : List ℕ) (k : ℕ) → cells ≡ Func f k ∷ rest → Some n ≡ name_of cells → n ≡ f
same_name cells rest f n k e named = ap (λ o. unwrap_or o []) (named ∙ ap name_of e)

pub no_dot : (cells rest : List Cell) (f n : List ℕ) → cells ≡ Func f 2 ∷ rest → Some n ≡ name_of cells → bytes_eq n (codes ".") ≡ false → spine cells ≡ Improper
no_dot cells rest f n e named dot =
    ap spine e
    ∙ not_dotted f (take 2 (of_terms listed_of rest)) (ap (λ m. bytes_eq m (codes ".")) (sym (same_name cells rest f n 2 e named)) ∙ dot)

-- an atom is the empty list or none
pub end : (cells : List Cell) (a n : List ℕ) (is : Bool) → cells ≡ Atom a ∷ [] → Some n ≡ name_of cells → bytes_eq n (codes "[]") ≡ is
    → spine cells ≡ (if is then Proper [] else Improper)
end cells a n is e named empty =
    let same : n ≡ a = ap (λ o. unwrap_or o []) (named ∙ ap name_of e) in
    ap spine e ∙ ap (λ t. if t then Proper [] else Improper) (ap (λ m. bytes_eq m (codes "[]")) (sym same) ∙ empty)
