-- A mark stays live as the heap grows, and shows the same heap.
use Rattle.std.proofs.Common.{◌≡◌, ℕ, ◌≤◌, List, ◌++◌, length, take, drop, refl, sym, ◌∙◌, ap, subst, arith, length-append}
use Rattle.std.proofs.lemmas.List.{take-append-drop, take-append-le, length-take-le, take-take}
use Rattle.cp_heap.specs.declared.mark.Mark.{Mark}
use Rattle.cp_heap.specs.State.{State, AreBoundWithin, HaveVariablesBelow, IsLive, Extends, state_at}
use Rattle.cp_heap.proofs.MoveLaws.{same_state}

take-shorter : {A : Type 0} (k : ℕ) (xs ys : List A) → k ≤ length xs → take (length xs) ys ≡ xs → take k ys ≡ take k xs
take-shorter k xs ys le e =
    let ys_is : ys ≡ xs ++ drop (length xs) ys = sym (take-append-drop (length xs) ys) ∙ ap (λ l. l ++ drop (length xs) ys) e in
    ap (take k) ys_is ∙ take-append-le k xs (drop (length xs) ys) le

prefix_len : {A : Type 0} (xs ys : List A) → take (length xs) ys ≡ xs → length xs ≤ length ys
prefix_len xs ys e =
    let ys_is : ys ≡ xs ++ drop (length xs) ys = sym (take-append-drop (length xs) ys) ∙ ap (λ l. l ++ drop (length xs) ys) e in
    let n = ap length ys_is in omega (arith, length-append xs (drop (length xs) ys))

pub live_stays : (m : Mark) (old new : State) → IsLive m old → Extends old new → IsLive m new
live_stays m old new live grown =
    let a = live.terms in let b = live.trail in let c = live.variables in
    let p = prefix_len old.terms new.terms grown.terms in
    let q = prefix_len old.trail new.trail grown.trail in
    let r = grown.variables in
    record {
      terms = omega arith;
      trail = omega arith;
      variables = omega arith;
      bound_within = subst (AreBoundWithin m.variables m.terms) (sym (take-shorter m.bindings old.trail new.trail b grown.trail)) live.bound_within;
      written_within = subst (HaveVariablesBelow m.variables) (sym (take-shorter m.terms old.terms new.terms a grown.terms)) live.written_within;
    }

pub state_stays : (m : Mark) (old new : State) → IsLive m old → Extends old new → state_at m new ≡ record { terms = take m.terms old.terms; trail = take m.bindings old.trail; variables = m.variables; names = new.names }
state_stays m old new live grown =
    same_state (take-shorter m.terms old.terms new.terms live.terms grown.terms) (take-shorter m.bindings old.trail new.trail live.trail grown.trail) refl refl

-- a mark that is older than the one to which the heap is taken back stays live
pub live_before : (m n : Mark) (h : State) → IsLive m h → m.terms ≤ n.terms → m.bindings ≤ n.bindings → m.variables ≤ n.variables → IsLive n h → IsLive m (state_at n h)
live_before m n h live a b c live2 =
    let x = live.terms in let y = live.trail in let z = live.variables in
    let u = live2.terms in let v = live2.trail in let w = live2.variables in
    record {
      terms = omega (arith, length-take-le n.terms h.terms u);
      trail = omega (arith, length-take-le n.bindings h.trail v);
      variables = c;
      bound_within = subst (AreBoundWithin m.variables m.terms) (sym (take-take m.bindings n.bindings h.trail b)) live.bound_within;
      written_within = subst (HaveVariablesBelow m.variables) (sym (take-take m.terms n.terms h.terms a)) live.written_within;
    }
