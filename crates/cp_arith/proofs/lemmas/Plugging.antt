-- What a stack of frames does, by its top.
use Rattle.std.proofs.Common.{◌≡◌, ℕ, ◌+◌, ◌<◌, ◌≤◌, List, [], ◌∷◌, ◌++◌, length, refl, sym, ◌∙◌, ap, subst, arith, true, ℤ}
use Rattle.std.specs.Prelude.{Result, Ok, Err, Some, None, MatchResult, unwrap_or, slice_get}
use Rattle.std.proofs.Math.Nat.{add_assoc}
use Rattle.cp_heap.specs.declared.reference.Ref.{Ref}
use Rattle.cp_heap.specs.State.{State, instance_at}
use Rattle.cp_goal.specs.declared.fault.Fault.{Fault}
use Rattle.cp_goal.specs.declared.why.Why.{Why}
use Rattle.cp_goal.specs.declared.why.Why.TheVariants.{Faulty, NotEvaluable}
use Rattle.cp_goal.specs.declared.binary.Binary.{Binary}
use Rattle.cp_term.specs.declared.cell.Cell.TheVariants.{Int as IntCell, Func}
use Rattle.cp_term.specs.declared.cell.Cell.{Cell}
use Rattle.cp_term.specs.Preorder.{is_terms, arguments}
use Rattle.cp_heap.specs.Looks.{name_of}
use Rattle.cp_goal.specs.declared.unary.Unary.{Unary}
use Rattle.cp_goal.specs.Operations.{unary_named, binary_named}
use Rattle.cp_goal.proofs.lemmas.Values.{IsUnary, IsBinary, unary, binary, no_unary, no_binary}
use Rattle.cp_goal.specs.Evaluation.{Value, value, or_faulty, unary_of, binary_of}
use Rattle.cp_arith.specs.declared.frame.Frame.{Frame}
use Rattle.cp_arith.specs.declared.frame.Frame.TheVariants.{Only, First, Second}
use Rattle.cp_arith.specs.declared.now.Now.TheVariants.{At, Behind}
use Rattle.cp_arith.specs.declared.stop.Stop.{Stop}
use Rattle.cp_arith.specs.declared.stop.Stop.TheVariants.{NoValue, NoMemory}
use Rattle.cp_arith.specs.Frames.{filled, plugged, meaning, value_at, IsLiveFrame, AreLive, frame_work, frames_work, Advances, StopsAt, or_stop}

module _ (h : State) where
  pub plugged-push : (frames : List Frame) (f : Frame) (v : Value) → plugged h (frames ++ f ∷ []) v ≡ plugged h frames (filled h f v)
  plugged-push [] f v = refl
  plugged-push (g ∷ frames) f v = ap (filled h g) (plugged-push frames f v)

  -- what has no value stays so
  pub filled-err : (f : Frame) (e : Why) → filled h f (Err e) ≡ Err e
  filled-err (Only op) e = refl
  filled-err (First op r) e = refl
  filled-err (Second op a) e = refl

  pub plugged-err : (frames : List Frame) (e : Why) → plugged h frames (Err e) ≡ Err e
  plugged-err [] e = refl
  plugged-err (f ∷ frames) e = ap (filled h f) (plugged-err frames e) ∙ filled-err f e

  pub live-push : (frames : List Frame) (f : Frame) → AreLive h frames → IsLiveFrame h f → AreLive h (frames ++ f ∷ [])
  live-push [] f all one = (one, tt)
  live-push (g ∷ frames) f all one = (all.0, live-push frames f all.1 one)

  pub live-below : (frames : List Frame) (f : Frame) → AreLive h (frames ++ f ∷ []) → AreLive h frames
  live-below [] f all = tt
  live-below (g ∷ frames) f all = (all.0, live-below frames f all.1)

  pub live-top : (frames : List Frame) (f : Frame) → AreLive h (frames ++ f ∷ []) → IsLiveFrame h f
  live-top [] f all = all.0
  live-top (g ∷ frames) f all = live-top frames f all.1

  pub work-push : (frames : List Frame) (f : Frame) → frames_work h (frames ++ f ∷ []) ≡ frames_work h frames + frame_work h f
  work-push [] f = omega arith
  work-push (g ∷ frames) f =
      ap (λ n. frame_work h g + n) (work-push frames f) ∙ sym (add_assoc (frame_work h g) (frames_work h frames) (frame_work h f))

  pub some_work : (f : Frame) → 1 ≤ frame_work h f
  some_work (Only op) = omega arith
  some_work (First op r) = omega arith
  some_work (Second op a) = omega arith

  -- a value goes through the top frame
  pub behind : (frames : List Frame) (f : Frame) (z : ℤ) (r : Result ℤ Fault) → filled h f (Ok z) ≡ or_faulty r → AreLive h (frames ++ f ∷ [])
      → MatchResult (or_stop r) (λ next. Advances h (frames ++ f ∷ []) (Behind z) frames next) (λ stop. StopsAt stop (meaning h (frames ++ f ∷ []) (Behind z)))
  behind frames f z (Ok y) e live = record {
    means = ap (plugged h frames) (sym e) ∙ sym (plugged-push frames f (Ok z));
    frames = live-below frames f live;
    place = tt;
    less = let one = some_work f in let all = work-push frames f in omega arith;
  }
  behind frames f z (Err fault) e live = plugged-push frames f (Ok z) ∙ ap (plugged h frames) e ∙ plugged-err frames (Faulty fault)

  -- a first operand's value is kept for the second
  pub to_second : (frames : List Frame) (op : Binary) (r : Ref) (z : ℤ) → AreLive h (frames ++ First op r ∷ [])
      → Advances h (frames ++ First op r ∷ []) (Behind z) (frames ++ Second op z ∷ []) (At r)
  to_second frames op r z live = record {
    means = plugged-push frames (Second op z) (value_at h r.at) ∙ sym (plugged-push frames (First op r) (Ok z));
    frames = live-push frames (Second op z) (live-below frames (First op r) live) tt;
    place = live-top frames (First op r) live;
    less = let before = work-push frames (First op r) in let after = work-push frames (Second op z) in omega arith;
  }

  -- what an expression without a value comes to
  pub stopped : (frames : List Frame) (at : Ref) (e : Why) → value_at h at.at ≡ Err e → meaning h frames (At at) ≡ Err e
  stopped frames at e is = ap (plugged h frames) is ∙ plugged-err frames e

  -- an integer is its own value
  pub to_integer : (frames : List Frame) (at : Ref) (z : ℤ) → instance_at h at.at ≡ IntCell z ∷ [] → AreLive h frames → Advances h frames (At at) frames (Behind z)
  to_integer frames at z is live = record {
    means = ap (λ cells. plugged h frames (value cells)) (sym is);
    frames = live;
    place = tt;
    less = let one : length (instance_at h at.at) ≡ 1 = ap length is in omega arith;
  }

  -- an operation is put on the frames, and its first operand comes next
  pub to_only : (frames : List Frame) (at r : Ref) (op : Unary) (f : List ℕ) → IsUnary (instance_at h at.at) (instance_at h r.at) f → unary_named f ≡ Some op
      → r.at < length h.terms → AreLive h frames → Advances h frames (At at) (frames ++ Only op ∷ []) (At r)
  to_only frames at r op f shape named place live = record {
    means = plugged-push frames (Only op) (value_at h r.at)
        ∙ ap (plugged h frames) (sym (shape.value_is ∙ ap (λ o. unary_of o f (value_at h r.at)) named));
    frames = live-push frames (Only op) live tt;
    place = place;
    less = let pushed = work-push frames (Only op) in let long = shape.length_is in omega arith;
  }

  pub to_first : (frames : List Frame) (at a b : Ref) (op : Binary) (f : List ℕ) → IsBinary (instance_at h at.at) (instance_at h a.at) (instance_at h b.at) f → binary_named f ≡ Some op
      → a.at < length h.terms → b.at < length h.terms → AreLive h frames → Advances h frames (At at) (frames ++ First op b ∷ []) (At a)
  to_first frames at a b op f shape named place_a place_b live = record {
    means = plugged-push frames (First op b) (value_at h a.at)
        ∙ ap (plugged h frames) (sym (shape.value_is ∙ ap (λ o. binary_of o f (value_at h a.at) (value_at h b.at)) named));
    frames = live-push frames (First op b) live place_b;
    place = place_a;
    less = let pushed = work-push frames (First op b) in let long = shape.length_is in omega arith;
  }

  -- the same by what the place and the table of operations say of a compound
  pub no_unary_at : (frames : List Frame) (at : Ref) (f n : List ℕ) (rest : List Cell) → instance_at h at.at ≡ Func f 1 ∷ rest → is_terms 1 (instance_at h at.at) ≡ true
      → Some n ≡ name_of (instance_at h at.at) → unary_named n ≡ None → meaning h frames (At at) ≡ Err (NotEvaluable n 1)
  no_unary_at frames at f n rest e term named none =
      let same : n ≡ f = ap (λ o. unwrap_or o []) (named ∙ ap name_of e) in
      stopped frames at (NotEvaluable n 1)
      (ap value e ∙ no_unary f rest (subst (λ cells. is_terms 1 cells ≡ true) e term) (ap unary_named (sym same) ∙ none) ∙ ap (λ g. Err (NotEvaluable g 1)) (sym same))

  pub no_binary_at : (frames : List Frame) (at : Ref) (f n : List ℕ) (rest : List Cell) → instance_at h at.at ≡ Func f 2 ∷ rest → is_terms 1 (instance_at h at.at) ≡ true
      → Some n ≡ name_of (instance_at h at.at) → binary_named n ≡ None → meaning h frames (At at) ≡ Err (NotEvaluable n 2)
  no_binary_at frames at f n rest e term named none =
      let same : n ≡ f = ap (λ o. unwrap_or o []) (named ∙ ap name_of e) in
      stopped frames at (NotEvaluable n 2)
      (ap value e ∙ no_binary f rest (subst (λ cells. is_terms 1 cells ≡ true) e term) (ap binary_named (sym same) ∙ none) ∙ ap (λ g. Err (NotEvaluable g 2)) (sym same))

  pub only_at : (frames : List Frame) (at r : Ref) (op : Unary) (f n : List ℕ) (rest : List Cell) → instance_at h at.at ≡ Func f 1 ∷ rest → is_terms 1 (instance_at h at.at) ≡ true
      → Some n ≡ name_of (instance_at h at.at) → unary_named n ≡ Some op → slice_get (arguments (instance_at h at.at)) 0 ≡ Some (instance_at h r.at)
      → r.at < length h.terms → AreLive h frames → Advances h frames (At at) (frames ++ Only op ∷ []) (At r)
  only_at frames at r op f n rest e term named is argument place live =
      let same : n ≡ f = ap (λ o. unwrap_or o []) (named ∙ ap name_of e) in
      to_only frames at r op f (unary (instance_at h at.at) (instance_at h r.at) rest f e term argument) (ap unary_named (sym same) ∙ is) place live

  pub first_at : (frames : List Frame) (at a b : Ref) (op : Binary) (f n : List ℕ) (rest : List Cell) → instance_at h at.at ≡ Func f 2 ∷ rest → is_terms 1 (instance_at h at.at) ≡ true
      → Some n ≡ name_of (instance_at h at.at) → binary_named n ≡ Some op
      → slice_get (arguments (instance_at h at.at)) 0 ≡ Some (instance_at h a.at) → slice_get (arguments (instance_at h at.at)) 1 ≡ Some (instance_at h b.at)
      → a.at < length h.terms → b.at < length h.terms → AreLive h frames → Advances h frames (At at) (frames ++ First op b ∷ []) (At a)
  first_at frames at a b op f n rest e term named is first second place_a place_b live =
      let same : n ≡ f = ap (λ o. unwrap_or o []) (named ∙ ap name_of e) in
      to_first frames at a b op f (binary (instance_at h at.at) (instance_at h a.at) (instance_at h b.at) rest f e term first second) (ap binary_named (sym same) ∙ is) place_a place_b live

  -- an evaluation that is stopped at an expression is stopped at all of it
  pub stops : (frames : List Frame) (at : Ref) (stop : Stop) → StopsAt stop (value_at h at.at) → StopsAt stop (meaning h frames (At at))
  stops frames at (NoValue why) is = stopped frames at why is
  stops frames at NoMemory is = tt
