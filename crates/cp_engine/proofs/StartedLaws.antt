-- A goal that is started: what stands behind its module, and what the error of an answer names.
use Rattle.std.proofs.Common.{◌≡◌, ℕ, zero, suc, Bool, true, false, cond, Some, None, Option, List, [], ◌∷◌, ◌-◌, take, drop, length, refl, sym, ◌∙◌, ap, append-nil, length-drop}
use Rattle.std.proofs.Math.Seq.{take-length}
use Rattle.std.specs.Prelude.{Ok, Err, codes}
use Rattle.std.proofs.lemmas.Bool.{false≢true}
use Rattle.cp_term.specs.declared.cell.Cell.{Cell}
use Rattle.cp_term.specs.declared.cell.Cell.TheVariants.{Var, Int, Atom, Func}
use Rattle.cp_term.specs.declared.pred_name.PredName.{PredName}
use Rattle.cp_term.specs.declared.term.TermError.TheVariants.{NotOneTerm, BadNumbering}
use Rattle.cp_term.specs.Preorder.{is_terms, take_terms, arguments}
use Rattle.cp_term.specs.Numbering.{is_numbered_from}
use Rattle.cp_term.specs.TermOf.{term_of}
use Rattle.cp_term.proofs.lemmas.PreorderLaws.{take_terms-append}
use Rattle.cp_goal.specs.Builtins.{context}
use Rattle.cp_heap.specs.State.{State, instance_at}
use Rattle.cp_code.specs.Bodies.{seen_from}
use Rattle.cp_code.specs.Code.{Code}
use Rattle.cp_code.specs.Requests.{has_module, full_name, functor_of}
use Rattle.cp_code.specs.Tree.{without_module, context_of_functor, goal_context}
use Rattle.cp_request.specs.declared.seen_goal.SeenGoal.{SeenGoal}
use Rattle.cp_request.specs.Seen.{seer_of, seen_shown}

-- ---- the goal behind a module

pub rest-all : {A : Type 0} (n : ℕ) (xs : List A) → take (length xs - n) (drop n xs) ≡ drop n xs
rest-all n xs = ap (λ k. take k (drop n xs)) (sym (length-drop n xs)) ∙ take-length (drop n xs)

read-term : (one numbered : Bool) (xs t : List Cell) → cond one (cond numbered (Ok xs) (Err (BadNumbering xs))) (Err (NotOneTerm xs)) ≡ Ok t → (t ≡ xs) × (one ≡ true)
read-term true true xs t e = (let f : xs ≡ t = cc in sym f, refl)
read-term true false xs t e = absurd (cc)
read-term false numbered xs t e = absurd (cc)

take-all : (xs : List Cell) → is_terms 1 xs ≡ true → take_terms 1 xs ≡ xs
take-all xs h = ap (take_terms 1) (sym (append-nil xs)) ∙ take_terms-append 1 xs [] h

pub inner-is : (cells t : List Cell) → has_module cells ≡ true → term_of (drop 2 cells) ≡ Ok t → t ≡ without_module cells (arguments cells)
inner-is [] t h e = absurd (false≢true h)
inner-is (Var v ∷ cells) t h e = absurd (false≢true h)
inner-is (Int i ∷ cells) t h e = absurd (false≢true h)
inner-is (Atom a ∷ cells) t h e = absurd (false≢true h)
inner-is (Func f zero ∷ cells) t h e = absurd (false≢true h)
inner-is (Func f (suc zero) ∷ cells) t h e = absurd (false≢true h)
inner-is (Func f (suc (suc zero)) ∷ []) t h e = absurd (false≢true h)
inner-is (Func f (suc (suc zero)) ∷ Var v ∷ rest) t h e = absurd (false≢true h)
inner-is (Func f (suc (suc zero)) ∷ Int i ∷ rest) t h e = absurd (false≢true h)
inner-is (Func f (suc (suc zero)) ∷ Func g k ∷ rest) t h e = absurd (false≢true h)
inner-is (Func f (suc (suc zero)) ∷ Atom m ∷ rest) t h e =
    let read = read-term (is_terms 1 rest) (is_numbered_from 0 rest) rest t e in
    read.0 ∙ sym (take-all rest read.1) ∙ sym (ap (λ b. cond b (take_terms 1 rest) (Func f 2 ∷ Atom m ∷ rest)) h)
inner-is (Func f (suc (suc (suc k))) ∷ cells) t h e = absurd (false≢true h)

outer-of : (cells : List Cell) (args : List (List Cell)) → has_module cells ≡ false → without_module cells args ≡ cells
outer-of cells [] h = refl
outer-of cells (m ∷ []) h = refl
outer-of cells (m ∷ t ∷ []) h = ap (λ b. cond b t cells) h
outer-of cells (m ∷ t ∷ u ∷ more) h = refl

pub outer-is : (cells : List Cell) → has_module cells ≡ false → cells ≡ without_module cells (arguments cells)
outer-is cells h = sym (outer-of cells (arguments cells) h)

-- ---- what the error of an answer names

module _ (c : Code) (first : List ℕ) (g : List Cell) (h : State) (at : ℕ) (seen : SeenGoal) (whole : instance_at h at ≡ g) (is : (m : List ℕ) → seen_from m (instance_at h at) ≡ seen_shown h m seen) where
  context-of : (o : Option (List ℕ × ℕ)) → functor_of (instance_at h seen.goal.at) ≡ o → context_of_functor (seer_of h first seen.module) o ≡ goal_context c (seen_from first g)
  context-of o e =
      sym (ap (context_of_functor (seer_of h first seen.module)) e) ∙ sym (ap (goal_context c) (ap (seen_from first) (sym whole) ∙ is first))

  pub named-context : (f : List ℕ × ℕ) (seer : List ℕ) (p : PredName) → functor_of (instance_at h seen.goal.at) ≡ Some f → seer ≡ seer_of h first seen.module → p ≡ record { «module» = seer; name = f.0; arity = f.1 } → full_name p ≡ goal_context c (seen_from first g)
  named-context f seer p e s is_p = ap full_name is_p ∙ ap (λ m. context m f.0 f.1) s ∙ context-of (Some f) e

  pub call-context : (seer : List ℕ) (p : PredName) → functor_of (instance_at h seen.goal.at) ≡ None → seer ≡ seer_of h first seen.module → full_name p ≡ context seer (codes "call") 1 → full_name p ≡ goal_context c (seen_from first g)
  call-context seer p e s is_p = is_p ∙ ap (λ m. context m (codes "call") 1) s ∙ context-of None e
