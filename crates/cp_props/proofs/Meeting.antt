-- A clause of a type fits a term just where all that it demands of the term is met.
use Rattle.std.proofs.Common.{◌≡◌, ℕ, zero, suc, Bool, true, false, ◌&&◌, List, [], ◌∷◌, ◌++◌, length, refl, sym, ◌∙◌, ap}
use Rattle.std.specs.Prelude.{Option, Some, None, if◌then◌else◌}
use Rattle.std.specs.List.{list_all}
use Rattle.cp_term.specs.declared.cell.Cell.{Cell}
use Rattle.cp_term.specs.declared.cell.Cell.TheVariants.{Var, Int, Atom, Func}
use Rattle.cp_term.specs.Preorder.{arguments}
use Rattle.cp_goal.specs.Lists.{Spine, Proper, Partial, Improper, spine}
use Rattle.cp_code.specs.Bodies.{is, seen_from}
use Rattle.cp_code.specs.Properties.{Place, TypeClause, Test, matched, variable_term, first_name, passes, all_pass, demand_met, goal_met, body_met, fits_places, fits_clause}
use Rattle.cp_props.specs.Demands.{Demand, both, of_variable, of_each, of_spine, of_elements, demanded, goal_demands, all_demands, body_demands, demands_at, demands, are_met, met}

and-true : (a : Bool) → (a && true) ≡ a
and-true true = refl
and-true false = refl

and-false : (a : Bool) → (a && false) ≡ false
and-false true = refl
and-false false = refl

and-assoc : (a b c : Bool) → ((a && b) && c) ≡ (a && (b && c))
and-assoc true b c = refl
and-assoc false b c = refl

module _ (test : Test) where
  are_met-append : (ds es : List Demand) → are_met test (ds ++ es) ≡ (are_met test ds && are_met test es)
  are_met-append [] es = refl
  are_met-append (d ∷ ds) es =
      ap (λ t. test d.name d.term && t) (are_met-append ds es) ∙ sym (and-assoc (test d.name d.term) (are_met test ds) (are_met test es))

  met-both : (a b : Option (List Demand)) → met test (both a b) ≡ (met test a && met test b)
  met-both None b = refl
  met-both (Some ds) None = sym (and-false (are_met test ds))
  met-both (Some ds) (Some es) = are_met-append ds es

  -- ---- a goal

  one_met : (name : List ℕ) (o : Option (List Cell)) → passes (test name) o ≡ met test (of_variable name o)
  one_met name None = refl
  one_met name (Some t) = sym (and-true (test name t))

  each_met : (name : List ℕ) (ts : List (List Cell)) → list_all (test name) ts ≡ are_met test (of_each name ts)
  each_met name [] = refl
  each_met name (t ∷ ts) = ap (λ b. test name t && b) (each_met name ts)

  spine_met : (name : List ℕ) (s : Spine) → all_pass test name s ≡ met test (of_spine name s)
  spine_met name (Proper ts) = each_met name ts
  spine_met name Partial = refl
  spine_met name Improper = refl

  elements_met : (name : List ℕ) (o : Option (List Cell)) → passes (λ t. all_pass test name (spine t)) o ≡ met test (of_elements name o)
  elements_met name None = refl
  elements_met name (Some t) = spine_met name (spine t)

  list_met : (listed : Bool) (name : List ℕ) (o : Option (List Cell)) → (listed && passes (λ t. all_pass test name (spine t)) o) ≡ met test (if listed then of_elements name o else None)
  list_met true name o = elements_met name o
  list_met false name o = refl

  module _ (places : List Place) where
    parts_met : (name : List ℕ) (parts : List (List Cell)) → demand_met test places name parts ≡ met test (demanded places name parts)
    parts_met name [] = refl
    parts_met name (y ∷ []) = one_met name (variable_term places y)
    parts_met name (y ∷ u ∷ []) = list_met (is name "list") (first_name u) (variable_term places y)
    parts_met name (y ∷ u ∷ x ∷ parts) = refl

    atom_met : (b : Bool) → b ≡ met test (if b then Some [] else None)
    atom_met true = refl
    atom_met false = refl

    goal_is_met : (goal : List Cell) → goal_met test places goal ≡ met test (goal_demands places goal)
    goal_is_met [] = refl
    goal_is_met (Var v ∷ cells) = refl
    goal_is_met (Int i ∷ cells) = refl
    goal_is_met (Atom a ∷ cells) = atom_met (is a "true")
    goal_is_met (Func f k ∷ cells) = parts_met f (arguments (Func f k ∷ cells))

    -- ---- a body

    all_met : (f : List Cell → Bool) (g : List Cell → Option (List Demand)) → ((t : List Cell) → f t ≡ met test (g t)) → (ts : List (List Cell)) → list_all f ts ≡ met test (all_demands g ts)
    all_met f g same [] = refl
    all_met f g same (t ∷ ts) = (λ i. same t i && all_met f g same ts i) ∙ sym (met-both (g t) (all_demands g ts))

    comma_met : (n : ℕ) (comma : Bool) (goal : List Cell) (parts : List (List Cell)) → ((t : List Cell) → body_met n test places t ≡ met test (body_demands n places t))
        → (if comma then list_all (body_met n test places) parts else goal_met test places goal) ≡ met test (if comma then all_demands (body_demands n places) parts else goal_demands places goal)
    comma_met n true goal parts same = all_met (body_met n test places) (body_demands n places) same parts
    comma_met n false goal parts same = goal_is_met goal

    body_is_met : (n : ℕ) (body : List Cell) → body_met n test places body ≡ met test (body_demands n places body)
    body_is_met zero body = refl
    body_is_met (suc n) [] = goal_is_met ((seen_from [] []).goal)
    body_is_met (suc n) (Var v ∷ cells) = goal_is_met ((seen_from [] (Var v ∷ cells)).goal)
    body_is_met (suc n) (Int i ∷ cells) = goal_is_met ((seen_from [] (Int i ∷ cells)).goal)
    body_is_met (suc n) (Atom a ∷ cells) = goal_is_met ((seen_from [] (Atom a ∷ cells)).goal)
    body_is_met (suc n) (Func f zero ∷ cells) = goal_is_met ((seen_from [] (Func f zero ∷ cells)).goal)
    body_is_met (suc n) (Func f (suc zero) ∷ cells) = goal_is_met ((seen_from [] (Func f (suc zero) ∷ cells)).goal)
    body_is_met (suc n) (Func f (suc (suc (suc k))) ∷ cells) = goal_is_met ((seen_from [] (Func f (suc (suc (suc k))) ∷ cells)).goal)
    body_is_met (suc n) (Func f (suc (suc zero)) ∷ cells) =
        comma_met n (is f ",") ((seen_from [] (Func f 2 ∷ cells)).goal) (arguments (Func f 2 ∷ cells)) (body_is_met n)

  -- ---- a clause

  places_met : (body : List Cell) (o : Option (List Place)) → fits_places test body o ≡ met test (demands_at body o)
  places_met body None = refl
  places_met body (Some places) = body_is_met places (suc (length body)) body

  pub fits_met : (t : List Cell) (c : TypeClause) → fits_clause test t c ≡ met test (demands c t)
  unfolding demands
  fits_met t c = places_met c.body (matched c.pattern t)
