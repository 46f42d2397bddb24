-- Unification sees the instances of the two terms alone, so a place may be followed to the end of its chain.
use Rattle.std.proofs.Common.{◌≡◌, List, [], ◌∷◌, ◌++◌, sym, ◌∙◌, ap}
use Rattle.std.specs.Prelude.{Option}
use Rattle.cp_term.specs.declared.cell.Cell.{Cell}
use Rattle.cp_term.specs.Substitution.{Binding, Substitution, replace, apply}
use Rattle.cp_term.specs.Unification.{disagreement, disagreement_under, unify, UnifiesTo, same, clash, bind}
use Rattle.cp_term.proofs.lemmas.SubstitutionLaws.{apply-after}
use Rattle.cp_term.proofs.lemmas.Turns.{unify-UnifiesTo, UnifiesTo-unique}

module _ (a a2 b b2 : List Cell) where
  still : (s : Substitution) (x : Binding) (c c2 : List Cell) → apply s c ≡ apply s c2 → apply (s ++ x ∷ []) c ≡ apply (s ++ x ∷ []) c2
  still s x c c2 e = apply-after s (x ∷ []) c ∙ ap (replace x) e ∙ sym (apply-after s (x ∷ []) c2)

  agrees : (s : Substitution) → apply s a ≡ apply s a2 → apply s b ≡ apply s b2 → disagreement_under s a2 b2 ≡ disagreement_under s a b
  agrees s e f = λ i. disagreement (sym e i) (sym f i)

  UnifiesTo-instances : {s : Substitution} {r : Option Substitution} → apply s a ≡ apply s a2 → apply s b ≡ apply s b2 → UnifiesTo a b s r → UnifiesTo a2 b2 s r
  UnifiesTo-instances {s} e f (same d) = same (agrees s e f ∙ d)
  UnifiesTo-instances {s} e f (clash d) = clash (agrees s e f ∙ d)
  UnifiesTo-instances {s} e f (bind x d h) = bind x (agrees s e f ∙ d) (UnifiesTo-instances (still s x a a2 e) (still s x b b2 f) h)

  -- terms with the same instances unify alike
  pub unify-instances : (s : Substitution) → apply s a ≡ apply s a2 → apply s b ≡ apply s b2 → unify s a b ≡ unify s a2 b2
  unify-instances s e f = UnifiesTo-unique (UnifiesTo-instances e f (unify-UnifiesTo s a b)) (unify-UnifiesTo s a2 b2)
