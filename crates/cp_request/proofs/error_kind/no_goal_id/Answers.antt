use Rattle.std.proofs.Common.{◌≡◌, List, [], ◌∷◌, refl, subst, ◌∙◌, ap, w64}
use Rattle.std.specs.Prelude.{IfOk, codes}
use Rattle.std.proofs.lemmas.Int.{to_z-of_z}
use Rattle.cp_term.specs.declared.cell.Cell.{Cell}
use Rattle.cp_term.specs.declared.cell.Cell.TheVariants.{Int}
use Rattle.cp_goal.specs.Errors.{domain_error}
use Rattle.cp_heap.specs.declared.reference.Ref.{Ref}
use Rattle.cp_heap.specs.State.{instance_at}
use Rattle.cp_request.proofs.ErrorLaws.{closed-instance}
use Rattle.cp_request.proofs.error_kind.no_goal_id.Goals as goal

pub returns-clause-kind : goal.returns-clause-kind
returns-clause-kind c =
    subst (λ (t : List Cell). IfOk c.domain_error_of.result (λ (r : Ref). instance_at c.domain_error_of.new.heap r.at ≡ domain_error (codes "goal_id") t))
    (closed-instance c.integer.new.self c.in_ok-culprit.culprit.at (Int c.args.id ∷ []) refl (c.in_ok-culprit.ensures.term ∙ ap (λ z. Int z ∷ []) (to_z-of_z w64 c.args.id c.ranges.id)))
    c.domain_error_of.ensures.kind
