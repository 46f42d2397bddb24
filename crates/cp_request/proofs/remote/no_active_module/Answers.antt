use Rattle.std.proofs.Common.{◌≡◌, List, refl, subst}
use Rattle.std.specs.Prelude.{IfOk, codes}
use Rattle.cp_term.specs.declared.cell.Cell.{Cell}
use Rattle.cp_goal.specs.Errors.{word}
use Rattle.cp_heap.specs.declared.reference.Ref.{Ref}
use Rattle.cp_heap.specs.State.{instance_at}
use Rattle.cp_code.specs.Requests.{existence_error}
use Rattle.cp_request.proofs.ErrorLaws.{closed-instance}
use Rattle.cp_request.proofs.remote.no_active_module.Goals as goal

pub returns-clause-kind : goal.returns-clause-kind
returns-clause-kind c =
    subst (λ (t : List Cell). IfOk c.existence_error.result (λ (r : Ref). instance_at c.existence_error.new.heap r.at ≡ existence_error (codes "active_module") t))
    (closed-instance c.atom.new.self c.in_ok-culprit.culprit.at (word c.args.served.now) refl c.in_ok-culprit.ensures.term)
    c.existence_error.ensures.kind
