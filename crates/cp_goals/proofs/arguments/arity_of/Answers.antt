use Rattle.std.proofs.Common.{◌∙◌, length, ap}
use Rattle.cp_term.specs.Preorder.{arguments}
use Rattle.cp_builtin.proofs.ListLaws.{length-arguments}
use Rattle.cp_goals.proofs.arguments.arity_of.Goals as goal

pub returns-in-Func : goal.returns-in-Func
returns-in-Func c =
    let shape = c.in-Func.ensures.first in
    ap (λ cells. length (arguments cells)) shape.2 ∙ length-arguments shape.0 c.in-Func.arity shape.1
