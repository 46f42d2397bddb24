use Rattle.std.proofs.Common.{◌≡◌, ◌∷◌, ◌∙◌, ap, arith}
use Rattle.cp_term.specs.declared.cell.Cell.TheVariants.{Func}
use Rattle.cp_request.proofs.Terms.{unary_is}
use Rattle.cp_request.proofs.looks.argument_of.Goals as goal

pub returns-in-Some : goal.returns-in-Some
returns-in-Some c =
    let shape = c.in-Func-eq1.ensures.first in
    let known : c.in-Func-eq1.field-0 ≡ 1 = omega arith in
    let one = shape.2 ∙ ap (λ k. Func shape.0 k ∷ shape.1) known in
    unary_is c.args.heap.now c.args.at c.in-Some.argument shape.0 shape.1 one c.in-Func-eq1.ensures.term c.in-Some.ensures.0 c.in-Some.ensures.1
