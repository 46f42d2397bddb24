use Rattle.std.proofs.Common.{◌≡◌, ◌∷◌, ◌∙◌, ap, arith}
use Rattle.cp_term.specs.declared.cell.Cell.TheVariants.{Func}
use Rattle.cp_request.proofs.Terms.{pair_is}
use Rattle.cp_request.proofs.looks.pair_of.Goals as goal

pub returns-in-Some-argument-clause-pair : goal.returns-in-Some-argument-clause-pair
returns-in-Some-argument-clause-pair c =
    let shape = c.in-Func-eq2.ensures.first in
    let known : c.in-Func-eq2.field-0 ≡ 2 = omega arith in
    let two = shape.2 ∙ ap (λ k. Func shape.0 k ∷ shape.1) known in
    pair_is c.args.heap.now c.args.at c.in-Some.first c.in-Some-argument.second shape.0 shape.1 two c.in-Func-eq2.ensures.term c.in-Some.ensures.0 c.in-Some-argument.ensures.0 c.in-Some.ensures.1 c.in-Some-argument.ensures.1
