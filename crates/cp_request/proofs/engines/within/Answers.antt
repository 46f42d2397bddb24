use Rattle.std.specs.Prelude.{codes}
use Rattle.cp_request.proofs.ErrorLaws.{culprit-told}
use Rattle.cp_request.proofs.engines.within.Goals as goal

pub returns-clause-within : goal.returns-clause-within
returns-clause-within c =
    let front = c.in_ok-front.ensures in
    let made = c.with_two.ensures in
    culprit-told c.with_two.new.heap c.with_two.result c.args.heap.now c.atom.new.self (codes ":") c.args.own.now c.in_ok-front.front.at front.term made.bindings c.args.goal.at front.extends front.bindings c.requires made.term
