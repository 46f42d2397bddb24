use Rattle.cp_request.proofs.ErrorLaws.{culprit-told}
use Rattle.cp_request.proofs.kinds.of_culprit.Goals as goal

pub returns-clause-kind : goal.returns-clause-kind
returns-clause-kind c =
    let word = c.in_ok-what.ensures in
    let made = c.with_two.ensures in
    culprit-told c.with_two.new.heap c.with_two.result c.args.heap.now c.atom.new.heap c.args.name.now c.args.what.now c.in_ok-what.what.at word.term made.bindings c.args.culprit.at word.extends word.bindings c.requires made.term
