use Rattle.cp_request.proofs.ErrorLaws.{word-told}
use Rattle.cp_request.proofs.kinds.of_word.Goals as goal

pub returns-clause-kind : goal.returns-clause-kind
returns-clause-kind c =
    let made = c.with_one.ensures in
    word-told c.with_one.new.heap c.with_one.result c.args.heap.now c.atom.new.heap c.args.name.now c.args.what.now c.in_ok-what.what.at c.in_ok-what.ensures.term made.bindings made.term
