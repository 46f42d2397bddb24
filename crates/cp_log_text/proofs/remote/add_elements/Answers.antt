use Rattle.std.proofs.Common.{take, ap}
use Rattle.cp_log_text.specs.Line.{element_parts}
use Rattle.cp_log_text.proofs.Parts.{same, taken, more_elements}
use Rattle.std.proofs.lemmas.List.{take_all}
use Rattle.cp_log_text.proofs.remote.add_elements.Goals as goal

pub terms-preserved : goal.terms-preserved
terms-preserved c =
    let xs = c.args.terms.now in
    let i = c.terms.term-index in
    let x = c.term-item.result in
    same (more_elements (take i xs) x c.terms.invariant c.in_ok-add_term.ensures)
    (ap element_parts (taken xs i x c.term-item.is c.terms-test.true))

pub returns : goal.returns
returns c = same c.terms.invariant (ap element_parts (take_all c.terms.term-index c.args.terms.now c.terms-test.false))
