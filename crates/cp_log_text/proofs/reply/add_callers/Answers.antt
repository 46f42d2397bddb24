use Rattle.std.proofs.Common.{ℕ, List, take, get_or, map, ap, sym}
use Rattle.std.proofs.lemmas.List.{take_more, take_all}
use Rattle.cp_log_text.specs.Line.{element_parts, number}
use Rattle.cp_log_text.proofs.Parts.{same, more_mapped}
use Rattle.cp_log_text.proofs.reply.add_callers.Goals as goal

pub callers-preserved : goal.callers-preserved
callers-preserved c =
    let xs = c.args.callers.now in
    let i = c.callers.caller-index in
    same (more_mapped number (take i xs) (get_or xs i 0) c.callers.invariant c.in_ok-add_number.ensures)
    (ap (λ (ns : List ℕ). element_parts (map number ns)) (sym (take_more xs i 0 c.callers-test.true)))

pub returns : goal.returns
returns c = same c.callers.invariant (ap (λ (ns : List ℕ). element_parts (map number ns)) (take_all c.callers.caller-index c.args.callers.now c.callers-test.false))
