use Rattle.std.proofs.Common.{rules, ℕ, List, take, get_or, map, ap, sym}
use Rattle.std.proofs.lemmas.List.{take_more, take_all}
use Rattle.cp_log_text.specs.Line.{element_parts, number}
use Rattle.cp_log_text.proofs.Parts.{same, more_mapped}
use Rattle.cp_log_text.proofs.piece.add_numbers_of.Goals as goal

pub bytes-preserved : goal.bytes-preserved
bytes-preserved c =
    let xs = c.args.bytes.now in
    let i = c.bytes.byte-index in
    same (more_mapped number (take i xs) (get_or xs i 0) c.bytes.invariant (same c.in_ok-add_number.ensures (search rules)))
    (ap (λ (ns : List ℕ). element_parts (map number ns)) (sym (take_more xs i 0 c.bytes-test.true)))

pub returns : goal.returns
returns c = same c.bytes.invariant (ap (λ (ns : List ℕ). element_parts (map number ns)) (take_all c.bytes.byte-index c.args.bytes.now c.bytes-test.false))
