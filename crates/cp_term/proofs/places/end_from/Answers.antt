use Rattle.std.proofs.Common.{◌≡◌, suc, ◌+◌, ◌-◌, sym, ◌∙◌, ap, arith}
use Rattle.cp_term.specs.TermGraph.{end_of}
use Rattle.cp_term.proofs.places.end_from.Goals as goal

pub loop-term-preserved : goal.loop-term-preserved
loop-term-preserved c =
    let left = c.args.count - (c.loop-term._term + 1) in
    let one : c.args.count - c.loop-term._term ≡ suc left = omega arith in
    ap (end_of c.args.ends.now left) c.next_place-end.ensures
    ∙ sym (ap (λ k. end_of c.args.ends.now k c.loop-term.end) one)
    ∙ c.loop-term.invariant
