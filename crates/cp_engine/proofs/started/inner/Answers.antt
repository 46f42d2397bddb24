use Rattle.std.proofs.Common.{◌≡◌, drop, sym, ◌∙◌, ap}
use Rattle.cp_term.specs.TermOf.{term_of}
use Rattle.cp_engine.proofs.StartedLaws.{rest-all, inner-is}
use Rattle.cp_engine.proofs.started.inner.Goals as goal

pub returns : goal.returns
returns c =
    let cells : c.in_ok-cells.cells ≡ drop 2 c.args.goal.now = c.in_ok-cells.ensures ∙ rest-all 2 c.cells.result.now ∙ ap (drop 2) c.cells.ensures.value in
    inner-is c.args.goal.now c.in-Ok.inner c.requires (ap term_of (sym cells) ∙ sym c.in-Ok.ensures)
