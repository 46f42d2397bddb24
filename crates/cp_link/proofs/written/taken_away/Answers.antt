use Rattle.std.proofs.Common.{drop, reverse, ap, ◌∙◌, arith}
use Rattle.std.proofs.lemmas.List.{drop-drop}
use Rattle.cp_link.proofs.written.taken_away.Goals as goal

pub taking-preserved : goal.taking-preserved
taking-preserved c = (
  omega arith,
  c.take_away.ensures ∙ ap (drop 1) c.taking.invariant.1 ∙ drop-drop 1 c.taking.taken (reverse c.args.spots.now.items),
)
