use Rattle.cp_term.specs.CellRefs.{cells_at}
use Rattle.cp_term.proofs.lemmas.FirstPairs.{Seen}
use Rattle.cp_term.proofs.classes.first_pairs.Given as goal

abbrev pub invariant-loop-at : goal.invariant-loop-at
invariant-loop-at l = Seen (cells_at l.cells) l.second l.at l.firsts.items l.pairs.items
