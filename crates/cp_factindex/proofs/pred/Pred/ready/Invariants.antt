use Rattle.cp_factindex.proofs.pred.Pred.ready.Given as goal

abbrev pub ghosts-ready_from : goal.ghosts-ready_from
ghosts-ready_from a = record { name = a.blank.name; parts = a.blank.parts }
