use Rattle.cp_hall.proofs.hall.ask_one.Given as goal

abbrev pub ghosts-ask_from : goal.ghosts-ask_from
ghosts-ask_from a = record { name = a.blank.name; parts = a.blank.parts }
