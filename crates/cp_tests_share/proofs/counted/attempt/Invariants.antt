use Rattle.cp_tests_share.proofs.counted.attempt.Given as goal

abbrev pub ghosts-attempted : goal.ghosts-attempted
ghosts-attempted a = record { name = a.blank.name; parts = a.blank.parts }
