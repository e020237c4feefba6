use Rattle.brick_tests.proofs.entries.extract_all.Given as goal

abbrev pub ghosts-extract : goal.ghosts-extract
ghosts-extract a = record { name = a.blank.name; parts = a.blank.parts }
