use Rattle.brick_tests.proofs.walks.put_walk.Given as goal

abbrev pub ghosts-counted_walk : goal.ghosts-counted_walk
ghosts-counted_walk a = record { name = a.blank.name; parts = a.blank.parts }
