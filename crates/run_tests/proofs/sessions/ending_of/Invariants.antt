use Rattle.run_tests.proofs.sessions.ending_of.Given as goal

abbrev pub ghosts-counted_ending : goal.ghosts-counted_ending
ghosts-counted_ending a = record { name = a.blank.name; parts = a.blank.parts }
