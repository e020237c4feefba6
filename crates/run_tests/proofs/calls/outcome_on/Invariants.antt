use Rattle.run_tests.proofs.calls.outcome_on.Given as goal

abbrev pub ghosts-counted_run : goal.ghosts-counted_run
ghosts-counted_run g a = record { name = a.blank.name; parts = a.blank.parts }
