use Rattle.example_runs.proofs.main.Given as goal

abbrev pub ghosts-run_all : goal.ghosts-run_all
ghosts-run_all a = record { name = a.blank.name; parts = a.blank.parts }
