use Rattle.bench_tests.proofs.calls.work.Given as goal

abbrev pub ghosts-counted_work : goal.ghosts-counted_work
ghosts-counted_work a = record { name = a.blank.name; parts = a.blank.parts }
