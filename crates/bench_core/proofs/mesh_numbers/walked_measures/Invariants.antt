use Rattle.bench_core.proofs.mesh_numbers.walked_measures.Given as goal

abbrev pub ghosts-counted_measures : goal.ghosts-counted_measures
ghosts-counted_measures a = record { name = a.blank.name; parts = a.blank.parts }
