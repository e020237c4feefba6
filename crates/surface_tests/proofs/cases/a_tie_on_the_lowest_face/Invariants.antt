use Rattle.surface_tests.proofs.cases.a_tie_on_the_lowest_face.Given as goal

abbrev pub ghosts-classify_cell : goal.ghosts-classify_cell
ghosts-classify_cell g a = record { name = a.blank.name; parts = a.blank.parts }
