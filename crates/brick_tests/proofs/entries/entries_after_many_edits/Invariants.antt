use Rattle.brick_tests.proofs.entries.entries_after_many_edits.Given as goal

abbrev pub ghosts-have_sums : goal.ghosts-have_sums
ghosts-have_sums g a = record { name = a.blank.name; parts = a.blank.parts }
