use Rattle.std.proofs.Common.{arith, refl}
use Rattle.brick_tests.proofs.entries.extract.Goals as goal

pub extract_row-requires-clause-brick : goal.extract_row-requires-clause-brick
extract_row-requires-clause-brick g c = rw c.requires.grid (omega arith)

pub extract_row-requires-clause-there : goal.extract_row-requires-clause-there
extract_row-requires-clause-there g c = rw c.requires.grid refl
