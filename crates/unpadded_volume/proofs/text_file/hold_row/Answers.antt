use Rattle.std.proofs.Common.{arith}
use Rattle.unpadded_volume.proofs.text_file.hold_row.Goals as goal

pub returns-clause-held : goal.returns-clause-held
returns-clause-held g c = record { few = omega (arith, c.copy_rows.ensures.few); samples = rw c.requires.sizes at c.copy_rows.ensures.value }
