use Rattle.std.proofs.Common.{map}
use Rattle.unpadded_volume.specs.Rows.{ArePieces}
use Rattle.unpadded_volume.proofs.rows.copy_pieces.Given as goal

abbrev pub invariant-loop-row : goal.invariant-loop-row
invariant-loop-row g l = ArePieces (map g.T.Packed.value l.copies) (map g.T.Packed.value l.fn.samples) (map g.T.Packed.value l.samples) l.from l.count l.row l.at l.width
