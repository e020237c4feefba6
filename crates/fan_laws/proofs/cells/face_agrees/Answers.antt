use Rattle.std.specs.Prelude.{pos, slice_index_or}
use Rattle.mesh_laws.proofs.Faces.{face_agrees as agrees}
use Rattle.fan_laws.proofs.cells.face_agrees.Goals as goal

pub returns : goal.returns
returns c = agrees (slice_index_or c.args.cycle 0 (pos 0)) (slice_index_or c.args.cycle 1 (pos 0)) (slice_index_or c.args.cycle 2 (pos 0)) (slice_index_or c.args.cycle 3 (pos 0))
