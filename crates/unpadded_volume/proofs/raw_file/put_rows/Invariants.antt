use Rattle.std.proofs.Common.{◌-◌, ◌*◌, map}
use Rattle.unpadded_volume.specs.Unpadded.{inner_samples}
use Rattle.unpadded_volume.proofs.RowsPut.{HasRows}
use Rattle.unpadded_volume.proofs.raw_file.put_rows.Given as goal

abbrev pub invariant-loop-row : goal.invariant-loop-row
invariant-loop-row g l =
    HasRows (g.K.Sink.seen l.fn.sink) (g.K.Sink.seen l.sink) l.kind (inner_samples l.store) (map g.T.Packed.value l.block) l.held (l.row * l.sizes.nx)

abbrev pub decreases-loop-row : goal.decreases-loop-row
decreases-loop-row g l = l.sizes.ny * l.sizes.nz - l.row
