use Rattle.std.proofs.Common.{◌*◌, arith}
use Rattle.brick_mesh.proofs.PlaneRuns.{slice_put}
use Rattle.brick_mesh.proofs.entries.bytes_of_slice.Goals as goal

pub loop-y-init : goal.loop-y-init
loop-y-init c = record { slice = λ k low is. absurd (omega (arith, low)) }

pub loop-y-preserved : goal.loop-y-preserved
loop-y-preserved c = record {
  slice = slice_put c.args.block.now c.args.z c.loop-y.y (8 * c.from.result) c.loop-y.bytes c.fill_bytes.new.bytes c.bytes_of_row-row.result
      (omega arith) c.loop-y.invariant.slice c.bytes_of_row-row.ensures c.fill_bytes.ensures.inside c.fill_bytes.ensures.before;
}

pub returns : goal.returns
returns c = λ k low is. c.loop-y.invariant.slice k (omega (arith, low)) is
