use Rattle.padded_samples.proofs.PadCells.{inner_cell}
use Rattle.padded_samples.proofs.slab.PaddedSlabSamples.corners_at_once.Goals as goal

pub returns : goal.returns
returns g c =
    let inside = c.in_ok-inner.ensures in
    inner_cell c.args.self.now _ c.args.sizes.now c.args.low c.in_ok-inner.inner c.each_corner.result c.self.view_is inside.0 inside.1 inside.2 inside.3 inside.4 c.each_corner.ensures
