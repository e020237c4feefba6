use Rattle.std.proofs.Common.{◌≡◌, ℤ, IfSome, List, subst}
use Rattle.iso_defs.specs.Cell.{cell_values}
use Rattle.iso_base.specs.Points.{index_of}
use Rattle.iso_base.specs.Volume.{sample}
use Rattle.padded_samples.proofs.SlabRows.{same_list}
use Rattle.padded_samples.proofs.pad.PaddedSamples.corners_at_once.Goals as goal

pub returns : goal.returns
returns g c =
    subst (λ (l : List ℤ). IfSome c.corners_at_once.result (λ v. v ≡ cell_values c.args.sizes.now (sample l) (index_of c.args.sizes.now c.args.low)))
    (same_list c.self.inside.slab c.args.self.now c.self.view_is c.self.invariant) c.corners_at_once.ensures
