use Rattle.std.proofs.Common.{◌*◌, refl, subst, sym}
use Rattle.flat_mesh.specs.Lattice.{Leveled}
use Rattle.sample_rows.specs.Counted.{AreRowCounts}
use Rattle.slab_command.proofs.Outputs.{slices_counted}
use Rattle.slab_command.proofs.slabs.count_owned.Goals as goal

pub returns-clause-counts : goal.returns-clause-counts
returns-clause-counts g c = λ v same.
    slices_counted v c.in_ok-slices.slices c.in_ok-counts.counts _
    (subst (λ (w : Leveled). AreRowCounts w (w.grid.ny * c.in_ok-slices.slices) c.in_ok-counts.counts) (sym same) c.in_ok-counts.ensures) refl refl refl
