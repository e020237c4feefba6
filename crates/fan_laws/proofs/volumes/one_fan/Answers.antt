use Rattle.std.proofs.Common.{ℕ, ℤ}
use Rattle.iso_base.proofs.VolumeLaws.{grid_is_thick}
use Rattle.iso_base.specs.Volume.{field}
use Rattle.iso_defs.specs.Verdict.{IsOrientedSurface}
use Rattle.mesh_laws.proofs.OneVertex.{one_vertex_per_crossing}
use Rattle.mesh_laws.proofs.Used.{oriented_surface}
use Rattle.fan_laws.proofs.volumes.one_fan.Goals as goal

pub returns : goal.returns
returns c =
    let s : ℕ → ℤ = field c.args.volume.now.samples c.args.level in
    let surface : IsOrientedSurface c.args.volume.now.grid s = oriented_surface c.args.volume.now.grid s (grid_is_thick c.sizes.ensures.volume.grid) in
    record {
      fans = surface.manifold.fans;
      surface = surface;
      names = λ n low. one_vertex_per_crossing c.args.volume.now.grid s n low;
    }
