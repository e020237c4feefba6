use Rattle.std.proofs.Common.{ℕ, ℤ}
use Rattle.std.specs.Prelude.{◌-ℤ◌}
use Rattle.iso_base.specs.Volume.{sample}
use Rattle.iso_base.proofs.Levels.{whole_level_field}
use Rattle.mesh_laws.proofs.Scaled.{same_triangles, same_vertices}
use Rattle.fan_laws.proofs.volumes.whole_levels_stay.Goals as goal

pub returns : goal.returns
returns c =
    let s : ℕ → ℤ = λ p. sample c.args.volume.now.samples p -ℤ c.args.level in
    record {
      vertices = same_vertices c.args.volume.now.grid s _ (λ p. whole_level_field c.args.volume.now.samples c.args.level p);
      triangles = same_triangles c.args.volume.now.grid s _ (λ p. whole_level_field c.args.volume.now.samples c.args.level p);
    }
