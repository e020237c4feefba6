use Rattle.std.proofs.Common.{ℕ, ℤ}
use Rattle.iso_base.proofs.VolumeLaws.{grid_is_solid, pad_is_below}
use Rattle.iso_base.specs.Volume.{field}
use Rattle.iso_defs.specs.Grid.{IsBelowOutside, IsSolid}
use Rattle.mesh_laws.proofs.Padded.{closed, run_off_border}
use Rattle.fan_laws.proofs.volumes.closed_when_padded.Goals as goal

pub returns : goal.returns
returns c =
    let s : ℕ → ℤ = field c.args.volume.now.samples c.args.level in
    let solid : IsSolid c.args.volume.now.grid = grid_is_solid c.sizes.ensures.volume.grid in
    let below : IsBelowOutside c.args.volume.now.grid s
    = pad_is_below c.args.volume.now c.args.level c.requires.0 c.sizes.ensures.volume c.requires.1 c.requires.2 in
    record {
      inside = λ a b run. run_off_border c.args.volume.now.grid s a b solid below run;
      closed = closed c.args.volume.now.grid s solid below;
    }
