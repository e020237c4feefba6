-- Rows that a block holds.
use Rattle.std.specs.Prelude.{◌+◌, ◌-◌, ◌*◌, ◌≤◌, ℤ, List}
use Rattle.iso_base.specs.Volume.{Volume, inner_grid}
use Rattle.unpadded_volume.specs.Rows.{AreSamples}
use Rattle.unpadded_volume.specs.Unpadded.{inner_samples}
use Rattle.unpadded_volume.specs.declared.text_file.Held.{Held}

-- a block begins with the samples of these rows, at most nine
pub record AreHeld (v : Volume) (held : Held) (block : List ℤ) : Type 0 where
  pub few : held.end ≤ held.first + 9
  pub samples : AreSamples (inner_samples v) (held.first * (inner_grid v).nx)
      ((held.end - held.first) * (inner_grid v).nx) block
