-- Pads against levels.
use Rattle.std.specs.Prelude.{◌≡◌, ℤ, true, Some}
use Rattle.iso_base.specs.Volume.{is_above_pad, Volume}

-- the volume has a pad, and it is below the level
abbrev pub HasPadBelow : Volume → ℤ → Type 0
HasPadBelow v level = (pad : ℤ) × (v.pad ≡ Some pad) × (is_above_pad level pad ≡ true)
