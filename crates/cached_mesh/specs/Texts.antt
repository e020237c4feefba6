-- The texts of the mesh of a volume at a level.
use Rattle.std.specs.Prelude.{ℕ, List, is_some, ℤ}
use Rattle.iso_defs.specs.Texts.{scratch_ply}
use Rattle.iso_base.specs.Volume.{field, Volume}
use Rattle.mesh_lines.specs.Padded.{scratch_obj}
use Rattle.mesh_text.specs.declared.format.TwoWayFormat.{TwoWayFormat}
use Rattle.mesh_text.specs.declared.format.TwoWayFormat.TheVariants.{Ply, Obj}

-- the mesh from scratch, in a format
unfoldable pub scratch_text : TwoWayFormat → Volume → ℤ → List ℕ
scratch_text Ply v level = scratch_ply (is_some v.pad) v.grid (field v.samples level)
scratch_text Obj v level = scratch_obj (is_some v.pad) v.grid (field v.samples level)
