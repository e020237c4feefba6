-- The texts that the lines of a row of points have in common.
use Rattle.std.specs.Prelude.{◌≡◌}
use Rattle.iso_defs.specs.Grid.{Grid}
use Rattle.iso_base.specs.declared.format.MeshFormat.TheVariants.{Ply}
use Rattle.mesh_lines.specs.RowLines.{RowPlace}
use Rattle.mesh_lines.specs.declared.style.Origin.TheVariants.{Volume}

-- they are for rows of a grid as PLY
pub record AreTextsOf (g : Grid) (texts : RowPlace) : Type 0 where
  pub width : texts.count ≡ g.nx
  pub style : texts.style ≡ record { format = Ply; origin = Volume }
