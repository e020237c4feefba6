-- Lists of rows that stay in their room from one write to the next.
use Rattle.std.specs.Prelude.{◌≡◌, ℕ, ◌<◌, false}
use Rattle.iso_defs.specs.Grid.{point_count}
use Rattle.voxel_list.specs.Areas.{Area, is_in_area}
use Rattle.flat_mesh.specs.Lattice.{Leveled, heights}

-- two volumes of one grid have the same values off a box
pub record SameOutside (a : Area) (v w : Leveled) : Type 0 where
  pub same_grid : v.grid ≡ w.grid
  pub others : (p : ℕ) → p < point_count v.grid → is_in_area v.grid a p ≡ false → heights v p ≡ heights w p
