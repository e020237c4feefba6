-- Where a walk over rows of points is.
use Rattle.std.specs.Prelude.{◌≡◌, ℕ, ◌*◌, ℤ, length, nat_lt, if◌then◌else◌}
use Rattle.iso_defs.specs.Bricks.{bricks_along}
use Rattle.iso_defs.specs.Grid.{Grid}
use Rattle.flat_mesh.specs.Lattice.{Leveled}
use Rattle.part_laws.specs.Loops.{Loop}
use Rattle.brick_rows.specs.Bricks.{AreMarked}
use Rattle.component_walk.specs.Walks.{IsWalked, loops_before}
use Rattle.component_walk.specs.declared.rows.RowWalk.{RowWalk}

-- It walks over this volume, all edges before a row were left behind, and the loops of the cells before a point have labels.
pub record IsAt {T : Type 0} (value : T → ℕ → ℤ) (fits : ℕ → T → Type 0) (of_loop : Leveled → ℕ → Loop →
    ℤ) (v : Leveled) (row point : ℕ) (w : RowWalk T) : Type 0 where
  pub field : w.field ≡ v
  pub active : AreMarked v w.active
  pub count : length w.cases.items ≡ v.grid.nx
  pub walked : IsWalked value fits of_loop v row (loops_before v point) w.walked.labels w.walked.tallies.items
      w.walked.edges

-- The first point of a row that the brick at a place of it holds, or the one behind the row: the last brick holds all points that are left.
abbrev pub first_point : Grid → ℕ → ℕ
first_point g x = if nat_lt x (bricks_along g 0) then 8 * x else g.nx
