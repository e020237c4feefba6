-- What is added up of loops.
use Rattle.std.specs.Prelude.{◌≡◌, ℕ, ◌+◌, ◌-◌, ◌/◌, ◌<◌, ◌==◌, ◌&&◌, ◌||◌, ℤ, Bool, not, List, map, length, slice_index_or, []}
use Rattle.std.specs.List.{count_by}
use Rattle.iso_defs.specs.Cell.{cell_edge, edge_corner}
use Rattle.iso_defs.specs.Grid.{Grid}
use Rattle.iso_defs.specs.Lists.{around}
use Rattle.iso_defs.specs.Scratch.{centre_name}
use Rattle.iso_defs.specs.Manifold.{share_outer_plane}
use Rattle.edge_points.specs.Points.{corner_offset}
use Rattle.flat_mesh.specs.Faces.{loops_at}
use Rattle.flat_mesh.specs.Lattice.{Leveled}
use Rattle.measure_laws.specs.Vectors.{total}
use Rattle.part_laws.specs.Loops.{Loop}

-- whether an edge of a cell lies in a plane across an axis, where the cell begins at this coordinate
abbrev pub lies_at : ℕ → ℕ → ℕ → ℕ → Bool
lies_at axis plane from e = not (e / 4 == axis) && from + corner_offset (edge_corner e) axis == plane

-- whether two edges of a cell lie in one outer plane across an axis
abbrev pub share_side : ℕ → ℕ → ℕ → ℕ → ℕ → Bool
share_side axis size from a b =
    (lies_at axis 0 from a && lies_at axis 0 from b)
    || (lies_at axis (size - 1) from a && lies_at axis (size - 1) from b)

-- how many steps round a loop of a cell lie in the border
unfoldable pub steps_on : Grid → ℕ → List ℕ → ℕ
steps_on g q edges = count_by (λ (p : ℕ × ℕ). share_outer_plane g (cell_edge g q p.0) (cell_edge g q p.1)) (around edges)

-- a loop of a cell, by the edges of the cell and by names
pub record IsLoopIn (v : Leveled) (q : ℕ) (edges : List ℕ) (l : Loop) : Type 0 where
  pub turn : ℕ
  pub known : turn < length (loops_at v q)
  pub edges_are : slice_index_or (loops_at v q) turn [] ≡ edges
  pub is : l ≡ (centre_name v.grid q turn, map (cell_edge v.grid q) edges)

-- these edges of a cell are one of its loops
pub record IsOneLoop (v : Leveled) (q : ℕ) (edges : List ℕ) : Type 0 where
  pub turn : ℕ
  pub known : turn < length (loops_at v q)
  pub edges_are : slice_index_or (loops_at v q) turn [] ≡ edges

-- These are sums over loops, of so many kinds, which are numbered.
pub record AreTotals (values : ℕ → ℤ) (of_loop : ℕ → Loop → ℤ) (ls : List Loop) : Type 0 where
  pub each : (i : ℕ) → values i ≡ total (of_loop i) ls

-- each fits as many steps round loops as n says
pub record FitEach {T : Type 0} (fits : ℕ → T → Type 0) (n : ℕ → ℕ) (ts : List T) : Type 0 where
  pub each : (a : ℕ) (d : T) → a < length ts → fits (n a) (slice_index_or ts a d)
