-- Loops that have labels, and what is known of each label.
use Rattle.std.specs.Prelude.{◌≡◌, ℕ, ◌+◌, ◌*◌, ◌%◌, ◌<◌, ◌≤◌, ◌==◌, ℤ, pos, List, length, slice_index, slice_index_or}
use Rattle.std.specs.List.{filter, flat_map}
use Rattle.iso_defs.specs.Cell.{cell_edge}
use Rattle.iso_defs.specs.Grid.{Grid, is_cell}
use Rattle.iso_defs.specs.Lists.{below}
use Rattle.crossing_edges.specs.Flags.{rank}
use Rattle.flat_mesh.specs.Lattice.{Leveled, heights}
use Rattle.component_labels.specs.Fronts.{room, row_name}
use Rattle.component_labels.specs.Labelling.{Known}
use Rattle.component_labels.specs.Walked.{IsLabelled}
use Rattle.measure_laws.specs.Vectors.{total}
use Rattle.part_laws.specs.Labels.{labelled, unlabelled}
use Rattle.part_laws.specs.Loops.{Loop, loops_in, rims}
use Rattle.component_walk.specs.Passed.{AreEdges, edges_before}
use Rattle.component_walk.specs.declared.edges_behind.Passed.{Passed}

-- for each label what is added up of its loops
pub record AreTallies {T : Type 0} (value : T → ℕ → ℤ) (fits : ℕ → T → Type 0) (of_loop : ℕ → Loop →
    ℤ) (xs : List (ℕ × Loop)) (count : ℕ) (tallies : List T) : Type 0 where
  pub size : length tallies ≡ count
  pub values : (a : ℕ) (d : T) (i : ℕ) → a < count → value (slice_index_or tallies a d) i
      ≡ total (of_loop i) (labelled xs (λ b. b == a))
  pub fit : (a : ℕ) (d : T) → a < count → fits (rims (labelled xs (λ b. b == a))) (slice_index_or tallies a d)

-- More labels are known, of which no loop and no edge has one: those from one number on to before another.
pub record IsLonger {T : Type 0} (value : T → ℕ → ℤ) (fits : ℕ → T →
    Type 0) (old new : ℕ) (tallies tallies' : List T) (crossings crossings' : List ℕ) : Type 0 where
  pub size : length tallies' ≡ new
  pub edge_size : length crossings' ≡ new
  pub same : (a : ℕ) (d : T) → a < old → slice_index_or tallies' a d ≡ slice_index_or tallies a d
  pub same_edges : (a : ℕ) → a < old → slice_index crossings' a ≡ slice_index crossings a
  pub values : (a : ℕ) (d : T) (i : ℕ) → old ≤ a → a < new → value (slice_index_or tallies' a d) i ≡ pos 0
  pub fit : (a : ℕ) (d : T) → old ≤ a → a < new → fits 0 (slice_index_or tallies' a d)
  pub zeros : (a : ℕ) → old ≤ a → a < new → slice_index crossings' a ≡ 0

-- These loops have labels, and so have their edges, where a row of points is at hand. The edges that begin in the rows before it were left behind.
pub record IsWalked {T : Type 0} (value : T → ℕ → ℤ) (fits : ℕ → T → Type 0) (of_loop : Leveled → ℕ → Loop →
    ℤ) (v : Leveled) (row : ℕ) (loops : List Loop)
    (labels : Known) (tallies : List T) (edges : Passed) : Type 0 where
  pub xs : List (ℕ × Loop)
  pub label : ℕ → ℕ
  pub loops_are : unlabelled xs ≡ loops
  pub labelled_are : IsLabelled v.grid row xs label labels
  pub size : length edges.crossings.items ≡ labels.count
  pub tallies_are : AreTallies value fits (of_loop v) xs labels.count tallies
  pub edges_are : AreEdges label (rank v.grid (heights v)) (edges_before v (row_name v.grid row))
      edges.crossings.items edges.order.items
  pub passed : edges.count ≡ rank v.grid (heights v) (row_name v.grid row)

-- they have few steps
pub record CanAdd {T : Type 0} (value : T → ℕ → ℤ) (fits : ℕ → T → Type 0) (of_loop : Leveled → ℕ → Loop →
    ℤ) (v : Leveled) (row : ℕ)
    (labels : Known) (tallies : List T) (edges : Passed) : Type 0 where
  pub loops : List Loop
  pub few : rims loops < 2000000000
  pub walked : IsWalked value fits of_loop v row loops labels tallies edges

-- the loops of the cells before a point
unfoldable pub loops_before : Leveled → ℕ → List Loop
loops_before v q = flat_map (loops_in v.grid (heights v)) (filter (is_cell v.grid) (below q))

-- where the labels of the edges of the cells of a row stand
pub record ArePlaces (g : Grid) (row : ℕ) (places : List ℕ) : Type 0 where
  pub each : (e x : ℕ) → e < 12 → x + 1 < g.nx → slice_index places e + 3 * x ≡ cell_edge g (g.nx * row + x) e % room g
