-- The crossing edges that were left behind, by their labels.
use Rattle.std.specs.Prelude.{◌≡◌, ℕ, ◌+◌, ◌*◌, ◌%◌, ◌<◌, ◌≤◌, ◌==◌, not, List, length, map, slice_index}
use Rattle.std.specs.List.{AllByRecursion, count_by, filter}
use Rattle.iso_defs.specs.Lists.{below}
use Rattle.iso_defs.specs.Grid.{is_crossing}
use Rattle.crossing_edges.specs.Flags.{rank}
use Rattle.flat_mesh.specs.Lattice.{Leveled, heights}
use Rattle.component_labels.specs.Fronts.{none, room, row_name}
use Rattle.component_labels.specs.Labelling.{Known}
use Rattle.part_laws.specs.ByLabels.{firsts}
use Rattle.component_walk.specs.declared.edges_behind.Passed.{Passed}

-- How many of the edges have each label, and the labels in the order of their first edges, with the numbers of these.
pub record AreEdges (label number : ℕ → ℕ) (es crossings : List ℕ) (order : List (ℕ × ℕ)) : Type 0 where
  pub counts : (a : ℕ) → a < length crossings → slice_index crossings a ≡ count_by (λ e. label e == a) es
  pub firsts_are : order ≡ map (λ e. (label e, number e)) (firsts label es)
  pub low : AllByRecursion (λ e. label e < length crossings) es

-- the crossing edges before a name
unfoldable pub edges_before : Leveled → ℕ → List ℕ
edges_before v n = filter (is_crossing v.grid (heights v)) (below n)

-- a row of points that is left behind: its labels, and what was known when its first edge was left
pub record Leaving : Type 0 where
  pub volume : Leveled
  pub row : ℕ
  pub label : ℕ → ℕ
  pub base : Known

-- behind the edges that begin in the row
abbrev pub row_end : Leaving → ℕ
row_end k = row_name k.volume.grid k.row + 3 * k.volume.grid.nx

-- The edges of the row before a name were left behind, and no others of the row. An edge of it has a label where it is crossing.
pub record IsLeft (k : Leaving) (n : ℕ) (labels : Known) (edges : Passed) : Type 0 where
  pub least : row_name k.volume.grid k.row ≤ n
  pub low : row_end k ≤ 480000000
  pub grid : labels.marks.grid ≡ k.volume.grid
  pub count : labels.count ≡ k.base.count
  pub pairs : labels.pairs ≡ k.base.pairs
  pub gone : (m : ℕ) → row_name k.volume.grid k.row ≤ m → m < n →
      slice_index labels.marks.labels (m % room k.volume.grid) ≡ none
  pub still : (m : ℕ) → n ≤ m → m < row_name k.volume.grid k.row + room k.volume.grid →
      slice_index labels.marks.labels (m % room k.volume.grid) ≡ k.label m
  pub told : (m : ℕ) → row_name k.volume.grid k.row ≤ m → m < row_end k →
      is_crossing k.volume.grid (heights k.volume) m ≡ not (k.label m == none)
  pub size : length edges.crossings.items ≡ labels.count
  pub edges_are : AreEdges k.label (rank k.volume.grid (heights k.volume)) (edges_before k.volume n)
      edges.crossings.items edges.order.items
  pub passed : edges.count ≡ rank k.volume.grid (heights k.volume) n

-- the state from which so many edges are left behind, from the one at a place on
pub record CanLeave (place count : ℕ) (labels : Known) (edges : Passed) : Type 0 where
  pub leaving : Leaving
  pub name : ℕ
  pub inside : name + count ≤ row_end leaving
  pub at : place ≡ name % room leaving.volume.grid
  pub left : IsLeft leaving name labels edges

-- and the one behind them
abbrev pub HasLeft : ℕ → ℕ → Known → Passed → Known → Passed → Type 0
HasLeft place count labels edges labels' edges' =
    (k : Leaving) (n : ℕ) → n + count ≤ row_end k → place ≡ n % room k.volume.grid → IsLeft k n labels edges →
    IsLeft k (n + count) labels' edges'
