-- What is known of the points and the cells of a row of a volume.
use Rattle.std.specs.Prelude.{◌≡◌, ℕ, ◌+◌, ◌-◌, ◌*◌, ◌<◌, List, map, slice_index}
use Rattle.iso_defs.specs.Grid.{index}
use Rattle.cell_loops.specs.Loops.{row_loops}
use Rattle.crossing_edges.specs.Flags.{flags_at, names_in, places_in}
use Rattle.flat_mesh.specs.Lattice.{Leveled, heights}
use Rattle.flat_mesh.specs.Faces.{loops_at}
use Rattle.flat_mesh.specs.Rows.{row_start}
use Rattle.row_bits.specs.Active.{active_among}

-- a number of a case that has the loops of a cell
pub record IsCaseOf (v : Leveled) (q case : ℕ) : Type 0 where
  pub small : case < 656
  pub loops : row_loops case ≡ loops_at v q

-- numbers of cases that have the loops of the first cells of a row
abbrev pub AreCasesTo : Leveled → ℕ → ℕ → ℕ → List ℕ → Type 0
AreCasesTo v y z count cases = (x : ℕ) → x + 1 < v.grid.nx → x < count →
    IsCaseOf v (index v.grid x y z) (slice_index cases x)

-- those of all its cells
abbrev pub AreCases : Leveled → ℕ → ℕ → List ℕ → Type 0
AreCases v y z cases = AreCasesTo v y z v.grid.nx cases

-- the cells of a row that may have loops, by how far they are along x, with numbers of cases that have their loops: among the cases of
-- all its cells they are those of another number than 0
pub record AreActive (v : Leveled) (y z : ℕ) (places cases : List ℕ) : Type 0 where
  pub all : List ℕ
  pub all_are : AreCases v y z all
  pub places_are : places ≡ active_among all 0 (v.grid.nx - 1)
  pub cases_are : cases ≡ map (slice_index all) places

-- the flags of the first points of a row
abbrev pub AreFlagsTo : Leveled → ℕ → ℕ → ℕ → List ℕ → Type 0
AreFlagsTo v y z count flags = (x : ℕ) → x < v.grid.nx → x < count → slice_index flags x
    ≡ flags_at v.grid (heights v) (row_start v.grid y z + x)

-- and of all
abbrev pub AreFlags : Leveled → ℕ → ℕ → List ℕ → Type 0
AreFlags v y z flags = (x : ℕ) → x < v.grid.nx → slice_index flags x
    ≡ flags_at v.grid (heights v) (row_start v.grid y z + x)

-- no crossing edge begins at a point of a row
pub record IsStill (v : Leveled) (y z : ℕ) : Type 0 where
  pub none : (x : ℕ) → x < v.grid.nx → flags_at v.grid (heights v) (row_start v.grid y z + x) ≡ 0

-- the names of the crossing edges that begin in a row, ascending
abbrev pub row_names : Leveled → ℕ → ℕ → List ℕ
row_names v y z = names_in v.grid (heights v) (3 * row_start v.grid y z) (3 * v.grid.nx)

-- these edges by their offsets: three times how far an edge's point is along x, and its axis
pub record AreEdges (v : Leveled) (y z : ℕ) (edges : List ℕ) : Type 0 where
  pub names : map (λ e. 3 * row_start v.grid y z + e) edges ≡ row_names v y z

-- where these edges are crossed, in thousandths from their lower ends
abbrev pub row_places : Leveled → ℕ → ℕ → List ℕ
row_places v y z = places_in v.grid (heights v) (3 * row_start v.grid y z) (3 * v.grid.nx)
