-- What the cells of a run of points have.
use Rattle.std.proofs.Common.{◌≡◌, ℕ, zero, suc, ◌+◌, ◌-◌, ◌*◌, ◌/◌, ◌%◌, ◌<◌, ◌≤◌, true, List, [], ◌∷◌, length, get_or, refl, sym, ◌∙◌, ap, subst, arith, if◌then◌else◌, zero-add}
use Rattle.std.specs.List.{sum_by}
use Rattle.std.proofs.lemmas.Bool.{lt-ltb, and_from}
use Rattle.std.proofs.lemmas.List.Sums.{sum_by-append, sum_by-cons}
use Rattle.std.proofs.lemmas.Nat.{div-mul-add, mod-mul-add}
use Rattle.std.proofs.Math.Nat.{mul-le-mul_left}
use Rattle.iso_defs.proofs.Ranges.{range_append}
use Rattle.iso_defs.specs.Lists.{below}
use Rattle.iso_defs.specs.Grid.{Grid, index, is_cell}
use Rattle.iso_defs.specs.Scratch.{cell_centres}
use Rattle.flat_mesh.specs.declared.centres.Cell.{Cell}
use Rattle.flat_mesh.specs.Centres.{IsCellAt}
use Rattle.flat_mesh.specs.Lattice.{Leveled, heights}
use Rattle.flat_mesh.specs.Rows.{row_start}
use Rattle.flat_mesh.proofs.CellAdds.{no_centres}
use Rattle.flat_mesh.proofs.Quiet.{last_column, last_row, last_slice}
use Rattle.mesh_rows.specs.Counts.{centres_among}
use Rattle.mesh_rows.specs.Rows.{IsCaseOf}
use Rattle.mesh_walk.specs.declared.cells.RowCells.{RowCells}
use Rattle.mesh_walk.specs.Cells.{AreCells}
use Rattle.mesh_walk.specs.Numbers.{AreQuiet, begins_cells, cost_before, cost_of_row}
use Rattle.mesh_rows.proofs.SpanLaws.{span_quiet}

-- rows of points that begin no cells
pub last_of_slice : (v : Leveled) (y z : ℕ) → y + 1 ≡ v.grid.ny → z < v.grid.nz → AreQuiet v (row_start v.grid y z) v.grid.nx
last_of_slice v y z hy hz = record { none = last_row v y z hy hz }

pub in_last_slice : (v : Leveled) (y z : ℕ) → y < v.grid.ny → z + 1 ≡ v.grid.nz → AreQuiet v (row_start v.grid y z) v.grid.nx
in_last_slice v y z hy hz = record {
  none = λ q least most is.
      let a : row_start v.grid y z ≡ v.grid.nx * y + v.grid.nx * v.grid.ny * z = omega arith in
      let b : v.grid.nx * (y + 1) ≤ v.grid.nx * v.grid.ny = mul-le-mul_left v.grid.nx (omega arith) in
      last_slice v z hz q (omega arith) (omega arith) is;
}

-- a run whose cells have no loops has no centres
pub no_centres_among : (v : Leveled) (a n : ℕ) → AreQuiet v a n → centres_among v a n ≡ 0
no_centres_among v a n quiet = ap length (span_quiet (cell_centres v.grid (heights v)) (is_cell v.grid) a n (λ q least most is. no_centres v q (quiet.none q least most is)))

-- the last point of a row is no cell
pub last_point : (v : Leveled) (y z : ℕ) → 0 < v.grid.nx → y < v.grid.ny → z < v.grid.nz → AreQuiet v (row_start v.grid y z + (v.grid.nx - 1)) 1
last_point v y z some hy hz = record { none = last_column v y z (row_start v.grid y z + (v.grid.nx - 1)) some hy hz (omega arith) }

-- a cell of a row, and its case among those of all its cells
module _ (v : Leveled) (cells : RowCells) (are : AreCells v cells) where
  abbrev start : ℕ
  start = row_start v.grid cells.y cells.z

  -- the cell at a place of the row
  abbrev pub cell_of : ℕ → Cell
  cell_of x = record { index = start + x; low = record { x = x; y = cells.y; z = cells.z } }

  pub cell_in : (x : ℕ) → x + 1 < v.grid.nx → IsCellAt v.grid (cell_of x)
  cell_in x low = record { index = omega arith; x = low; y = are.y; z = are.z }

  pub case_at : (x : ℕ) → x + 1 < v.grid.nx → IsCaseOf v (start + x) (get_or are.cells_are.all x 0)
  case_at x low =
      let same : index v.grid x cells.y cells.z ≡ start + x = omega arith in
      subst (λ q. IsCaseOf v q (get_or are.cells_are.all x 0)) same (are.cells_are.all_are x low (omega arith))

-- what it costs to ask for the rows of cells before one
pub cost_next : (g : Grid) (cost : ℕ → ℕ) (r : ℕ) → cost_before g cost (r + 1) ≡ cost_before g cost r + cost_of_row g cost r
unfolding cost_before
cost_next g cost r =
    let here : 0 + r ≡ r = zero-add r in
    ap (λ (l : List ℕ). sum_by (cost_of_row g cost) l) (range_append 0 r 1)
    ∙ (sum_by-append (cost_of_row g cost) (below r) ((0 + r) ∷ [])
    ∙ ap (λ n. sum_by (cost_of_row g cost) (below r) + n) (sum_by-cons (cost_of_row g cost) (0 + r) [] ∙ (omega arith ∙ ap (cost_of_row g cost) here)))

pub cost_at_first : (g : Grid) (cost : ℕ → ℕ) → cost_before g cost 0 ≡ 0
unfolding cost_before
cost_at_first g cost = refl

-- more rows cost no less
pub cost_upto : (g : Grid) (cost : ℕ → ℕ) (m n : ℕ) → m ≤ n → cost_before g cost m ≤ cost_before g cost n
cost_upto g cost m n h = let e : n - m + m ≡ n = omega arith in subst (λ n. cost_before g cost m ≤ cost_before g cost n) e (grows (n - m))
  where
    grows : (k : ℕ) → cost_before g cost m ≤ cost_before g cost (k + m)
    grows zero = let e : 0 + m ≡ m = omega arith in subst (λ n. cost_before g cost m ≤ cost_before g cost n) (sym e) (omega arith)
    grows (suc k) =
        let e : suc k + m ≡ k + m + 1 = omega arith in
        let h : cost_before g cost m ≤ cost_before g cost (k + m) = grows k in
        let n : cost_before g cost (k + m + 1) ≡ cost_before g cost (k + m) + cost_of_row g cost (k + m) = cost_next g cost (k + m) in
        subst (λ n. cost_before g cost m ≤ cost_before g cost n) (sym e) (omega arith)

-- the row of points behind another one in its slice
pub row_y : (g : Grid) (y z row : ℕ) → y < g.ny → y + g.ny * z ≡ row → row % g.ny ≡ y
row_y g y z row low e = subst (λ n. n % g.ny ≡ y) (omega arith) (mod-mul-add z g.ny y low)

pub row_z : (g : Grid) (y z row : ℕ) → y < g.ny → y + g.ny * z ≡ row → row / g.ny ≡ z
row_z g y z row low e = subst (λ n. n / g.ny ≡ z) (omega arith) (div-mul-add z g.ny y low)

-- what it costs to ask for the cells of a row of points that begins some
pub cost_is : (g : Grid) (cost : ℕ → ℕ) (y z : ℕ) → y + 1 < g.ny → z + 1 < g.nz → cost_of_row g cost (y + g.ny * z) ≡ cost (y + g.ny * z)
cost_is g cost y z hy hz =
    let row : ℕ = y + g.ny * z in
    let ey : row % g.ny ≡ y = row_y g y z row (omega arith) refl in
    let ez : row / g.ny ≡ z = row_z g y z row (omega arith) refl in
    let begins : begins_cells g row ≡ true = and_from _ _ (lt-ltb (row % g.ny + 1) g.ny (omega arith)) (lt-ltb (row / g.ny + 1) g.nz (omega arith)) in
    ap (λ b. if b then cost row else 0) begins

-- how many points a row has
pub width_is : (v : Leveled) (g : Grid) (nx : ℕ) → g ≡ v.grid → nx ≡ g.nx → nx ≡ v.grid.nx
width_is v g nx same width = width ∙ ap (λ (g : Grid). g.nx) same
