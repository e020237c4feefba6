-- How many crossing edges begin in a row of points, and before it.
use Rattle.std.proofs.Common.{◌≡◌, ℕ, zero, suc, ◌+◌, ◌*◌, ◌^◌, ◌<◌, ◌≤◌, List, All, length, get_or, set, take, sym, ◌∙◌, ap, subst, inl, inr, arith, zero-add}
use Rattle.std.specs.List.{sum}
use Rattle.std.proofs.lemmas.Bool.{cases_lt}
use Rattle.std.proofs.lemmas.List.{get_or-set_other, get_or-set_same, get_or_default, length-set}
use Rattle.std.proofs.lemmas.List.FromFn.{get_or-map-range_with_len}
use Rattle.std.proofs.lemmas.List.Sums.{sum_by_more}
use Rattle.std.proofs.Math.Nat.{mul-le-mul_left}
use Rattle.iso_defs.specs.Grid.{Grid, point_count, is_crossing}
use Rattle.iso_defs.specs.Rows.{row_count}
use Rattle.iso_base.specs.Volume.{IsGrid}
use Rattle.crossing_edges.specs.Flags.{names_in, rank}
use Rattle.edge_points.specs.Rows.{RowNumbers, sums_before}
use Rattle.flat_mesh.specs.Lattice.{Leveled, heights}
use Rattle.flat_mesh.specs.Rows.{row_start}
use Rattle.flat_mesh.proofs.FirstNumbers.{rank_low}
use Rattle.flat_mesh.proofs.Quiet.{quiet_rows}
use Rattle.row_bits.proofs.ActiveLists.{few}
use Rattle.mesh_rows.specs.Rows.{row_names}
use Rattle.mesh_walk.proofs.RowSlots.{names_count}
use Rattle.mesh_walk.specs.Numbers.{AreQuiet, AreRowRanks, row_number}
use Rattle.mesh_walk.specs.declared.ranks.RowPlace.{RowPlace}

-- the edges of a row, by how many there are
pub row_sum : (v : Leveled) (y z count : ℕ) → count ≡ length (row_names v y z)
    → rank v.grid (heights v) (3 * (row_start v.grid y z + v.grid.nx)) ≡ rank v.grid (heights v) (3 * row_start v.grid y z) + count
row_sum v y z count is =
    let a : ℕ = 3 * row_start v.grid y z in
    let behind : 3 * (row_start v.grid y z + v.grid.nx) ≡ a + 3 * v.grid.nx = omega arith in
    ap (rank v.grid (heights v)) behind ∙ (names_count v.grid (heights v) a (3 * v.grid.nx) ∙ ap (λ n. rank v.grid (heights v) a + n) (sym is))

pub row_few : (v : Leveled) (y z count : ℕ) → count ≡ length (row_names v y z) → count ≤ 3 * v.grid.nx
unfolding names_in
row_few v y z count is = omega (arith, is, few (is_crossing v.grid (heights v)) (3 * row_start v.grid y z) (3 * v.grid.nx))

-- a row of cells with its two rows of points, and the same of the next slice
pub rows_in : (g : Grid) (y z : ℕ) → y + 1 < g.ny → z + 1 < g.nz → y + g.ny * z + g.ny + 2 ≤ row_count g
rows_in g y z hy hz =
    let k : g.ny * suc (suc z) ≤ g.ny * g.nz = mul-le-mul_left g.ny (omega arith) in
    let e : g.ny * suc (suc z) ≡ g.ny * z + g.ny + g.ny = omega arith in
    omega arith

-- where no edge begins in the rows of points of a row of cells
pub quiet_row : (v : Leveled) (y z near : ℕ) → y + 1 < v.grid.ny → z + 1 < v.grid.nz → near ≡ y + v.grid.ny * z
    → rank v.grid (heights v) (3 * (v.grid.nx * near)) ≡ rank v.grid (heights v) (3 * (v.grid.nx * (near + 2)))
    → rank v.grid (heights v) (3 * (v.grid.nx * (near + v.grid.ny))) ≡ rank v.grid (heights v) (3 * (v.grid.nx * (near + v.grid.ny + 2)))
    → AreQuiet v (row_start v.grid y z) v.grid.nx
quiet_row v y z near hy hz at low high =
    let nx : ℕ = v.grid.nx in
    let ny : ℕ = v.grid.ny in
    let row : ℕ = nx * (y + ny * z) in
    let r : ℕ → ℕ = λ p. rank v.grid (heights v) (3 * p) in
    let a : nx * near ≡ row = ap (λ n. nx * n) at in
    let b : nx * (near + 2) ≡ row + (nx + nx) = omega (arith, a) in
    let c : nx * (near + ny) ≡ row + nx * ny = omega (arith, a) in
    let d : nx * (near + ny + 2) ≡ row + nx * ny + (nx + nx) = omega (arith, a) in
    record { none = quiet_rows v y z hy hz (sym (ap r a) ∙ (low ∙ ap r b)) (sym (ap r c) ∙ (high ∙ ap r d)) }

-- the points of the rows up to one
pub few_points : (g : Grid) (row : ℕ) → IsGrid g → row < row_count g → g.nx * row + g.nx ≤ 160000000
few_points g row is h =
    let k : g.nx * suc row ≤ g.nx * row_count g = mul-le-mul_left g.nx h in
    let m : g.nx * suc row ≡ g.nx * row + g.nx = omega arith in
    let c : g.nx * row_count g ≡ point_count g = omega arith in
    let count = is.count in
    omega arith

pub total_low : (v : Leveled) (total row : ℕ) → IsGrid v.grid → row < row_count v.grid → total ≡ rank v.grid (heights v) (3 * (v.grid.nx * row)) → total + 3 * v.grid.nx < 2 ^ 32
total_low v total row is h e =
    let few = few_points v.grid row is h in
    let low = rank_low v.grid (heights v) (3 * (v.grid.nx * row)) in
    omega (arith, e)

pub none_before : (v : Leveled) → rank v.grid (heights v) (3 * (v.grid.nx * 0)) ≡ 0
none_before v = let low = rank_low v.grid (heights v) (3 * (v.grid.nx * 0)) in omega arith

module _ (v : Leveled) (numbers : List ℕ)
    (sums : (k : ℕ) → k < length numbers → rank v.grid (heights v) (3 * (v.grid.nx * (k + 1))) ≡ rank v.grid (heights v) (3 * (v.grid.nx * k)) + get_or numbers k 0) where
  sum_is : (r : ℕ) → r ≤ length numbers → sum (take r numbers) ≡ rank v.grid (heights v) (3 * (v.grid.nx * r))
  sum_is zero h = sym (none_before v)
  sum_is (suc r) h =
      let e : suc r ≡ r + 1 = omega arith in
      let low : r < length numbers = omega arith in
      ap (λ n. sum (take n numbers)) e
      ∙ (sum_by_more (λ n. n) numbers r 0 low ∙ (ap (λ n. n + get_or numbers r 0) (sum_is r (omega arith)) ∙ (sym (sums r low) ∙ ap (λ n. rank v.grid (heights v) (3 * (v.grid.nx * n))) (sym e))))

  -- the sums of the numbers of the rows are the numbers of edges before each
  pub ranked : (ranks : RowNumbers) (total : ℕ) → ranks ≡ record { grid = v.grid; numbers = sums_before numbers } → length numbers ≡ row_count v.grid
      → total ≡ rank v.grid (heights v) (3 * (v.grid.nx * row_count v.grid)) → AreRowRanks v ranks total
  ranked ranks total e rows all = record {
    grid = ap (λ (n : RowNumbers). n.grid) e;
    before = λ r h. ap (λ (n : RowNumbers). get_or n.numbers r 0) e
        ∙ (get_or-map-range_with_len (λ k. sum (take k numbers)) 0 (length numbers) r r 0 (omega arith) (zero-add r) ∙ sum_is r (omega arith));
    all = all;
  }

pub each_few : (most : ℕ) (numbers : List ℕ) → ((k : ℕ) → k < length numbers → get_or numbers k 0 ≤ most) → All (λ n. n ≤ most) numbers
each_few most numbers few k d low = subst (λ n. n ≤ most) (sym (get_or_default numbers k d 0 low)) (few k low)

pub few_rows : (g : Grid) → IsGrid g → row_count g ≤ 1026 * 1026
few_rows g is =
    let y = is.y.most in
    let z = is.z.most in
    let a : g.ny * g.nz ≤ g.ny * 1026 = mul-le-mul_left g.ny z in
    omega arith

-- one row more is counted
pub record HasCount (v : Leveled) (old new : RowNumbers) (row count : ℕ) : Type 0 where
  pub grid : new.grid ≡ v.grid
  pub rows : length new.numbers ≡ row_count v.grid
  pub same : get_or new.numbers row 0 ≡ count
  pub others : (k : ℕ) → k < row → get_or new.numbers k 0 ≡ get_or old.numbers k 0

pub count_more : (v : Leveled) (old new : RowNumbers) (row y z count : ℕ) → old.grid ≡ v.grid → length old.numbers ≡ row_count v.grid → row < row_count v.grid
    → y + v.grid.ny * z ≡ row → new ≡ record { grid = old.grid; numbers = set old.numbers (y + old.grid.ny * z) count } → HasCount v old new row count
count_more v old new row y z count grid rows low at made =
    let place : y + old.grid.ny * z ≡ row = ap (λ (g : Grid). y + g.ny * z) grid ∙ at in
    let numbers : new.numbers ≡ set old.numbers row count = ap (λ (n : RowNumbers). n.numbers) made ∙ ap (λ i. set old.numbers i count) place in
    record {
      grid = ap (λ (n : RowNumbers). n.grid) made ∙ grid;
      rows = ap length numbers ∙ (length-set old.numbers row count ∙ rows);
      same = ap (λ l. get_or l row 0) numbers ∙ get_or-set_same old.numbers row count 0 (omega arith);
      others = λ k earlier. ap (λ l. get_or l k 0) numbers ∙ get_or-set_other old.numbers row k count 0 (λ e. omega arith);
    }

-- the number of a row
pub row_low : (g : Grid) (y z : ℕ) → y < g.ny → z < g.nz → y + g.ny * z < row_count g
row_low g y z hy hz =
    let k : g.ny * suc z ≤ g.ny * g.nz = mul-le-mul_left g.ny hz in
    let e : g.ny * suc z ≡ g.ny * z + g.ny = omega arith in
    omega arith

-- where a row of points stands
pub record RowAt (v : Leveled) (row y z : ℕ) : Type 0 where
  pub y_low : y < v.grid.ny
  pub z_low : z < v.grid.nz
  pub row_is : y + v.grid.ny * z ≡ row

-- a walk has come to the row of a number
pub record HasCome (v : Leveled) (row : ℕ) (place : RowPlace) : Type 0 where
  pub y_low : place.y < v.grid.ny
  pub row_is : row_number v.grid place ≡ row

pub come_first : (v : Leveled) (place : RowPlace) → IsGrid v.grid → place.y ≡ 0 → place.z ≡ 0 → HasCome v 0 place
come_first v place is y z =
    let none : v.grid.ny * place.z ≡ v.grid.ny * 0 = ap (λ n. v.grid.ny * n) z in
    let least = is.y.least in
    record { y_low = omega (arith, y); row_is = omega (arith, y, none) }

pub come_next : (v : Leveled) (g : Grid) (row : ℕ) (place next : RowPlace) → g ≡ v.grid → next.y < g.ny → row_number g next ≡ row_number g place + 1
    → HasCome v row place → HasCome v (row + 1) next
come_next v g row place next same low on come = record {
  y_low = subst (λ (g : Grid). next.y < g.ny) same low;
  row_is = subst (λ g. row_number g next ≡ row_number g place + 1) same on ∙ ap (λ n. n + 1) come.row_is;
}

pub come_at : (v : Leveled) (row : ℕ) (place : RowPlace) → HasCome v row place → row < row_count v.grid → RowAt v row place.y place.z
come_at v row place come low = record {
  y_low = come.y_low;
  z_low = elim (cases_lt place.z v.grid.nz) [
    | inl z_low ↦ z_low
    | inr high ↦ (
        let k : v.grid.ny * v.grid.nz ≤ v.grid.ny * place.z = mul-le-mul_left v.grid.ny high in
        let at = come.row_is in
        absurd (omega arith))
  ];
  row_is = come.row_is;
}

-- the same of another volume that is equal
pub row_of_same : (v w : Leveled) (row y z : ℕ) → v ≡ w → RowAt w row y z → RowAt v row y z
row_of_same v w row y z same at = subst (λ (v : Leveled). RowAt v row y z) (sym same) at

-- how many rows a walk goes through
pub rows_are : (v : Leveled) (g : Grid) (ny nz : ℕ) → g ≡ v.grid → ny ≡ g.ny → nz ≡ g.nz → ny * nz ≡ row_count v.grid
rows_are v g ny nz same ey ez = ap (λ n. n * nz) ey ∙ (ap (λ n. g.ny * n) ez ∙ ap row_count same)

-- how many rows the lowest slices have, and that these are rows of the grid
pub record AreOwned (v : Leveled) (slices rows : ℕ) : Type 0 where
  pub count : rows ≡ v.grid.ny * slices
  pub few : v.grid.ny * slices ≤ row_count v.grid

pub owned_are : (v : Leveled) (g : Grid) (ny slices : ℕ) → g ≡ v.grid → ny ≡ g.ny → slices ≤ v.grid.nz → AreOwned v slices (ny * slices)
owned_are v g ny slices same width few = record {
  count = ap (λ n. n * slices) width ∙ ap (λ (g : Grid). g.ny * slices) same;
  few = mul-le-mul_left v.grid.ny few;
}
