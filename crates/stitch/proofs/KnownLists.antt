-- What lists that are kept say of rows.
use Rattle.std.proofs.Common.{◌≡◌, ℕ, suc, ◌+◌, ◌*◌, ◌/◌, ◌%◌, ◌<◌, ◌≤◌, List, drop, length, take, sym, ◌∙◌, ap, subst, arith, inl, inr, ◌⊎◌}
use Rattle.std.proofs.lemmas.List.{length-map}
use Rattle.std.proofs.lemmas.List.FromFn.{length-range_with_len}
use Rattle.std.proofs.lemmas.List.Sums.{count_by-le-length, length-filter}
use Rattle.std.proofs.Math.Nat.{mul-le-mul_left}
use Rattle.std.specs.List.{range_with_len}
use Rattle.iso_defs.specs.Grid.{Grid, is_crossing}
use Rattle.iso_defs.specs.Rows.{row_count}
use Rattle.crossing_edges.specs.Flags.{names_in, places_in}
use Rattle.flat_mesh.specs.Lattice.{Leveled, heights}
use Rattle.flat_mesh.specs.Rows.{row_start}
use Rattle.mesh_rows.specs.Rows.{AreEdges, row_names, row_places}
use Rattle.brick_rows.proofs.NextBricks.{at_row}
use Rattle.stitch.specs.declared.recent.RecentLists.{RecentLists}
use Rattle.stitch.specs.Cells.{AreListed}
use Rattle.stitch.specs.Recent.{AreRecent, AreWithin, HasNone, IsKept, IsPut}
use Rattle.stitch.proofs.AskedRows.{row_y, row_z}

-- the numbers of rows
pub row_low : (g : Grid) (y z : ℕ) → y < g.ny → z < g.nz → y + g.ny * z < row_count g
row_low g y z hy hz =
    let k : g.ny * suc z ≤ g.ny * g.nz = mul-le-mul_left g.ny hz in
    let m : g.ny * suc z ≡ g.ny * z + g.ny = omega arith in
    omega arith

-- what is said of a row by its number is said of it by its coordinates
module _ (g : Grid) (Says : ℕ → ℕ → Type 0) (y z : ℕ) (low : y < g.ny) where
  pub by_coordinates : Says ((y + g.ny * z) % g.ny) ((y + g.ny * z) / g.ny) → Says y z
  by_coordinates said = at_row Says ((y + g.ny * z) % g.ny) ((y + g.ny * z) / g.ny) y z (row_y g.ny y z low) (row_z g.ny y z low) said

  pub by_number : Says y z → Says ((y + g.ny * z) % g.ny) ((y + g.ny * z) / g.ny)
  by_number said = at_row Says y z ((y + g.ny * z) % g.ny) ((y + g.ny * z) / g.ny) (sym (row_y g.ny y z low)) (sym (row_z g.ny y z low)) said

-- so many crossing edges a row has at most
pub names_few : (v : Leveled) (y z : ℕ) → length (row_names v y z) ≤ 3 * v.grid.nx
unfolding names_in
names_few v y z =
    let all : List ℕ = range_with_len (3 * row_start v.grid y z) (3 * v.grid.nx) in
    let count = length-filter (is_crossing v.grid (heights v)) all in
    let most = count_by-le-length (is_crossing v.grid (heights v)) all in
    let long = length-range_with_len (3 * row_start v.grid y z) (3 * v.grid.nx) in
    omega (arith, count, most, long)

pub edges_long : (v : Leveled) (y z : ℕ) (edges : List ℕ) → AreEdges v y z edges → length edges ≡ length (row_names v y z)
edges_long v y z edges are = sym (length-map edges (λ e. 3 * row_start v.grid y z + e)) ∙ ap length are.names

pub places_long : (v : Leveled) (y z : ℕ) → length (row_places v y z) ≡ length (row_names v y z)
unfolding places_in
places_long v y z = length-map (row_names v y z) _

-- a list has the active cells of a row, and behind them their cases
abbrev HasCells : Leveled → ℕ → ℕ → List ℕ → Type 0
HasCells v y z list = AreListed v y z (take (length list / 2) list) (drop (length list / 2) list)

-- one list more is known
pub known_more : (v : Leveled) (old new : RecentLists) (key : ℕ) (list : List ℕ) → AreRecent v old → AreWithin new
    → ((k : ℕ) (l : List ℕ) → IsKept new k l → IsPut key list k l ⊎ IsKept old k l)
    → ((r : ℕ) → key ≡ 3 * r → AreEdges v (r % v.grid.ny) (r / v.grid.ny) list)
    → ((r : ℕ) → key ≡ 3 * r + 1 → list ≡ row_places v (r % v.grid.ny) (r / v.grid.ny))
    → ((r : ℕ) → key ≡ 3 * r + 2 → HasCells v (r % v.grid.ny) (r / v.grid.ny) list) → AreRecent v new
known_more v old new key list are within each edges places cells = record {
  within = within;
  edges = λ r l low kept. elim (each (3 * r) l kept) [
    | inl put ↦ subst (AreEdges v (r % v.grid.ny) (r / v.grid.ny)) (sym put.same_list) (edges r (sym put.same_key))
    | inr was ↦ are.edges r l low was
  ];
  places = λ r l low kept. elim (each (3 * r + 1) l kept) [
    | inl put ↦ put.same_list ∙ places r (sym put.same_key)
    | inr was ↦ are.places r l low was
  ];
  cells = λ r l low in_y in_z kept. elim (each (3 * r + 2) l kept) [
    | inl put ↦ subst (HasCells v (r % v.grid.ny) (r / v.grid.ny)) (sym put.same_list) (cells r (sym put.same_key))
    | inr was ↦ are.cells r l low in_y in_z was
  ];
}

-- the crossing edges of a row more
pub known_edges : (v : Leveled) (old new : RecentLists) (y z key : ℕ) (list : List ℕ) → y < v.grid.ny → key ≡ 3 * (y + v.grid.ny * z) → AreRecent v old → AreWithin new
    → ((k : ℕ) (l : List ℕ) → IsKept new k l → IsPut key list k l ⊎ IsKept old k l) → AreEdges v y z list → AreRecent v new
known_edges v old new y z key list low at are within each edges =
    known_more v old new key list are within each
    (λ r same. subst (λ r. AreEdges v (r % v.grid.ny) (r / v.grid.ny) list) (omega (arith, at, same)) (by_number v.grid (λ y z. AreEdges v y z list) y z low edges))
    (λ r same. absurd (omega (arith, at, same)))
    (λ r same. absurd (omega (arith, at, same)))

-- the places of a row more
pub known_places : (v : Leveled) (old new : RecentLists) (y z key : ℕ) (list : List ℕ) → y < v.grid.ny → key ≡ 3 * (y + v.grid.ny * z) + 1 → AreRecent v old → AreWithin new
    → ((k : ℕ) (l : List ℕ) → IsKept new k l → IsPut key list k l ⊎ IsKept old k l) → list ≡ row_places v y z → AreRecent v new
known_places v old new y z key list low at are within each places =
    known_more v old new key list are within each
    (λ r same. absurd (omega (arith, at, same)))
    (λ r same. subst (λ r. list ≡ row_places v (r % v.grid.ny) (r / v.grid.ny)) (omega (arith, at, same)) (by_number v.grid (λ y z. list ≡ row_places v y z) y z low places))
    (λ r same. absurd (omega (arith, at, same)))

-- the active cells of a row more
pub known_cells : (v : Leveled) (old new : RecentLists) (y z key : ℕ) (list : List ℕ) → y < v.grid.ny → key ≡ 3 * (y + v.grid.ny * z) + 2 → AreRecent v old → AreWithin new
    → ((k : ℕ) (l : List ℕ) → IsKept new k l → IsPut key list k l ⊎ IsKept old k l) → HasCells v y z list → AreRecent v new
known_cells v old new y z key list low at are within each cells =
    known_more v old new key list are within each
    (λ r same. absurd (omega (arith, at, same)))
    (λ r same. absurd (omega (arith, at, same)))
    (λ r same. subst (λ r. HasCells v (r % v.grid.ny) (r / v.grid.ny) list) (omega (arith, at, same)) (by_number v.grid (λ y z. HasCells v y z list) y z low cells))

-- what is kept of a row
module _ (v : Leveled) (lists : RecentLists) (y z key : ℕ) (list : List ℕ) (are : AreRecent v lists) (low_y : y < v.grid.ny) (low_z : z < v.grid.nz) (kept : IsKept lists key list) where
  pub edges_kept : key ≡ 3 * (y + v.grid.ny * z) → AreEdges v y z list
  edges_kept at =
      by_coordinates v.grid (λ y z. AreEdges v y z list) y z low_y
      (are.edges (y + v.grid.ny * z) list (row_low v.grid y z low_y low_z) (subst (λ k. IsKept lists k list) at kept))

  pub places_kept : key ≡ 3 * (y + v.grid.ny * z) + 1 → list ≡ row_places v y z
  places_kept at =
      by_coordinates v.grid (λ y z. list ≡ row_places v y z) y z low_y
      (are.places (y + v.grid.ny * z) list (row_low v.grid y z low_y low_z) (subst (λ k. IsKept lists k list) at kept))

  pub cells_kept : y + 1 < v.grid.ny → z + 1 < v.grid.nz → key ≡ 3 * (y + v.grid.ny * z) + 2 → HasCells v y z list
  cells_kept in_y in_z at =
      let here_y = row_y v.grid.ny y z low_y in
      let here_z = row_z v.grid.ny y z low_y in
      by_coordinates v.grid (λ y z. HasCells v y z list) y z low_y
      (are.cells (y + v.grid.ny * z) list (row_low v.grid y z low_y low_z) (omega (arith, here_y, in_y)) (omega (arith, here_z, in_z)) (subst (λ k. IsKept lists k list) at kept))

-- nothing is known
pub known_none : (v : Leveled) (lists : RecentLists) → AreWithin lists → HasNone lists → AreRecent v lists
known_none v lists within nothing = record {
  within = within;
  edges = λ r list low kept. absurd (nothing.none (3 * r) list kept);
  places = λ r list low kept. absurd (nothing.none (3 * r + 1) list kept);
  cells = λ r list low in_y in_z kept. absurd (nothing.none (3 * r + 2) list kept);
}
