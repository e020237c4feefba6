-- The rows of a slice of a brick.
use Rattle.std.proofs.Common.{◌≡◌, ◌∙◌, ℕ, ◌+◌, ◌-◌, ◌*◌, ◌/◌, ◌%◌, ◌<◌, ◌≤◌, ◌&&◌, ℤ, true, cond, List, length, drop, get_or, set, take, refl, sym, ap, subst, arith, zero-add}
use Rattle.std.proofs.lemmas.List.{ext_get_or, get_or-drop, get_or-set_same, get_or-take, length-drop, length-take}
use Rattle.std.proofs.lemmas.List.FromFn.{get_or-map-range_with_len, length-map-range_with_len}
use Rattle.iso_defs.specs.Grid.{Grid}
use Rattle.iso_defs.specs.Cell.{cell_signs}
use Rattle.iso_defs.specs.Bricks.{brick_cell, brick_point, cells_along, entries, in_brick, is_mixed}
use Rattle.iso_base.specs.Volume.{field, Volume}
use Rattle.brick_store.specs.Holding.{points_along}
use Rattle.brick_mesh.specs.Block.{BrickAt, IsCell, heights}
use Rattle.brick_mesh.specs.Entries.{case_of}
use Rattle.brick_mesh.proofs.Runs.{is_active_in}
use Rattle.brick_mesh.proofs.Spans.{inside, offsets}
use Rattle.mesh_cache.specs.Cache.{Item}
use Rattle.mesh_cache.specs.Economy.{is_fresh}
use Rattle.brick_rows.specs.Named.{IsCellRow}
use Rattle.cached_mesh.specs.declared.slices.Slices.{Slices}
use Rattle.cached_mesh.specs.Kept.{last_case, looped_case, looped_cases}
use Rattle.cached_mesh.specs.Slices.{AreNone, AreSlices, HaveSlice, IsHeld}
use Rattle.cached_mesh.proofs.EntryRuns.{case_at, case_of_cell}

-- the first row of cells of a slice in which the brick has a row of cells
pub first_there : (g : Grid) (brick y z : ℕ) → IsCellRow g brick y z → in_brick g brick 1 1 (z + 1) ≡ true
first_there g brick y z row =
    let hy : y < 8 = row.y_low in
    let hz : z < 8 = row.z_low in
    let o = offsets g brick 1 (y + 1) (z + 1) (omega arith) (omega arith) (omega arith) row.there in
    inside g brick 1 1 (z + 1) (record { x-in = o.x-in; y-in = omega (arith, o.y-in); z-in = o.z-in }) (omega arith) (omega arith) (omega arith)

-- and that of a slice before it
pub before_there : (g : Grid) (brick z first : ℕ) → in_brick g brick 1 1 (z + 1) ≡ true → z < 8 → first ≤ z → in_brick g brick 1 1 (first + 1) ≡ true
before_there g brick z first there low from =
    let o = offsets g brick 1 1 (z + 1) (omega arith) (omega arith) (omega (arith, low)) there in
    inside g brick 1 1 (first + 1) (record { x-in = o.x-in; y-in = o.y-in; z-in = omega (arith, o.z-in, from) }) (omega arith) (omega arith) (omega (arith, low, from))

-- the cell at a place of a row that is there
cell_there : (b : BrickAt) (y z x cell : ℕ) → IsCellRow b.grid b.brick y z → x + 1 < points_along b.grid b.brick 0 → x < 8 → cell ≡ 64 * z + (8 * y + x) → IsCell b cell
cell_there b y z x cell row room few is =
    let hy : y < 8 = row.y_low in
    let hz : z < 8 = row.z_low in
    let o = offsets b.grid b.brick 1 (y + 1) (z + 1) (omega arith) (omega arith) (omega arith) row.there in
    record {
      local = omega arith;
      there = inside b.grid b.brick (cell % 8 + 1) (cell / 8 % 8 + 1) (cell / 64 + 1)
          (record { x-in = omega (arith, room); y-in = omega (arith, o.y-in); z-in = omega (arith, o.z-in) })
          (omega arith) (omega arith) (omega arith);
    }

-- the cases of some slices of a brick, by its entries
module _ (b : BrickAt) (first end : ℕ) (all whole cases : List ℕ) (is : all ≡ entries b.grid (heights b) b.brick) (long : length cases ≡ 256)
    (half : end ≤ first / 4 * 4 + 4) (each : (k : ℕ) → 64 * first ≤ k → k < 64 * end → get_or whole k 0 ≡ last_case 0 all k)
    (put : (k : ℕ) → k < 256 → get_or cases k 0 ≡ get_or whole (64 * (first / 4 * 4) + k) 0) where
  module _ (y z : ℕ) (from : first ≤ z) (to : z < end) (row : IsCellRow b.grid b.brick y z) where
    case_here : (x : ℕ) → x + 1 < points_along b.grid b.brick 0 → x < 8 → get_or cases (8 * (y + 8 * (z % 4)) + x) 0 ≡ looped_case b.grid (heights b) (brick_point b.grid b.brick x y z)
    unfolding looped_case case_of
    case_here x room few =
        let hy : y < 8 = row.y_low in
        let hz : z < 8 = row.z_low in
        let cell : ℕ = 64 * z + (8 * y + x) in
        let there = cell_there b y z x cell row room few refl in
        let mixed : is_active_in b cell ≡ is_mixed (cell_signs b.grid (heights b) (brick_cell b.grid b.brick cell))
        = ap (λ h. h && is_mixed (cell_signs b.grid (heights b) (brick_cell b.grid b.brick cell))) there.there in
        let along_x : cell % 8 ≡ x = omega arith in
        let along_y : cell / 8 % 8 ≡ y = omega arith in
        let along_z : cell / 64 ≡ z = omega arith in
        let point : brick_cell b.grid b.brick cell ≡ brick_point b.grid b.brick x y z
        = ap (λ i. brick_point b.grid b.brick i (cell / 8 % 8) (cell / 64)) along_x
        ∙ (ap (λ j. brick_point b.grid b.brick x j (cell / 64)) along_y ∙ ap (brick_point b.grid b.brick x y) along_z) in
        let same : first / 4 ≡ z / 4 = omega (arith, from, to, half) in
        let at : 64 * (first / 4 * 4) + (8 * (y + 8 * (z % 4)) + x) ≡ cell = omega (arith, same) in
        put (8 * (y + 8 * (z % 4)) + x) (omega arith)
        ∙ (ap (λ k. get_or whole k 0) at
        ∙ (each cell (omega (arith, from)) (omega (arith, to))
        ∙ (case_of_cell b cell 0 all (omega arith) is
        ∙ (ap (λ t. cond t (case_at b cell) 0) mixed
        ∙ ap (λ q. cond (is_mixed (cell_signs b.grid (heights b) q)) (case_of b.grid (heights b) q) 0) point))))

    pub slices_row : (width : ℕ) → width ≡ points_along b.grid b.brick 0 - 1 → take width (drop (8 * (y + 8 * (z % 4))) cases) ≡ looped_cases b.grid (heights b) b.brick y z
    slices_row width w =
        let hy : y < 8 = row.y_low in
        let hz : z < 8 = row.z_low in
        let start : ℕ = 8 * (y + 8 * (z % 4)) in
        let few : width ≡ cells_along b.grid b.brick = omega arith in
        let narrow : width ≤ 8 = omega arith in
        let rest : length (drop start cases) ≡ 256 - start = length-drop start cases ∙ ap (λ n. n - start) long in
        let count : length (take width (drop start cases)) ≡ width = length-take width (drop start cases) ∙ (omega (arith, rest)) in
        let case = λ (x : ℕ). looped_case b.grid (heights b) (brick_point b.grid b.brick x y z) in
        ext_get_or 0 (take width (drop start cases)) (looped_cases b.grid (heights b) b.brick y z)
        (count ∙ (few ∙ sym (length-map-range_with_len case 0 (cells_along b.grid b.brick))))
        (λ x low.
        let within : x < width = omega (arith, count) in
        get_or-take width (drop start cases) x 0 within
        ∙ (get_or-drop start cases x 0
        ∙ (case_here x (omega arith) (omega arith)
        ∙ sym (get_or-map-range_with_len case 0 (cells_along b.grid b.brick) x x 0 (omega arith) (zero-add x)))))

-- no slices
pub none_slices : (v : Volume) (level : ℤ) (items : List Item) (slices : Slices) → AreNone slices → AreSlices v level items slices
none_slices v level items slices are = record {
  narrow = are.narrow;
  fresh = λ some. absurd (omega (arith, some, are.none));
  rows = λ y z from to row. absurd (omega (arith, to, are.none));
}

module _ (v : Volume) (level : ℤ) (items : List Item) (brick z : ℕ) (slices : Slices) (are : AreSlices v level items slices) (have : HaveSlice brick z slices) where
  -- the cases of a row of a slice that they have
  pub row_held : (y : ℕ) → IsCellRow v.grid brick y z → take slices.width (drop (8 * (y + 8 * (z % 4))) slices.cases) ≡ looped_cases v.grid (field v.samples level) brick y z
  row_held y row =
      are.rows y z have.from have.to (subst (λ n. IsCellRow v.grid n y z) (sym have.same_brick) row)
      ∙ ap (λ n. looped_cases v.grid (field v.samples level) n y z) have.same_brick

  -- their brick is kept
  pub fresh_held : is_fresh brick level items ≡ true
  fresh_held = subst (λ n. is_fresh n level items ≡ true) have.same_brick (are.fresh (omega (arith, have.from, have.to)))

-- slices that are put in the place of their brick
pub held_here : (brick z : ℕ) (held : List Slices) (slices : Slices) → length held ≡ 256 → HaveSlice brick z slices → IsHeld brick z (set held (brick % 256) slices)
held_here brick z held slices long have = record {
  here = λ other. subst (HaveSlice brick z) (sym (get_or-set_same held (brick % 256) slices other (omega (arith, long)))) have;
}
