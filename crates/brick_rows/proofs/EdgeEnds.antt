-- The ends of a crossing edge of a row, among the copies of the brick that holds its point.
use Rattle.std.proofs.Common.{◌≡◌, ℕ, zero, suc, ◌+◌, ◌-◌, ◌*◌, ◌/◌, ◌%◌, ◌<◌, ◌∷◌, [], All, Bool, List, drop, length, get_or, map, true, min, sym, ◌∙◌, ap, subst, ℤ, pos, arith}
use Rattle.std.specs.List.{filter, range_with_len}
use Rattle.std.proofs.lemmas.Bool.{ltb-true}
use Rattle.std.proofs.lemmas.List.{ext_get_or, get_or-drop, get_or-map, get_or-take, length-map}
use Rattle.std.proofs.lemmas.List.Elements.{All-filter, filter_passes}
use Rattle.std.proofs.lemmas.List.FromFn.{get_or-range_with_len, length-range_with_len}
use Rattle.iso_defs.specs.Grid.{Grid, index, stride, differ, is_above, is_crossing}
use Rattle.iso_defs.specs.Bricks.{brick_count, bricks_along, in_brick}
use Rattle.iso_defs.specs.Place.{place}
use Rattle.iso_defs.proofs.Points.{index_in, x_index, y_index, z_index}
use Rattle.iso_base.specs.Volume.{IsSample, shifted, IsGrid, sample}
use Rattle.brick_store.specs.Copies.{AreAllCopies}
use Rattle.crossing_edges.specs.Flags.{edge_place, names_in, places_in}
use Rattle.crossing_edges.proofs.NextPoints.{Ends, ends, place_at}
use Rattle.flat_mesh.specs.Lattice.{IsLeveled, Leveled, heights}
use Rattle.flat_mesh.specs.Rows.{row_start}
use Rattle.mesh_rows.specs.Rows.{AreEdges, row_places}
use Rattle.brick_rows.specs.declared.bricks.PointRow.{PointRow}
use Rattle.brick_rows.specs.Bricks.{IsPointRow}
use Rattle.brick_rows.proofs.Places.{number_in, offset_point, row_there}

-- where a row is in the bricks that hold it, and the next ones
record IsNear (g : Grid) (row : PointRow) : Type 0 where
  y_in : row.bricks.y < 9
  z_in : row.bricks.z < 9
  y_next : row.y + 1 < g.ny → row.bricks.y + 1 < 9
  z_next : row.z + 1 < g.nz → row.bricks.z + 1 < 9

near_bricks : (g : Grid) → IsGrid g → (row : PointRow) → IsPointRow g row → IsNear g row
near_bricks g is row here =
    let hold = here.bricks in
    let at_y = hold.y_at in
    let at_z = hold.z_at in
    let least_y = is.y.least in
    let least_z = is.z.least in
    record {
      y_in = let low = here.y_low in omega arith;
      z_in = let low = here.z_low in omega arith;
      y_next = λ more. omega arith;
      z_next = λ more. omega arith;
    }

-- a copy of the sample of a point stands in a place of a list
pub record IsCopy (v : Leveled) (copies : List ℤ) (place p : ℕ) : Type 0 where
  pub inside : place < length copies
  pub same : sample copies place ≡ sample v.samples p
  pub range : IsSample (sample v.samples p)

module _ (v : Leveled) (is : IsLeveled v) (row : PointRow) (here : IsPointRow v.grid row) (copies : List ℤ) (are : AreAllCopies v.grid v.samples copies)
    (x brick : ℕ) (in_row : x < v.grid.nx) (which : brick ≡ min (x / 8) (bricks_along v.grid 0 - 1)) where
  wide : 8 * brick + 1 < v.grid.nx
  wide = let least = is.grid.x.least in omega arith

  -- the copy of a point of the brick
  copy_of : (i j k p place : ℕ) → 8 * brick + i ≡ p → i < 9 → p < v.grid.nx → row.y + j < v.grid.ny → row.z + k < v.grid.nz → row.bricks.y + j < 9 → row.bricks.z + k < 9
      → place ≡ 729 * (row.bricks.first + brick) + (i + 9 * (row.bricks.y + j + 9 * (row.bricks.z + k))) → IsCopy v copies place (index v.grid p (row.y + j) (row.z + k))
  copy_of i j k p place along few px py pz fy fz at =
      let b : ℕ = row.bricks.first + brick in
      let q : ℕ = i + 9 * (row.bricks.y + j + 9 * (row.bricks.z + k)) in
      let known : b < brick_count v.grid = number_in v.grid is.grid brick row.y row.z wide here.y_low here.z_low row.bricks here.bricks in
      let there : in_brick v.grid b i (row.bricks.y + j) (row.bricks.z + k) ≡ true
      = row_there v.grid is.grid brick row.y row.z wide here.y_low here.z_low row.bricks here.bricks i j k (omega (arith, along, px)) py pz in
      let all = are.count in
      let own = are.each b known in
      let point = index_in v.grid p (row.y + j) (row.z + k) px py pz in
      record {
        inside = omega (arith, at, all, known, few, fy, fz);
        same = ap (sample copies) at
            ∙ (sym (get_or-take 729 (drop (729 * b) copies) q (pos 0) (omega (arith, few, fy, fz)) ∙ get_or-drop (729 * b) copies q (pos 0))
            ∙ (own.each i (row.bricks.y + j) (row.bricks.z + k) few fy fz there
            ∙ (ap (sample v.samples) (offset_point v.grid is.grid brick row.y row.z wide here.y_low here.z_low row.bricks here.bricks i j k)
            ∙ ap (λ n. sample v.samples (index v.grid n (row.y + j) (row.z + k))) along)));
        range = is.range (index v.grid p (row.y + j) (row.z + k)) (pos 0) (omega (arith, point, is.count));
      }

  abbrev point : ℕ
  point = index v.grid x row.y row.z

  module _ (start low : ℕ) (begin : start ≡ 729 * row.bricks.first + 9 * (row.bricks.y + 9 * row.bricks.z)) (at : low ≡ start + 721 * brick + x) where
    low_end : IsCopy v copies low point
    low_end =
        let near = near_bricks v.grid is.grid row here in
        let same_y : row.y + 0 ≡ row.y = omega arith in
        let same_z : row.z + 0 ≡ row.z = omega arith in
        let plain : index v.grid x (row.y + 0) (row.z + 0) ≡ point = ap (λ n. index v.grid x n (row.z + 0)) same_y ∙ ap (index v.grid x row.y) same_z in
        subst (IsCopy v copies low) plain
        (copy_of (x - 8 * brick) 0 0 x low (omega (arith, which)) (omega (arith, which, in_row)) in_row (omega (arith, here.y_low)) (omega (arith, here.z_low)) (omega (arith, near.y_in)) (omega (arith, near.z_in))
        (omega (arith, begin, at, which)))

    high_end : (axis high : ℕ) → axis < 3 → is_crossing v.grid (heights v) (3 * point + axis) ≡ true → high ≡ low + get_or (1 ∷ 9 ∷ 81 ∷ []) axis 0 → IsCopy v copies high (point + stride v.grid axis)
    high_end zero high few crosses step =
        let e : Ends v.grid (heights v) point 0 = ends v.grid (heights v) point 0 few crosses in
        let near = near_bricks v.grid is.grid row here in
        let x_is = x_index v.grid x row.y row.z in_row here.y_low here.z_low in
        let next : x + 1 < v.grid.nx = let n = ltb-true _ _ e.next in omega (arith, n, x_is) in
        let further : index v.grid (x + 1) (row.y + 0) (row.z + 0) ≡ point + 1 = omega arith in
        subst (IsCopy v copies high) further
        (copy_of (x - 8 * brick + 1) 0 0 (x + 1) high (omega (arith, which)) (omega (arith, which, next)) next (omega (arith, here.y_low)) (omega (arith, here.z_low)) (omega (arith, near.y_in)) (omega (arith, near.z_in))
        (omega (arith, begin, at, which, step)))
    high_end (suc zero) high few crosses step =
        let e : Ends v.grid (heights v) point 1 = ends v.grid (heights v) point 1 few crosses in
        let near = near_bricks v.grid is.grid row here in
        let y_is = y_index v.grid x row.y row.z in_row here.y_low here.z_low in
        let next : row.y + 1 < v.grid.ny = let n = ltb-true _ _ e.next in omega (arith, n, y_is) in
        let further : index v.grid x (row.y + 1) (row.z + 0) ≡ point + v.grid.nx = omega arith in
        subst (IsCopy v copies high) further
        (copy_of (x - 8 * brick) 1 0 x high (omega (arith, which)) (omega (arith, which, in_row)) in_row next (omega (arith, here.z_low)) (omega (arith, near.y_next next)) (omega (arith, near.z_in))
        (omega (arith, begin, at, which, step)))
    high_end (suc (suc zero)) high few crosses step =
        let e : Ends v.grid (heights v) point 2 = ends v.grid (heights v) point 2 few crosses in
        let near = near_bricks v.grid is.grid row here in
        let z_is = z_index v.grid x row.y row.z in_row here.y_low here.z_low in
        let next : row.z + 1 < v.grid.nz = let n = ltb-true _ _ e.next in omega (arith, n, z_is) in
        let further : index v.grid x (row.y + 0) (row.z + 1) ≡ point + v.grid.nx * v.grid.ny = omega arith in
        subst (IsCopy v copies high) further
        (copy_of (x - 8 * brick) 0 1 x high (omega (arith, which)) (omega (arith, which, in_row)) in_row (omega (arith, here.y_low)) next (omega (arith, near.y_in)) (omega (arith, near.z_next next))
        (omega (arith, begin, at, which, step)))
    high_end (suc (suc (suc n))) high few crosses step = absurd (omega (arith, few))

-- both ends of a crossing edge
pub record AreEnds (v : Leveled) (copies : List ℤ) (n low high : ℕ) : Type 0 where
  pub low_inside : low < length copies
  pub high_inside : high < length copies
  pub low_range : IsSample (sample copies low)
  pub high_range : IsSample (sample copies high)
  pub apart : differ (is_above (shifted (sample copies low) v.level)) (is_above (shifted (sample copies high) v.level)) ≡ true
  pub place_is : place (shifted (sample copies low) v.level) (shifted (sample copies high) v.level) ≡ edge_place v.grid (heights v) n

pub ends_of : (v : Leveled) (is : IsLeveled v) (row : PointRow) (here : IsPointRow v.grid row) (copies : List ℤ) (are : AreAllCopies v.grid v.samples copies)
    (start last edge x brick low high : ℕ) → start ≡ 729 * row.bricks.first + 9 * (row.bricks.y + 9 * row.bricks.z) → last + 1 ≡ bricks_along v.grid 0
    → edge < 3 * v.grid.nx → is_crossing v.grid (heights v) (3 * row_start v.grid row.y row.z + edge) ≡ true
    → x ≡ edge / 3 → brick ≡ min (x / 8) last → low ≡ start + 721 * brick + x → high ≡ low + get_or (1 ∷ 9 ∷ 81 ∷ []) (edge % 3) 0
    → AreEnds v copies (3 * row_start v.grid row.y row.z + edge) low high
ends_of v is row here copies are start last edge x brick low high begin all few crosses along which at step =
    let axis : ℕ = edge % 3 in
    let in_row : x < v.grid.nx = omega (arith, few, along) in
    let own : brick ≡ min (x / 8) (bricks_along v.grid 0 - 1) = omega (arith, which, all) in
    let p : ℕ = index v.grid x row.y row.z in
    let name : 3 * row_start v.grid row.y row.z + edge ≡ 3 * p + axis = omega (arith, along) in
    let axis_low : axis < 3 = omega arith in
    let crosses_at : is_crossing v.grid (heights v) (3 * p + axis) ≡ true = sym (ap (is_crossing v.grid (heights v)) name) ∙ crosses in
    let near = low_end v is row here copies are x brick in_row own start low begin at in
    let far = high_end v is row here copies are x brick in_row own start low begin at axis high axis_low crosses_at step in
    let e : Ends v.grid (heights v) p axis = ends v.grid (heights v) p axis axis_low crosses_at in
    let same_low : shifted (sample copies low) v.level ≡ heights v p = ap (λ s. shifted s v.level) near.same in
    let same_high : shifted (sample copies high) v.level ≡ heights v (p + stride v.grid axis) = ap (λ s. shifted s v.level) far.same in
    record {
      low_inside = near.inside;
      high_inside = far.inside;
      low_range = subst IsSample (sym near.same) near.range;
      high_range = subst IsSample (sym far.same) far.range;
      apart = ap (λ s. differ (is_above s) (is_above (shifted (sample copies high) v.level))) same_low ∙ (ap (λ s. differ (is_above (heights v p)) (is_above s)) same_high ∙ e.apart);
      place_is = ap (λ s. place s (shifted (sample copies high) v.level)) same_low ∙ (ap (place (heights v p)) same_high
          ∙ (sym (place_at v.grid (heights v) p axis axis_low) ∙ sym (ap (edge_place v.grid (heights v)) name)));
    }

-- the edges of a row
pub record IsCrossingOf (v : Leveled) (y z edge : ℕ) : Type 0 where
  pub low : edge < 3 * v.grid.nx
  pub crosses : is_crossing v.grid (heights v) (3 * row_start v.grid y z + edge) ≡ true

pub crossing_of : (v : Leveled) (y z : ℕ) (edges : List ℕ) → AreEdges v y z edges → (i : ℕ) → i < length edges → IsCrossingOf v y z (get_or edges i 0)
unfolding names_in
crossing_of v y z edges are i low =
    let start : ℕ = 3 * row_start v.grid y z in
    let test : ℕ → Bool = is_crossing v.grid (heights v) in
    let names : List ℕ = filter test (range_with_len start (3 * v.grid.nx)) in
    let long : i < length names = omega (arith, low, length-map edges (λ e. start + e), ap length are.names) in
    let here : start + get_or edges i 0 ≡ get_or names i 0 = sym (get_or-map (λ e. start + e) edges i 0 0 low) ∙ ap (λ l. get_or l i 0) are.names in
    let within : start + get_or edges i 0 < start + 3 * v.grid.nx
    = subst (λ n. n < start + 3 * v.grid.nx) (sym here) (All-filter test (λ n. n < start + 3 * v.grid.nx) (range_with_len start (3 * v.grid.nx)) (below_end start (3 * v.grid.nx)) i 0 long) in
    record {
      low = omega (arith, within);
      crosses = ap test here ∙ filter_passes test (range_with_len start (3 * v.grid.nx)) i 0 long;
    }
  where
    below_end : (a n : ℕ) → All (λ m. m < a + n) (range_with_len a n)
    below_end a n k d less =
        let few : k < n = omega (arith, less, length-range_with_len a n) in
        subst (λ m. m < a + n) (sym (get_or-range_with_len a n k d few)) (omega (arith, few))

-- numbers that are where each edge of a row is crossed
pub places_are : (v : Leveled) (y z : ℕ) (edges places : List ℕ) → AreEdges v y z edges → length places ≡ length edges
    → ((i : ℕ) → i < length edges → get_or places i 0 ≡ edge_place v.grid (heights v) (3 * row_start v.grid y z + get_or edges i 0)) → places ≡ row_places v y z
unfolding places_in
places_are v y z edges places are long each =
    let at : ℕ → ℕ = edge_place v.grid (heights v) in
    let name : ℕ → ℕ = λ e. 3 * row_start v.grid y z + e in
    let names : List ℕ = map name edges in
    let count : length names ≡ length edges = length-map edges name in
    ext_get_or 0 places (map at names) (long ∙ (sym count ∙ sym (length-map names at)))
    (λ i low. each i (omega (arith, low, long)) ∙ (ap at (sym (get_or-map name edges i 0 0 (omega (arith, low, long))))
    ∙ sym (get_or-map at names i 0 0 (omega (arith, low, long, count)))))
    ∙ ap (map at) are.names
