-- Fields that agree at the points of a grid have the same mesh there.
use Rattle.std.proofs.Common.{◌≡◌, ℕ, ◌+◌, ◌-◌, ◌*◌, ◌/◌, ◌%◌, ◌<◌, ◌≤◌, Bool, true, false, ◌&&◌, cond, List, ◌++◌, map, refl, sym, ap, ap₂, ◌∙◌, subst, arith, eqb, ltb, ℤ}
use Rattle.std.specs.List.{filter, flat_map, range_with_len, enumerate_from, count_by}
use Rattle.std.proofs.lemmas.Bool.{ltb-true}
use Rattle.std.proofs.lemmas.Nat.{mod_below, div_below}
use Rattle.std.proofs.Math.Nat.{div-lt_iff_lt-mul, mod-eq_of_lt}
use Rattle.iso_defs.specs.Lists.{below}
use Rattle.iso_defs.specs.Grid.{Grid, stride, coordinate, point_count, name_bound, has_next, is_edge, is_cell, cells, edge_upper, is_above, differ, is_crossing, IsSolid}
use Rattle.iso_defs.specs.Cell.{corner_point, edge_corner, cell_edge, cell_values, signs_of, joined_of, case_loops, case_triangles}
use Rattle.iso_defs.specs.Place.{Position, place, mean, edge_coordinate, edge_position, centre_position}
use Rattle.iso_defs.specs.Scratch.{vertex_name, on_corners, cell_loops, has_centre, centre_name, cell_centres, cell_triangles, crossing_edges, vertices, number_of}
use Rattle.iso_defs.proofs.Coordinates.{height_moved}
use Rattle.triangle_laws.proofs.Lists.{In, In-filter, in_filter}
use Rattle.mesh_laws.proofs.Apart.{by_twelve}
use Rattle.mesh_laws.proofs.Cells.{range_at_least, range_in}
use Rattle.mesh_laws.proofs.Names.{corner_in}
use Rattle.mesh_laws.proofs.Padded.{by_three}
use Rattle.mesh_laws.proofs.TwoCells.{corner_below}
use Rattle.window_laws.proofs.Ascents.{map_agree_in, flat_map_agree_in, map-map}
use Rattle.slab_laws.specs.Slabs.{Slab, slice_size, lifted, owned_edges, owned_cells, owned_triangles, edge_places, centre_places}
use Rattle.slab_laws.proofs.Slices.{filter_alike}
use Rattle.slab_laws.proofs.Places.{position, Loop, loop_is}

-- what stands behind a test matters only where it passes
behind : (b x y : Bool) → (b ≡ true → x ≡ y) → (b && x) ≡ (b && y)
behind true x y h = h refl
behind false x y h = refl

-- the upper end of an edge is a point of the grid
upper_in : (g : Grid) (p a : ℕ) → IsSolid g → a < 3 → p < point_count g → has_next g a p ≡ true
    → p + stride g a < point_count g
upper_in g p a solid small low next =
    let area : 0 < g.nx * g.ny = positive g.nx g.ny solid.x solid.y in
    let height : p / (g.nx * g.ny) < g.nz = div_below p (g.nx * g.ny) g.nz area (turn g.nx g.ny g.nz p low) in
    let whole : coordinate g 2 p ≡ p / (g.nx * g.ny) = mod-eq_of_lt height in
    let mx : coordinate g 0 p < g.nx = mod_below (p / 1) g.nx solid.x in
    let my : coordinate g 1 p < g.ny = mod_below (p / g.nx) g.ny solid.y in
    let ox : coordinate g 0 p + 0 < g.nx = omega arith in
    let oy : coordinate g 1 p + 0 < g.ny = omega arith in
    let oz : coordinate g 2 p + 0 < g.nz = omega (arith, whole, height) in
    let finish : (r : ℕ) → r / (g.nx * g.ny) < g.nz → r < point_count g
    = λ r k. turn_back g.nx g.ny g.nz r ((div-lt_iff_lt-mul area).0 k) in
    by_three (λ a. has_next g a p ≡ true → p + stride g a < point_count g)
    (λ h. finish (p + 1) (
    let e : (p + (1 * 1 + (0 * g.nx + 0 * (g.nx * g.ny)))) / (g.nx * g.ny) ≡ p / (g.nx * g.ny) + 0
    = height_moved g p 1 0 0 (ltb-true _ _ h) oy oz in
    let f : p + 1 ≡ p + (1 * 1 + (0 * g.nx + 0 * (g.nx * g.ny))) = omega arith in
    subst (λ r. r / (g.nx * g.ny) < g.nz) (sym f) (omega (arith, e, height))))
    (λ h. finish (p + g.nx) (
    let e : (p + (0 * 1 + (1 * g.nx + 0 * (g.nx * g.ny)))) / (g.nx * g.ny) ≡ p / (g.nx * g.ny) + 0
    = height_moved g p 0 1 0 ox (ltb-true _ _ h) oz in
    let f : p + g.nx ≡ p + (0 * 1 + (1 * g.nx + 0 * (g.nx * g.ny))) = omega arith in
    subst (λ r. r / (g.nx * g.ny) < g.nz) (sym f) (omega (arith, e, height))))
    (λ h. finish (p + g.nx * g.ny) (
    let k : coordinate g 2 p + 1 < g.nz = ltb-true _ _ h in
    let e : (p + (0 * 1 + (0 * g.nx + 1 * (g.nx * g.ny)))) / (g.nx * g.ny) ≡ p / (g.nx * g.ny) + 1
    = height_moved g p 0 0 1 ox oy k in
    let f : p + g.nx * g.ny ≡ p + (0 * 1 + (0 * g.nx + 1 * (g.nx * g.ny))) = omega arith in
    subst (λ r. r / (g.nx * g.ny) < g.nz) (sym f) (omega (arith, e, k, whole))))
    a small next
  where
    positive : (a b : ℕ) → 0 < a → 0 < b → 0 < a * b
    positive a b h k = grind arith

    turn : (a b c n : ℕ) → n < a * b * c → n < c * (a * b)
    turn a b c n h = omega arith

    turn_back : (a b c n : ℕ) → n < c * (a * b) → n < a * b * c
    turn_back a b c n h = omega arith

-- so is that of a cell's edge
far_in : (g : Grid) (q e : ℕ) → In q (cells g) → e < 12
    → corner_point g q (edge_corner e) + stride g (e / 4) < point_count g
far_in g q e i =
    by_twelve (λ e. corner_point g q (edge_corner e) + stride g (e / 4) < point_count g)
    (at 1 _ (omega arith) (omega arith)) (at 3 _ (omega arith) (omega arith)) (at 5 _ (omega arith) (omega arith))
    (at 7 _ (omega arith) (omega arith)) (at 2 _ (omega arith) (omega arith)) (at 3 _ (omega arith) (omega arith))
    (at 6 _ (omega arith) (omega arith)) (at 7 _ (omega arith) (omega arith)) (at 4 _ (omega arith) (omega arith))
    (at 5 _ (omega arith) (omega arith)) (at 6 _ (omega arith) (omega arith)) (at 7 _ (omega arith) (omega arith)) e
  where
    at : (c p : ℕ) → c < 8 → p ≡ corner_point g q c → p < point_count g
    at c p l k = subst (λ p. p < point_count g) (sym k) (corner_in g q c i l)

module _ (g : Grid) (solid : IsSolid g) (s t : ℕ → ℤ) (same : (p : ℕ) → p < point_count g → t p ≡ s p) where
  same_crossing : (n : ℕ) → n < name_bound g → is_crossing g t n ≡ is_crossing g s n
  same_crossing n low =
      let lower : n / 3 < point_count g = omega (arith, low) in
      behind (is_edge g n) _ _ (λ e. ap₂ (λ a b. differ (is_above a) (is_above b)) (same (n / 3) lower)
      (same (n / 3 + stride g (n % 3)) (upper_in g (n / 3) (n % 3) solid (omega arith) lower e)))

  -- a vertex on an edge with both ends in the grid
  same_coordinate : (n axis : ℕ) → n / 3 < point_count g → edge_upper g n < point_count g
      → edge_coordinate g t n axis ≡ edge_coordinate g s n axis
  same_coordinate n axis lower upper =
      ap₂ (λ a b. 1000 * coordinate g axis (n / 3) + cond (eqb axis (n % 3)) (place a b) 0) (same (n / 3) lower)
      (same (edge_upper g n) upper)

  same_position : (n : ℕ) → n < name_bound g → is_crossing g s n ≡ true → edge_position g t n ≡ edge_position g s n
  same_position n low crossing =
      let lower : n / 3 < point_count g = omega (arith, low) in
      let upper : edge_upper g n < point_count g = upper_in g (n / 3) (n % 3) solid (omega arith) lower
      (first (is_edge g n) _ crossing) in
      position _ _ _ _ _ _ (same_coordinate n 0 lower upper) (same_coordinate n 1 lower upper)
      (same_coordinate n 2 lower upper)
    where
      first : (a b : Bool) → (a && b) ≡ true → a ≡ true
      first true b h = refl
      first false b h = h

  pub same_edges : (k : ℕ) → k ≤ name_bound g
      → filter (is_crossing g t) (range_with_len 0 k) ≡ filter (is_crossing g s) (range_with_len 0 k)
  same_edges k few = filter_alike (is_crossing g s) (is_crossing g t) 0 k (λ n _ l. same_crossing n (omega arith))

  same_values : (q : ℕ) → In q (cells g) → cell_values g t q ≡ cell_values g s q
  same_values q i =
      map_agree_in (λ c. t (corner_point g q c)) (λ c. s (corner_point g q c)) (below 8)
      (λ c j. same (corner_point g q c) (corner_in g q c i (range_at_least 0 8 c j).1))

  same_loops : (q : ℕ) → In q (cells g) → cell_loops g t q ≡ cell_loops g s q
  same_loops q i = ap (λ values. enumerate_from 0 (case_loops (signs_of values) (joined_of values))) (same_values q i)

  pub same_triangles : (q : ℕ) → In q (cells g) → cell_triangles g t q ≡ cell_triangles g s q
  same_triangles q i =
      ap (λ values. map (on_corners (vertex_name g q)) (case_triangles (signs_of values) (joined_of values)))
      (same_values q i)

  same_centre : (q : ℕ) → In q (cells g) → (l : ℕ × List ℕ) → Loop l
      → centre_position g t (map (cell_edge g q) l.1) ≡ centre_position g s (map (cell_edge g q) l.1)
  same_centre q i l k = position _ _ _ _ _ _ (along 0) (along 1) (along 2)
    where
      each : (e axis : ℕ) → e < 12 → edge_coordinate g t (cell_edge g q e) axis
          ≡ edge_coordinate g s (cell_edge g q e) axis
      each e axis few =
          let c : ℕ = corner_point g q (edge_corner e) in
          let lower : (3 * c + e / 4) / 3 ≡ c = omega arith in
          let turn : (3 * c + e / 4) % 3 ≡ e / 4 = omega arith in
          same_coordinate (cell_edge g q e) axis
          (subst (λ p. p < point_count g) (sym lower) (corner_in g q (edge_corner e) i (corner_below e few)))
          (subst (λ p. p < point_count g) (sym (ap (λ p. p + stride g ((3 * c + e / 4) % 3)) lower
          ∙ ap (λ a. c + stride g a) turn)) (far_in g q e i few))

      along : (axis : ℕ) → mean (map (λ n. edge_coordinate g t n axis) (map (cell_edge g q) l.1))
          ≡ mean (map (λ n. edge_coordinate g s n axis) (map (cell_edge g q) l.1))
      along axis =
          ap mean (map-map (λ n. edge_coordinate g t n axis) (cell_edge g q) l.1
          ∙ (map_agree_in (λ e. edge_coordinate g t (cell_edge g q e) axis)
          (λ e. edge_coordinate g s (cell_edge g q e) axis) l.1
          (λ e j. each e axis (k.edges e j))
          ∙ sym (map-map (λ n. edge_coordinate g s n axis) (cell_edge g q) l.1)))

  pub same_centres : (q : ℕ) → In q (cells g) → cell_centres g t q ≡ cell_centres g s q
  same_centres q i =
      ap (λ ls. map (λ (l : ℕ × List ℕ). (centre_name g q l.0, centre_position g t (map (cell_edge g q) l.1)))
      (filter has_centre ls)) (same_loops q i)
      ∙ map_agree_in (λ (l : ℕ × List ℕ). (centre_name g q l.0, centre_position g t (map (cell_edge g q) l.1)))
      (λ (l : ℕ × List ℕ). (centre_name g q l.0, centre_position g s (map (cell_edge g q) l.1)))
      (filter has_centre (cell_loops g s q))
      (λ l j. ap (λ (p : Position). (centre_name g q l.0, p)) (same_centre q i l (loop_is g s q l j)))

  -- a vertex on one of the first edges
  first_place : (k n : ℕ) → k ≤ name_bound g → In n (filter (is_crossing g s) (range_with_len 0 k))
      → edge_position g t n ≡ edge_position g s n
  first_place k n few i =
      let r : In n (range_with_len 0 k) × (is_crossing g s n ≡ true) = In-filter (is_crossing g s) n _ i in
      same_position n (let b : (0 ≤ n) × (n < 0 + k) = range_at_least 0 k n r.0 in omega arith) r.1

  pub same_vertices : vertices g t ≡ vertices g s
  same_vertices =
      let k : ℕ = name_bound g in
      ap₂ (λ a b. a ++ b)
      (ap (map (λ n. (n, edge_position g t n))) (same_edges k (omega arith))
      ∙ map_agree_in (λ n. (n, edge_position g t n)) (λ n. (n, edge_position g s n)) (crossing_edges g s)
      (λ n i. ap (λ (p : Position). (n, p)) (first_place k n (omega arith) i)))
      (flat_map_agree_in (cell_centres g t) (cell_centres g s) (cells g) same_centres)

  -- what a slab owns
  module _ (z o : ℕ) (owned : o ≤ g.nz) where
    abbrev slab_of : (ℕ → ℤ) → Slab
    slab_of f = record { grid = g; field = f; height = z; owned = o }

    few_edges : 3 * (slice_size g * o) ≤ name_bound g
    few_edges = scaled (g.nx * g.ny) o g.nz owned
      where
        scaled : (a o m : ℕ) → o ≤ m → 3 * (a * o) ≤ 3 * (a * m)
        scaled a o m l =
            let k : m ≡ o + (m - o) = omega arith in
            subst (λ m. 3 * (a * o) ≤ 3 * (a * m)) (sym k) (let e : a * (o + (m - o))
            ≡ a * o + a * (m - o) = omega arith in omega arith)

    cell_owned : (q : ℕ) → In q (owned_cells (slab_of s)) → In q (cells g)
    cell_owned q i =
        let r : In q (range_with_len 0 (slice_size g * o)) × (is_cell g q ≡ true) = In-filter (is_cell g) q _ i in
        let b : (0 ≤ q) × (q < 0 + slice_size g * o) = range_at_least 0 (slice_size g * o) q r.0 in
        in_filter (is_cell g) q (below (point_count g))
        (range_in 0 (point_count g) q (omega arith) (omega (arith, few_edges))) r.1

    pub same_edge_places : edge_places (slab_of t) ≡ edge_places (slab_of s)
    same_edge_places =
        ap (map (λ n. lifted z (edge_position g t n))) (same_edges (3 * (slice_size g * o)) few_edges)
        ∙ map_agree_in (λ n. lifted z (edge_position g t n)) (λ n. lifted z (edge_position g s n))
        (owned_edges (slab_of s))
        (λ n i. ap (lifted z) (first_place (3 * (slice_size g * o)) n few_edges i))

    pub same_centre_places : centre_places (slab_of t) ≡ centre_places (slab_of s)
    same_centre_places =
        ap (map (λ (v : ℕ × Position). lifted z v.1))
        (flat_map_agree_in (cell_centres g t) (cell_centres g s) (owned_cells (slab_of s))
        (λ q i. same_centres q (cell_owned q i)))

    pub same_owned_triangles : owned_triangles (slab_of t) ≡ owned_triangles (slab_of s)
    same_owned_triangles =
        let number : List (ℕ × Position) → ℕ → ℕ = λ vs v. count_by (λ u. ltb u v)
        (map (λ (v : ℕ × Position). v.0) vs) in
        ap (λ vs. map (on_corners (number vs)) (flat_map (cell_triangles g t) (owned_cells (slab_of s)))) same_vertices
        ∙ ap (map (on_corners (number_of g s)))
        (flat_map_agree_in (cell_triangles g t) (cell_triangles g s) (owned_cells (slab_of s))
        (λ q i. same_triangles q (cell_owned q i)))
