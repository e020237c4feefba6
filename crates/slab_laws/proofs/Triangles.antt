-- The triangles of the whole: the lower slab's, without those of its last slice_size of cells, and those above,
-- renumbered.
use Rattle.std.proofs.Common.{◌≡◌, ℕ, ◌+◌, ◌-◌, ◌*◌, ◌<◌, ◌≤◌, true, List, [], ◌∷◌, ◌++◌, map, refl, sym, ap, ap₂, ◌∙◌, arith, ℤ, length}
use Rattle.std.specs.List.{flat_map}
use Rattle.std.proofs.lemmas.List.{length-append}
use Rattle.std.proofs.lemmas.List.Concat.{flat_map-append}
use Rattle.iso_defs.specs.Lists.{below}
use Rattle.iso_defs.specs.Grid.{Grid, point_count, is_cell, cells, IsSolid}
use Rattle.iso_defs.specs.Cell.{Triangle, cell_signs, cell_joined, case_triangles, signs_of, joined_of}
use Rattle.iso_defs.specs.Scratch.{crossing_edges, number_of, vertex_name, cell_triangles, triangles, on_corners}
use Rattle.triangle_laws.proofs.Lists.{In, in_filter, in_map, in_flat_map}
use Rattle.mesh_laws.proofs.Cells.{range_in}
use Rattle.mesh_laws.proofs.Directed.{LowCorners, low_corners}
use Rattle.mesh_laws.proofs.Numbers.{Vertices, triangle_vertices}
use Rattle.window_laws.proofs.Ascents.{map_agree_in, flat_map_agree_in, map-map, map-flat_map, flat_map-map}
use Rattle.slab_laws.specs.Slabs.{slices, slice_size, renumbered}
use Rattle.slab_laws.proofs.Parts.{above}
use Rattle.slab_laws.proofs.Places.{position}
use Rattle.slab_laws.proofs.EdgesCut.{own_edges}
use Rattle.slab_laws.proofs.CellsCut.{own_cells, cells_cut}
use Rattle.slab_laws.proofs.Keys.{own_keys, same_values}
use Rattle.slab_laws.proofs.Renumbered.{own_low}
use Rattle.slab_laws.proofs.Corners.{low_corner, high_corner}

pub length_flat : {A B : Type 0} (f : ℕ → List A) (h : ℕ → List B) (xs : List ℕ)
    → ((x : ℕ) → length (f x) ≡ length (h x)) → length (flat_map f xs) ≡ length (flat_map h xs)
length_flat f h [] e = refl
length_flat f h (x ∷ xs) e =
    length-append (f x) (flat_map f xs) ∙ (ap₂ (λ a b. a + b) (e x) (length_flat f h xs e)
    ∙ sym (length-append (h x) (flat_map h xs)))

module _ (g : Grid) (solid : IsSolid g) (s : ℕ → ℤ) (z : ℕ) (fits : z + 2 ≤ g.nz) where
  -- the numbers in the whole of the lower slab's vertices, and of those above
  abbrev pub low : ℕ → ℕ
  low = renumbered (length (crossing_edges (slices g (z + 2)) s)) 0 (length (crossing_edges g s))

  abbrev pub high : ℕ → ℕ
  high = renumbered (length (crossing_edges (slices g (g.nz - z)) (above g z s))) (length (own_edges g solid s z fits))
      (length (crossing_edges g s) + length (own_keys g solid s z fits))

  pub own_in_lower : (q : ℕ) → In q (own_cells g solid z fits) → In q (cells (slices g (z + 2)))
  own_in_lower q i =
      let o : (q < slice_size g * z) × (is_cell (slices g (z + 2)) q ≡ true) = own_low g solid s z fits q i in
      in_filter (is_cell (slices g (z + 2))) q (below (point_count (slices g (z + 2))))
      (range_in 0 (point_count (slices g (z + 2))) q (omega arith) (bound (g.nx * g.ny) z q o.0)) o.1
    where
      bound : (a z n : ℕ) → n < a * z → n < 0 + a * (z + 2)
      bound a z n l = let e : a * (z + 2) ≡ a * z + a * 2 = omega arith in omega arith

  low_triangles : (q : ℕ) → In q (own_cells g solid z fits) → map (on_corners (number_of g s)) (cell_triangles g s q)
      ≡ map (on_corners low) (map (on_corners (number_of (slices g (z + 2)) s)) (cell_triangles (slices g (z + 2)) s q))
  low_triangles q i =
      let ts : List Triangle = case_triangles (cell_signs g s q) (cell_joined g s q) in
      let number : ℕ → ℕ = number_of (slices g (z + 2)) s in
      let name : ℕ → ℕ = vertex_name (slices g (z + 2)) q in
      map-map (on_corners (number_of g s)) (on_corners (vertex_name g q)) ts
      ∙ (map_agree_in (λ u. on_corners (number_of g s) (on_corners (vertex_name g q) u))
      (λ u. on_corners low (on_corners number (on_corners name u))) ts
      (λ u j. (let few : LowCorners u = low_corners (slices g (z + 2)) s q u j in
      let vs : Vertices (slices g (z + 2)) s (on_corners name u)
      = triangle_vertices (slices g (z + 2)) s (on_corners name u)
      (in_flat_map (cell_triangles (slices g (z + 2)) s) (on_corners name u) q (cells (slices g (z + 2)))
      (own_in_lower q i) (in_map (on_corners name) u ts j)) in
      position _ _ _ _ _ _ (low_corner g solid s z fits q u.0 i few.first vs.first)
      (low_corner g solid s z fits q u.1 i few.second vs.second)
      (low_corner g solid s z fits q u.2 i few.third vs.third)))
      ∙ sym (ap (map (on_corners low)) (map-map (on_corners number) (on_corners name) ts)
      ∙ map-map (on_corners low) (λ u. on_corners number (on_corners name u)) ts))

  high_triangles : (q : ℕ) → In q (cells (slices g (g.nz - z)))
      → map (on_corners (number_of g s)) (cell_triangles g s (q + slice_size g * z))
      ≡ map (on_corners high) (map (on_corners (number_of (slices g (g.nz - z)) (above g z s)))
      (cell_triangles (slices g (g.nz - z)) (above g z s) q))
  high_triangles q i =
      let r : ℕ = q + slice_size g * z in
      let ts : List Triangle = case_triangles (cell_signs (slices g (g.nz - z)) (above g z s) q)
      (cell_joined (slices g (g.nz - z)) (above g z s) q) in
      let number : ℕ → ℕ = number_of (slices g (g.nz - z)) (above g z s) in
      let name : ℕ → ℕ = vertex_name (slices g (g.nz - z)) q in
      ap (λ values. map (on_corners (number_of g s)) (map (on_corners (vertex_name g r))
      (case_triangles (signs_of values) (joined_of values)))) (same_values g solid s z fits q)
      ∙ (map-map (on_corners (number_of g s)) (on_corners (vertex_name g r)) ts
      ∙ (map_agree_in (λ u. on_corners (number_of g s) (on_corners (vertex_name g r) u))
      (λ u. on_corners high (on_corners number (on_corners name u))) ts
      (λ u j. (let few : LowCorners u = low_corners (slices g (g.nz - z)) (above g z s) q u j in
      let vs : Vertices (slices g (g.nz - z)) (above g z s) (on_corners name u)
      = triangle_vertices (slices g (g.nz - z)) (above g z s) (on_corners name u)
      (in_flat_map (cell_triangles (slices g (g.nz - z)) (above g z s)) (on_corners name u) q
      (cells (slices g (g.nz - z))) i (in_map (on_corners name) u ts j)) in
      position _ _ _ _ _ _ (high_corner g solid s z fits q u.0 i few.first vs.first)
      (high_corner g solid s z fits q u.1 i few.second vs.second)
      (high_corner g solid s z fits q u.2 i few.third vs.third)))
      ∙ sym (ap (map (on_corners high)) (map-map (on_corners number) (on_corners name) ts)
      ∙ map-map (on_corners high) (λ u. on_corners number (on_corners name u)) ts)))

  -- the lower slab's triangles of its own cells, by its own numbers
  unfoldable pub own_triangles : List Triangle
  own_triangles = flat_map (λ q. map (on_corners (number_of (slices g (z + 2)) s))
      (cell_triangles (slices g (z + 2)) s q)) (own_cells g solid z fits)

  pub triangles_cut : triangles g s ≡ map (on_corners low) own_triangles
      ++ map (on_corners high) (triangles (slices g (g.nz - z)) (above g z s))
  unfolding own_triangles
  triangles_cut =
      let k : ℕ = slice_size g * z in
      let own : List ℕ = own_cells g solid z fits in
      let up : List ℕ = cells (slices g (g.nz - z)) in
      let all : ℕ → List Triangle = λ q. map (on_corners (number_of g s)) (cell_triangles g s q) in
      let lower : ℕ → List Triangle = λ q. map (on_corners (number_of (slices g (z + 2)) s))
      (cell_triangles (slices g (z + 2)) s q) in
      let upper : ℕ → List Triangle = λ q. map (on_corners (number_of (slices g (g.nz - z)) (above g z s)))
      (cell_triangles (slices g (g.nz - z)) (above g z s) q) in
      let first : flat_map all own ≡ map (on_corners low) (flat_map lower own)
      = flat_map_agree_in all (λ q. map (on_corners low) (lower q)) own low_triangles
      ∙ sym (map-flat_map (on_corners low) lower own) in
      let second : flat_map all (map (λ q. q + k) up) ≡ map (on_corners high)
      (triangles (slices g (g.nz - z)) (above g z s))
      = flat_map-map all (λ q. q + k) up
      ∙ (flat_map_agree_in (λ q. all (q + k)) (λ q. map (on_corners high) (upper q)) up high_triangles
      ∙ (sym (map-flat_map (on_corners high) upper up)
      ∙ ap (map (on_corners high)) (sym (map-flat_map (on_corners (number_of (slices g (g.nz - z)) (above g z s)))
      (cell_triangles (slices g (g.nz - z)) (above g z s)) up)))) in
      map-flat_map (on_corners (number_of g s)) (cell_triangles g s) (cells g)
      ∙ (ap (flat_map all) (cells_cut g solid z fits)
      ∙ (flat_map-append all own (map (λ q. q + k) up)
      ∙ (ap (λ l. l ++ flat_map all (map (λ q. q + k) up)) first
      ∙ ap (λ l. map (on_corners low) (flat_map lower own) ++ l) second)))
