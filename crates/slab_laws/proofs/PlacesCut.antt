-- Where the vertices of the whole are: as the lower slab says of its own, and what is above says of its vertices, so
-- many slices further up.
use Rattle.std.proofs.Common.{◌≡◌, ℕ, ◌+◌, ◌-◌, ◌*◌, ◌/◌, ◌<◌, ◌≤◌, List, ◌++◌, map, sym, ap, ap₂, ◌∙◌, arith, ℤ, refl, [], ◌∷◌}
use Rattle.std.specs.List.{filter, flat_map}
use Rattle.std.proofs.lemmas.List.Concat.{flat_map-append}
use Rattle.iso_defs.specs.Grid.{Grid, name_bound, cells, is_crossing, IsSolid}
use Rattle.iso_defs.specs.Place.{Position, edge_position}
use Rattle.iso_defs.specs.Scratch.{crossing_edges, vertices, cell_centres, has_centre, cell_loops}
use Rattle.triangle_laws.proofs.Lists.{In, In-filter}
use Rattle.mesh_laws.proofs.Cells.{range_at_least}
use Rattle.window_laws.proofs.Ascents.{map_agree_in, flat_map_agree_in, map-map, map-append, map-flat_map, flat_map-map}
use Rattle.slab_laws.specs.Slabs.{slices, slice_size, lifted}
use Rattle.slab_laws.proofs.Parts.{above, cell_places, third, stays}
use Rattle.slab_laws.proofs.EdgesCut.{own_edges, edges_cut}
use Rattle.slab_laws.proofs.CellsCut.{own_cells, cells_cut}
use Rattle.slab_laws.proofs.Triangles.{own_in_lower}
use Rattle.slab_laws.proofs.Places.{position, edge_lifted, centres_lifted}

-- where the vertices on edges are, and the centres
abbrev pub places_on_edges : Grid → (ℕ → ℤ) → List Position
places_on_edges g s = map (edge_position g s) (crossing_edges g s)

abbrev pub places_of_centres : Grid → (ℕ → ℤ) → List Position
places_of_centres g s = flat_map (cell_places g s) (cells g)

pub places_are : (g : Grid) (s : ℕ → ℤ) → map (λ (v : ℕ × Position). v.1) (vertices g s)
    ≡ places_on_edges g s ++ places_of_centres g s
places_are g s =
    map-append (λ (v : ℕ × Position). v.1) (map (λ n. (n, edge_position g s n)) (crossing_edges g s))
    (flat_map (cell_centres g s) (cells g))
    ∙ ap₂ (λ a b. a ++ b) (map-map (λ (v : ℕ × Position). v.1) (λ n. (n, edge_position g s n)) (crossing_edges g s))
    (map-flat_map (λ (v : ℕ × Position). v.1) (cell_centres g s) (cells g)
    ∙ flat_map_agree_in (λ q. map (λ (v : ℕ × Position). v.1) (cell_centres g s q)) (cell_places g s) (cells g)
    (λ q _. map-map (λ (v : ℕ × Position). v.1) _ (filter has_centre (cell_loops g s q))))

unmoved : (p : Position) → lifted 0 p ≡ p
unmoved p = position _ _ _ _ _ _ refl refl (omega arith)

pub all_unmoved : (ps : List Position) → map (lifted 0) ps ≡ ps
all_unmoved [] = refl
all_unmoved (p ∷ ps) = ap₂ (λ a l. a ∷ l) (unmoved p) (all_unmoved ps)

module _ (g : Grid) (solid : IsSolid g) (s : ℕ → ℤ) (z : ℕ) (fits : z + 2 ≤ g.nz) where
  low_edge : (m : ℕ) → m < 3 * (slice_size g * z) → edge_position g s m ≡ edge_position (slices g (z + 2)) s m
  low_edge m l =
      ap (edge_position g s) (more (slice_size g) m)
      ∙ (edge_lifted g solid s s (z + 2) 0 (λ p. ap s (stays (slice_size g) p)) (omega arith) m
      (inside (g.nx * g.ny) z m l)
      ∙ unmoved (edge_position (slices g (z + 2)) s m))
    where
      more : (a m : ℕ) → m ≡ m + 3 * (a * 0)
      more a m = omega arith

      inside : (a z n : ℕ) → n < 3 * (a * z) → n / 3 < (z + 2) * a
      inside a z n l = let e : (z + 2) * a ≡ a * z + 2 * a = omega arith in omega arith

  low_centres : (q : ℕ) → In q (own_cells g solid z fits) → cell_places g s q ≡ cell_places (slices g (z + 2)) s q
  low_centres q i =
      ap (cell_places g s) (stays (slice_size g) q)
      ∙ (centres_lifted g solid s s (z + 2) 0 (λ p. ap s (stays (slice_size g) p)) (omega arith) q
      (own_in_lower g solid s z fits q i)
      ∙ all_unmoved (cell_places (slices g (z + 2)) s q))

  -- the law of places, for vertices on edges
  pub edges_placed : places_on_edges g s ≡
      map (edge_position (slices g (z + 2)) s) (own_edges g solid s z fits)
      ++ map (lifted z) (places_on_edges (slices g (g.nz - z)) (above g z s))
  unfolding own_edges
  edges_placed =
      let k : ℕ = 3 * (slice_size g * z) in
      let own : List ℕ = own_edges g solid s z fits in
      let up : List ℕ = crossing_edges (slices g (g.nz - z)) (above g z s) in
      let here : ℕ → Position = edge_position (slices g (z + 2)) s in
      let first : map (edge_position g s) own ≡ map here own
      = map_agree_in (edge_position g s) here own (λ m i. low_edge m
      (let r : (0 ≤ m) × (m < 0 + k) = range_at_least 0 k m (In-filter (is_crossing (slices g (z + 2)) s) m _ i).0 in
      omega arith)) in
      let second : map (edge_position g s) (map (λ n. n + k) up)
      ≡ map (lifted z) (places_on_edges (slices g (g.nz - z)) (above g z s))
      = map-map (edge_position g s) (λ n. n + k) up
      ∙ (map_agree_in (λ n. edge_position g s (n + k)) (λ n. lifted z
      (edge_position (slices g (g.nz - z)) (above g z s) n)) up
      (λ n i. edge_lifted g solid s (above g z s) (g.nz - z) z (λ p. refl) (omega arith) n
      (third (g.nx * g.ny) (g.nz - z) n (let r : (0 ≤ n) × (n < 0 + name_bound (slices g (g.nz - z))) = range_at_least
      0 (name_bound (slices g (g.nz - z))) n (In-filter (is_crossing (slices g (g.nz - z)) (above g z s)) n _ i).0 in
      omega arith)))
      ∙ sym (map-map (lifted z) (edge_position (slices g (g.nz - z)) (above g z s)) up)) in
      ap (map (edge_position g s)) (edges_cut g solid s z fits)
      ∙ (map-append (edge_position g s) own (map (λ n. n + k) up) ∙ ap₂ (λ a b. a ++ b) first second)

  -- and of centres
  pub centres_placed : places_of_centres g s ≡
      flat_map (cell_places (slices g (z + 2)) s) (own_cells g solid z fits)
      ++ map (lifted z) (places_of_centres (slices g (g.nz - z)) (above g z s))
  unfolding own_cells
  centres_placed =
      let k : ℕ = slice_size g * z in
      let own : List ℕ = own_cells g solid z fits in
      let up : List ℕ = cells (slices g (g.nz - z)) in
      let here : ℕ → List Position = cell_places (slices g (z + 2)) s in
      let first : flat_map (cell_places g s) own ≡ flat_map here own
      = flat_map_agree_in (cell_places g s) here own low_centres in
      let second : flat_map (cell_places g s) (map (λ q. q + k) up)
      ≡ map (lifted z) (places_of_centres (slices g (g.nz - z)) (above g z s))
      = flat_map-map (cell_places g s) (λ q. q + k) up
      ∙ (flat_map_agree_in (λ q. cell_places g s (q + k))
      (λ q. map (lifted z) (cell_places (slices g (g.nz - z)) (above g z s) q)) up
      (λ q i. centres_lifted g solid s (above g z s) (g.nz - z) z (λ p. refl) (omega arith) q i)
      ∙ sym (map-flat_map (lifted z) (cell_places (slices g (g.nz - z)) (above g z s)) up)) in
      ap (flat_map (cell_places g s)) (cells_cut g solid z fits)
      ∙ (flat_map-append (cell_places g s) own (map (λ q. q + k) up) ∙ ap₂ (λ a b. a ++ b) first second)
