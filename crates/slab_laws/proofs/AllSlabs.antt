-- A grid that is cut into slabs: what they own, one slab behind the other, is the mesh of the whole.
use Rattle.std.proofs.Common.{◌≡◌, ℕ, ◌+◌, ◌-◌, ◌*◌, ◌<◌, ◌≤◌, List, [], ◌∷◌, ◌++◌, map, refl, sym, ap, ap₂, ◌∙◌, arith, ℤ, length, subst}
use Rattle.std.specs.List.{filter, flat_map}
use Rattle.std.proofs.lemmas.List.{append-nil, length-map}
use Rattle.iso_defs.specs.Grid.{Grid, point_count, IsSolid}
use Rattle.iso_defs.specs.Cell.{Triangle}
use Rattle.iso_defs.specs.Place.{Position, edge_position}
use Rattle.iso_defs.specs.Scratch.{crossing_edges, cell_centres, cell_triangles, cell_loops, has_centre, number_of, triangles, on_corners}
use Rattle.window_laws.proofs.Ascents.{map_agree_in, flat_map_agree_in, map-map, map-append, map-flat_map}
use Rattle.slab_laws.specs.Slabs.{slices, slice_size, Slab, IsSlab, AreSlabs, owned_cells, owned_triangles, edge_places, centre_places, edge_count, centre_count, lifted, renumbered, slab_triangles}
use Rattle.slab_laws.proofs.Parts.{above, cell_keys, cell_places, lower_solid}
use Rattle.slab_laws.proofs.EdgesCut.{own_edges, edge_sum}
use Rattle.slab_laws.proofs.CellsCut.{own_cells}
use Rattle.slab_laws.proofs.Keys.{own_keys}
use Rattle.slab_laws.proofs.Triangles.{own_triangles, triangles_cut, low, high, length_flat}
use Rattle.slab_laws.proofs.Places.{position}
use Rattle.slab_laws.proofs.PlacesCut.{places_on_edges, places_of_centres, edges_placed, centres_placed}
use Rattle.slab_laws.proofs.Cropped.{same_edges, same_edge_places, same_centre_places, same_owned_triangles}
use Rattle.slab_laws.proofs.Composed.{low_twice, high_twice, few_edges}

-- a slab with the whole slices of a grid, the lowest in slice z of a larger one
pub record IsLowest (h : Grid) (s : ℕ → ℤ) (z : ℕ) (b : Slab) : Type 0 where
  pub grid : b.grid ≡ h
  pub values : (p : ℕ) → p < point_count h → b.field p ≡ s p
  pub height : b.height ≡ z

-- slabs of a grid, where what is above the lowest is a grid of its own
abbrev pub AreCut : Grid → (ℕ → ℤ) → ℕ → List Slab → Type 0
AreCut g s z [] = ⊥
AreCut g s z (b ∷ []) = IsLowest g s z b × (b.owned ≡ g.nz)
AreCut g s z (b ∷ c ∷ bs) = (b.owned + 2 ≤ g.nz) × IsLowest (slices g (b.owned + 2)) s z b
    × AreCut (slices g (g.nz - b.owned)) (above g b.owned s) (z + b.owned) (c ∷ bs)

-- the triangles of slabs, where the lowest has these numbers and each other those behind the slab below
abbrev pub all_triangles : ℕ → ℕ → List Slab → List Triangle
all_triangles first_edge first_centre [] = []
all_triangles first_edge first_centre (b ∷ bs) =
    slab_triangles first_edge first_centre b
    ++ all_triangles (first_edge + edge_count b) (first_centre + centre_count b) bs

-- what the lowest slab owns, by the field of the whole
module _ (h : Grid) (solid : IsSolid h) (s : ℕ → ℤ) (z : ℕ) (b : Slab) (is : IsLowest h s z b) (own : b.owned ≤ h.nz)
  where
    abbrev pub cropped : Slab
    cropped = record { grid = h; field = s; height = z; owned = b.owned }

    moved_to : {A : Type 0} (f : Slab → A) → f b ≡ f (record { grid = h; field = b.field; height = z; owned = b.owned })
    moved_to f =
        ap (λ h. f (record { grid = h; field = b.field; height = b.height; owned = b.owned })) is.grid
        ∙ ap (λ z. f (record { grid = h; field = b.field; height = z; owned = b.owned })) is.height

    pub lowest_edges : edge_places b ≡ edge_places cropped
    lowest_edges = moved_to edge_places ∙ same_edge_places h solid s b.field is.values z b.owned own

    pub lowest_centres : centre_places b ≡ centre_places cropped
    lowest_centres = moved_to centre_places ∙ same_centre_places h solid s b.field is.values z b.owned own

    pub lowest_triangles : (o p : ℕ) → slab_triangles o p b ≡ slab_triangles o p cropped
    lowest_triangles o p =
        moved_to (slab_triangles o p)
        ∙ (ap (map (on_corners (renumbered (length (crossing_edges h b.field)) o p)))
        (same_owned_triangles h solid s b.field is.values z b.owned own)
        ∙ ap (λ es. map (on_corners (renumbered (length es) o p)) (owned_triangles cropped))
        (same_edges h solid s b.field is.values _ (omega arith)))

    -- centres of cells, lifted
    pub centre_cells : centre_places cropped ≡ map (lifted z) (flat_map (cell_places h s) (owned_cells cropped))
    centre_cells =
        sym (map-map (lifted z) (λ (v : ℕ × Position). v.1) (flat_map (cell_centres h s) (owned_cells cropped)))
        ∙ ap (map (lifted z)) (map-flat_map (λ (v : ℕ × Position). v.1) (cell_centres h s) (owned_cells cropped)
        ∙ flat_map_agree_in (λ q. map (λ (v : ℕ × Position). v.1) (cell_centres h s q)) (cell_places h s)
        (owned_cells cropped)
        (λ q _. map-map (λ (v : ℕ × Position). v.1) _ (filter has_centre (cell_loops h s q))))

lifted_twice : (z o : ℕ) (ps : List Position) → map (lifted z) (map (lifted o) ps) ≡ map (lifted (z + o)) ps
lifted_twice z o ps =
    map-map (lifted z) (lifted o) ps
    ∙ map_agree_in (λ p. lifted z (lifted o p)) (lifted (z + o)) ps
    (λ p _. position _ _ _ _ _ _ refl refl (omega arith))

twice : (f h k : ℕ → ℕ) → ((n : ℕ) → f (h n) ≡ k n) → (ts : List Triangle)
    → map (on_corners f) (map (on_corners h) ts) ≡ map (on_corners k) ts
twice f h k e ts =
    map-map (on_corners f) (on_corners h) ts
    ∙ map_agree_in (λ t. on_corners f (on_corners h t)) (on_corners k) ts
    (λ t _. position _ _ _ _ _ _ (e t.0) (e t.1) (e t.2))

-- one slab that is the whole
module _ (g : Grid) (solid : IsSolid g) (s : ℕ → ℤ) (z : ℕ) (b : Slab) (is : IsLowest g s z b) (all : b.owned
    ≡ g.nz) where
  whole : Slab
  whole = record { grid = g; field = s; height = z; owned = g.nz }

  one_edges : map (lifted z) (places_on_edges g s) ≡ edge_places b
  one_edges =
      map-map (lifted z) (edge_position g s) (crossing_edges g s)
      ∙ sym (lowest_edges g solid s z b is (omega (arith, all))
      ∙ ap (λ o. edge_places (record { grid = g; field = s; height = z; owned = o })) all)

  one_centres : map (lifted z) (places_of_centres g s) ≡ centre_places b
  one_centres =
      sym (lowest_centres g solid s z b is (omega (arith, all))
      ∙ (centre_cells g solid s z b is (omega (arith, all))
      ∙ ap (λ o. map (lifted z) (flat_map (cell_places g s)
      (owned_cells (record { grid = g; field = s; height = z; owned = o })))) all))

  one_triangles : (o p : ℕ) → map (on_corners (renumbered (length (crossing_edges g s)) o p)) (triangles g s)
      ≡ slab_triangles o p b
  one_triangles o p =
      sym (lowest_triangles g solid s z b is (omega (arith, all)) o p
      ∙ ap (λ m. slab_triangles o p (record { grid = g; field = s; height = z; owned = m })) all)

-- the lowest slab and what is above
module _ (g : Grid) (solid : IsSolid g) (s : ℕ → ℤ) (z : ℕ) (b : Slab) (fits : b.owned + 2 ≤ g.nz)
    (is : IsLowest (slices g (b.owned + 2)) s z b) where
  step_edges : map (lifted z) (places_on_edges g s)
      ≡ edge_places b ++ map (lifted (z + b.owned)) (places_on_edges (slices g (g.nz - b.owned)) (above g b.owned s))
  unfolding own_edges
  step_edges =
      let o : ℕ = b.owned in
      let h : Grid = slices g (o + 2) in
      let up : List Position = places_on_edges (slices g (g.nz - o)) (above g o s) in
      let first : List Position = map (edge_position h s) (own_edges g solid s o fits) in
      ap (map (lifted z)) (edges_placed g solid s o fits)
      ∙ (map-append (lifted z) first (map (lifted o) up)
      ∙ ap₂ (λ a b. a ++ b)
      (map-map (lifted z) (edge_position h s) (own_edges g solid s o fits)
      ∙ sym (lowest_edges h (lower_solid g solid b.owned) s z b is (omega arith)))
      (lifted_twice z o up))

  step_centres : map (lifted z) (places_of_centres g s)
      ≡ centre_places b ++ map (lifted (z + b.owned)) (places_of_centres (slices g (g.nz - b.owned))
      (above g b.owned s))
  unfolding own_cells
  step_centres =
      let o : ℕ = b.owned in
      let h : Grid = slices g (o + 2) in
      let up : List Position = places_of_centres (slices g (g.nz - o)) (above g o s) in
      let first : List Position = flat_map (cell_places h s) (own_cells g solid o fits) in
      ap (map (lifted z)) (centres_placed g solid s o fits)
      ∙ (map-append (lifted z) first (map (lifted o) up)
      ∙ ap₂ (λ a b. a ++ b)
      (sym (lowest_centres h (lower_solid g solid b.owned) s z b is (omega arith)
      ∙ centre_cells h (lower_solid g solid b.owned) s z b is (omega arith)))
      (lifted_twice z o up))

  edges_counted : edge_count b ≡ length (own_edges g solid s b.owned fits)
  unfolding own_edges
  edges_counted =
      let h : Grid = slices g (b.owned + 2) in
      ap length (lowest_edges h (lower_solid g solid b.owned) s z b is (omega arith))
      ∙ length-map (own_edges g solid s b.owned fits) (λ n. lifted z (edge_position h s n))

  centres_counted : centre_count b ≡ length (own_keys g solid s b.owned fits)
  unfolding own_keys own_cells
  centres_counted =
      let h : Grid = slices g (b.owned + 2) in
      ap length (lowest_centres h (lower_solid g solid b.owned) s z b is (omega arith))
      ∙ (length-map (flat_map (cell_centres h s) (own_cells g solid b.owned fits)) (λ (v : ℕ × Position). lifted z v.1)
      ∙ length_flat (cell_centres h s) (cell_keys h s) (own_cells g solid b.owned fits)
      (λ q. (length-map (filter has_centre (cell_loops h s q)) _
      ∙ sym (length-map (filter has_centre (cell_loops h s q)) _))))

  own_are : own_triangles g solid s b.owned fits
      ≡ owned_triangles (record { grid = slices g (b.owned + 2); field = s; height = z; owned = b.owned })
  unfolding own_triangles own_cells
  own_are =
      let h : Grid = slices g (b.owned + 2) in
      sym (map-flat_map (on_corners (number_of h s)) (cell_triangles h s) (own_cells g solid b.owned fits))

  step_triangles : (o p : ℕ) → map (on_corners (renumbered (length (crossing_edges g s)) o p)) (triangles g s)
      ≡ slab_triangles o p b ++ map (on_corners (renumbered
      (length (crossing_edges (slices g (g.nz - b.owned)) (above g b.owned s))) (o + edge_count b)
      (p + centre_count b)))
      (triangles (slices g (g.nz - b.owned)) (above g b.owned s))
  step_triangles o p =
      let h : Grid = slices g (b.owned + 2) in
      let upper : Grid = slices g (g.nz - b.owned) in
      let t : ℕ → ℤ = above g b.owned s in
      let total : ℕ = length (crossing_edges g s) in
      let e : ℕ = length (crossing_edges h s) in
      let u : ℕ = length (crossing_edges upper t) in
      let d : ℕ = length (own_edges g solid s b.owned fits) in
      let c : ℕ = length (own_keys g solid s b.owned fits) in
      let own : List Triangle = own_triangles g solid s b.owned fits in
      let f : ℕ → ℕ = renumbered total o p in
      ap (map (on_corners f)) (triangles_cut g solid s b.owned fits)
      ∙ (map-append (on_corners f) (map (on_corners (low g solid s b.owned fits)) own)
      (map (on_corners (high g solid s b.owned fits)) (triangles upper t))
      ∙ ap₂ (λ a b. a ++ b)
      (twice f (low g solid s b.owned fits) (renumbered e o p)
      (λ n. low_twice e total o p n (few_edges g solid s (b.owned + 2) fits)) own
      ∙ (ap (map (on_corners (renumbered e o p))) own_are
      ∙ sym (lowest_triangles h (lower_solid g solid b.owned) s z b is (omega arith) o p)))
      (twice f (high g solid s b.owned fits) (renumbered u (o + d) (p + c))
      (λ n. high_twice u d c total o p n (edge_sum g solid s b.owned fits)) (triangles upper t)
      ∙ (ap (λ d. map (on_corners (renumbered u (o + d) (p + c))) (triangles upper t)) (sym edges_counted)
      ∙ ap (λ c. map (on_corners (renumbered u (o + edge_count b) (p + c))) (triangles upper t))
      (sym centres_counted))))

upper_solid : (g : Grid) → IsSolid g → (o : ℕ) → o + 2 ≤ g.nz → IsSolid (slices g (g.nz - o))
upper_solid g solid o fits = record { x = solid.x; y = solid.y; z = omega arith }

pub cut_edges : (g : Grid) → IsSolid g → (s : ℕ → ℤ) (z : ℕ) (bs : List Slab) → AreCut g s z bs
    → map (lifted z) (places_on_edges g s) ≡ flat_map edge_places bs
cut_edges g solid s z [] k = absurd k
cut_edges g solid s z (b ∷ []) k = one_edges g solid s z b k.0 k.1 ∙ sym (append-nil (edge_places b))
cut_edges g solid s z (b ∷ c ∷ bs) k =
    step_edges g solid s z b k.0 k.1
    ∙ ap (λ ps. edge_places b ++ ps) (cut_edges (slices g (g.nz - b.owned)) (upper_solid g solid b.owned k.0)
    (above g b.owned s) (z + b.owned) (c ∷ bs) k.2)

pub cut_centres : (g : Grid) → IsSolid g → (s : ℕ → ℤ) (z : ℕ) (bs : List Slab) → AreCut g s z bs
    → map (lifted z) (places_of_centres g s) ≡ flat_map centre_places bs
cut_centres g solid s z [] k = absurd k
cut_centres g solid s z (b ∷ []) k = one_centres g solid s z b k.0 k.1 ∙ sym (append-nil (centre_places b))
cut_centres g solid s z (b ∷ c ∷ bs) k =
    step_centres g solid s z b k.0 k.1
    ∙ ap (λ ps. centre_places b ++ ps) (cut_centres (slices g (g.nz - b.owned)) (upper_solid g solid b.owned k.0)
    (above g b.owned s) (z + b.owned) (c ∷ bs) k.2)

pub cut_triangles : (g : Grid) → IsSolid g → (s : ℕ → ℤ) (z : ℕ) (bs : List Slab) → AreCut g s z bs → (o p : ℕ)
    → map (on_corners (renumbered (length (crossing_edges g s)) o p)) (triangles g s) ≡ all_triangles o p bs
cut_triangles g solid s z [] k o p = absurd k
cut_triangles g solid s z (b ∷ []) k o p =
    one_triangles g solid s z b k.0 k.1 o p ∙ sym (append-nil (slab_triangles o p b))
cut_triangles g solid s z (b ∷ c ∷ bs) k o p =
    step_triangles g solid s z b k.0 k.1 o p
    ∙ ap (λ ts. slab_triangles o p b ++ ts)
    (cut_triangles (slices g (g.nz - b.owned)) (upper_solid g solid b.owned k.0) (above g b.owned s) (z + b.owned)
    (c ∷ bs) k.2 (o + edge_count b) (p + centre_count b))

-- slabs of a grid from slice z on cut what is above that slice
module _ (g : Grid) (s : ℕ → ℤ) where
  lowest_is : (z n : ℕ) (t : ℕ → ℤ) → ((p : ℕ) → t p ≡ s (p + slice_size g * z)) → (b : Slab) → IsSlab g s b
      → b.height ≡ z → b.grid.nz ≡ n
      → IsLowest (slices g n) t z b
  lowest_is z n t crop b is height few =
      let e : b.grid ≡ slices g n = is.grid ∙ ap (slices g) few in
      record {
        grid = e;
        values = λ p l. is.values p (subst (λ h. p < point_count h) (sym e) l)
            ∙ (ap (λ z. s (p + slice_size g * z)) height ∙ sym (crop p));
        height = height;
      }

  pub are_cut : (z n : ℕ) → z + n ≡ g.nz → (t : ℕ → ℤ) → ((p : ℕ) → t p ≡ s (p + slice_size g * z)) → (bs : List Slab)
      → AreSlabs g s z bs
      → AreCut (slices g n) t z bs
  are_cut z n e t crop [] k = k
  are_cut z n e t crop (b ∷ []) k =
      let all : b.owned ≡ n = omega (arith, k.3, e) in
      (lowest_is z n t crop b k.0 k.1 (sym k.2 ∙ all), all)
  are_cut z n e t crop (b ∷ c ∷ bs) k =
      let f : b.height + b.grid.nz ≤ g.nz = k.0.fits in (
        omega (arith, f, k.1, k.2, e),
        lowest_is z (b.owned + 2) t crop b k.0 k.1 (sym k.2),
        are_cut (z + b.owned) (n - b.owned) (omega (arith, f, k.1, k.2, e)) (above (slices g n) b.owned t)
            (λ p. crop (p + slice_size g * b.owned) ∙ ap s (further (slice_size g) p z b.owned)) (c ∷ bs) k.3,
      )
    where
      further : (a p z o : ℕ) → p + a * o + a * z ≡ p + a * (z + o)
      further a p z o = omega arith
