-- The text of a mesh is the texts of the slabs that its grid is cut into.
use Rattle.std.proofs.Common.{◌≡◌, ℕ, ◌+◌, Bool, List, [], ◌∷◌, ◌++◌, map, refl, sym, ap, ap₂, ◌∙◌, arith, ℤ, length}
use Rattle.std.specs.Prelude.{codes}
use Rattle.std.specs.List.{flat_map, sum_by}
use Rattle.std.proofs.lemmas.List.{length-append, length-map}
use Rattle.std.proofs.lemmas.List.Concat.{flat_map-append, length-flat_map}
use Rattle.std.proofs.lemmas.List.Sums.{sum_by-cons}
use Rattle.iso_defs.specs.Grid.{Grid, IsSolid}
use Rattle.iso_defs.specs.Cell.{Triangle}
use Rattle.iso_defs.specs.Place.{Position, edge_position}
use Rattle.iso_defs.specs.Scratch.{crossing_edges, vertices, triangles, on_corners}
use Rattle.iso_defs.specs.Texts.{line, vertex_head, face_head, ply_text, obj_text}
use Rattle.window_laws.proofs.Ascents.{append-group, flat_map-map}
use Rattle.slab_laws.specs.Slabs.{slice_size, Slab, AreSlabs, edge_places, centre_places, edge_count, centre_count, triangle_count, renumbered, slab_triangles, owned_triangles}
use Rattle.slab_laws.proofs.Parts.{stays}
use Rattle.slab_laws.specs.SlabTexts.{Lines, ply_lines, obj_lines, edge_text, centre_text, triangle_text, triangle_texts, joined_texts, ply_head}
use Rattle.slab_laws.proofs.Places.{position}
use Rattle.slab_laws.proofs.PlacesCut.{places_on_edges, places_of_centres, places_are, all_unmoved}
use Rattle.slab_laws.proofs.Composed.{unnumbered}
use Rattle.slab_laws.proofs.AllSlabs.{AreCut, all_triangles, cut_edges, cut_centres, cut_triangles, are_cut}

flat_flat : {A B C : Type 0} (f : B → List C) (h : A → List B) (xs : List A)
    → flat_map f (flat_map h xs) ≡ flat_map (λ x. flat_map f (h x)) xs
flat_flat f h [] = refl
flat_flat f h (x ∷ xs) = flat_map-append f (h x) (flat_map h xs) ∙ ap (λ l. flat_map f (h x) ++ l) (flat_flat f h xs)

same_corners : (f : ℕ → ℕ) → ((n : ℕ) → f n ≡ n) → (ts : List Triangle) → map (on_corners f) ts ≡ ts
same_corners f e [] = refl
same_corners f e (t ∷ ts) = ap₂ (λ u l. u ∷ l) (position _ _ _ _ _ _ (e t.0) (e t.1) (e t.2)) (same_corners f e ts)

-- the texts of all triangles, and how many there are
texts_are : (f : Lines) (o p : ℕ) (bs : List Slab) → flat_map f.triangle (all_triangles o p bs)
    ≡ triangle_texts f o p bs
texts_are f o p [] = refl
texts_are f o p (b ∷ bs) =
    flat_map-append f.triangle (slab_triangles o p b) (all_triangles (o + edge_count b) (p + centre_count b) bs)
    ∙ ap (λ l. triangle_text f o p b ++ l) (texts_are f (o + edge_count b) (p + centre_count b) bs)

count_is : (o p : ℕ) (bs : List Slab) → length (all_triangles o p bs) ≡ sum_by triangle_count bs
count_is o p [] = refl
count_is o p (b ∷ bs) =
    length-append (slab_triangles o p b) (all_triangles (o + edge_count b) (p + centre_count b) bs)
    ∙ (ap₂ (λ m n. m + n)
    (length-map (owned_triangles b) (on_corners (renumbered (length (crossing_edges b.grid b.field)) o p)))
    (count_is (o + edge_count b) (p + centre_count b) bs)
    ∙ sym (sum_by-cons triangle_count b bs))

module _ (g : Grid) (solid : IsSolid g) (s : ℕ → ℤ) (bs : List Slab) (slabs : AreSlabs g s 0 bs) where
  cut : AreCut g s 0 bs
  cut = are_cut g s 0 g.nz (omega arith) s (λ p. ap s (stays (slice_size g) p)) bs slabs

  edges : places_on_edges g s ≡ flat_map edge_places bs
  edges = sym (all_unmoved (places_on_edges g s)) ∙ cut_edges g solid s 0 bs cut

  centres : places_of_centres g s ≡ flat_map centre_places bs
  centres = sym (all_unmoved (places_of_centres g s)) ∙ cut_centres g solid s 0 bs cut

  edge_total : length (crossing_edges g s) ≡ sum_by edge_count bs
  edge_total =
      sym (length-map (crossing_edges g s) (edge_position g s)) ∙ (ap length edges ∙ length-flat_map edge_places bs)

  vertex_total : length (vertices g s) ≡ sum_by edge_count bs + sum_by centre_count bs
  vertex_total =
      sym (length-map (vertices g s) (λ (v : ℕ × Position). v.1))
      ∙ (ap length (places_are g s ∙ ap₂ (λ a b. a ++ b) edges centres)
      ∙ (length-append (flat_map edge_places bs) (flat_map centre_places bs)
      ∙ ap₂ (λ a b. a + b) (length-flat_map edge_places bs) (length-flat_map centre_places bs)))

  faces : triangles g s ≡ all_triangles 0 (sum_by edge_count bs) bs
  faces =
      let total : ℕ = length (crossing_edges g s) in
      sym (same_corners (renumbered total 0 total) (unnumbered total) (triangles g s))
      ∙ (cut_triangles g solid s 0 bs cut 0 total ∙ ap (λ e. all_triangles 0 e bs) edge_total)

  face_total : length (triangles g s) ≡ sum_by triangle_count bs
  face_total = ap length faces ∙ count_is 0 (sum_by edge_count bs) bs

  vertex_lines : (f : Position → List ℕ) → flat_map (λ (v : ℕ × Position). f v.1) (vertices g s)
      ≡ flat_map (λ b. flat_map f (edge_places b)) bs ++ flat_map (λ b. flat_map f (centre_places b)) bs
  vertex_lines f =
      sym (flat_map-map f (λ (v : ℕ × Position). v.1) (vertices g s))
      ∙ (ap (flat_map f) (places_are g s ∙ ap₂ (λ a b. a ++ b) edges centres)
      ∙ (flat_map-append f (flat_map edge_places bs) (flat_map centre_places bs)
      ∙ ap₂ (λ a b. a ++ b) (flat_flat f edge_places bs) (flat_flat f centre_places bs)))

  all_lines : (f : Lines) (padded : Bool)
      → flat_map (λ (v : ℕ × Position). f.vertex padded v.1) (vertices g s) ++ flat_map f.triangle (triangles g s)
      ≡ joined_texts f padded bs
  all_lines f padded =
      ap₂ (λ a b. a ++ b) (vertex_lines (f.vertex padded))
      (ap (flat_map f.triangle) faces ∙ texts_are f 0 (sum_by edge_count bs) bs)
      ∙ append-group (flat_map (edge_text f padded) bs) (flat_map (centre_text f padded) bs)
      (triangle_texts f 0 (sum_by edge_count bs) bs)

  pub ply_by_slabs : (padded : Bool) → ply_text padded (vertices g s) (triangles g s)
      ≡ ply_head (sum_by edge_count bs + sum_by centre_count bs) (sum_by triangle_count bs)
      ++ joined_texts ply_lines padded bs
  ply_by_slabs padded =
      let end : List ℕ = line (codes "end_header") in
      let text : List ℕ = joined_texts ply_lines padded bs in
      let v : ℕ = sum_by edge_count bs + sum_by centre_count bs in
      let t : ℕ = sum_by triangle_count bs in
      ap₂ (λ m n. vertex_head m ++ (face_head n ++ (end
      ++ (flat_map (λ (v : ℕ × Position). ply_lines.vertex padded v.1) (vertices g s)
      ++ flat_map ply_lines.triangle (triangles g s))))) vertex_total face_total
      ∙ (ap (λ l. vertex_head v ++ (face_head t ++ (end ++ l))) (all_lines ply_lines padded)
      ∙ sym (append-group (vertex_head v) (face_head t ++ end) text
      ∙ ap (λ l. vertex_head v ++ l) (append-group (face_head t) end text)))

  pub obj_by_slabs : (padded : Bool) → obj_text padded (vertices g s) (triangles g s) ≡ joined_texts obj_lines padded bs
  obj_by_slabs padded = all_lines obj_lines padded
