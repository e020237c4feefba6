-- The texts and the counts of a part of a mesh are those of a slab that begins at some height.
use Rattle.std.proofs.Common.{◌≡◌, ℕ, ◌*◌, ℤ, Bool, List, [], ◌∷◌, ◌++◌, map, length, refl, sym, ◌∙◌, ap, ap₂, arith}
use Rattle.std.specs.List.{count_by, filter, flat_map}
use Rattle.std.proofs.lemmas.List.{length-map}
use Rattle.std.proofs.lemmas.List.Sums.{length-filter}
use Rattle.iso_defs.specs.Lists.{below}
use Rattle.iso_defs.specs.Grid.{Grid, is_cell, is_crossing}
use Rattle.iso_defs.specs.Cell.{Triangle}
use Rattle.iso_defs.specs.Place.{Position, edge_position}
use Rattle.iso_defs.specs.Scratch.{cell_centres, cell_triangles, crossing_edges, number_of, on_corners}
use Rattle.mesh_laws.proofs.Rows.{flat_flat}
use Rattle.window_laws.proofs.Ascents.{flat_map-map, map-flat_map}
use Rattle.crossing_edges.specs.Flags.{rank}
use Rattle.flat_mesh.specs.Found.{numbered}
use Rattle.flat_mesh.specs.Lattice.{Leveled, heights}
use Rattle.mesh_lines.specs.Lines.{face_line, vertex_line}
use Rattle.mesh_lines.specs.declared.style.Style.{Style}
use Rattle.mesh_rows.specs.Counts.{centres_among, span, triangles_among}
use Rattle.mesh_walk.specs.Numbers.{edges_to}
use Rattle.mesh_walk.specs.Spans.{centre_lines, edge_count, edge_line, numbered_from, owned_centres_text, owned_edges_text, owned_faces_text, points_to, triangle_lines}
use Rattle.mesh_walk.specs.declared.walk.Numbering.{Numbering}
use Rattle.mesh_walk.proofs.FaceLines.{total_is}
use Rattle.slab_laws.specs.Slabs as slabs
use Rattle.slab_laws.specs.SlabTexts as texts

same_flat : {A B : Type 0} {f h : A → List B} → ((x : A) → f x ≡ h x) → (xs : List A) → flat_map f xs ≡ flat_map h xs
same_flat same [] = refl
same_flat same (x ∷ xs) = ap₂ (λ l m. l ++ m) (same x) (same_flat same xs)

module _ (v : Leveled) (slices height : ℕ) where
  abbrev g : Grid
  g = v.grid

  abbrev s : ℕ → ℤ
  s = heights v

  -- the slab that the part is
  abbrev pub slab_of_part : slabs.Slab
  slab_of_part = record { grid = v.grid; field = heights v; height = height; owned = slices }

  points_are : points_to v slices ≡ slabs.slice_size g * slices
  points_are = size g.nx g.ny slices
    where
      size : (x y n : ℕ) → x * (y * n) ≡ x * y * n
      size x y n = omega arith

  abbrev cells : List ℕ
  cells = slabs.owned_cells slab_of_part

  -- ---- the lines of vertices
  module _ (style : Style) (f : texts.Lines) (padded : Bool)
      (same : (u : ℕ × Position) → vertex_line style u ≡ f.vertex padded (slabs.lifted height u.1)) where
    pub edges_are : owned_edges_text style v slices ≡ texts.edge_text f padded slab_of_part
    unfolding span
    edges_are =
        ap (λ n. flat_map (edge_line style v) (filter (is_crossing g s) (below (3 * n)))) points_are
        ∙ (same_flat (λ n. same (n, edge_position g s n)) (slabs.owned_edges slab_of_part)
        ∙ sym (flat_map-map (f.vertex padded) (λ n. slabs.lifted height (edge_position g s n)) (slabs.owned_edges slab_of_part)))

    pub centres_are : owned_centres_text style v slices ≡ texts.centre_text f padded slab_of_part
    unfolding span centre_lines
    centres_are =
        ap (λ n. flat_map (centre_lines style v) (filter (is_cell g) (below n))) points_are
        ∙ (sym (flat_flat (vertex_line style) (cell_centres g s) cells)
        ∙ (same_flat same (flat_map (cell_centres g s) cells)
        ∙ sym (flat_map-map (f.vertex padded) (λ (u : ℕ × Position). slabs.lifted height u.1) (flat_map (cell_centres g s) cells))))

  -- ---- the lines of triangles
  total : edge_count v ≡ length (crossing_edges g s)
  total = total_is v (edge_count v) refl

  abbrev moved : Numbering → ℕ → Triangle → Triangle
  moved numbers edges = on_corners (slabs.renumbered edges numbers.first_edge numbers.first_centre)

  owned_are : slabs.owned_triangles slab_of_part ≡ flat_map (numbered v) cells
  owned_are = map-flat_map (on_corners (number_of g s)) (cell_triangles g s) cells

  module _ (style : Style) (f : texts.Lines) (numbers : Numbering) (same : (t : Triangle) → face_line style.format t ≡ f.triangle t) where
    cell_lines : (q : ℕ) → triangle_lines style.format numbers v q ≡ flat_map f.triangle (map (moved numbers (length (crossing_edges g s))) (numbered v q))
    unfolding triangle_lines
    cell_lines q =
        same_flat same (numbered_from numbers v q)
        ∙ ap (λ n. flat_map f.triangle (map (moved numbers n) (numbered v q))) total

    pub triangles_are : owned_faces_text style.format numbers v slices
        ≡ texts.triangle_text f numbers.first_edge numbers.first_centre slab_of_part
    unfolding span
    triangles_are =
        let move : Triangle → Triangle = moved numbers (length (crossing_edges g s)) in
        ap (λ n. flat_map (triangle_lines style.format numbers v) (filter (is_cell g) (below n))) points_are
        ∙ (same_flat cell_lines cells
        ∙ (sym (flat_flat f.triangle (λ q. map move (numbered v q)) cells)
        ∙ ap (flat_map f.triangle) (sym (map-flat_map move (numbered v) cells) ∙ ap (map move) (sym owned_are))))

  -- ---- the counts
  pub edges_counted : edges_to v (points_to v slices) ≡ slabs.edge_count slab_of_part
  unfolding rank
  edges_counted =
      ap (λ n. count_by (is_crossing g s) (below (3 * n))) points_are
      ∙ (sym (length-filter (is_crossing g s) (below (3 * (slabs.slice_size g * slices))))
      ∙ sym (length-map (slabs.owned_edges slab_of_part) (λ n. slabs.lifted height (edge_position g s n))))

  pub centres_counted : centres_among v 0 (points_to v slices) ≡ slabs.centre_count slab_of_part
  unfolding span
  centres_counted =
      ap (λ n. length (flat_map (cell_centres g s) (filter (is_cell g) (below n)))) points_are
      ∙ sym (length-map (flat_map (cell_centres g s) cells) (λ (u : ℕ × Position). slabs.lifted height u.1))

  pub triangles_counted : triangles_among v 0 (points_to v slices) ≡ slabs.triangle_count slab_of_part
  unfolding span
  triangles_counted =
      ap (λ n. length (flat_map (numbered v) (filter (is_cell g) (below n)))) points_are ∙ ap length (sym owned_are)
