-- The lines of all vertices and triangles are those of the mesh.
use Rattle.std.proofs.Common.{◌≡◌, ℕ, ◌+◌, ◌-◌, ◌*◌, inl, inr, if◌then◌else◌, zero-add, List, [], ◌∷◌, ◌++◌, map, length, refl, sym, ◌∙◌, ap, ap₂, arith, ℤ, append_assoc, length-append}
use Rattle.std.specs.List.{filter, flat_map}
use Rattle.std.proofs.lemmas.Bool.{cases_lt, le-ltb, lt-ltb}
use Rattle.std.proofs.lemmas.List.{length-map, map-append}
use Rattle.std.proofs.lemmas.List.Concat.{flat_map-append}
use Rattle.iso_defs.specs.Lists.{below}
use Rattle.iso_defs.specs.Grid.{Grid, cells, is_cell, point_count, is_crossing}
use Rattle.iso_defs.specs.Rows.{row_count}
use Rattle.iso_defs.specs.Cell.{Triangle}
use Rattle.iso_defs.specs.Place.{Position, edge_position}
use Rattle.iso_defs.specs.Scratch.{cell_centres, cell_triangles, crossing_edges, number_of, on_corners, triangles, vertices}
use Rattle.mesh_laws.proofs.Rows.{flat_flat}
use Rattle.crossing_edges.specs.Flags.{rank}
use Rattle.flat_mesh.specs.Found.{numbered}
use Rattle.flat_mesh.specs.Lattice.{Leveled, heights}
use Rattle.flat_mesh.specs.Mesh.{mesh_of}
use Rattle.mesh_lines.specs.declared.style.Style.{Style}
use Rattle.mesh_rows.specs.Counts.{centres_among, span, triangles_among}
use Rattle.mesh_lines.specs.Lines.{face_line, head_of, middle_of, text_of, vertex_line}
use Rattle.mesh_walk.specs.Spans.{centre_lines, centres_text, edge_count, edge_line, edges_text, faces_text, lines_text, numbered_from, own_numbers, renumbered, triangle_lines}
use Rattle.mesh_walk.proofs.FaceLines.{total_is}

flat_of_map : {A B : Type 0} (f : B → List ℕ) (h : A → B) (xs : List A) → flat_map f (map h xs) ≡ flat_map (λ x. f (h x)) xs
flat_of_map f h [] = refl
flat_of_map f h (x ∷ xs) = ap (λ l. f (h x) ++ l) (flat_of_map f h xs)

map_flat : {A B C : Type 0} (f : B → C) (h : A → List B) (xs : List A) → map f (flat_map h xs) ≡ flat_map (λ x. map f (h x)) xs
map_flat f h [] = refl
map_flat f h (x ∷ xs) = map-append f (h x) (flat_map h xs) ∙ ap (λ l. map f (h x) ++ l) (map_flat f h xs)

module _ (v : Leveled) where
  abbrev g : Grid
  g = v.grid

  abbrev s : ℕ → ℤ
  s = heights v

  points_are : g.nx * row_count g ≡ point_count g
  points_are = size g.nx g.ny g.nz
    where
      size : (x y z : ℕ) → x * (y * z) ≡ x * y * z
      size x y z = omega arith

  -- all centres, and all triangles
  all_centres : span (cell_centres g s) (is_cell g) 0 (g.nx * row_count g) ≡ flat_map (cell_centres g s) (cells g)
  unfolding span
  all_centres = ap (λ n. flat_map (cell_centres g s) (filter (is_cell g) (below n))) points_are

  all_triangles : span (numbered v) (is_cell g) 0 (g.nx * row_count g) ≡ triangles g s
  unfolding span
  all_triangles =
      ap (λ n. flat_map (numbered v) (filter (is_cell g) (below n))) points_are ∙ sym (map_flat (on_corners (number_of g s)) (cell_triangles g s) (cells g))

  -- in a mesh by itself vertices keep their numbers
  own_number : (n : ℕ) → renumbered (own_numbers v) (edge_count v) n ≡ n
  own_number n = elim (cases_lt n (edge_count v)) [
    | inl low ↦ ap (λ b. if b then 0 + n else edge_count v + (n - edge_count v)) (lt-ltb n (edge_count v) low) ∙ zero-add n
    | inr high ↦ ap (λ b. if b then 0 + n else edge_count v + (n - edge_count v)) (le-ltb n (edge_count v) high) ∙ omega (arith, high)
  ]

  own_corners : (ts : List Triangle) → map (on_corners (renumbered (own_numbers v) (edge_count v))) ts ≡ ts
  own_corners [] = refl
  own_corners ((a, b, c) ∷ ts) = ap₂ (λ t ts. t ∷ ts) (ap (λ n. (n, moved b, moved c)) (own_number a) ∙ (ap (λ n. (a, n, moved c)) (own_number b) ∙ ap (λ n. (a, b, n)) (own_number c))) (own_corners ts)
    where
      moved : ℕ → ℕ
      moved = renumbered (own_numbers v) (edge_count v)

  own_triangles : (q : ℕ) → numbered_from (own_numbers v) v q ≡ numbered v q
  own_triangles q = own_corners (numbered v q)

  pub vertex_count : (total centres : ℕ) → total ≡ rank g s (3 * (g.nx * row_count g)) → centres ≡ centres_among v 0 (g.nx * row_count g) → total + centres ≡ length (vertices g s)
  vertex_count total centres t c =
      let edges : total ≡ length (crossing_edges g s) = total_is v total t in
      let all : centres ≡ length (flat_map (cell_centres g s) (cells g)) = c ∙ ap length all_centres in
      let us : List (ℕ × Position) = map (λ n. (n, edge_position g s n)) (crossing_edges g s) in
      let parts : length (vertices g s) ≡ length us + length (flat_map (cell_centres g s) (cells g)) = length-append us (flat_map (cell_centres g s) (cells g)) in
      let named : length us ≡ length (crossing_edges g s) = length-map (crossing_edges g s) (λ n. (n, edge_position g s n)) in
      omega arith

  pub triangle_count : (faces : ℕ) → faces ≡ triangles_among v 0 (g.nx * row_count g) → faces ≡ length (triangles g s)
  triangle_count faces f = f ∙ ap length all_triangles

  module _ (style : Style) where
    edge_lines : edges_text style v 0 (3 * (g.nx * row_count g)) ≡ flat_map (vertex_line style) (map (λ n. (n, edge_position g s n)) (crossing_edges g s))
    unfolding span
    edge_lines =
        ap (λ n. flat_map (edge_line style v) (filter (is_crossing g s) (below (3 * n)))) points_are
        ∙ sym (flat_of_map (vertex_line style) (λ n. (n, edge_position g s n)) (crossing_edges g s))

    all_centre_lines : centres_text style v 0 (g.nx * row_count g) ≡ flat_map (vertex_line style) (flat_map (cell_centres g s) (cells g))
    unfolding span centre_lines
    all_centre_lines =
        ap (λ n. flat_map (centre_lines style v) (filter (is_cell g) (below n))) points_are
        ∙ sym (flat_flat (vertex_line style) (cell_centres g s) (cells g))

    all_face_lines : faces_text style.format (own_numbers v) v 0 (g.nx * row_count g) ≡ flat_map (face_line style.format) (triangles g s)
    unfolding span triangle_lines
    all_face_lines =
        ap (λ n. flat_map (triangle_lines style.format (own_numbers v) v) (filter (is_cell g) (below n))) points_are
        ∙ (same_lines (λ q. ap (flat_map (face_line style.format)) (own_triangles q)) (cells g)
        ∙ (sym (flat_flat (face_line style.format) (numbered v) (cells g)) ∙ ap (flat_map (face_line style.format)) (sym (map_flat (on_corners (number_of g s)) (cell_triangles g s) (cells g)))))
      where
        same_lines : {f h : ℕ → List ℕ} → ((q : ℕ) → f q ≡ h q) → (qs : List ℕ) → flat_map f qs ≡ flat_map h qs
        same_lines same [] = refl
        same_lines same (q ∷ qs) = ap₂ ◌++◌ (same q) (same_lines same qs)

    -- the head and the lines are the text
    pub whole_text : head_of style.format (length (vertices g s)) (length (triangles g s)) ++ lines_text style v (length (triangles g s)) ≡ text_of style (mesh_of g s)
    unfolding text_of
    whole_text =
        let us : List (ℕ × Position) = map (λ n. (n, edge_position g s n)) (crossing_edges g s) in
        let cs : List (ℕ × Position) = flat_map (cell_centres g s) (cells g) in
        let vs : edges_text style v 0 (3 * (g.nx * row_count g)) ++ centres_text style v 0 (g.nx * row_count g) ≡ flat_map (vertex_line style) (vertices g s)
        = ap₂ ◌++◌ edge_lines all_centre_lines ∙ sym (flat_map-append (vertex_line style) us cs) in
        let middle : List ℕ = middle_of style.format (length (triangles g s)) in
        let fs : middle ++ faces_text style.format (own_numbers v) v 0 (g.nx * row_count g) ≡ middle ++ flat_map (face_line style.format) (triangles g s) = ap (λ l. middle ++ l) all_face_lines in
        let all : lines_text style v (length (triangles g s)) ≡ flat_map (vertex_line style) (vertices g s) ++ (middle ++ flat_map (face_line style.format) (triangles g s))
        = sym (append_assoc (edges_text style v 0 (3 * (g.nx * row_count g))) (centres_text style v 0 (g.nx * row_count g)) (middle ++ faces_text style.format (own_numbers v) v 0 (g.nx * row_count g)))
        ∙ ap₂ ◌++◌ vs fs in
        ap (λ l. head_of style.format (length (vertices g s)) (length (triangles g s)) ++ l) all
