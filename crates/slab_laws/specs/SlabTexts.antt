-- The texts of slabs, and the text of the whole mesh put together from them.
use Rattle.std.specs.Prelude.{◌≡◌, ℕ, ◌+◌, ◌≤◌, ℤ, Bool, List, [], ◌∷◌, ◌++◌, codes}
use Rattle.std.specs.List.{flat_map, sum, sum_by}
use Rattle.iso_defs.specs.Bytes.{space, digit_three, lower_f, lower_v}
use Rattle.iso_defs.specs.Cell.{Triangle}
use Rattle.iso_defs.specs.Grid.{Grid, IsSolid}
use Rattle.iso_defs.specs.Place.{Position}
use Rattle.iso_defs.specs.Scratch.{vertices, triangles}
use Rattle.iso_defs.specs.Texts.{line, position_text, numbers_text, vertex_head, face_head, ply_text, obj_text}
use Rattle.slab_laws.specs.Slabs.{Slab, AreSlabs, slabs_of, edge_places, centre_places, edge_count, centre_count, triangle_count, slab_triangles}

-- the lines of a format: of a vertex by its position, with padding or without, and of a triangle
pub record Lines : Type 0 where
  pub vertex : Bool → Position → List ℕ
  pub triangle : Triangle → List ℕ

abbrev pub ply_lines : Lines
ply_lines = record {
  vertex = λ padded p. line (position_text padded p);
  triangle = λ t. line (digit_three ∷ space ∷ numbers_text 0 t);
}

abbrev pub obj_lines : Lines
obj_lines = record {
  vertex = λ padded p. line (lower_v ∷ space ∷ position_text padded p);
  triangle = λ t. line (lower_f ∷ space ∷ numbers_text 1 t);
}

-- the three parts of a slab's text: its vertices on edges, its centres, and its triangles, for which it must know the
-- numbers in the whole of its first vertex on an edge and of its first centre
abbrev pub edge_text : Lines → Bool → Slab → List ℕ
edge_text f padded b = flat_map (f.vertex padded) (edge_places b)

abbrev pub centre_text : Lines → Bool → Slab → List ℕ
centre_text f padded b = flat_map (f.vertex padded) (centre_places b)

abbrev pub triangle_text : Lines → ℕ → ℕ → Slab → List ℕ
triangle_text f first_edge first_centre b = flat_map f.triangle (slab_triangles first_edge first_centre b)

-- the triangles of slabs: the lowest has these numbers, and each other those behind the slab below it
abbrev pub triangle_texts : Lines → ℕ → ℕ → List Slab → List ℕ
triangle_texts f first_edge first_centre [] = []
triangle_texts f first_edge first_centre (b ∷ bs) =
    triangle_text f first_edge first_centre b
    ++ triangle_texts f (first_edge + edge_count b) (first_centre + centre_count b) bs

-- the parts of all slabs: of edges, of centres, whose numbers begin behind those of all edges, and of triangles
abbrev pub joined_texts : Lines → Bool → List Slab → List ℕ
joined_texts f padded bs =
    flat_map (edge_text f padded) bs
    ++ (flat_map (centre_text f padded) bs ++ triangle_texts f 0 (sum_by edge_count bs) bs)

-- the head of a PLY of so many vertices and triangles
abbrev pub ply_head : ℕ → ℕ → List ℕ
ply_head vertices triangles = vertex_head vertices ++ (face_head triangles ++ line (codes "end_header"))

-- The text of a mesh as PLY is the head with the sums of its slabs' counts, and the parts of all slabs behind it.
abbrev pub PlyBySlabs : Type 0
PlyBySlabs = (g : Grid) (s : ℕ → ℤ) (padded : Bool) (bs : List Slab) → IsSolid g → AreSlabs g s 0 bs →
    ply_text padded (vertices g s) (triangles g s)
    ≡ ply_head (sum_by edge_count bs + sum_by centre_count bs) (sum_by triangle_count bs)
    ++ joined_texts ply_lines padded bs

-- As OBJ, which has no head, it is those parts.
abbrev pub ObjBySlabs : Type 0
ObjBySlabs = (g : Grid) (s : ℕ → ℤ) (padded : Bool) (bs : List Slab) → IsSolid g → AreSlabs g s 0 bs →
    obj_text padded (vertices g s) (triangles g s) ≡ joined_texts obj_lines padded bs

-- A grid has slabs that own these numbers of slices, if they leave two slices for the last one.
abbrev pub CutsAreSlabs : Type 0
CutsAreSlabs = (g : Grid) (s : ℕ → ℤ) (owned : List ℕ) → sum owned + 2 ≤ g.nz → AreSlabs g s 0 (slabs_of g s 0 owned)
