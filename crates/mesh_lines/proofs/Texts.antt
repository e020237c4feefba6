-- The text of a mesh in a style is that of its lists.
use Rattle.std.proofs.Common.{◌≡◌, ℕ, false, true, List, [], ◌∷◌, ◌++◌, length, map, refl, sym, ap, ◌∙◌, append_assoc}
use Rattle.std.specs.Prelude.{codes}
use Rattle.std.specs.List.{flat_map}
use Rattle.std.proofs.lemmas.List.{length-map}
use Rattle.std.proofs.lemmas.List.Folds.{flat_map-map}
use Rattle.iso_defs.specs.Place.{Position}
use Rattle.iso_defs.specs.Texts.{face_head, line, obj_text, ply_text, position_text, vertex_head}
use Rattle.iso_base.specs.declared.format.MeshFormat.{MeshFormat}
use Rattle.iso_base.specs.declared.format.MeshFormat.TheVariants.{Ply, Obj, Off, Vtk}
use Rattle.iso_base.specs.declared.point.Point.{Point}
use Rattle.iso_defs.specs.MeshLists.{FlatMesh}
use Rattle.mesh_text.specs.Lines.{ply_head}
use Rattle.mesh_more.specs.Texts.{off_head, vtk_faces, vtk_head, moved, moved_text, moved_vertex}
use Rattle.mesh_lines.specs.declared.style.Origin.TheVariants.{Volume, Pad, Window}
use Rattle.mesh_lines.specs.declared.style.Style.{Style}
use Rattle.mesh_lines.specs.Lines.{face_line, text_of, vertex_line}

-- PLY's head, and then lines, in the parts of the definition
ply_parts : (vertices faces : ℕ) (lines : List ℕ) → ply_head vertices faces ++ lines ≡ vertex_head vertices ++ (face_head faces ++ (line (codes "end_header") ++ lines))
unfolding ply_head
ply_parts vertices faces lines =
    append_assoc (vertex_head vertices) (face_head faces ++ line (codes "end_header")) lines
    ∙ ap (λ l. vertex_head vertices ++ l) (append_assoc (face_head faces) (line (codes "end_header")) lines)

-- a mesh at its volume's origin as PLY, and as OBJ
pub volume_ply : (m : FlatMesh) → text_of (record { format = Ply; origin = Volume }) m ≡ ply_text false m.vertex_list m.triangle_list
unfolding text_of vertex_line face_line
volume_ply m = ply_parts (length m.vertex_list) (length m.triangle_list) _

pub volume_obj : (m : FlatMesh) → text_of (record { format = Obj; origin = Volume }) m ≡ obj_text false m.vertex_list m.triangle_list
unfolding text_of vertex_line face_line
volume_obj m = refl

-- the same where the volume lies in a pad
pub pad_ply : (m : FlatMesh) → text_of (record { format = Ply; origin = Pad }) m ≡ ply_text true m.vertex_list m.triangle_list
unfolding text_of vertex_line face_line
pad_ply m = ply_parts (length m.vertex_list) (length m.triangle_list) _

pub pad_obj : (m : FlatMesh) → text_of (record { format = Obj; origin = Pad }) m ≡ obj_text true m.vertex_list m.triangle_list
unfolding text_of vertex_line face_line
pad_obj m = refl

-- a window, which is moved by the point at which it begins
module _ (at : Point) (m : FlatMesh) where
  abbrev by : ℕ × ℕ × ℕ
  by = (at.x, at.y, at.z)

  abbrev moved_list : List (ℕ × Position)
  moved_list = map (moved_vertex by) m.vertex_list

  abbrev of : MeshFormat → Style
  of format = record { format = format; origin = Window at }

  count : length m.vertex_list ≡ length moved_list
  count = sym (length-map m.vertex_list (moved_vertex by))

  -- the lines of its vertices
  lines : (before : List ℕ) → flat_map (λ (v : ℕ × Position). line (before ++ position_text false (moved by v.1))) m.vertex_list
      ≡ flat_map (λ (v : ℕ × Position). line (before ++ position_text false v.1)) moved_list
  lines before = sym (flat_map-map (λ (v : ℕ × Position). line (before ++ position_text false v.1)) (moved_vertex by) m.vertex_list)

  pub window_text : (format : MeshFormat) → text_of (of format) m ≡ moved_text format by m.vertex_list m.triangle_list
  unfolding text_of vertex_line face_line
  window_text Ply =
      let faces : List ℕ = flat_map (face_line Ply) m.triangle_list in
      let head : ℕ → List ℕ → List ℕ = λ n l. vertex_head n ++ (face_head (length m.triangle_list) ++ (line (codes "end_header") ++ (l ++ faces))) in
      ply_parts (length m.vertex_list) (length m.triangle_list) _
      ∙ (ap (λ n. head n (flat_map (vertex_line (of Ply)) m.vertex_list)) count ∙ ap (head (length moved_list)) (lines []))
  window_text Obj = ap (λ l. l ++ flat_map (face_line Obj) m.triangle_list) (lines (118 ∷ 32 ∷ []))
  window_text Off =
      let faces : List ℕ = flat_map (face_line Off) m.triangle_list in
      let head : ℕ → List ℕ → List ℕ = λ n l. off_head n (length m.triangle_list) ++ (l ++ faces) in
      ap (λ n. head n (flat_map (vertex_line (of Off)) m.vertex_list)) count ∙ ap (head (length moved_list)) (lines [])
  window_text Vtk =
      let faces : List ℕ = vtk_faces (length m.triangle_list) ++ flat_map (face_line Vtk) m.triangle_list in
      let head : ℕ → List ℕ → List ℕ = λ n l. vtk_head n ++ (l ++ faces) in
      ap (λ n. head n (flat_map (vertex_line (of Vtk)) m.vertex_list)) count ∙ ap (head (length moved_list)) (lines [])
