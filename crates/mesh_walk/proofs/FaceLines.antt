-- The lines of triangles, loop by loop and cell by cell.
use Rattle.std.proofs.Common.{◌≡◌, ℕ, ◌+◌, ◌*◌, ◌≤◌, Bool, true, false, cond, List, [], ◌∷◌, ◌++◌, map, length, refl, sym, ◌∙◌, ap, arith, ltb, zero-add, append-nil}
use Rattle.std.specs.List.{count_by, enumerate_from, filter, flat_map, sum_by}
use Rattle.std.proofs.lemmas.List.{length-map}
use Rattle.std.proofs.lemmas.List.Concat.{flat_map-append}
use Rattle.std.proofs.lemmas.List.Sums.{sum_by-cons}
use Rattle.iso_defs.specs.Lists.{below}
use Rattle.iso_defs.specs.Grid.{cells, is_cell, name_bound, is_crossing}
use Rattle.iso_defs.specs.Rows.{row_count}
use Rattle.iso_defs.specs.Cell.{Triangle, case_loops}
use Rattle.case_table.specs.Cases.{case_joined, case_signs}
use Rattle.cell_loops.specs.Loops.{row_centres, row_loops}
use Rattle.iso_defs.specs.Scratch.{cell_centres, cell_loops, crossing_edges, has_centre, on_corners}
use Rattle.iso_base.specs.Triangles.{triangle_of}
use Rattle.triangle_laws.proofs.Lists.{In}
use Rattle.triangle_laws.proofs.Counts.{count-cons}
use Rattle.crossing_edges.specs.Flags.{rank}
use Rattle.flat_mesh.specs.Lattice.{Leveled, heights}
use Rattle.flat_mesh.specs.Faces.{cell_faces, centres_of, corners_of, loops_at}
use Rattle.flat_mesh.specs.Found.{centres_below, numbered}
use Rattle.flat_mesh.specs.Numbers.{AreNumbers}
use Rattle.flat_mesh.proofs.CellAdds.{no_triangles, triangles_are}
use Rattle.mesh_text.specs.Lines.{letter_line}
use Rattle.mesh_text.proofs.Counting.{numbers_ended}
use Rattle.iso_base.specs.declared.format.MeshFormat.{MeshFormat}
use Rattle.iso_base.specs.declared.format.MeshFormat.TheVariants.{Ply, Obj, Off, Vtk}
use Rattle.mesh_lines.specs.Lines.{face_line}
use Rattle.mesh_lines.specs.Blocks.{Gathered, IsBehind}
use Rattle.mesh_lines.specs.Triangles.{corner_text, letter_of}
use Rattle.mesh_walk.specs.Numbers.{AreQuiet, HasNumber}
use Rattle.mesh_rows.specs.Counts.{centres_among, span}
use Rattle.mesh_walk.specs.declared.walk.Numbering.{Numbering}
use Rattle.mesh_walk.specs.Spans.{edge_count, face_lines, faces_text, numbered_from, renumbered, triangle_lines}
use Rattle.mesh_walk.proofs.Adding.{behind_as}
use Rattle.mesh_walk.proofs.CellRuns.{no_centres_among}
use Rattle.mesh_rows.proofs.SpanLaws.{length_more, span_none, span_one, span_quiet}

pub lines_append : (format : MeshFormat) (xs ys : List (List ℕ)) → face_lines format (xs ++ ys) ≡ face_lines format xs ++ face_lines format ys
unfolding face_lines
lines_append format xs ys = flat_map-append (λ t. face_line format (triangle_of t)) xs ys

pub lines_none : (format : MeshFormat) → face_lines format [] ≡ []
unfolding face_lines
lines_none format = refl

pub one_line : (format : MeshFormat) (t : List ℕ) → face_line format (triangle_of t) ≡ face_lines format (t ∷ [])
unfolding face_lines
one_line format t = sym (append-nil (face_line format (triangle_of t)))

-- the line of the texts of a triangle's corners
of_texts : (format : MeshFormat) (x y z : ℕ) → letter_line (letter_of format) (corner_text format x) (corner_text format y) (corner_text format z) ≡ face_line format (x, y, z)
unfolding face_line
of_texts Ply x y z = ap (λ (l : List ℕ). 51 ∷ 32 ∷ l) (numbers_ended _ _ _)
of_texts Obj x y z = ap (λ (l : List ℕ). 102 ∷ 32 ∷ l) (numbers_ended _ _ _)
of_texts Off x y z = ap (λ (l : List ℕ). 51 ∷ 32 ∷ l) (numbers_ended _ _ _)
of_texts Vtk x y z = ap (λ (l : List ℕ). 51 ∷ 32 ∷ l) (numbers_ended _ _ _)

pub texts_put : (format : MeshFormat) (before after : Gathered) (a b c : List ℕ) (x y z : ℕ) → a ≡ corner_text format x → b ≡ corner_text format y → c ≡ corner_text format z
    → IsBehind before after (letter_line (letter_of format) a b c) → IsBehind before after (face_lines format ((x ∷ y ∷ z ∷ []) ∷ []))
texts_put format before after a b c x y z ea eb ec put =
    behind_as _ _ _ _
    (ap (λ t. letter_line (letter_of format) t b c) ea
    ∙ (ap (λ t. letter_line (letter_of format) (corner_text format x) t c) eb
    ∙ (ap (λ t. letter_line (letter_of format) (corner_text format x) (corner_text format y) t) ec ∙ (of_texts format x y z ∙ one_line format (x ∷ y ∷ z ∷ [])))))
    put

lines_back : (format : MeshFormat) (ts : List Triangle) → face_lines format (map corners_of ts) ≡ flat_map (face_line format) ts
unfolding face_lines
lines_back format [] = refl
lines_back format (t ∷ ts) = ap (λ l. face_line format t ++ l) (lines_back format ts)

count_filter : {A : Type 0} (p : A → Bool) (xs : List A) → count_by p xs ≡ length (filter p xs)
count_filter p [] = refl
count_filter p (x ∷ xs) =
    count-cons p x xs ∙ elim (p x) as (λ b. cond {A = ℕ} b 1 0 + count_by p xs ≡ length (cond b (x ∷ filter p xs) (filter p xs))) [
      | true ↦ omega (arith, count_filter p xs)
      | false ↦ omega (arith, count_filter p xs)
    ]

-- the number of all crossing edges
pub total_is : (v : Leveled) (total : ℕ) → total ≡ rank v.grid (heights v) (3 * (v.grid.nx * row_count v.grid)) → total ≡ length (crossing_edges v.grid (heights v))
unfolding rank
total_is v total e =
    let n : 3 * (v.grid.nx * row_count v.grid) ≡ name_bound v.grid = size v.grid.nx v.grid.ny v.grid.nz in
    e ∙ (ap (λ n. count_by (is_crossing v.grid (heights v)) (below n)) n ∙ count_filter (is_crossing v.grid (heights v)) (below (name_bound v.grid)))
  where
    size : (x y z : ℕ) → 3 * (x * (y * z)) ≡ 3 * (x * y * z)
    size x y z = omega arith

-- the centres of some loops, counted
centre_sum : (n : ℕ) (ls : List (List ℕ)) → length (filter has_centre (enumerate_from n ls)) ≡ sum_by centres_of ls
centre_sum n [] = refl
centre_sum n (l ∷ ls) =
    (elim (ltb 3 (length l)) as (λ b. length (cond b ((n, l) ∷ filter has_centre (enumerate_from (n + 1) ls)) (filter has_centre (enumerate_from (n + 1) ls))) ≡ cond {A = ℕ} b 1 0 + sum_by centres_of ls) [
      | true ↦ omega (arith, centre_sum (n + 1) ls)
      | false ↦ omega (arith, centre_sum (n + 1) ls)
    ]) ∙ sym (sum_by-cons centres_of l ls)

-- how many centres a case has
pub centres_counted : (n : ℕ) → length (row_centres n) ≡ sum_by centres_of (row_loops n)
unfolding row_centres row_loops
centres_counted n = centre_sum 0 (case_loops (case_signs n) (case_joined n))

pub centres_of_cell : (v : Leveled) (q : ℕ) → length (cell_centres v.grid (heights v) q) ≡ sum_by centres_of (loops_at v q)
unfolding loops_at
centres_of_cell v q = length-map (filter has_centre (cell_loops v.grid (heights v) q)) _ ∙ centre_sum 0 (loops_at v q)

centres_are_below : (v : Leveled) (q : ℕ) → length (centres_below v q) ≡ centres_among v 0 q
unfolding centres_below span
centres_are_below v q = refl

-- the corners of triangles by other numbers
corners_moved : (f : ℕ → ℕ) (ts : List Triangle) → map (map f) (map corners_of ts) ≡ map corners_of (map (on_corners f) ts)
corners_moved f [] = refl
corners_moved f (t ∷ ts) = ap (λ l. corners_of (on_corners f t) ∷ l) (corners_moved f ts)

module _ (numbers : Numbering) (v : Leveled) (q : ℕ) (is : is_cell v.grid q ≡ true) where
  abbrev moved : List ℕ → List ℕ
  moved = map (renumbered numbers (edge_count v))

  -- the lines of a cell
  pub cell_lines : (format : MeshFormat) (next : ℕ) → next ≡ edge_count v + centres_among v 0 q → (edges : List ℕ) (ls : List (List ℕ)) → In q (cells v.grid) → AreNumbers v q edges
      → ls ≡ loops_at v q → face_lines format (map moved (cell_faces edges ls next)) ≡ faces_text format numbers v q 1
  unfolding triangle_lines
  cell_lines format next number edges ls known are same =
      let first : next ≡ length (crossing_edges v.grid (heights v)) + length (centres_below v q) = omega (arith, number, total_is v (edge_count v) refl, centres_are_below v q) in
      ap (λ ls. face_lines format (map moved (cell_faces edges ls next))) same
      ∙ (ap (λ fs. face_lines format (map moved fs)) (triangles_are v q edges known are next first)
      ∙ (ap (face_lines format) (corners_moved (renumbered numbers (edge_count v)) (numbered v q))
      ∙ (lines_back format (numbered_from numbers v q) ∙ sym (span_one (triangle_lines format numbers v) (is_cell v.grid) q is))))

-- the number of the first centre behind a cell
pub next_number : (first : ℕ) (v : Leveled) (q next : ℕ) → is_cell v.grid q ≡ true → HasNumber first v q next
    → (ls : List (List ℕ)) (after : ℕ) → ls ≡ loops_at v q → length ls ≤ 4 → sum_by centres_of ls ≤ length ls → after ≡ next + sum_by centres_of ls → HasNumber first v (q + 1) after
next_number first v q next is number ls after same few low e =
    let c : centres_among v 0 (q + 1) ≡ centres_among v 0 q + length (cell_centres v.grid (heights v) q)
    = length_more (cell_centres v.grid (heights v)) (is_cell v.grid) 0 q 1
    ∙ ap (λ n. centres_among v 0 q + n) (ap (λ k. centres_among v k 1) (zero-add q) ∙ ap length (span_one (cell_centres v.grid (heights v)) (is_cell v.grid) q is)) in
    let s : sum_by centres_of ls ≡ sum_by centres_of (loops_at v q) = ap (sum_by centres_of) same in
    record { number = omega (arith, number.number, c, s, centres_of_cell v q); few = omega (arith, number.few) }

pub few_centres_of : (ls : List (List ℕ)) → sum_by centres_of ls ≤ length ls
few_centres_of [] = omega arith
few_centres_of (l ∷ ls) =
    let one : centres_of l ≤ 1 = elim (ltb 3 (length l)) as (λ b. cond {A = ℕ} b 1 0 ≤ 1) [ true ↦ omega arith | false ↦ omega arith ] in
    omega (arith, sum_by-cons centres_of l ls, few_centres_of ls)

-- a run whose cells have no loops
pub quiet_faces : (format : MeshFormat) (numbers : Numbering) (v : Leveled) (a n : ℕ) → AreQuiet v a n → faces_text format numbers v a n ≡ []
unfolding triangle_lines
quiet_faces format numbers v a n quiet =
    span_quiet (triangle_lines format numbers v) (is_cell v.grid) a n
    (λ q least most is. ap (λ ts. flat_map (face_line format) (map (on_corners (renumbered numbers (edge_count v))) ts)) (no_triangles v q (quiet.none q least most is)))

pub quiet_number : (first : ℕ) (v : Leveled) (a n b next : ℕ) → AreQuiet v a n → b ≡ a + n → HasNumber first v a next → HasNumber first v b next
quiet_number first v a n b next quiet e number =
    let c : centres_among v 0 b ≡ centres_among v 0 a + centres_among v a n
    = ap (centres_among v 0) e ∙ (length_more (cell_centres v.grid (heights v)) (is_cell v.grid) 0 a n ∙ ap (λ k. centres_among v 0 a + centres_among v k n) (zero-add a)) in
    record { number = omega (arith, number.number, c, no_centres_among v a n quiet); few = omega (arith, number.few) }

pub first_number : (v : Leveled) (first : ℕ) → HasNumber first v 0 first
first_number v first = record {
  number = let none : centres_among v 0 0 ≡ 0 = ap length (span_none (cell_centres v.grid (heights v)) (is_cell v.grid) 0) in omega (arith, none);
  few = omega arith;
}
