-- How many centres and triangles the cells before a point have.
use Rattle.std.proofs.Common.{◌≡◌, ℕ, ◌+◌, ◌-◌, ◌*◌, ◌<◌, ◌≤◌, true, List, [], map, length, refl, sym, ◌∙◌, ap, ap₂, subst, arith, zero-add, inl, inr}
use Rattle.std.proofs.lemmas.Bool.{cases_lt}
use Rattle.std.specs.List.{enumerate_from, filter, flat_map}
use Rattle.std.proofs.lemmas.List.{length-map}
use Rattle.std.proofs.Math.Nat.{mul-le-mul_left}
use Rattle.iso_defs.specs.Cell.{Triangle, case_triangles, cell_joined, cell_signs, loop_triangles}
use Rattle.iso_defs.specs.Grid.{coordinate, index, is_cell}
use Rattle.iso_defs.proofs.Points.{x_index}
use Rattle.iso_defs.specs.Scratch.{cell_centres, cell_loops, has_centre, number_of, on_corners, vertex_name}
use Rattle.cell_loops.specs.Loops.{row_centres, row_loops, row_triangles}
use Rattle.mesh_laws.proofs.Mixed.{Low, low_is}
use Rattle.flat_mesh.specs.Faces.{loops_at}
use Rattle.flat_mesh.specs.Found.{numbered}
use Rattle.flat_mesh.specs.Lattice.{Leveled, heights}
use Rattle.flat_mesh.specs.Rows.{row_start}
use Rattle.flat_mesh.proofs.CellAdds.{IsQuiet, no_centres, no_triangles}
use Rattle.flat_mesh.proofs.Quiet.{last_row, last_slice}
use Rattle.mesh_rows.specs.Counts.{AreCounts, centres_among, triangles_among}
use Rattle.mesh_rows.specs.declared.counts.Counts.{Counts}
use Rattle.mesh_rows.proofs.SpanLaws.{length_more, span_none, span_one, span_quiet}
use Rattle.sample_rows.specs.Cases.{HasNoLoops}

-- cells without loops have no centres and no triangles
module _ (v : Leveled) (a n : ℕ) (quiet : IsQuiet v a n) where
  no_centres_among : centres_among v a n ≡ 0
  no_centres_among = ap length (span_quiet (cell_centres v.grid (heights v)) (is_cell v.grid) a n (λ q least most is. no_centres v q (quiet q least most is)))

  no_triangles_among : triangles_among v a n ≡ 0
  no_triangles_among = ap length (span_quiet (numbered v) (is_cell v.grid) a n (λ q least most is. no_triangles v q (quiet q least most is)))

  pub quiet_counts : (b : ℕ) (counts : Counts) → b ≡ a + n → AreCounts v a counts → AreCounts v b counts
  quiet_counts b counts e are = record {
    centres = are.centres ∙ sym (ap (centres_among v 0) e ∙ (length_more (cell_centres v.grid (heights v)) (is_cell v.grid) 0 a n
        ∙ ap₂ ◌+◌ refl (ap (λ k. centres_among v k n) (zero-add a) ∙ no_centres_among) ∙ omega arith));
    faces = are.faces ∙ sym (ap (triangles_among v 0) e ∙ (length_more (numbered v) (is_cell v.grid) 0 a n
        ∙ ap₂ ◌+◌ refl (ap (λ k. triangles_among v k n) (zero-add a) ∙ no_triangles_among) ∙ omega arith));
    few_centres = let h = are.few_centres in omega arith;
    few_faces = let h = are.few_faces in omega arith;
  }

-- the numbers of centres and of triangles of a cell, by its case
module _ (v : Leveled) (q case : ℕ) (same : row_loops case ≡ loops_at v q) where
  centres_of_case : length (row_centres case) ≡ length (cell_centres v.grid (heights v) q)
  unfolding row_centres row_loops loops_at
  centres_of_case =
      ap (λ ls. length (filter has_centre (enumerate_from 0 ls))) same
      ∙ sym (length-map (filter has_centre (cell_loops v.grid (heights v) q)) _)

  triangles_of_case : length (row_triangles case) ≡ length (numbered v q)
  unfolding row_triangles row_loops loops_at
  triangles_of_case =
      let ts : List Triangle = case_triangles (cell_signs v.grid (heights v) q) (cell_joined v.grid (heights v) q) in
      ap (λ ls. length (flat_map (λ (l : ℕ × List ℕ). loop_triangles l.1 (12 + l.0)) (enumerate_from 0 ls))) same
      ∙ sym (length-map (map (on_corners (vertex_name v.grid q)) ts) (on_corners (number_of v.grid (heights v))) ∙ length-map ts (on_corners (vertex_name v.grid q)))

pub one_counted : (v : Leveled) (q case centres faces : ℕ) (counts new : Counts) → is_cell v.grid q ≡ true → row_loops case ≡ loops_at v q
    → centres ≡ length (row_centres case) → faces ≡ length (row_triangles case) → centres ≤ 4 → faces ≤ 12
    → new.centres ≡ counts.centres + centres → new.faces ≡ counts.faces + faces → AreCounts v q counts → AreCounts v (q + 1) new
one_counted v q case centres faces counts new is same ec ef few_c few_f nc nf are =
    let c : centres_among v 0 (q + 1) ≡ centres_among v 0 q + length (cell_centres v.grid (heights v) q)
    = length_more (cell_centres v.grid (heights v)) (is_cell v.grid) 0 q 1
    ∙ ap (λ n. centres_among v 0 q + n) (ap (λ k. centres_among v k 1) (zero-add q) ∙ ap length (span_one (cell_centres v.grid (heights v)) (is_cell v.grid) q is)) in
    let f : triangles_among v 0 (q + 1) ≡ triangles_among v 0 q + length (numbered v q)
    = length_more (numbered v) (is_cell v.grid) 0 q 1
    ∙ ap (λ n. triangles_among v 0 q + n) (ap (λ k. triangles_among v k 1) (zero-add q) ∙ ap length (span_one (numbered v) (is_cell v.grid) q is)) in
    record {
      centres = omega (arith, are.centres, c, ec, centres_of_case v q case same);
      faces = omega (arith, are.faces, f, ef, triangles_of_case v q case same);
      few_centres = omega (arith, are.few_centres);
      few_faces = omega (arith, are.few_faces);
    }

pub none_counted : (v : Leveled) (counts : Counts) → counts.centres ≡ 0 → counts.faces ≡ 0 → AreCounts v 0 counts
none_counted v counts c f = record {
  centres = c ∙ sym (ap length (span_none (cell_centres v.grid (heights v)) (is_cell v.grid) 0));
  faces = f ∙ sym (ap length (span_none (numbered v) (is_cell v.grid) 0));
  few_centres = omega arith;
  few_faces = omega arith;
}

-- a row of points whose cells have no loops
row_quiet : (v : Leveled) (y z : ℕ) (counts : Counts) → IsQuiet v (row_start v.grid y z) v.grid.nx → AreCounts v (row_start v.grid y z) counts → AreCounts v (row_start v.grid (y + 1) z) counts
row_quiet v y z counts quiet are = quiet_counts v (row_start v.grid y z) v.grid.nx quiet (row_start v.grid (y + 1) z) counts (omega arith) are

-- one that begins no cells
last_row_counted : (v : Leveled) (y z : ℕ) (counts : Counts) → y + 1 ≡ v.grid.ny → z < v.grid.nz → AreCounts v (row_start v.grid y z) counts → AreCounts v (row_start v.grid (y + 1) z) counts
last_row_counted v y z counts hy hz are = row_quiet v y z counts (last_row v y z hy hz) are

last_slice_counted : (v : Leveled) (y z : ℕ) (counts : Counts) → y < v.grid.ny → z + 1 ≡ v.grid.nz → AreCounts v (row_start v.grid y z) counts → AreCounts v (row_start v.grid (y + 1) z) counts
last_slice_counted v y z counts hy hz are = row_quiet v y z counts quiet are
  where
    quiet : IsQuiet v (row_start v.grid y z) v.grid.nx
    quiet q least most is =
        let a : row_start v.grid y z ≡ v.grid.nx * y + v.grid.nx * v.grid.ny * z = omega arith in
        let b : v.grid.nx * (y + 1) ≤ v.grid.nx * v.grid.ny = mul-le-mul_left v.grid.nx (omega arith) in
        last_slice v z hz q (omega arith) (omega arith) is

-- and one that begins cells without loops
inner_counted : (v : Leveled) (y z : ℕ) (counts : Counts) → HasNoLoops v y z → y + 1 < v.grid.ny → z + 1 < v.grid.nz
    → AreCounts v (row_start v.grid y z) counts → AreCounts v (row_start v.grid (y + 1) z) counts
inner_counted v y z counts none hy hz are = row_quiet v y z counts quiet are
  where
    quiet : IsQuiet v (row_start v.grid y z) v.grid.nx
    quiet q least most is =
        let x : ℕ = q - row_start v.grid y z in
        let here : index v.grid x y z ≡ q = omega arith in
        let wide : coordinate v.grid 0 q ≡ x = ap (coordinate v.grid 0) (sym here) ∙ x_index v.grid x y z (omega arith) (omega arith) (omega arith) in
        let l : Low v.grid q = low_is v.grid q is in
        subst (λ q. loops_at v q ≡ []) here (none.none x (omega (arith, l.x, wide)) hy hz)

pub quiet_counted : (v : Leveled) (y z : ℕ) (counts : Counts) → HasNoLoops v y z → y < v.grid.ny → z < v.grid.nz
    → AreCounts v (row_start v.grid y z) counts → AreCounts v (row_start v.grid (y + 1) z) counts
quiet_counted v y z counts none hy hz are = elim (cases_lt (y + 1) v.grid.ny) [
  | inr high ↦ last_row_counted v y z counts (omega arith) hz are
  | inl low ↦ elim (cases_lt (z + 1) v.grid.nz) [
    | inr far ↦ last_slice_counted v y z counts hy (omega arith) are
    | inl near ↦ inner_counted v y z counts none low near are
  ]
]
