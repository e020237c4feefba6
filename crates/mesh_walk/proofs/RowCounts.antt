-- How many centres and triangles the listed cells of a row have.
use Rattle.std.proofs.Common.{◌≡◌, ℕ, zero, suc, ◌+◌, ◌-◌, ◌*◌, ◌<◌, ◌≤◌, List, [], map, length, get_or, refl, sym, ◌∙◌, ap, arith}
use Rattle.std.specs.List.{flat_map, sum_by}
use Rattle.std.proofs.lemmas.List.{length-append, length-map}
use Rattle.std.proofs.lemmas.List.FromFn.{length-map-range_with_len}
use Rattle.iso_base.specs.Volume.{IsGrid}
use Rattle.iso_defs.specs.Grid.{is_cell}
use Rattle.iso_defs.specs.Lists.{below}
use Rattle.iso_defs.specs.Scratch.{cell_centres, crossing_edges}
use Rattle.cell_loops.specs.Loops.{row_centres, row_loops}
use Rattle.case_faces.specs.Faces.{case_corners, corner_number, row_faces}
use Rattle.case_faces.proofs.Corners.{cell_three, faces_named, flat_more}
use Rattle.flat_mesh.specs.Faces.{cell_faces, centres_of, corners_of, loops_at}
use Rattle.flat_mesh.specs.Found.{centres_below, numbered}
use Rattle.flat_mesh.specs.Lattice.{Leveled, heights}
use Rattle.flat_mesh.specs.Rows.{row_start}
use Rattle.flat_mesh.proofs.CellAdds.{no_centres, no_triangles, triangles_are}
use Rattle.flat_mesh.proofs.CellPlaces.{cell_placed}
use Rattle.mesh_rows.specs.Counts.{centres_among, span, triangles_among}
use Rattle.mesh_rows.proofs.SpanLaws.{length_more, span_none, span_one, span_quiet}
use Rattle.mesh_walk.specs.Cells.{AreCells}
use Rattle.mesh_walk.specs.Listed.{cell_centre_slots, cell_corner_slots, centre_slots_to, corner_slots_to}
use Rattle.mesh_walk.specs.Numbers.{AreQuiet}
use Rattle.mesh_walk.specs.Slots.{corner_slot}
use Rattle.mesh_walk.specs.declared.cells.RowCells.{RowCells}
use Rattle.mesh_walk.proofs.ActiveCells.{case_of, cell_low, gap, gap_before, gap_low, quiet_gap, quiet_rest}
use Rattle.mesh_walk.proofs.CellRuns.{cell_in, cell_of}
use Rattle.mesh_walk.proofs.FaceLines.{centres_counted, centres_of_cell}
use Rattle.mesh_walk.proofs.RowFaces.{joined_count}
use Rattle.mesh_walk.proofs.TextSlots.{numbers, numbers_are}

-- a run whose cells have no loops has no triangles
pub no_triangles_among : (v : Leveled) (a n : ℕ) → AreQuiet v a n → triangles_among v a n ≡ 0
no_triangles_among v a n quiet = ap length (span_quiet (numbered v) (is_cell v.grid) a n (λ q least most is. no_triangles v q (quiet.none q least most is)))

module _ (v : Leveled) (is : IsGrid v.grid) (cells : RowCells) (are : AreCells v cells) where
  abbrev start : ℕ
  start = row_start v.grid cells.y cells.z

  abbrev place : ℕ → ℕ
  place k = get_or cells.places k 0

  some : 0 < v.grid.nx
  some = omega (arith, is.x.least)

  -- what the listed cells have is what all cells of the row have, if each has it of its own and none without loops has any
  module _ {X : Type 0} (f : ℕ → List X) (size : ℕ → ℕ) (adds : (a b : ℕ) → size (a + b) ≡ size a + size b) (slots : ℕ → List ℕ)
      (none : (q : ℕ) → loops_at v q ≡ [] → f q ≡ []) (each : (k : ℕ) → k < cells.count → length (slots k) ≡ size (length (span f (is_cell v.grid) (start + place k) 1))) where
    abbrev among : ℕ → ℕ → ℕ
    among a n = length (span f (is_cell v.grid) a n)

    no_more : (a n : ℕ) → AreQuiet v a n → among a n ≡ 0
    no_more a n quiet = ap length (span_quiet f (is_cell v.grid) a n (λ q least most is. none q (quiet.none q least most is)))

    counted_to : (n : ℕ) → n ≤ cells.count → length (flat_map slots (below n)) ≡ size (among start (gap v cells are n))
    counted_to zero few =
        let nothing : size (among start 0) ≡ size 0 = ap size (ap length (span_none f (is_cell v.grid) start)) in
        omega (arith, nothing, adds 0 0)
    counted_to (suc n) few =
        let low : n < cells.count = omega (arith, few) in
        let next : n + 1 ≡ suc n = omega arith in
        let from : ℕ = gap v cells are n in
        let upto = gap_before v cells are n low in
        let total : length (flat_map slots (below (suc n))) ≡ length (flat_map slots (below n)) + length (slots n)
        = ap (λ n. length (flat_map slots (below n))) (sym next) ∙ (ap length (flat_more slots n) ∙ length-append (flat_map slots (below n)) (slots n)) in
        let reach : from + (place n - from) ≡ place n = omega (arith, upto) in
        let quiet : among (start + from) (place n - from) ≡ 0 = no_more (start + from) (place n - from) (quiet_gap v cells are n low) in
        let before : among start (place n) ≡ among start from + among (start + from) (place n - from)
        = sym (ap (among start) reach) ∙ length_more f (is_cell v.grid) start from (place n - from) in
        let more : among start (place n + 1) ≡ among start (place n) + among (start + place n) 1 = length_more f (is_cell v.grid) start (place n) 1 in
        let all : among start (place n + 1) ≡ among start from + among (start + place n) 1 = omega (arith, more, before, quiet) in
        let sized : size (among start (place n + 1)) ≡ size (among start from) + size (among (start + place n) 1)
        = ap size all ∙ adds (among start from) (among (start + place n) 1) in
        omega (arith, total, counted_to n (omega arith), sized, each n low)

    counted : length (flat_map slots (below cells.count)) ≡ size (among start v.grid.nx)
    counted =
        let from : ℕ = gap v cells are cells.count in
        let far = gap_low v cells are some cells.count (omega arith) in
        let reach : from + (v.grid.nx - from) ≡ v.grid.nx = omega (arith, far) in
        let quiet : among (start + from) (v.grid.nx - from) ≡ 0 = no_more (start + from) (v.grid.nx - from) (quiet_rest v cells are some) in
        let all : among start v.grid.nx ≡ among start from + among (start + from) (v.grid.nx - from)
        = sym (ap (among start) reach) ∙ length_more f (is_cell v.grid) start from (v.grid.nx - from) in
        let same : among start v.grid.nx ≡ among start from = omega (arith, all, quiet) in
        counted_to cells.count (omega arith) ∙ sym (ap size same)

  -- the centres
  centres_each : (k : ℕ) → k < cells.count → length (cell_centre_slots cells k) ≡ length (span (cell_centres v.grid (heights v)) (is_cell v.grid) (start + place k) 1)
  centres_each k low =
      let case : ℕ = get_or cells.cases k 0 in
      let placed = cell_placed v.grid (cell_of v cells are (place k)) (cell_in v cells are (place k) (cell_low v cells are k low)) in
      length-map-range_with_len (λ i. 3 * place k + i) 0 (length (row_centres case))
      ∙ (centres_counted case ∙ (ap (sum_by centres_of) (case_of v cells are k low).loops
      ∙ (sym (centres_of_cell v (start + place k)) ∙ sym (ap length (span_one (cell_centres v.grid (heights v)) (is_cell v.grid) (start + place k) placed.tested)))))

  pub row_centre_count : length (centre_slots_to cells cells.count) ≡ centres_among v start v.grid.nx
  unfolding centre_slots_to
  row_centre_count = counted (cell_centres v.grid (heights v)) (λ n. n) (λ a b. refl) (cell_centre_slots cells) (no_centres v) centres_each

  -- the triangles, by their corners
  corners_each : (k : ℕ) → k < cells.count → length (cell_corner_slots cells k) ≡ 3 * length (span (numbered v) (is_cell v.grid) (start + place k) 1)
  unfolding case_corners row_faces
  corners_each k low =
      let case : ℕ = get_or cells.cases k 0 in
      let q : ℕ = start + place k in
      let is_case = case_of v cells are k low in
      let placed = cell_placed v.grid (cell_of v cells are (place k)) (cell_in v cells are (place k) (cell_low v cells are k low)) in
      let next : ℕ = length (crossing_edges v.grid (heights v)) + length (centres_below v q) in
      let name : ℕ → ℕ = corner_number (numbers v q) next in
      let same : map (map name) (row_faces case) ≡ map corners_of (numbered v q)
      = faces_named (numbers v q) next case is_case.small
      ∙ (ap (λ ls. cell_faces (numbers v q) ls next) is_case.loops ∙ triangles_are v q (numbers v q) placed.known (numbers_are v q) next refl) in
      let count : length (row_faces case) ≡ length (numbered v q)
      = sym (length-map (row_faces case) (map name)) ∙ (ap length same ∙ length-map (numbered v q) corners_of) in
      let here : length (span (numbered v) (is_cell v.grid) q 1) ≡ length (numbered v q) = ap length (span_one (numbered v) (is_cell v.grid) q placed.tested) in
      let three : length (case_corners case) ≡ 3 * length (row_faces case) = joined_count (row_faces case) (cell_three (below 12) (row_loops case) 12) in
      let slots : length (cell_corner_slots cells k) ≡ length (case_corners case)
      = length-map (case_corners case) (λ c. corner_slot cells.y cells.z c + 3 * place k) in
      omega (arith, slots, three, count, here)

  pub row_corner_count : length (corner_slots_to cells cells.count) ≡ 3 * triangles_among v start v.grid.nx
  unfolding corner_slots_to
  row_corner_count =
      counted (numbered v) (λ n. 3 * n) (λ a b. omega arith) (cell_corner_slots cells) (no_triangles v) corners_each
