use Rattle.std.proofs.Common.{◌≡◌, ◌+◌, ◌*◌, ◌<◌, ◌≤◌, ◌++◌, ℕ, ap, arith, get_or, length, refl}
use Rattle.std.proofs.lemmas.List.{length-append, length-map}
use Rattle.std.proofs.lemmas.List.FromFn.{length-map-range_with_len}
use Rattle.cell_loops.specs.Loops.{row_centres}
use Rattle.case_faces.specs.Faces.{case_corners}
use Rattle.case_faces.proofs.Corners.{flat_more}
use Rattle.case_faces.proofs.Tables.{row_at}
use Rattle.mesh_walk.specs.Listed.{cell_centre_slots, cell_corner_slots, centre_slots_to, corner_slots_to}
use Rattle.mesh_walk.specs.Slots.{corner_slot}
use Rattle.mesh_walk.proofs.FaceLines.{centres_counted}
use Rattle.mesh_walk.proofs.parts.count_listed.Goals as goal

pub loop-k-init : goal.loop-k-init
unfolding centre_slots_to corner_slots_to
loop-k-init c = record { centres = refl; corners = refl; few_centres = omega arith; few_corners = omega arith }

pub loop-k-preserved : goal.loop-k-preserved
unfolding centre_slots_to corner_slots_to
loop-k-preserved c =
    let cells = c.args.cells.now in
    let k = c.loop-k.k in
    let low = c.loop-k-test.true in
    let n = c.of-case.result in
    let small : n < 656 = omega (arith, c.of-case.ensures, c.requires.cases k low) in
    let place : ℕ = get_or cells.places k 0 in
    let centres : centre_slots_to cells (k + 1) ≡ centre_slots_to cells k ++ cell_centre_slots cells k = flat_more (cell_centre_slots cells) k in
    let corners : corner_slots_to cells (k + 1) ≡ corner_slots_to cells k ++ cell_corner_slots cells k = flat_more (cell_corner_slots cells) k in
    let centre_count : length (row_centres n) ≡ length (row_centres (get_or cells.cases k 0)) = ap (λ n. length (row_centres n)) c.of-case.ensures in
    let corner_count : length (case_corners n) ≡ length (case_corners (get_or cells.cases k 0)) = ap (λ n. length (case_corners n)) c.of-case.ensures in
    let two : c.centre_count.result ≤ 2 = omega (arith, c.centre_count.ensures.value, centres_counted n, (row_at n small).centres) in
    record {
      centres = omega (arith, ap length centres, length-append (centre_slots_to cells k) (cell_centre_slots cells k), length-map-range_with_len (λ i. 3 * place + i) 0 (length (row_centres (get_or cells.cases k 0))), centre_count, c.centre_count.ensures.value, c.from-centres.ensures, c.loop-k.invariant.centres);
      corners = omega (arith, ap length corners, length-append (corner_slots_to cells k) (cell_corner_slots cells k), length-map (case_corners (get_or cells.cases k 0)) (λ c. corner_slot cells.y cells.z c + 3 * place), corner_count, c.corner_count.ensures.value, c.from-corners.ensures, c.loop-k.invariant.corners);
      few_centres = omega (arith, two, c.from-centres.ensures, c.loop-k.invariant.few_centres);
      few_corners = omega (arith, c.corner_count.ensures.few, c.from-corners.ensures, c.loop-k.invariant.few_corners);
    }
