use Rattle.std.proofs.Common.{◌∙◌, ◌+◌, ◌*◌, ◌<◌, ◌≤◌, ◌≡◌, ◌++◌, ap, arith, get_or, length, map, refl, subst, sym, take, drop, ℕ}
use Rattle.std.proofs.lemmas.List.{length-append, length-map}
use Rattle.case_faces.specs.Faces.{case_corners}
use Rattle.case_faces.proofs.Corners.{corners_upto, flat_more}
use Rattle.case_faces.proofs.Tables.{all_count}
use Rattle.mesh_walk.specs.Listed.{cell_corner_slots, corner_slots_to}
use Rattle.mesh_walk.specs.Slots.{corner_slot}
use Rattle.mesh_walk.proofs.CornerLanes.{corners_put, lane_sum}
use Rattle.mesh_walk.proofs.corners.list_corners.Goals as goal

pub loop-k-init : goal.loop-k-init
unfolding corner_slots_to
loop-k-init c = record { put = refl; count = refl; long = c.told-list; few = omega arith }

pub fill_corners-requires-clause-from : goal.fill_corners-requires-clause-from
fill_corners-requires-clause-from c =
    let n = c.of-case.result in
    let small : n < 656 = omega (arith, c.of-case.ensures, c.requires.cells.cases c.loop-k.k c.loop-k-test.true) in
    omega (arith, c.from-from.ensures, c.corners_before.ensures.value, corners_upto n small, all_count)

pub loop-k-preserved : goal.loop-k-preserved
unfolding corner_slots_to
loop-k-preserved c =
    let cells = c.args.cells.now in
    let k = c.loop-k.k in
    let low = c.loop-k-test.true in
    let n = c.of-case.result in
    let small : n < 656 = omega (arith, c.of-case.ensures, c.requires.cells.cases k low) in
    let more : corner_slots_to cells (k + 1) ≡ corner_slots_to cells k ++ cell_corner_slots cells k = flat_more (cell_corner_slots cells) k in
    let count : c.from-at.result ≡ length (case_corners n) = omega (arith, c.from-at.ensures, c.corner_count.ensures.value) in
    let far : ℕ = 3 * get_or cells.places k 0 in
    let slot : ℕ → ℕ = λ m. corner_slot cells.y cells.z m + far in
    let row : cell_corner_slots cells k ≡ map slot (case_corners n)
    = ap (λ n. map slot (case_corners n)) (sym c.of-case.ensures) in
    let few : length (case_corners n) ≤ 36 = omega (arith, c.corner_count.ensures.value, c.corner_count.ensures.few) in
    record {
      put = ap (λ m. take (c.loop-k.at + m) c.fill_corners.new.list) count
          ∙ (corners_put cells.y cells.z n c.args.table.now c.requires.table small c.loop-k.list c.fill_corners.new.list c.loop-k.at far
          (omega (arith, c.loop-k.invariant.few, c.loop-k.invariant.long, c.requires.cells.few, low)) (omega (arith, c.requires.cells.places k low)) few
          (subst (λ from. take (c.loop-k.at + 40) c.fill_corners.new.list ≡ take c.loop-k.at c.loop-k.list ++ map (λ s. lane_sum s far) (take 40 (drop from c.args.table.now))) (c.from-from.ensures ∙ c.corners_before.ensures.value) c.fill_corners.ensures)
          ∙ (ap (λ l. l ++ map slot (case_corners n)) c.loop-k.invariant.put ∙ (ap (λ l. corner_slots_to cells k ++ l) (sym row) ∙ sym more)));
      count = omega (
        arith,
        ap length more,
        length-append (corner_slots_to cells k) (cell_corner_slots cells k),
        ap length row,
        length-map (case_corners n) slot,
        count,
        c.loop-k.invariant.count,
      );
      long = c.fill_corners.array_long;
      few = omega (arith, c.loop-k.invariant.few, count, few);
    }
