use Rattle.std.proofs.Common.{◌∙◌, ◌+◌, ◌*◌, ◌<◌, ◌≤◌, ◌≡◌, ◌++◌, ap, arith, get_or, length, map, refl, set, sym, ℕ}
use Rattle.std.proofs.lemmas.List.{length-append, length-set}
use Rattle.std.proofs.lemmas.List.FromFn.{length-map-range_with_len}
use Rattle.iso_defs.specs.Lists.{below}
use Rattle.cell_loops.specs.Loops.{row_centres}
use Rattle.case_faces.proofs.Corners.{flat_more}
use Rattle.case_faces.proofs.Tables.{row_at}
use Rattle.mesh_walk.specs.Listed.{cell_centre_slots, centre_slots_to}
use Rattle.mesh_walk.proofs.CornerLanes.{two_put}
use Rattle.mesh_walk.proofs.FaceLines.{centres_counted}
use Rattle.mesh_walk.proofs.corners.list_centres.Goals as goal

pub loop-k-init : goal.loop-k-init
unfolding centre_slots_to
loop-k-init c = record { put = refl; count = refl; long = c.told-list; few = omega arith }

pub loop-k-preserved : goal.loop-k-preserved
unfolding centre_slots_to
loop-k-preserved c =
    let cells = c.args.cells.now in
    let k = c.loop-k.k in
    let low = c.loop-k-test.true in
    let n = c.of.result in
    let small : n < 656 = omega (arith, c.of.ensures, c.requires.cases k low) in
    let count : c.from-at.result ≡ length (row_centres (get_or cells.cases k 0))
    = c.from-at.ensures ∙ (c.centre_count.ensures.value ∙ ap (λ n. length (row_centres n)) c.of.ensures) in
    let few : c.from-at.result ≤ 2 = omega (arith, c.from-at.ensures, c.centre_count.ensures.value, centres_counted n, (row_at n small).centres) in
    let first : ℕ = 3 * get_or cells.places k 0 in
    let more : centre_slots_to cells (k + 1) ≡ centre_slots_to cells k ++ cell_centre_slots cells k = flat_more (cell_centre_slots cells) k in
    record {
      put = two_put c.loop-k.list c.loop-k.at first c.from-at.result (omega (arith, c.loop-k.invariant.few, c.loop-k.invariant.long, c.requires.few, low)) few
          ∙ (ap (λ l. l ++ map (λ i. first + i) (below c.from-at.result)) c.loop-k.invariant.put
          ∙ (ap (λ m. centre_slots_to cells k ++ map (λ i. first + i) (below m)) count ∙ sym more));
      count = omega (arith, ap length more, length-append (centre_slots_to cells k) (cell_centre_slots cells k), length-map-range_with_len (λ i. first + i) 0 (length (row_centres (get_or cells.cases k 0))), count, c.loop-k.invariant.count);
      long = length-set (set c.loop-k.list c.loop-k.at first) (c.loop-k.at + 1) (first + 1) ∙ (length-set c.loop-k.list c.loop-k.at first ∙ c.loop-k.invariant.long);
      few = omega (arith, c.loop-k.invariant.few, few);
    }
