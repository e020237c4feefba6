use Rattle.std.proofs.Common.{◌≡◌, ◌+◌, get_or, length, set, arith, ap, ◌∙◌, length-set}
use Rattle.std.proofs.lemmas.List.{get_or-set_other}
use Rattle.mesh_walk.specs.Slots.{row_slot}
use Rattle.mesh_walk.proofs.PlaceSlots.{laid_all, laid_more, place_count}
use Rattle.mesh_walk.proofs.RowSlots.{edge_is}
use Rattle.mesh_walk.proofs.places.fill_slots.Goals as goal

pub bounds-row-k : goal.bounds-row-k
bounds-row-k g c =
    let v = g.H.Heights.leveled c.args.field.now in
    omega (arith, c.loop-k-test.true, ap length c.requires.row, place_count v c.args.y c.args.z c.args.edges.now c.requires.edges)

pub bounds-places-first : goal.bounds-places-first
bounds-places-first g c =
    let v = g.H.Heights.leveled c.args.field.now in
    let edge = edge_is v c.args.y c.args.z c.args.edges.now c.requires.edges c.loop-k.k c.loop-k-test.true in
    omega (arith, edge.low, c.row_slot-first.ensures.bound, c.sizes.ensures.leveled.grid.x.most)

pub loop-k-preserved : goal.loop-k-preserved
loop-k-preserved g c =
    let v = g.H.Heights.leveled c.args.field.now in
    let y = c.args.y in
    let z = c.args.z in
    let edges = c.args.edges.now in
    let places = c.loop-k.places in
    let k = c.loop-k.k in
    let first = c.row_slot-first.result in
    let at : first ≡ row_slot y z = c.row_slot-first.ensures.value in
    let edge = edge_is v y z edges c.requires.edges k c.loop-k-test.true in
    let most = c.sizes.ensures.leveled.grid.x.most in
    let still = c.loop-k.invariant in
    let same : set places (first + get_or edges k 0) (get_or c.args.row.now k 0) ≡ set places (row_slot y z + get_or edges k 0) (get_or c.args.row.now k 0)
    = ap (λ i. set places (i + get_or edges k 0) (get_or c.args.row.now k 0)) at in
    record {
      long = length-set places (first + get_or edges k 0) (get_or c.args.row.now k 0) ∙ still.long;
      laid = λ j below. ap (λ l. get_or l (row_slot y z + get_or edges j 0) 0) same
          ∙ laid_more v y z edges c.requires.edges c.args.row.now places (row_slot y z) k c.requires.row c.loop-k-test.true (omega (arith, at, edge.low, c.row_slot-first.ensures.bound, most, still.long)) still.laid j below;
      before = λ i low. get_or-set_other places (first + get_or edges k 0) i (get_or c.args.row.now k 0) 0 (λ e. absurd (omega (arith, e, at, low))) ∙ still.before i low;
      behind = λ i high. get_or-set_other places (first + get_or edges k 0) i (get_or c.args.row.now k 0) 0 (λ e. absurd (omega (arith, e, at, high, edge.low, most))) ∙ still.behind i high;
    }

pub returns-clause-laid : goal.returns-clause-laid
returns-clause-laid g c =
    let v = g.H.Heights.leveled c.args.field.now in
    laid_all v c.args.y c.args.z c.args.edges.now c.requires.edges c.loop-k.places c.loop-k.k (omega (arith, c.loop-k-test.false)) c.loop-k.invariant.laid
