use Rattle.std.proofs.Common.{◌+◌, ◌%◌, ◌*◌, ◌∙◌, ap, ap₂, get_or, zero-add}
use Rattle.mesh_walk.specs.Places.{slot_place}
use Rattle.mesh_walk.proofs.FanSums.{four_lanes, sum_lane, sums_long}
use Rattle.mesh_walk.proofs.places.CellPlaces.sum_rows.Goals as goal

pub returns-clause-eight : goal.returns-clause-eight
returns-clause-eight c =
    sums_long _ _
    (sums_long c.weigh_row.result c.weigh_row-2.result c.weigh_row.ensures.eight c.weigh_row-2.ensures.eight)
    (sums_long c.weigh_row-3.result c.weigh_row-4.result c.weigh_row-3.ensures.eight c.weigh_row-4.ensures.eight)

pub returns-clause-lanes : goal.returns-clause-lanes
returns-clause-lanes c s low =
    let a = c.weigh_row.result in
    let b = c.weigh_row-2.result in
    let d = c.weigh_row-3.result in
    let e = c.weigh_row-4.result in
    sum_lane _ _ s (sums_long a b c.weigh_row.ensures.eight c.weigh_row-2.ensures.eight) (sums_long d e c.weigh_row-3.ensures.eight c.weigh_row-4.ensures.eight) low
    ∙ (ap₂ (λ m n. (m + n) % 65536) (sum_lane a b s c.weigh_row.ensures.eight c.weigh_row-2.ensures.eight low) (sum_lane d e s c.weigh_row-3.ensures.eight c.weigh_row-4.ensures.eight low)
    ∙ four_lanes _ _ _ _ _ _ _ _ (c.weigh_row.ensures.lanes s low ∙ ap (λ i. slot_place c.args.self.places.now c.args.self.rows c.args.self.at i * get_or c.args.fan.now i 0 % 65536) (zero-add s)) (c.weigh_row-2.ensures.lanes s low) (c.weigh_row-3.ensures.lanes s low) (c.weigh_row-4.ensures.lanes s low))
