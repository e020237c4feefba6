use Rattle.std.proofs.Common.{rules, ◌≡◌, ◌+◌, ◌-◌, ◌*◌, ◌%◌, ◌∙◌, ap, arith, get_or, length}
use Rattle.mesh_walk.proofs.FanSums.{lane_of, lanes_long, slot_is}
use Rattle.mesh_walk.proofs.places.CellPlaces.weigh_row.Goals as goal

pub returns-clause-eight : goal.returns-clause-eight
returns-clause-eight c =
    let long : length c.args.self.places.now ≡ 12314 = search rules in
    lanes_long _ c.args.self.places.now c.args.fan.now _ _ (8 * c.args.row) _ (omega arith) (omega arith) (omega (arith, long, c.requires.room)) (omega (arith, c.told-fan, c.requires.row))

pub returns-clause-lanes : goal.returns-clause-lanes
returns-clause-lanes c s low =
    let places = c.args.self.places.now in
    let fan = c.args.fan.now in
    let row = c.args.row in
    let from = get_or c.args.self.rows row 0 + c.args.self.at in
    let long : length places ≡ 12314 = search rules in
    lane_of _ places fan from (from + 8 - from) row (8 * row + 8 - 8 * row) s (omega arith) (omega arith) (omega (arith, long, c.requires.room)) (omega (arith, c.told-fan, c.requires.row)) low
    ∙ ap (λ i. get_or places i 0 * get_or fan (8 * row + s) 0 % 65536) (slot_is c.args.self.rows c.args.self.at row s low)
