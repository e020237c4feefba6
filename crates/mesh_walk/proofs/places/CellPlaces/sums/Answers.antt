use Rattle.mesh_walk.specs.Places.{slot_place}
use Rattle.mesh_walk.proofs.FanSums.{axis_lane}
use Rattle.mesh_walk.proofs.places.CellPlaces.sums.Goals as goal

pub returns : goal.returns
returns c =
    axis_lane (slot_place c.args.self.places.now c.args.self.rows c.args.self.at) c.args.fan.now c.sum_rows-sums.result c.told-fan c.sum_rows-sums.ensures.eight c.sum_rows-sums.ensures.lanes
