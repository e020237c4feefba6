use Rattle.std.proofs.Common.{◌<◌, ◌∙◌, arith}
use Rattle.mesh_walk.specs.Places.{slot_place}
use Rattle.mesh_walk.proofs.FanSums.{all_low, few_of, mean_of}
use Rattle.mesh_walk.proofs.places.CellPlaces.centre.Goals as goal

pub returns : goal.returns
returns c place edges is are =
    let at = slot_place c.args.self.places.now c.args.self.rows c.args.self.at in
    let fan = c.args.fan.now in
    let first : 0 < 3 = omega arith in
    let second : 1 < 3 = omega arith in
    let third : 2 < 3 = omega arith in
    let count = c.from-count.ensures in
    let x = c.from.ensures ∙ c.sums-sums.ensures 0 first in
    let y = c.from-2.ensures ∙ c.sums-sums.ensures 1 second in
    let z = c.from-3.ensures ∙ c.sums-sums.ensures 2 third in
    record {
      x = mean_of at place edges fan is are 0 first _ _ _ x count c.rounded_mean.ensures.value;
      y = mean_of at place edges fan is are 1 second _ _ _ y count c.rounded_mean-2.ensures.value;
      z = mean_of at place edges fan is are 2 third _ _ _ z count c.rounded_mean-3.ensures.value;
      few = all_low c.rounded_mean.result c.rounded_mean-2.result c.rounded_mean-3.result
          (c.rounded_mean.ensures.bound 1000 (few_of at place edges fan is are 0 first _ _ x count))
          (c.rounded_mean-2.ensures.bound 1000 (few_of at place edges fan is are 1 second _ _ y count))
          (c.rounded_mean-3.ensures.bound 1000 (few_of at place edges fan is are 2 third _ _ z count));
    }
