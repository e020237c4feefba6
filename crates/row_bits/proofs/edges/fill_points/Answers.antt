use Rattle.std.proofs.Common.{◌-◌, take, arith}
use Rattle.row_bits.proofs.EdgeLists.{put_none, put_one}
use Rattle.row_bits.proofs.edges.fill_points.Goals as goal

pub loop-x-init : goal.loop-x-init
loop-x-init c = record { put = put_none c.args.flags.now c.args.from (c.args.from - c.args.from) (take c.args.at c.args.edges.now) (omega arith); end = c.requires.at }

pub loop-x-preserved : goal.loop-x-preserved
loop-x-preserved c = record {
  put = put_one c.args.flags.now c.args.from c.loop-x.x (take c.args.at c.args.edges.now) _ _ (omega arith) c.loop-x.invariant.put c.fill_point-at.ensures.put;
  end = omega (arith, c.loop-x.invariant.end, c.fill_point-at.ensures.end);
}
