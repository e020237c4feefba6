use Rattle.std.proofs.Common.{◌+◌, ◌-◌, ◌*◌, arith, take}
use Rattle.row_bits.proofs.EdgeLists.{put_none, put_on}
use Rattle.row_bits.proofs.edges.fill_eights.Goals as goal

pub loop-eight-init : goal.loop-eight-init
loop-eight-init c = record {
  put = put_none c.args.flags.now (8 * c.args.from) (8 * (c.args.from - c.args.from)) (take c.args.at c.args.edges.now) (omega arith);
  end = c.requires.at;
}

pub loop-eight-preserved : goal.loop-eight-preserved
loop-eight-preserved c =
    let n = c.loop-eight.eight in
    let from = c.args.from in
    record {
      put = put_on c.args.flags.now (8 * from) _ _ _ (8 * (n - from)) (8 * n) 8 (8 * (n + 1 - from)) (omega arith) (omega arith) c.loop-eight.invariant.put c.fill_eight-at.ensures.put;
      end = omega (arith, c.fill_eight-at.ensures.end);
    }
