use Rattle.std.proofs.Common.{◌+◌, ◌-◌, ◌*◌, ◌/◌, sym, length, arith}
use Rattle.row_bits.proofs.EdgeLists.{among_none, put_behind}
use Rattle.row_bits.proofs.edges.list_edges.Goals as goal

pub loop-block-init : goal.loop-block-init
loop-block-init c = record { put = sym (among_none c.args.flags.now 0); end = omega arith }

pub loop-block-preserved : goal.loop-block-preserved
loop-block-preserved c =
    let n = c.loop-block.block in
    record {
      put = put_behind c.args.flags.now _ _ (32 * n) (32 * n) 32 (32 * (n + 1)) (omega arith) (omega arith) c.loop-block.invariant.put c.fill_block-at.ensures.put;
      end = omega (arith, c.fill_block-at.ensures.end);
    }

pub returns-clause-put : goal.returns-clause-put
returns-clause-put c =
    let n = length c.args.flags.now in
    let blocks = put_behind c.args.flags.now _ _ (32 * c.loop-block.block) (8 * (4 * (n / 32))) (8 * (n / 8 - 4 * (n / 32))) (8 * (n / 8)) (omega (arith, c.loop-block-test.false, c.loop-block.auto.block-end)) (omega arith) c.loop-block.invariant.put c.fill_eights-at.ensures.put in
    put_behind c.args.flags.now _ _ (8 * (n / 8)) (8 * (n / 8)) (n - 8 * (n / 8)) n (omega arith) (omega arith) blocks c.fill_points.ensures.put
