use Rattle.std.proofs.Common.{◌*◌, arith, map, rules}
use Rattle.span_tree.specs.Spans.{row_of}
use Rattle.span_tree.proofs.Copied.{slice_samples, one_more}
use Rattle.span_tree.proofs.bricks.gather_eights.Goals as goal

pub loop-y-preserved : goal.loop-y-preserved
loop-y-preserved g c =
    one_more g.T.Packed.value (row_of c.args.store.now c.args.brick.0 c.args.z) c.loop-y.y (8 * c.from-start.result) 8 c.loop-y.into c.row_of.result.now _
    (omega (arith, c.from-start.ensures)) (search rules) (omega (arith, c.loop-y.auto.into)) (search rules) c.loop-y.invariant c.row_of.ensures.value

pub returns-clause-range : goal.returns-clause-range
returns-clause-range g c =
    slice_samples c.args.store.now c.args.brick.0 (map g.T.Packed.value c.args.copies.now) c.sizes.ensures.volume c.requires.brick c.requires.copies c.args.z c.requires.z
