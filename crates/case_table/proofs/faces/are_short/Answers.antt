use Rattle.std.proofs.Common.{rules}
use Rattle.case_table.proofs.Short.{short_more}
use Rattle.case_table.proofs.faces.are_short.Goals as goal

pub loop-i-preserved : goal.loop-i-preserved
loop-i-preserved c = record {
  short = short_more c.args.values.now c.loop-i.i c.loop-i.size c.unsigned_abs-size.result (search rules) c.requires c.unsigned_abs-size.ensures.value c.loop-i.invariant.short;
}
