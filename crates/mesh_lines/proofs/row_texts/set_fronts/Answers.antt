use Rattle.std.proofs.Common.{arith, ◌∙◌}
use Rattle.std.proofs.lemmas.List.{length-set}
use Rattle.mesh_lines.proofs.RowLines.{fronts_more}
use Rattle.mesh_lines.proofs.row_texts.set_fronts.Goals as goal

pub loop-x-preserved : goal.loop-x-preserved
loop-x-preserved c = (
  length-set c.loop-x.fronts c.loop-x.x c.front_of.result ∙ c.loop-x.invariant.0,
  fronts_more c.args.style c.loop-x.fronts c.loop-x.x c.front_of.result (omega (arith, c.loop-x.invariant.0, c.loop-x-test.true, c.requires)) c.loop-x.invariant.1
      (record { has = c.front_of.ensures.text; few = omega (arith, c.front_of.ensures.few) }),
)
