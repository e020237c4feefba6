use Rattle.std.proofs.Common.{◌∙◌, ap, arith, length-set, map}
use Rattle.samples.specs.Signs.{sign_of}
use Rattle.brick_mesh.proofs.RowSigns.{row_paired, rows_more, signs_low}
use Rattle.brick_mesh.proofs.signs.rows_of_pairs.Goals as goal

pub pairs_at-requires-clause-signs : goal.pairs_at-requires-clause-signs
pairs_at-requires-clause-signs g c = signs_low _ _ _ (c.fill_signs.ensures c.level.result c.bound_at.ensures)

pub loop-row-preserved : goal.loop-row-preserved
loop-row-preserved g c =
    let samples = map g.T.Packed.value c.args.copies.now in
    record {
      long = length-set c.loop-row.rows c.loop-row.row c.pairs_at.result ∙ c.loop-row.invariant.long;
      signs = rows_more c.args.block.now c.loop-row.rows c.loop-row.row c.pairs_at.result (omega arith) c.loop-row.invariant.signs
          (row_paired c.args.block.now samples c.fill_signs.new.into c.loop-row.row c.pairs_at.result c.loop-row-test.true c.requires
          (c.fill_signs.ensures c.level.result c.bound_at.ensures ∙ ap (λ level. map (sign_of level) samples) c.level.ensures) c.pairs_at.ensures);
    }

pub returns : goal.returns
returns g c = λ row h. c.loop-row.invariant.signs row (omega arith)
