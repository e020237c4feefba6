use Rattle.std.proofs.Common.{◌∙◌, ◌+◌, ◌*◌, arith, length-set}
use Rattle.brick_mesh.proofs.RowSigns.{signs_low}
use Rattle.brick_mesh.proofs.SliceSigns.{bytes_more, slice_bytes, slice_paired}
use Rattle.brick_mesh.proofs.slices.fill_among.Goals as goal

pub pairs_at-requires-clause-signs : goal.pairs_at-requires-clause-signs
pairs_at-requires-clause-signs g c = signs_low _ _ _ (c.fill_signs.ensures c.level.result c.bound_at.ensures)

pub pairs_at-requires-in-loop-y-clause-signs : goal.pairs_at-requires-in-loop-y-clause-signs
pairs_at-requires-in-loop-y-clause-signs g c = signs_low _ _ _ (c.fill_signs.ensures c.level.result c.bound_at.ensures)

pub pairs_at-requires-in-loop-y-2-clause-signs : goal.pairs_at-requires-in-loop-y-2-clause-signs
pairs_at-requires-in-loop-y-2-clause-signs g c = signs_low _ _ _ (c.fill_signs.ensures c.level.result c.bound_at.ensures)

pub pairs_at-requires-in-loop-y-3-clause-signs : goal.pairs_at-requires-in-loop-y-3-clause-signs
pairs_at-requires-in-loop-y-3-clause-signs g c = signs_low _ _ _ (c.fill_signs.ensures c.level.result c.bound_at.ensures)

pub sign_bytes-requires-clause-near : goal.sign_bytes-requires-clause-near
sign_bytes-requires-clause-near g c =
    (slice_paired c.args.block.now g.T.Packed.value c.args.copies.now c.fill_signs.new.into (81 * c.from-start.result) _ c.args.z c.level.result
    c.requires.copies (omega arith) (omega arith) c.requires.z c.level.ensures (c.fill_signs.ensures c.level.result c.bound_at.ensures)
    (9 * c.loop-y.y) (c.loop-y.y) (c.args.z) _ (omega arith) (omega arith) (omega arith) (omega arith) c.pairs_at.ensures).bits

pub sign_bytes-requires-clause-up : goal.sign_bytes-requires-clause-up
sign_bytes-requires-clause-up g c =
    (slice_paired c.args.block.now g.T.Packed.value c.args.copies.now c.fill_signs.new.into (81 * c.from-start.result) _ c.args.z c.level.result
    c.requires.copies (omega arith) (omega arith) c.requires.z c.level.ensures (c.fill_signs.ensures c.level.result c.bound_at.ensures)
    (9 * c.loop-y.y + 9) (c.loop-y.y + 1) (c.args.z) _ (omega arith) (omega arith) (omega arith) (omega arith) c.pairs_at-in-loop-y.ensures).bits

pub sign_bytes-requires-clause-far : goal.sign_bytes-requires-clause-far
sign_bytes-requires-clause-far g c =
    (slice_paired c.args.block.now g.T.Packed.value c.args.copies.now c.fill_signs.new.into (81 * c.from-start.result) _ c.args.z c.level.result
    c.requires.copies (omega arith) (omega arith) c.requires.z c.level.ensures (c.fill_signs.ensures c.level.result c.bound_at.ensures)
    (9 * c.loop-y.y + 81) (c.loop-y.y) (c.args.z + 1) _ (omega arith) (omega arith) (omega arith) (omega arith) c.pairs_at-in-loop-y-2.ensures).bits

pub sign_bytes-requires-clause-both : goal.sign_bytes-requires-clause-both
sign_bytes-requires-clause-both g c =
    (slice_paired c.args.block.now g.T.Packed.value c.args.copies.now c.fill_signs.new.into (81 * c.from-start.result) _ c.args.z c.level.result
    c.requires.copies (omega arith) (omega arith) c.requires.z c.level.ensures (c.fill_signs.ensures c.level.result c.bound_at.ensures)
    (9 * c.loop-y.y + 90) (c.loop-y.y + 1) (c.args.z + 1) _ (omega arith) (omega arith) (omega arith) (omega arith) c.pairs_at-in-loop-y-3.ensures).bits

pub loop-y-preserved : goal.loop-y-preserved
loop-y-preserved g c =
    let b = c.args.block.now in
    record {
      long = length-set c.loop-y.rows c.loop-y.y c.sign_bytes.result ∙ c.loop-y.invariant.long;
      bytes = bytes_more c.args.block.now c.args.z c.loop-y.rows c.loop-y.y c.sign_bytes.result (omega (arith, c.loop-y.invariant.long)) c.loop-y.invariant.bytes
          (slice_bytes c.args.block.now g.T.Packed.value c.args.copies.now c.fill_signs.new.into (81 * c.from-start.result) _ c.args.z c.level.result
          c.requires.copies (omega arith) (omega arith) c.requires.z c.level.ensures (c.fill_signs.ensures c.level.result c.bound_at.ensures)
          c.loop-y.y _ _ _ _ _ (omega arith)
          (slice_paired c.args.block.now g.T.Packed.value c.args.copies.now c.fill_signs.new.into (81 * c.from-start.result) _ c.args.z c.level.result
          c.requires.copies (omega arith) (omega arith) c.requires.z c.level.ensures (c.fill_signs.ensures c.level.result c.bound_at.ensures)
          (9 * c.loop-y.y) (c.loop-y.y) (c.args.z) _ (omega arith) (omega arith) (omega arith) (omega arith) c.pairs_at.ensures)
          (slice_paired c.args.block.now g.T.Packed.value c.args.copies.now c.fill_signs.new.into (81 * c.from-start.result) _ c.args.z c.level.result
          c.requires.copies (omega arith) (omega arith) c.requires.z c.level.ensures (c.fill_signs.ensures c.level.result c.bound_at.ensures)
          (9 * c.loop-y.y + 9) (c.loop-y.y + 1) (c.args.z) _ (omega arith) (omega arith) (omega arith) (omega arith) c.pairs_at-in-loop-y.ensures)
          (slice_paired c.args.block.now g.T.Packed.value c.args.copies.now c.fill_signs.new.into (81 * c.from-start.result) _ c.args.z c.level.result
          c.requires.copies (omega arith) (omega arith) c.requires.z c.level.ensures (c.fill_signs.ensures c.level.result c.bound_at.ensures)
          (9 * c.loop-y.y + 81) (c.loop-y.y) (c.args.z + 1) _ (omega arith) (omega arith) (omega arith) (omega arith) c.pairs_at-in-loop-y-2.ensures)
          (slice_paired c.args.block.now g.T.Packed.value c.args.copies.now c.fill_signs.new.into (81 * c.from-start.result) _ c.args.z c.level.result
          c.requires.copies (omega arith) (omega arith) c.requires.z c.level.ensures (c.fill_signs.ensures c.level.result c.bound_at.ensures)
          (9 * c.loop-y.y + 90) (c.loop-y.y + 1) (c.args.z + 1) _ (omega arith) (omega arith) (omega arith) (omega arith) c.pairs_at-in-loop-y-3.ensures)
          c.sign_bytes.ensures);
    }

pub returns : goal.returns
returns g c = λ k low. c.loop-y.invariant.bytes k (omega arith)
