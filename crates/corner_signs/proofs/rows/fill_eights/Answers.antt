use Rattle.std.proofs.Common.{◌∙◌, ◌*◌, ap, arith, ℕ, ℤ, map, of_z, to_z, w64}
use Rattle.std.specs.Simd.Lanes.{put_chunk}
use Rattle.corner_signs.specs.Rows.{bit_from}
use Rattle.corner_signs.proofs.Lanes.{eight_more}
use Rattle.corner_signs.proofs.rows.fill_eights.Goals as goal

pub loop-i-preserved : goal.loop-i-preserved
loop-i-preserved c =
    let bits : ℤ → ℕ = bit_from (to_z w64 (of_z w64 c.args.least)) in
    eight_more bits c.args.samples.now c.loop-i.out c.fill_eight.new.out c.loop-i.i (omega arith) (omega arith)
    (c.fill_eight.ensures ∙ ap (λ part. put_chunk (8 * c.loop-i.i) c.loop-i.out (map bits part)) c.eight_at.ensures.value)
    c.loop-i.invariant
