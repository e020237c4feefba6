use Rattle.std.proofs.Common.{◌-◌, get_or, refl, arith, sym, ◌∙◌}
use Rattle.text_lines.proofs.WordLaws.{cut_step, cut_end, cut_none}
use Rattle.text_lines.proofs.words.cut.Goals.{then-loop-end-test+else-is_blank_byte, else-loop-end-test}
use Rattle.text_lines.proofs.words.cut.Goals as goal

pub loop-end-preserved : goal.loop-end-preserved
loop-end-preserved c =
    let text = c.args.text.now in
    record {
      within = omega (arith, c.loop-end.invariant.within);
      so_far = cut_step text c.loop-end.end (get_or text (c.loop-end.end - 1) 0) (omega arith) c.loop-end.invariant.within refl (sym c.is_blank_byte.ensures ∙ c.if-is_blank_byte.true) c.loop-end.invariant.so_far;
    }

pub returns : goal.returns
returns c =
    let text = c.args.text.now in
    elim c.loop-end-test.branch [
      | then-loop-end-test+else-is_blank_byte w ↦ cut_end text c.loop-end.end (get_or text (c.loop-end.end - 1) 0) (omega (arith, w.loop-end-test.true)) c.loop-end.invariant.within refl (sym w.is_blank_byte.ensures ∙ w.if-is_blank_byte.false) c.loop-end.invariant.so_far
      | else-loop-end-test w ↦ cut_none text c.loop-end.end (omega (arith, w.loop-end-test.false)) c.loop-end.invariant.so_far
    ]
