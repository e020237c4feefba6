use Rattle.std.proofs.Common.{◌<◌, ◌+◌, length, arith, ap, ◌∙◌}
use Rattle.std.proofs.lemmas.List.{take_rest, length-take-le}
use Rattle.mesh_read.proofs.PlainLaws.{digit_more, number_here}
use Rattle.mesh_read.proofs.plain.number_before.Goals as goal

pub returns-then-i-gt0 : goal.returns-then-i-gt0
returns-then-i-gt0 c =
    let cases = c.in_ok-front.ensures.cases in
    number_here c.args.bytes.now c.in_ok-front.front.now c.args.mark c.loop-i.value c.loop-i.i _ cases.enough cases.same c.loop-i-test.true c.if-i-gt0.true c.if-b-mark.true c.loop-i.invariant (take_rest c.args.bytes.now (c.loop-i.i + 1))

pub loop-i-preserved : goal.loop-i-preserved
loop-i-preserved c =
    let cases = c.in_ok-front.ensures.cases in
    let long : c.loop-i.i < length c.in_ok-front.front.now = omega (arith, ap length cases.same ∙ length-take-le 11 c.args.bytes.now cases.enough) in
    digit_more c.in_ok-front.front.now c.loop-i.i c.loop-i.value _ long (omega arith) (omega arith) (omega (arith, c.from.ensures)) c.loop-i.invariant
