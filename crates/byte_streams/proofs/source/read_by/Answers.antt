use Rattle.std.proofs.Common.{◌≡◌, ◌≤◌, ap, length, arith}
use Rattle.std.proofs.lemmas.List.{length-append}
use Rattle.byte_streams.proofs.Taking.{all_within, reads_all, stopped_within}
use Rattle.byte_streams.proofs.source.read_by.Goals as goal

pub returns-in_err-read_piece-clause-reading : goal.returns-in_err-read_piece-clause-reading
returns-in_err-read_piece-clause-reading g c =
    stopped_within _ _ _ _ _ _ c.loop-source.invariant.taken (omega (arith, c.len.ensures, c.loop-source-test.true)) (omega (arith, c.requires.few, c.loop-source.auto.chunk)) c.in_err-read_piece.ensures.stopped

pub returns-then-branch-eq0-clause-reading : goal.returns-then-branch-eq0-clause-reading
returns-then-branch-eq0-clause-reading g c =
    let p = c.in_ok-read_piece.ensures.piece in
    let none : c.in_ok-read_piece.field-0 ≡ 0 = c.if-branch-eq0.true in
    let few : length c.read_piece.new.bytes.items ≤ c.args.limit = omega (arith, p.count, none, simp length-append at (ap length p.parts), c.len.ensures, c.loop-source-test.true) in
    all_within _ _ _ _ (reads_all _ _ _ _ _ _ c.loop-source.invariant.taken p none) few
