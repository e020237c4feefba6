use Rattle.std.proofs.Common.{arith}
use Rattle.mesh_text.proofs.Counting.{line_ended}
use Rattle.mesh_text.proofs.number.put_line.Goals as goal

pub returns-clause-written : goal.returns-clause-written
returns-clause-written c =
    line_ended c.args.room.now c.put-at.new.room c.put-at-2.new.room c.put-at-3.new.room _ _ _ _ c.args.at c.put-at.result c.put-at-2.result c.put-at-3.result _
    (omega (arith, c.requires.first.few, c.requires.second.few, c.put-at.ensures.end, c.put-at-2.ensures.end, c.requires.space)) c.put-at-3.ensures.end c.requires.third.some c.put_byte.ensures.end
    c.put-at.ensures.written c.put-at-2.ensures.written c.put-at-3.ensures.written c.put_byte.ensures.written
