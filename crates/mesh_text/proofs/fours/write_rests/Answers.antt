use Rattle.std.proofs.Common.{rules, ◌*◌, ◌≤◌, length, arith}
use Rattle.mesh_text.proofs.Tables.{table_more}
use Rattle.mesh_text.specs.Fours.{rest_text}
use Rattle.mesh_text.proofs.fours.write_rests.Goals as goal

pub loop-n-preserved : goal.loop-n-preserved
loop-n-preserved c =
    let room : 4 * c.loop-n.n ≤ length c.loop-n.room = search rules in
    let at = c.loop-n.invariant.0 in
    let written = rw (c.put_rest-at.ensures.end, at) at c.put_rest-at.ensures.written in
    (omega (arith, c.put_rest-at.ensures.end, at), table_more rest_text c.loop-n.room c.put_rest-at.new.room c.loop-n.n room written c.loop-n.invariant.1)
