use Rattle.std.proofs.Common.{arith, rules}
use Rattle.mesh_text.proofs.Counting.{front_made}
use Rattle.mesh_text.proofs.counter.set_front.Goals as goal

pub returns : goal.returns
returns c =
    front_made _ c.put_number-count.result c.put_number-count.new.room (search rules) c.requires (omega (arith, c.put_number-count.ensures.end)) c.put_number-count.ensures.written
