use Rattle.std.proofs.Common.{arith, get_or}
use Rattle.mesh_text.proofs.Chain.{array_front}
use Rattle.mesh_text.proofs.number.Number.put.Goals as goal

pub returns-clause-written : goal.returns-clause-written
returns-clause-written c =
    array_front c.args.room.now c.put_array.new.room c.args.self.now.bytes c.args.at (get_or c.args.self.now.bytes 15 0) c.requires.space (omega arith) c.put_array.ensures c.requires.short.few
