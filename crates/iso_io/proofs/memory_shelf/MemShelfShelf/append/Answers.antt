use Rattle.std.proofs.Common.{rules}
use Rattle.iso_io.proofs.Cutting.{front_is_cut}
use Rattle.iso_io.proofs.memory_shelf.MemShelfShelf.append.Goals as goal

pub returns-then-contains-clause-grows : goal.returns-then-contains-clause-grows
returns-then-contains-clause-grows c =
    record {
      changed = front_is_cut c.args.self.now.places c.args.name.now c.args.bytes.now c.args.self.now.cut c.append_front.new.self (search rules);
      cause = search rules;
    }
