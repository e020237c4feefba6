use Rattle.mesh_read.proofs.Names.{more_names}
use Rattle.mesh_read.proofs.elements.Elements.add.Goals as goal

pub invariant_of-self-2 : goal.invariant_of-self-2
invariant_of-self-2 c = more_names (record { name = c.args.name; count = c.args.count }) c.self.inside.names c.insert.new.self c.self.inside.list.items c.reserve.new.self.items c.push.new.self.items c.in_ok-insert.ensures.updates c.self.invariant c.reserve.ensures.items c.in_ok-push.ensures.items
