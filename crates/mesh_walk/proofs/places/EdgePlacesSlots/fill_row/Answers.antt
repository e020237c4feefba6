use Rattle.mesh_walk.specs.Places.{due_to, in_slot}
use Rattle.mesh_walk.proofs.RowSlots.{none_due}
use Rattle.mesh_walk.proofs.places.EdgePlacesSlots.fill_row.Goals as goal

pub returns-then-not-has_edges-clause-laid : goal.returns-then-not-has_edges-clause-laid
returns-then-not-has_edges-clause-laid g c =
    let v = g.R.Heights.leveled c.args.rows.now in
    none_due v c.args.y c.args.z (in_slot c.args.self.now.places) (due_to v) (c.has_edges.ensures c.if-not-has_edges.true)
