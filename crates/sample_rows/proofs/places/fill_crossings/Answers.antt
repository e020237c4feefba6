use Rattle.std.proofs.Common.{◌∙◌, sym, ap}
use Rattle.row_bits.specs.Edges.{edges_among}
use Rattle.mesh_rows.proofs.FlagEdges.{edges_are, flags_small}
use Rattle.sample_rows.proofs.KeptParts.{no_edges}
use Rattle.sample_rows.proofs.RowPlaces.{none_here}
use Rattle.sample_rows.proofs.places.fill_crossings.Goals as goal

pub returns-then-are_all-clause-places : goal.returns-then-are_all-clause-places
returns-then-are_all-clause-places g c =
    sym (none_here c.args.field.now c.args.y c.args.z c.args.flags.now c.requires.count c.requires.flags (c.are_all.ensures c.if-are_all.true))

pub list_edges-count-requires-clause-flags : goal.list_edges-count-requires-clause-flags
list_edges-count-requires-clause-flags g c = flags_small c.args.field.now c.args.y c.args.z c.args.flags.now c.requires.count c.requires.flags

pub fill_front-requires-clause-edges : goal.fill_front-requires-clause-edges
fill_front-requires-clause-edges g c =
    edges_are c.args.field.now c.args.y c.args.z c.args.flags.now _ c.requires.flags (c.list_edges-count.ensures.put ∙ ap (edges_among c.args.flags.now 0) c.requires.count)

pub returns-then-are_all-clause-edges : goal.returns-then-are_all-clause-edges
returns-then-are_all-clause-edges g c =
    no_edges c.args.field.now c.args.y c.args.z (none_here c.args.field.now c.args.y c.args.z c.args.flags.now c.requires.count c.requires.flags (c.are_all.ensures c.if-are_all.true))

pub returns-clause-edges : goal.returns-clause-edges
returns-clause-edges g c =
    edges_are c.args.field.now c.args.y c.args.z c.args.flags.now _ c.requires.flags (c.list_edges-count.ensures.put ∙ ap (edges_among c.args.flags.now 0) c.requires.count)
