use Rattle.std.proofs.Common.{◌≡◌, subst, sym, take}
use Rattle.mesh_rows.specs.Rows.{AreEdges}
use Rattle.stitch.proofs.KnownLists.{edges_kept, edges_long}
use Rattle.stitch.proofs.row_memory.KnownRows.count_edges.Goals as goal

pub returns-then-has-clause-count : goal.returns-then-has-clause-count
returns-then-has-clause-count c =
    let key = c.edges_key-key in
    edges_long c.args.field.now c.args.y c.args.z c.list.result.now
    (edges_kept c.args.field.now c.args.self.now.recent c.args.y c.args.z key.result c.list.result.now c.requires.known.recent c.requires.y c.requires.z c.list.ensures key.ensures.value)

pub returns-clause-count : goal.returns-clause-count
returns-clause-count c =
    let same : c.deref.result.now ≡ c.keep_edges-count.new.self.list.value = cc in
    edges_long c.args.field.now c.args.y c.args.z _
    (subst (λ l. AreEdges c.args.field.now c.args.y c.args.z (take c.keep_edges-count.result l)) (sym same) c.keep_edges-count.ensures.edges)
