use Rattle.std.proofs.Common.{arith, subst, sym}
use Rattle.mesh_rows.specs.Rows.{AreEdges}
use Rattle.stitch.proofs.KnownLists.{edges_kept, edges_long, names_few}
use Rattle.stitch.proofs.row_memory.KnownRows.list_edges.Goals as goal

pub fill_front-requires : goal.fill_front-requires
fill_front-requires c =
    let key = c.edges_key-key in
    let are = edges_kept c.args.field.now c.args.self.now.recent c.args.y c.args.z key.result c.list.result.now c.requires.known.recent c.requires.y c.requires.z c.list.ensures key.ensures.value in
    omega (arith, edges_long c.args.field.now c.args.y c.args.z c.list.result.now are, names_few c.args.field.now c.args.y c.args.z, c.sizes.ensures.leveled.grid.x.most)

pub returns-then-has-clause-few : goal.returns-then-has-clause-few
returns-then-has-clause-few c =
    let key = c.edges_key-key in
    let are = edges_kept c.args.field.now c.args.self.now.recent c.args.y c.args.z key.result c.list.result.now c.requires.known.recent c.requires.y c.requires.z c.list.ensures key.ensures.value in
    omega (arith, edges_long c.args.field.now c.args.y c.args.z c.list.result.now are, names_few c.args.field.now c.args.y c.args.z, c.fill_front.ensures.count)

pub returns-then-has-clause-edges : goal.returns-then-has-clause-edges
returns-then-has-clause-edges c =
    let key = c.edges_key-key in
    let are = edges_kept c.args.field.now c.args.self.now.recent c.args.y c.args.z key.result c.list.result.now c.requires.known.recent c.requires.y c.requires.z c.list.ensures key.ensures.value in
    subst (AreEdges c.args.field.now c.args.y c.args.z) (sym c.fill_front.ensures.list) are
