use Rattle.std.proofs.Common.{◌≡◌, arith, subst, sym, take}
use Rattle.mesh_rows.specs.Rows.{AreEdges}
use Rattle.stitch.proofs.KnownLists.{edges_long, known_edges, names_few}
use Rattle.stitch.proofs.row_memory.KnownRows.keep_edges.Goals as goal

pub shared_ref_as_front-put : goal.shared_ref_as_front-put
shared_ref_as_front-put c = omega (arith, c.list_anew-count.ensures.few, c.sizes.ensures.leveled.grid.x.most)

pub put-requires-clause-few : goal.put-requires-clause-few
put-requires-clause-few c =
    let count = edges_long c.args.field.now c.args.y c.args.z _ c.list_anew-count.ensures.edges in
    omega (arith, count, names_few c.args.field.now c.args.y c.args.z, c.sizes.ensures.leveled.grid.x.most)

pub returns-clause-known : goal.returns-clause-known
returns-clause-known c =
    let same : c.deref.result.now ≡ c.list_anew-count.new.self.list.value = cc in
    let edges = subst (λ l. AreEdges c.args.field.now c.args.y c.args.z (take c.list_anew-count.result l)) (sym same) c.list_anew-count.ensures.edges in
    record {
      even = c.list_anew-count.ensures.known.even;
      odd = c.list_anew-count.ensures.known.odd;
      recent = known_edges c.args.field.now c.list_anew-count.new.self.recent c.put.new.self c.args.y c.args.z c.args.key _ c.requires.y c.requires.key
          c.list_anew-count.ensures.known.recent c.put.ensures.within c.put.ensures.each edges;
    }
