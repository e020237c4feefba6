use Rattle.std.proofs.Common.{◌+◌, ◌∙◌, ◌++◌, ap, sym, arith, drop, get_or, take}
use Rattle.std.specs.List.{flat_map}
use Rattle.std.proofs.lemmas.Result.{err_from_is_err_and}
use Rattle.mesh_rows.specs.Rows.{row_names}
use Rattle.mesh_walk.specs.Spans.{edge_line}
use Rattle.mesh_walk.proofs.Adding.{adds_as, adds_both, adds_front, adds_none}
use Rattle.mesh_walk.proofs.RowNames.{count_is, edge_at, lines_all, lines_cut, lines_next, row_text}
use Rattle.mesh_walk.proofs.edges.RowEdges.write.Goals as goal

pub loop-k-init : goal.loop-k-init
loop-k-init g c = record { adds = adds_none _ c.args.block.now tt; bytes = omega arith }

pub returns-in_err-write_edge-clause-adds : goal.returns-in_err-write_edge-clause-adds
returns-in_err-write_edge-clause-adds g c =
    let v = g.H.Heights.leveled c.args.field.now in
    let row = c.args.self.now in
    let f = edge_line row.texts.style v in
    let ns = row_names v row.texts.y row.texts.z in
    let k = c.loop-k.k in
    let p = err_from_is_err_and c.from_residual.result c.from_residual.ensures.1 in
    let at = edge_at v row c.requires.edges k c.loop-k-test.true in
    let whole = sym (row_text v row.texts.style row.texts.y row.texts.z) ∙ lines_cut f ns k at.low in
    let one = adds_as _ _ _ _ _ _ _ (ap f (sym at.name_is)) c.in_err-write_edge.ensures.adds in
    rw p.1 (adds_front _ _ _ _ _ _ _ (flat_map f (take k ns) ++ f (get_or ns k 0)) (flat_map f (drop (k + 1) ns)) _ whole
    (adds_both _ _ _ _ _ _ _ _ (flat_map f (take k ns)) (f (get_or ns k 0)) c.loop-k.invariant.adds one))

pub loop-k-preserved : goal.loop-k-preserved
loop-k-preserved g c =
    let v = g.H.Heights.leveled c.args.field.now in
    let row = c.args.self.now in
    let f = edge_line row.texts.style v in
    let ns = row_names v row.texts.y row.texts.z in
    let k = c.loop-k.k in
    let at = edge_at v row c.requires.edges k c.loop-k-test.true in
    let one = adds_as _ _ _ _ _ _ _ (ap f (sym at.name_is)) c.in_ok-write_edge.ensures.adds in
    record {
      adds = adds_as _ _ _ _ _ _ _ (sym (lines_next f ns k at.low)) (adds_both _ _ _ _ _ _ _ _ (flat_map f (take k ns)) (f (get_or ns k 0)) c.loop-k.invariant.adds one);
      bytes = omega (arith, c.loop-k.invariant.bytes, c.in_ok-write_edge.ensures.bytes);
    }

pub returns-clause-adds : goal.returns-clause-adds
returns-clause-adds g c =
    let v = g.H.Heights.leveled c.args.field.now in
    let row = c.args.self.now in
    let f = edge_line row.texts.style v in
    let ns = row_names v row.texts.y row.texts.z in
    let few = count_is v row c.requires.edges in
    adds_as _ _ _ _ _ _ _ (lines_all f ns c.loop-k.k (omega (arith, few, c.loop-k-test.false)) ∙ row_text v row.texts.style row.texts.y row.texts.z) c.loop-k.invariant.adds

pub returns-clause-bytes : goal.returns-clause-bytes
returns-clause-bytes g c = omega (arith, c.requires.edges.count, c.loop-k-test.false, c.loop-k.auto.k-end, c.loop-k.invariant.bytes)
