use Rattle.std.proofs.Common.{[], refl, get_or, arith}
use Rattle.std.proofs.lemmas.Result.{err_from_is_err_and}
use Rattle.mesh_walk.proofs.Adding.{adds_behind, adds_both, adds_front, behind_as}
use Rattle.mesh_walk.proofs.EdgeLines.{row_line}
use Rattle.mesh_walk.proofs.RowNames.{edge_at}
use Rattle.mesh_walk.proofs.edges.RowEdges.write_edge.Goals as goal

pub returns-in_err-reserve-clause-adds : goal.returns-in_err-reserve-clause-adds
returns-in_err-reserve-clause-adds g c =
    let p = err_from_is_err_and c.from_residual.result c.from_residual.ensures.1 in
    rw p.1 (adds_front _ _ _ _ _ _ _ [] _ _ refl c.in_err-reserve.ensures.put)

pub push_edge-requires-clause-edge : goal.push_edge-requires-clause-edge
push_edge-requires-clause-edge g c =
    let at = edge_at (g.H.Heights.leveled c.args.field.now) c.args.self.now c.requires.edges c.args.k c.requires.k in
    omega (arith, at.in_row, c.requires.edges.width)

pub push_edge-requires-clause-place : goal.push_edge-requires-clause-place
push_edge-requires-clause-place g c = (edge_at (g.H.Heights.leveled c.args.field.now) c.args.self.now c.requires.edges c.args.k c.requires.k).place_low

pub returns-clause-adds : goal.returns-clause-adds
returns-clause-adds g c =
    let v = g.H.Heights.leveled c.args.field.now in
    let row = c.args.self.now in
    let at = edge_at v row c.requires.edges c.args.k c.requires.k in
    let line = row_line v row.texts (get_or row.edges c.args.k 0) (get_or row.places c.args.k 0) c.requires.edges.y c.requires.edges.z at.in_row at.place_is in
    adds_both _ _ _ _ _ _ _ _ [] _ c.in_ok-reserve.ensures.put (adds_behind _ _ _ tt _ (behind_as _ _ _ _ line c.push_edge.ensures.put))
