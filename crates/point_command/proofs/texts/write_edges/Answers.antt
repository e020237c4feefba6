use Rattle.std.proofs.lemmas.Result.{err_from_is_err_and}
use Rattle.byte_streams.proofs.Staging.{staged_first}
use Rattle.point_command.proofs.Placing.{edge_failed, edge_staged, edges_staged}
use Rattle.point_command.proofs.texts.write_edges.Goals as goal

pub loop-k-init : goal.loop-k-init
loop-k-init g c = record { staged = staged_first _ _ _ }

pub returns-in_err-write_edge : goal.returns-in_err-write_edge
returns-in_err-write_edge g c =
    let p = err_from_is_err_and c.from_residual.result c.from_residual.ensures.1 in
    rw p.1 (edge_failed c.args.texts.now c.args.edges.now c.args.places.now c.requires.count c.loop-k.k _ _ _ _ _ _ _ _ _ _ c.loop-k-test.true c.loop-k.invariant.staged c.in_err-write_edge.ensures)

pub loop-k-preserved : goal.loop-k-preserved
loop-k-preserved g c = record {
  staged = edge_staged c.args.texts.now c.args.edges.now c.args.places.now c.requires.count c.loop-k.k _ _ _ _ _ _ _ c.loop-k-test.true c.loop-k.invariant.staged c.in_ok-write_edge.ensures;
}

pub returns : goal.returns
returns g c = edges_staged c.args.texts.now c.args.edges.now c.args.places.now c.requires.count c.loop-k.k _ _ _ _ _ _ c.loop-k-test.false c.loop-k.invariant.staged
