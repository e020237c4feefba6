use Rattle.std.proofs.Common.{◌∙◌, arith}
use Rattle.std.proofs.lemmas.List.{length-set}
use Rattle.crossing_edges.specs.Leveled.{heights}
use Rattle.crossing_edges.proofs.OffsetEdges.{front_places, offset_at, place_more}
use Rattle.crossing_edges.proofs.rows.EdgeRows.fill_crossings.Goals as goal

pub place_on-requires-clause-name : goal.place_on-requires-clause-name
place_on-requires-clause-name g c =
    let v = c.args.self.now in
    let at = offset_at v.grid (heights v) c.args.start v.grid.nx c.args.edges.now c.requires.edges c.loop-k.k c.loop-k-test.true in
    omega (arith, at.low, c.requires.points)

pub place_on-requires-clause-crossing : goal.place_on-requires-clause-crossing
place_on-requires-clause-crossing g c =
    let v = c.args.self.now in
    (offset_at v.grid (heights v) c.args.start v.grid.nx c.args.edges.now c.requires.edges c.loop-k.k c.loop-k-test.true).crossing

pub loop-k-preserved : goal.loop-k-preserved
loop-k-preserved g c =
    let v = c.args.self.now in
    record {
      count = length-set c.loop-k.places c.loop-k.k c.place_on.result ∙ c.loop-k.invariant.count;
      each = place_more v.grid (heights v) c.args.start v.grid.nx c.args.edges.now c.requires.edges c.loop-k.places c.loop-k.k c.place_on.result
          (omega (arith, c.loop-k-test.true, c.loop-k.invariant.count, c.requires.few)) c.place_on.ensures c.loop-k.invariant.each;
    }

pub returns : goal.returns
returns g c =
    let v = c.args.self.now in
    front_places v.grid (heights v) c.args.start v.grid.nx c.args.edges.now c.requires.edges c.loop-k.places (omega (arith, c.loop-k.invariant.count, c.requires.few))
    (λ i low. c.loop-k.invariant.each i (omega (arith, low, c.loop-k-test.false)))
