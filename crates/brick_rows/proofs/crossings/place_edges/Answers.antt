use Rattle.std.proofs.Common.{arith}
use Rattle.brick_rows.proofs.EdgeEnds.{crossing_of, places_are}
use Rattle.brick_rows.proofs.crossings.place_edges.Goals as goal

pub place_of-requires-clause-edge : goal.place_of-requires-clause-edge
place_of-requires-clause-edge g c = (crossing_of c.args.field.now c.args.row.y c.args.row.z c.args.edges.now c.requires.edges c.loop-i.i (omega (arith, c.loop-i-test.true))).low

pub place_of-requires-clause-crossing : goal.place_of-requires-clause-crossing
place_of-requires-clause-crossing g c = (crossing_of c.args.field.now c.args.row.y c.args.row.z c.args.edges.now c.requires.edges c.loop-i.i (omega (arith, c.loop-i-test.true))).crosses

pub returns : goal.returns
returns g c =
    places_are c.args.field.now c.args.row.y c.args.row.z c.args.edges.now c.loop-i.places c.requires.edges (omega (arith, c.loop-i.auto.places, c.requires.count))
    (λ k low. c.loop-i.invariant k (omega (arith, low, c.loop-i-test.false)))
