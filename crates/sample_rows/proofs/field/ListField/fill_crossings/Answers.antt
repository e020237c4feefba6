use Rattle.std.proofs.Common.{◌∙◌, arith}
use Rattle.std.proofs.lemmas.List.{length-set}
use Rattle.sample_rows.proofs.Ends.{place_more, places_are, row_edge}
use Rattle.sample_rows.proofs.field.ListField.fill_crossings.Goals as goal

pub place_on-requires-clause-edge : goal.place_on-requires-clause-edge
place_on-requires-clause-edge g c = (row_edge c.args.self.now c.args.y c.args.z c.args.edges.now c.requires.edges c.loop-i.i c.loop-i-test.true).low

pub place_on-requires-clause-crossing : goal.place_on-requires-clause-crossing
place_on-requires-clause-crossing g c = (row_edge c.args.self.now c.args.y c.args.z c.args.edges.now c.requires.edges c.loop-i.i c.loop-i-test.true).crossing

pub loop-i-preserved : goal.loop-i-preserved
loop-i-preserved g c = record {
  count = length-set c.loop-i.places c.loop-i.i c.place_on.result ∙ c.loop-i.invariant.count;
  each = place_more c.args.self.now c.args.y c.args.z c.args.edges.now c.requires.edges c.loop-i.places c.loop-i.i c.place_on.result
      (omega (arith, c.loop-i-test.true, c.loop-i.invariant.count)) c.place_on.ensures c.loop-i.invariant.each;
}

pub returns : goal.returns
returns g c = places_are c.args.self.now c.args.y c.args.z c.args.edges.now c.requires.edges c.loop-i.places c.loop-i.invariant.count (λ k low. c.loop-i.invariant.each k (omega (arith, low, c.loop-i-test.false)))
