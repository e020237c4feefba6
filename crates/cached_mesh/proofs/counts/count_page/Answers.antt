use Rattle.std.proofs.Common.{arith}
use Rattle.cached_mesh.proofs.Counted.{centres_end, centres_next, triangles_end, triangles_next}
use Rattle.cached_mesh.proofs.counts.count_page.Goals as goal

pub count_entry-counts-requires-clause-case : goal.count_entry-counts-requires-clause-case
count_entry-counts-requires-clause-case c = c.requires.cases c.loop-entry.entry-index 0 (omega (arith, c.loop-entry-test.true))

pub count_entry-counts-requires-clause-centres : goal.count_entry-counts-requires-clause-centres
count_entry-counts-requires-clause-centres c =
    let next = centres_next c.args.page.now c.loop-entry.entry-index (omega (arith, c.loop-entry-test.true)) in
    omega (arith, c.requires.centres, c.loop-entry.invariant.centres, next)

pub count_entry-counts-requires-clause-faces : goal.count_entry-counts-requires-clause-faces
count_entry-counts-requires-clause-faces c =
    let next = triangles_next c.args.page.now c.loop-entry.entry-index (omega (arith, c.loop-entry-test.true)) in
    omega (arith, c.requires.faces, c.loop-entry.invariant.faces, next)

pub loop-entry-preserved : goal.loop-entry-preserved
loop-entry-preserved c =
    let centres = centres_next c.args.page.now c.loop-entry.entry-index (omega (arith, c.loop-entry-test.true)) in
    let faces = triangles_next c.args.page.now c.loop-entry.entry-index (omega (arith, c.loop-entry-test.true)) in
    record {
      centres = omega (arith, c.count_entry-counts.ensures.centres, c.loop-entry.invariant.centres, centres);
      faces = omega (arith, c.count_entry-counts.ensures.faces, c.loop-entry.invariant.faces, faces);
    }

pub returns-clause-centres : goal.returns-clause-centres
returns-clause-centres c =
    let end = centres_end c.args.page.now c.loop-entry.entry-index (omega (arith, c.loop-entry-test.false)) in
    omega (arith, c.loop-entry.invariant.centres, end)

pub returns-clause-faces : goal.returns-clause-faces
returns-clause-faces c =
    let end = triangles_end c.args.page.now c.loop-entry.entry-index (omega (arith, c.loop-entry-test.false)) in
    omega (arith, c.loop-entry.invariant.faces, end)
