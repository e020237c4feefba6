use Rattle.std.proofs.Common.{arith}
use Rattle.cached_mesh.proofs.Counted.{few_centres, few_faces}
use Rattle.cached_mesh.proofs.counts.count_entries.Goals as goal

pub count_page-requires-clause-centres : goal.count_page-requires-clause-centres
count_page-requires-clause-centres c = omega (arith, c.requires.few, few_centres c.args.entries.now c.requires.cases)

pub count_page-requires-clause-faces : goal.count_page-requires-clause-faces
count_page-requires-clause-faces c = omega (arith, c.requires.few, few_faces c.args.entries.now c.requires.cases)
