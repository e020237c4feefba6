use Rattle.std.proofs.Common.{◌∙◌, ap}
use Rattle.brick_mesh.specs.Block.{BrickAt}
use Rattle.brick_rows.specs.Named.{counts_of_entries}
use Rattle.cached_mesh.proofs.Counted.{are_cases}
use Rattle.brick_tests.proofs.walks.FreshRowsCellRows.count.Goals as goal

pub count_entries-requires-clause-cases : goal.count_entries-requires-clause-cases
count_entries-requires-clause-cases g c =
    let r = c.args.self.now in
    let b : BrickAt = record { grid = r.store.now.grid; samples = r.store.now.samples; brick = c.args.brick.0; level = r.level } in
    are_cases b c.as_slice.result.now (c.as_slice.ensures.value ∙ c.extract_brick.ensures.entries)

pub returns-clause-counts : goal.returns-clause-counts
returns-clause-counts g c = c.count_entries.ensures ∙ ap counts_of_entries (c.as_slice.ensures.value ∙ c.extract_brick.ensures.entries)
