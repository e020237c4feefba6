use Rattle.std.proofs.Common.{◌∙◌, ap}
use Rattle.brick_rows.specs.Named.{counts_of_entries}
use Rattle.brick_mesh.specs.Block.{BrickAt}
use Rattle.cached_mesh.proofs.Counted.{are_cases}
use Rattle.cached_mesh.proofs.counts.count_anew.Goals as goal

pub count_entries-requires-clause-cases : goal.count_entries-requires-clause-cases
count_entries-requires-clause-cases g c =
    let b : BrickAt = record { grid = c.args.store.now.grid; samples = c.args.store.now.samples; brick = c.args.brick.0; level = c.args.level } in
    are_cases b c.as_slice.result.now (c.as_slice.ensures.value ∙ c.extract_brick.ensures.entries)

pub returns-clause-counts : goal.returns-clause-counts
returns-clause-counts g c =
    c.count_entries.ensures ∙ ap counts_of_entries (c.as_slice.ensures.value ∙ c.extract_brick.ensures.entries)
