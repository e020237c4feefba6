use Rattle.std.proofs.Common.{◌≡◌, ◌+◌, ◌-◌, ◌*◌, get_or, ap, arith}
use Rattle.std.proofs.lemmas.List.{get_or-replicate}
use Rattle.brick_store.specs.Holding.{points_along}
use Rattle.brick_mesh.specs.Block.{BrickAt}
use Rattle.brick_mesh.proofs.Spans.{offsets}
use Rattle.cached_mesh.proofs.Ascending.{low_entries, parted}
use Rattle.cached_mesh.proofs.Filled.{slices_row}
use Rattle.cached_mesh.proofs.slices.Slices.move_to.Goals as goal

pub overflow_sub-self : goal.overflow_sub-self
overflow_sub-self c =
    let g = c.args.store.now.grid in
    let o = offsets g c.args.brick.0 1 1 (c.args.across.first + 1) (omega arith) (omega arith) (omega (arith, c.requires.first, c.requires.end)) c.requires.there in
    let x : get_or c.points_along.result 0 0 ≡ points_along g c.args.brick.0 0 = ap (λ l. get_or l 0 0) c.points_along.ensures in
    omega (arith, x, o.x-in)

pub fill_across-requires-clause-cells : goal.fill_across-requires-clause-cells
fill_across-requires-clause-cells c =
    low_entries (record { grid = c.args.store.now.grid; samples = c.args.store.now.samples; brick = c.args.brick.0; level = c.args.level }) c.args.entries c.requires.entries

pub fill_across-requires-clause-zeros : goal.fill_across-requires-clause-zeros
fill_across-requires-clause-zeros c = λ k low. get_or-replicate 512 k 0 0 low

pub fill_across-requires-clause-begins : goal.fill_across-requires-clause-begins
fill_across-requires-clause-begins c =
    parted (record { grid = c.args.store.now.grid; samples = c.args.store.now.samples; brick = c.args.brick.0; level = c.args.level })
    (65536 * c.args.across.first) c.args.entries c.requires.entries

pub fill_across-requires-clause-ends : goal.fill_across-requires-clause-ends
fill_across-requires-clause-ends c =
    parted (record { grid = c.args.store.now.grid; samples = c.args.store.now.samples; brick = c.args.brick.0; level = c.args.level })
    (65536 * c.args.across.end) c.args.entries c.requires.entries

pub returns-clause-slices : goal.returns-clause-slices
returns-clause-slices c = λ items kept.
    let b : BrickAt = record { grid = c.args.store.now.grid; samples = c.args.store.now.samples; brick = c.args.brick.0; level = c.args.level } in
    let width : get_or c.points_along.result 0 0 - 1 ≡ points_along c.args.store.now.grid c.args.brick.0 0 - 1 = ap (λ l. get_or l 0 0 - 1) c.points_along.ensures in
    record {
      narrow = omega (arith, width);
      fresh = λ some. kept;
      rows = λ y z from to row.
          slices_row b c.args.across.first c.args.across.end c.args.entries _ _ c.requires.entries (omega arith) c.requires.half
          c.fill_across.ensures c.fill_half.ensures y z from to row (get_or c.points_along.result 0 0 - 1) width;
    }
