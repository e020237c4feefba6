use Rattle.std.proofs.Common.{◌≡◌, ℕ, ℤ, ◌+◌, ◌-◌, ◌*◌, ◌≤◌, List, length}
use Rattle.iso_defs.specs.Bricks.{brick_count}
use Rattle.iso_defs.specs.Grid.{Grid}
use Rattle.mesh_cache.specs.Economy.{Refresh}
use Rattle.mesh_cache.proofs.Turns.{waited}
use Rattle.mesh_cache.proofs.turn.refresh.Given as goal

abbrev pub invariant-loop-left : goal.invariant-loop-left
invariant-loop-left g l =
    let grid : Grid = g.B.Bricks.grid l.bricks in
    let samples : List ℤ = g.B.Bricks.samples l.bricks in
    let offered : List ℕ = waited grid samples l.level l.initial.cache l.from in
    record {
      refreshed : Refresh grid samples l.level l.initial.cache offered l.cache;
      count : length offered + l.left ≡ l.n;
      risen : l.initial.steps ≤ l.steps;
      counted : l.steps ≤ l.initial.steps + 512 * length offered;
      inside : l.from ≤ brick_count grid;
    }

abbrev pub decreases-loop-left : goal.decreases-loop-left
decreases-loop-left g l = brick_count (g.B.Bricks.grid l.bricks) - l.from
