use Rattle.std.proofs.Common.{◌*◌, ◌≤◌}
use Rattle.surface_tests.proofs.loops.totals.Given as goal

-- no sum is large
abbrev pub invariant-loop-number : goal.invariant-loop-number
invariant-loop-number g l = record {
  loops : l.loops ≤ 4 * l.number;
  triangles : l.triangles ≤ 12 * l.number;
  centres : l.centres ≤ 4 * l.number;
}
