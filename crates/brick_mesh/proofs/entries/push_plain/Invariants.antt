use Rattle.std.proofs.Common.{◌≡◌, ◌+◌, ◌/◌, ◌%◌, length}
use Rattle.brick_mesh.specs.Entries.{first_cases}
use Rattle.brick_mesh.proofs.entries.push_plain.Given as goal

abbrev pub invariant-loop-x : goal.invariant-loop-x
invariant-loop-x g l = record {
  cases : l.rows.items ≡ first_cases l.block (l.row % 8) (l.row / 8) l.x;
  counted : l.steps ≡ l.initial.steps + length l.rows.items;
}
