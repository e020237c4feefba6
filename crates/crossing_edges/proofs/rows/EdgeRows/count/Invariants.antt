use Rattle.std.proofs.Common.{◌≡◌, ◌*◌, ◌≤◌, length}
use Rattle.crossing_edges.specs.Flags.{rank}
use Rattle.crossing_edges.specs.Leveled.{heights}
use Rattle.crossing_edges.specs.Slices.{AreAtRow}
use Rattle.crossing_edges.proofs.rows.EdgeRows.count.Given as goal

abbrev pub invariant-loop-row : goal.invariant-loop-row
invariant-loop-row g l = record {
  count : l.count ≡ rank l.self.grid (heights l.self) (3 * (l.self.grid.nx * l.row));
  few : l.count ≤ 3 * (l.self.grid.nx * l.row);
  signs : AreAtRow l.self l.row l.signs;
  flags : length l.flags ≡ l.self.grid.nx;
}
