use Rattle.std.proofs.Common.{◌≡◌, ◌*◌, Ok, length}
use Rattle.byte_streams.specs.Seen.{Stages}
use Rattle.byte_streams.specs.declared.Failed.{Failed}
use Rattle.crossing_edges.specs.Leveled.{heights}
use Rattle.crossing_edges.specs.Slices.{AreAtRow}
use Rattle.point_command.specs.Edges.{lines_in}
use Rattle.point_command.specs.Rows.{AreTextsOf}
use Rattle.point_command.proofs.texts.write_rows.Given as goal

abbrev pub invariant-loop-number : goal.invariant-loop-number
invariant-loop-number g l = record {
  texts : AreTextsOf l.rows.grid l.row.texts;
  signs : AreAtRow l.rows l.number l.signs;
  flags : length l.flags ≡ l.rows.grid.nx;
  lines : Stages {T = Unit {0}} {E = Failed} (g.K.Sink.seen l.fn.sink) (g.K.Sink.seen l.sink) l.fn.block.waiting l.block.waiting (Ok tt)
      (lines_in l.rows.grid (heights l.rows) 0 (3 * (l.rows.grid.nx * l.number)));
}
