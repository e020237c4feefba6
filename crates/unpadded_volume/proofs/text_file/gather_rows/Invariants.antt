use Rattle.std.proofs.Common.{◌≤◌, map}
use Rattle.nrrd.specs.Writing.{coded_line, rows_of}
use Rattle.nrrd_text.proofs.Lines.{HasPieces}
use Rattle.unpadded_volume.specs.Held.{AreHeld}
use Rattle.unpadded_volume.specs.Unpadded.{inner_voxels}
use Rattle.unpadded_volume.proofs.text_file.gather_rows.Given as goal

abbrev pub invariant-loop-number : goal.invariant-loop-number
invariant-loop-number g l = record {
  pieces : HasPieces (coded_line l.hex l.store.kind) 25000 (g.K.Sink.seen l.fn.sink) (g.K.Sink.seen l.sink) l.fn.waiting l.waiting (rows_of (inner_voxels l.store)) l.number l.bytes;
  held : AreHeld l.store l.held (map g.T.Packed.value l.block);
  first : l.held.first ≤ l.number;
  next : l.number ≤ l.held.end;
}
