use Rattle.std.proofs.Common.{◌≡◌, ◌≤◌, length}
use Rattle.text_lines.specs.Lines.{lines_of}
use Rattle.nrrd_read.specs.Fields.{sample_bytes}
use Rattle.nrrd_read.proofs.header.behind_header.Given as goal

abbrev pub invariant-loop-text : goal.invariant-loop-text
invariant-loop-text l = record {
  samples : sample_bytes (lines_of l.rest) ≡ sample_bytes (lines_of l.bytes);
  shorter : length l.rest ≤ length l.bytes;
}

abbrev pub decreases-loop-text : goal.decreases-loop-text
decreases-loop-text l = length l.rest
