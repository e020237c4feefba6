use Rattle.std.proofs.Common.{◌≡◌, ◌+◌, ◌≤◌, length, map}
use Rattle.text_lines.specs.Lines.{lines_of}
use Rattle.nrrd_read.specs.Fields.{header_texts, sample_bytes, meaning_of}
use Rattle.nrrd_read.specs.Scanning.{seen_fields, no_fields, after_lines}
use Rattle.nrrd_read.proofs.header.read_fields.Given as goal

abbrev pub invariant-loop-text : goal.invariant-loop-text
invariant-loop-text l = record {
  so_far : after_lines (seen_fields l.header) l.number (map meaning_of (header_texts (lines_of l.rest))) ≡ after_lines no_fields 2 (map meaning_of (header_texts (lines_of l.bytes)));
  samples : sample_bytes (lines_of l.rest) ≡ sample_bytes (lines_of l.bytes);
  number : l.number + length l.rest ≤ 2 + length l.bytes;
}

abbrev pub decreases-loop-text : goal.decreases-loop-text
decreases-loop-text l = length l.rest
