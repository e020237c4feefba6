use Rattle.std.proofs.Common.{◌≡◌, ◌+◌, ◌≤◌, length, drop}
use Rattle.std.specs.List.{list_any}
use Rattle.mesh_read.specs.Ply.{is_end, up_to_end, ply_heads, ply_words}
use Rattle.mesh_read.specs.SeenPly.{told, start, all_told}
use Rattle.mesh_read.proofs.header.read_header.Given as goal

abbrev pub invariant-loop-text : goal.invariant-loop-text
invariant-loop-text l = record {
  folded : all_told (told l.header) (up_to_end (ply_heads l.rest)) ≡ all_told start (up_to_end (ply_heads l.bytes));
  ended : list_any is_end (ply_heads l.rest) ≡ list_any is_end (ply_heads l.bytes);
  body : drop (length (up_to_end (ply_heads l.rest))) (ply_words l.rest) ≡ drop (length (up_to_end (ply_heads l.bytes))) (ply_words l.bytes);
  number : l.header.number + length l.rest ≤ 2 + length l.bytes;
}

abbrev pub decreases-loop-text : goal.decreases-loop-text
decreases-loop-text l = length l.rest
