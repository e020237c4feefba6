use Rattle.std.proofs.Common.{◌≡◌, length, map, bytes_eq}
use Rattle.std.specs.Char.{to_ascii_lowercase}
use Rattle.text_lines.proofs.words.same_word.Given as goal

abbrev pub invariant-loop-left : goal.invariant-loop-left
invariant-loop-left l = bytes_eq (map to_ascii_lowercase l.left) l.right ≡ bytes_eq (map to_ascii_lowercase l.text) l.word

abbrev pub decreases-loop-left : goal.decreases-loop-left
decreases-loop-left l = length l.left
