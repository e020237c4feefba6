use Rattle.std.proofs.Common.{◌≡◌, ℕ, ◌+◌, ◌*◌, ◌<◌, get_or, length}
use Rattle.sample_rows.proofs.row_storage.fill_numbers.Given as goal

abbrev pub invariant-loop-x : goal.invariant-loop-x
invariant-loop-x l = record {
  count : length l.numbers ≡ length l.flags;
  done : (k : ℕ) → k < l.x → get_or l.numbers k 0 ≡ get_or l.flags k 0 + 8 * get_or l.cases k 0;
}
