use Rattle.std.proofs.Common.{◌≡◌, ℕ, ◌/◌, ◌<◌, get_or, length}
use Rattle.sample_rows.proofs.lists.list_whole_cells.Given as goal

abbrev pub invariant-loop-x : goal.invariant-loop-x
invariant-loop-x l = record {
  count : length l.all ≡ 1056;
  done : (k : ℕ) → k < l.x → get_or l.all k 0 ≡ get_or l.numbers k 0 / 8;
}
