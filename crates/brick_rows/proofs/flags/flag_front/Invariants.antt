use Rattle.std.proofs.Common.{◌≡◌, ℕ, ◌<◌, get_or, map, pos}
use Rattle.std.specs.Prelude.{int_le}
use Rattle.brick_rows.specs.Rows.{run_flags}
use Rattle.brick_rows.proofs.flags.flag_front.Given as goal

abbrev pub invariant-loop-i : goal.invariant-loop-i
invariant-loop-i g l = record {
  written : (k : ℕ) → k < l.i → get_or l.out k 0 ≡ run_flags l.least (map g.T.Packed.value l.here) (map g.T.Packed.value l.up) (map g.T.Packed.value l.far) k;
  above : l.above ≡ int_le l.least (get_or (map g.T.Packed.value l.here) l.i (pos 0));
}
