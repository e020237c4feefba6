use Rattle.std.proofs.Common.{◌≡◌, ◌*◌, length, min, take}
use Rattle.row_bits.specs.Active.{active_among}
use Rattle.row_bits.proofs.active.list_active.Given as goal

abbrev pub invariant-loop-group : goal.invariant-loop-group
invariant-loop-group l = record {
  put : take l.at l.cells ≡ active_among l.cases 0 (min (32 * l.group) l.count);
  end : l.at ≡ length (active_among l.cases 0 (min (32 * l.group) l.count));
}
