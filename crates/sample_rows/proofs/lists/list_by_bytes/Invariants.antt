use Rattle.std.proofs.Common.{◌≡◌, ◌*◌, get_or, length, map, take}
use Rattle.row_bits.specs.Active.{active_among}
use Rattle.sample_rows.specs.Lists.{mixed_of}
use Rattle.sample_rows.proofs.lists.list_by_bytes.Given as goal

abbrev pub invariant-loop-many : goal.invariant-loop-many
invariant-loop-many l = record {
  places : take l.at l.lists.places ≡ active_among (mixed_of l.bytes) 0 (64 * l.many);
  end : l.at ≡ length (active_among (mixed_of l.bytes) 0 (64 * l.many));
  cases : take l.at l.lists.cases ≡ map (λ x. get_or l.cases x 0) (take l.at l.lists.places);
}
