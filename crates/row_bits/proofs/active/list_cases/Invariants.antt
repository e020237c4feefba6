use Rattle.std.proofs.Common.{◌≡◌, get_or, length, map, take}
use Rattle.row_bits.proofs.active.list_cases.Given as goal

abbrev pub invariant-loop-k : goal.invariant-loop-k
invariant-loop-k l = record {
  count : length l.cases ≡ 1026;
  listed : take l.k l.cases ≡ map (λ x. get_or l.all x 0) (take l.k l.places);
}
