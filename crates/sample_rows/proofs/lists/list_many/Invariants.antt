use Rattle.std.proofs.Common.{◌≡◌, ℕ, ◌+◌, ◌<◌, ◌++◌, get_or, length, map, take}
use Rattle.std.specs.Int.{bit_at}
use Rattle.row_bits.specs.Active.{active_among}
use Rattle.row_bits.proofs.SetBits.{bits_set}
use Rattle.sample_rows.specs.Lists.{mixed_of}
use Rattle.sample_rows.proofs.lists.list_many.Given as goal

abbrev pub invariant-loop-rest : goal.invariant-loop-rest
invariant-loop-rest l = record {
  places : take l.at l.lists.places ++ map (λ k. l.from + k) (bits_set l.rest)
      ≡ take l.fn.at l.fn.lists.places ++ active_among (mixed_of l.bytes) l.from 64;
  end : l.at + length (bits_set l.rest) ≡ l.fn.at + length (active_among (mixed_of l.bytes) l.from 64);
  cases : take l.at l.lists.cases ≡ map (λ x. get_or l.cases x 0) (take l.at l.lists.places);
  inside : (k : ℕ) → k < 64 → bit_at l.rest k ≡ 1 → l.from + k + 1 < length l.cases;
}

abbrev pub decreases-loop-rest : goal.decreases-loop-rest
decreases-loop-rest l = l.rest
