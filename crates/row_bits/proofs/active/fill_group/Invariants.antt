use Rattle.std.proofs.Common.{◌≡◌, ◌+◌, ◌++◌, length, map, take}
use Rattle.row_bits.specs.Active.{active_among}
use Rattle.row_bits.proofs.SetBits.{bits_set}
use Rattle.row_bits.proofs.active.fill_group.Given as goal

abbrev pub invariant-loop-bits : goal.invariant-loop-bits
invariant-loop-bits l = record {
  put : take l.at l.cells ++ map (λ k. l.from + k) (bits_set l.bits) ≡ take l.fn.at l.fn.cells ++ active_among l.cases l.from l.count;
  end : l.at + length (bits_set l.bits) ≡ l.fn.at + length (active_among l.cases l.from l.count);
}

abbrev pub decreases-loop-bits : goal.decreases-loop-bits
decreases-loop-bits l = l.bits
