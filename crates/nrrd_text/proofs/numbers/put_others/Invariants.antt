use Rattle.std.proofs.Common.{◌≡◌, ◌+◌, ◌*◌, ◌≤◌, ◌++◌, take, flat_map, map}
use Rattle.nrrd_text.specs.Writing.{next_number}
use Rattle.nrrd_text.proofs.numbers.put_others.Given as goal

abbrev pub invariant-loop-k : goal.invariant-loop-k
invariant-loop-k g l = record {
  within : l.end ≤ l.fn.at + 24 * l.k;
  behind : l.fn.at ≤ l.end;
  written : take l.end l.room ≡ take l.fn.at l.fn.room ++ flat_map next_number (take l.k (map g.T.Packed.value l.values));
}
