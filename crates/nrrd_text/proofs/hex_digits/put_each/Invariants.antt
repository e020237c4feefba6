use Rattle.std.proofs.Common.{◌≡◌, ◌+◌, ◌*◌, ◌≤◌, ◌++◌, take, map}
use Rattle.nrrd_text.specs.Writing.{samples_digits}
use Rattle.nrrd_text.proofs.hex_digits.put_each.Given as goal

abbrev pub invariant-loop-k : goal.invariant-loop-k
invariant-loop-k g l = record {
  within : l.end ≤ l.fn.at + 24 * l.k;
  behind : l.fn.at ≤ l.end;
  written : take l.end l.room ≡ take l.fn.at l.fn.room ++ samples_digits l.kind (take l.k (map g.T.Packed.value l.values));
}
