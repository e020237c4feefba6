use Rattle.std.proofs.Common.{◌+◌, ◌-◌, ◌≤◌, length, vec_len}
use Rattle.byte_streams.proofs.Taking.{HasTaken}
use Rattle.byte_streams.proofs.source.read_by.Given as goal

abbrev pub invariant-loop-source : goal.invariant-loop-source
invariant-loop-source g l = record {
  taken : HasTaken (g.S.Source.seen l.fn.source) (g.S.Source.seen l.source) l.bytes.items;
  within : length l.bytes.items ≤ l.limit + 65536;
}

abbrev pub decreases-loop-source : goal.decreases-loop-source
decreases-loop-source g l = (l.limit + 1) - vec_len l.bytes
