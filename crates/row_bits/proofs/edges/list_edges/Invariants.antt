use Rattle.std.proofs.Common.{◌≡◌, ◌*◌, ◌≤◌, take}
use Rattle.row_bits.specs.Edges.{edges_among}
use Rattle.row_bits.proofs.edges.list_edges.Given as goal

abbrev pub invariant-loop-block : goal.invariant-loop-block
invariant-loop-block l = record {
  put : take l.at l.edges ≡ edges_among l.flags 0 (32 * l.block);
  end : l.at ≤ 3 * (32 * l.block);
}
