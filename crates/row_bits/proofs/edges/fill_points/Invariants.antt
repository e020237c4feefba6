use Rattle.std.proofs.Common.{◌≡◌, ◌-◌, ◌*◌, ◌≤◌, ◌++◌, take}
use Rattle.row_bits.specs.Edges.{edges_among}
use Rattle.row_bits.proofs.edges.fill_points.Given as goal

abbrev pub invariant-loop-x : goal.invariant-loop-x
invariant-loop-x l = record {
  put : take l.at l.edges ≡ take l.fn.at l.fn.edges ++ edges_among l.flags l.from (l.x - l.from);
  end : l.at ≤ 3 * l.x;
}
