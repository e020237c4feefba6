use Rattle.std.proofs.Common.{◌≡◌, ◌-◌, ◌*◌, ◌≤◌, ◌++◌, take}
use Rattle.row_bits.specs.Edges.{edges_among}
use Rattle.row_bits.proofs.edges.fill_eights.Given as goal

abbrev pub invariant-loop-eight : goal.invariant-loop-eight
invariant-loop-eight l = record {
  put : take l.at l.edges ≡ take l.fn.at l.fn.edges ++ edges_among l.flags (8 * l.from) (8 * (l.eight - l.from));
  end : l.at ≤ 3 * (8 * l.eight);
}
