use Rattle.std.proofs.Common.{◌+◌, ◌-◌, length, drop}
use Rattle.mesh_check.specs.Marks.{IsMarked, IsUnmarked, IsLeastTwice}
use Rattle.mesh_check.proofs.marks.mark_arcs.Given as goal

abbrev pub invariant-loop-begin : goal.invariant-loop-begin
invariant-loop-begin l = record {
  can_next : (goal.iterator-loop-begin).can_next l.begin-iterator;
  is_finite : (goal.iterator-loop-begin).is_finite l.begin-iterator;
  marked : IsMarked l.marks l.stamp (drop (length l.arcs - length l.yielded) l.arcs);
  older : IsUnmarked l.marks (l.stamp + 1);
  twice : IsLeastTwice (drop (length l.arcs - length l.yielded) l.arcs) l.twice;
}
