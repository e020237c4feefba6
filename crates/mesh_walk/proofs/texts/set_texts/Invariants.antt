use Rattle.std.proofs.Common.{◌≡◌, ◌+◌, length}
use Rattle.mesh_lines.specs.Triangles.{first_of}
use Rattle.mesh_walk.proofs.TextSlots.{AreSet}
use Rattle.mesh_walk.proofs.texts.set_texts.Given as goal

abbrev pub invariant-loop-k : goal.invariant-loop-k
invariant-loop-k l = record {
  are : AreSet l.fn.style.format l.number l.first l.edges l.fn.texts l.texts l.k;
  long : length l.texts ≡ 15390;
  next : l.corners ≡ first_of l.fn.style.format + (l.number + l.k);
}
