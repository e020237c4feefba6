use Rattle.std.proofs.Common.{◌≡◌, ◌+◌, ◌<◌, ◌≤◌, [], length, All}
use Rattle.mesh_read.specs.Corners.{IsInside}
use Rattle.mesh_read.specs.Obj.{sayings}
use Rattle.mesh_read.proofs.ObjLaws.{walk}
use Rattle.mesh_read.proofs.obj.read_obj.Given as goal

abbrev pub invariant-loop-text : goal.invariant-loop-text
invariant-loop-text l = record {
  walked : walk l.number l.vertices l.triangles.items (sayings l.rest) ≡ walk 1 0 [] (sayings l.bytes);
  inside : All (IsInside l.vertices) l.triangles.items;
  number : l.number + length l.rest ≤ 1 + length l.bytes;
  fewer : l.vertices < l.number;
}

abbrev pub decreases-loop-text : goal.decreases-loop-text
decreases-loop-text l = length l.rest
