use Rattle.std.proofs.Common.{◌≡◌, ◌+◌, ◌*◌, ◌≤◌, length}
use Rattle.iso_base.specs.Triangles.{triangles_of}
use Rattle.mesh_check.specs.Marks.{IsUnmarked}
use Rattle.mesh_check.specs.Judged.{IsJudged}
use Rattle.mesh_check.proofs.decide.surface_verdict.Given as goal

abbrev pub invariant-loop-v : goal.invariant-loop-v
invariant-loop-v l = record {
  marks : length l.marks ≡ l.vertices;
  unmarked : IsUnmarked l.marks (l.v + 1);
  judged : IsJudged (triangles_of l.triangles) l.v l.split l.loose;
  bound : l.loose ≤ l.v * 4294967295;
}
