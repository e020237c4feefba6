use Rattle.std.proofs.Common.{◌≡◌, ◌+◌, ◌*◌, ◌≤◌, All, List, Ok, ℕ, length, map, take}
use Rattle.std.specs.List.{concat}
use Rattle.mesh_text.specs.Numbers.{text_at}
use Rattle.mesh_lines.specs.Blocks.{Adds}
use Rattle.mesh_lines.specs.Triangles.{corner_text}
use Rattle.mesh_walk.specs.Spans.{face_lines}
use Rattle.mesh_walk.proofs.faces.put_faces.Given as goal

abbrev pub invariant-loop-i : goal.invariant-loop-i
invariant-loop-i g l = record {
  adds : (faces : List (List ℕ)) → All (λ t. length t ≡ 3) faces → map (text_at l.texts) l.slots ≡ map (corner_text l.fn.style.format) (concat faces)
      → Adds {T = Unit {0}} (g.K.Sink.seen l.fn.sink) (g.K.Sink.seen l.sink) l.fn.block l.block (Ok tt) (face_lines l.fn.style.format (take l.i faces));
  bytes : l.block.total ≤ l.fn.block.total + 64 * l.i;
}
