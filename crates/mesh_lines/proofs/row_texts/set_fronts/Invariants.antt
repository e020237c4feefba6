use Rattle.std.proofs.Common.{◌≡◌, length}
use Rattle.mesh_lines.specs.RowLines.{AreFronts}
use Rattle.mesh_lines.proofs.row_texts.set_fronts.Given as goal

abbrev pub invariant-loop-x : goal.invariant-loop-x
invariant-loop-x l = (length l.fronts ≡ 1027) × AreFronts l.style l.x l.fronts
