use Rattle.std.proofs.Common.{◌∙◌, ap, sym}
use Rattle.brick_rows.specs.Rows.{at_level}
use Rattle.edge_points.specs.Rows.{RowNumbers}
use Rattle.cached_mesh.proofs.room.MeshRoom.new.Goals as goal

pub returns-clause-room : goal.returns-clause-room
returns-clause-room c v level same = record {
  grid = ap (λ (r : RowNumbers). r.grid) c.in_ok-rows.ensures.ranks ∙ sym same;
  lists = c.in_ok-rows.ensures.right (at_level v level);
}
