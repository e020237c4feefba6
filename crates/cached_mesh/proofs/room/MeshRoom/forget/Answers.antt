use Rattle.std.proofs.Common.{◌∙◌, ap}
use Rattle.brick_rows.specs.Rows.{at_level}
use Rattle.edge_points.specs.Rows.{RowNumbers}
use Rattle.cached_mesh.proofs.room.MeshRoom.forget.Goals as goal

pub returns : goal.returns
returns c v w level to same fits = record {
  grid = ap (λ (r : RowNumbers). r.grid) c.forget.ensures.ranks ∙ (fits.grid ∙ same);
  lists = c.forget.ensures.right (at_level v level) (at_level w to) fits.lists;
}
