use Rattle.std.proofs.Common.{◌∙◌, ap, sym}
use Rattle.brick_rows.specs.Rows.{at_level}
use Rattle.edge_points.specs.Rows.{RowNumbers}
use Rattle.cached_mesh.proofs.room.MeshRoom.forget_box.Goals as goal

pub returns : goal.returns
returns c v w level to same fits = record {
  grid = ap (λ (r : RowNumbers). r.grid) c.forget_box.ensures.ranks ∙ (fits.grid ∙ same.same_grid);
  lists = c.forget_box.ensures.right (at_level v level) (at_level w to) (sym fits.grid) same fits.lists;
}
