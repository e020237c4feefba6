use Rattle.std.proofs.Common.{◌≡◌, ◌∙◌, ap, arith}
use Rattle.iso_defs.specs.Grid.{Grid}
use Rattle.mesh_walk.proofs.CellRuns.{width_is}
use Rattle.mesh_walk.proofs.cells.RowCells.move_to.Goals as goal

pub returns-clause-cells : goal.returns-clause-cells
returns-clause-cells g c =
    let v = g.R.Heights.leveled c.args.rows.now in
    let nx = width_is v _ _ c.sizes-sizes.ensures.value c.nx.ensures.value in
    let ny : c.ny.result ≡ v.grid.ny = c.ny.ensures.value ∙ ap (λ (g : Grid). g.ny) c.sizes-sizes.ensures.value in
    let most = c.sizes-sizes.ensures.leveled.grid.x.most in
    record {
      y = c.requires.y;
      z = c.requires.z;
      start = rw (nx, ny) (omega arith);
      room = omega (arith, c.list_cells-self.ensures.few, most, c.room.ensures.cells, c.room.ensures.points);
      cells_are = c.list_cells-self.ensures.cells;
    }
