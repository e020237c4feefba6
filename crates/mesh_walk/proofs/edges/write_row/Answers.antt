use Rattle.std.proofs.Common.{◌≡◌, ◌+◌, ◌*◌, ◌∙◌, sym, ap, arith}
use Rattle.crossing_edges.specs.Flags.{rank}
use Rattle.flat_mesh.specs.Lattice.{heights}
use Rattle.mesh_walk.specs.Numbers.{row_number}
use Rattle.mesh_walk.proofs.Adding.{adds_as, adds_none}
use Rattle.mesh_walk.proofs.EdgeLines.{edges_quiet}
use Rattle.mesh_walk.proofs.edges.write_row.Goals as goal

pub returns-then-not-has_edges-clause-adds : goal.returns-then-not-has_edges-clause-adds
returns-then-not-has_edges-clause-adds g c =
    let v = g.R.Heights.leveled c.args.rows.now in
    let row = row_number v.grid c.args.row in
    let behind : 3 * (v.grid.nx * (c.args.row.y + 1 + v.grid.ny * c.args.row.z)) ≡ 3 * (v.grid.nx * row) + 3 * v.grid.nx = omega arith in
    let same : rank v.grid (heights v) (3 * (v.grid.nx * row)) ≡ rank v.grid (heights v) (3 * (v.grid.nx * row) + 3 * v.grid.nx)
    = c.has_edges.ensures c.if-not-has_edges.true ∙ ap (rank v.grid (heights v)) behind in
    adds_as _ _ _ _ _ _ _ (sym (edges_quiet c.args.walk.style v (3 * (v.grid.nx * row)) (3 * v.grid.nx) same)) (adds_none _ c.args.block.now tt)
