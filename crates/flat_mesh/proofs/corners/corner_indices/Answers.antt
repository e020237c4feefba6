use Rattle.std.proofs.Common.{◌≡◌, ◌+◌, ◌*◌, ap₂, arith}
use Rattle.flat_mesh.proofs.FarCorner.{corners_are}
use Rattle.flat_mesh.proofs.corners.corner_indices.Goals as goal

pub returns-clause-points : goal.returns-clause-points
returns-clause-points c =
    let g = c.args.sizes.now in
    let plane : c.nx-nx.result * c.ny-ny.result ≡ g.nx * g.ny = ap₂ ◌*◌ c.nx-nx.ensures.value c.ny-ny.ensures.value in
    corners_are g c.args.cell.index (c.args.cell.index + c.nx-nx.result) (c.args.cell.index + c.nx-nx.result * c.ny-ny.result)
    (c.args.cell.index + c.nx-nx.result * c.ny-ny.result + c.nx-nx.result) (omega (arith, c.nx-nx.ensures.value)) (omega (arith, plane)) (omega (arith, c.nx-nx.ensures.value))
