use Rattle.std.proofs.Common.{◌≡◌, ◌+◌, ◌*◌, sym, ◌∙◌, ap, arith, get_or}
use Rattle.iso_defs.specs.Grid.{Grid}
use Rattle.iso_defs.specs.Rows.{row_count}
use Rattle.crossing_edges.specs.Flags.{rank}
use Rattle.flat_mesh.specs.Lattice.{heights}
use Rattle.mesh_walk.proofs.RankedRows.{row_low}
use Rattle.mesh_walk.proofs.walk.Walk.edges_to_row.Goals as goal

pub returns-then-y-ny : goal.returns-then-y-ny
returns-then-y-ny g c =
    let v = (g.H.Heights.leveled c.args.field.now) in
    let ranks = c.args.self.ranks.now in
    let ny : c.ny-ny.result ≡ v.grid.ny = c.ny-ny.ensures.value ∙ ap (λ (g : Grid). g.ny) c.sizes-sizes.ensures.value in
    let at : c.args.y + ranks.grid.ny * c.args.z ≡ c.args.y + v.grid.ny * c.args.z = ap (λ (g : Grid). c.args.y + g.ny * c.args.z) c.requires.ranks.grid in
    c.before-then-y-ny.ensures ∙ (ap (λ r. get_or ranks.numbers r 0) at
    ∙ c.requires.ranks.before (c.args.y + v.grid.ny * c.args.z) (row_low v.grid c.args.y c.args.z (omega (arith, c.if-y-ny.true, ny)) c.requires.z))

pub returns-then-z-nz : goal.returns-then-z-nz
returns-then-z-nz g c =
    let v = (g.H.Heights.leveled c.args.field.now) in
    let ranks = c.args.self.ranks.now in
    let ny : c.ny-ny.result ≡ v.grid.ny = c.ny-ny.ensures.value ∙ ap (λ (g : Grid). g.ny) c.sizes-sizes.ensures.value in
    let nz : c.nz-nz.result ≡ v.grid.nz = c.nz-nz.ensures.value ∙ ap (λ (g : Grid). g.nz) c.sizes-sizes.ensures.value in
    let end : c.args.y ≡ v.grid.ny = omega (arith, c.if-y-ny.false, ny, c.requires.y) in
    let at : 0 + ranks.grid.ny * (c.args.z + 1) ≡ 0 + v.grid.ny * (c.args.z + 1) = ap (λ (g : Grid). 0 + g.ny * (c.args.z + 1)) c.requires.ranks.grid in
    let here : 0 + v.grid.ny * (c.args.z + 1) ≡ c.args.y + v.grid.ny * c.args.z = omega (arith, end) in
    c.before-then-z-nz.ensures ∙ (ap (λ r. get_or ranks.numbers r 0) at
    ∙ (c.requires.ranks.before (0 + v.grid.ny * (c.args.z + 1)) (row_low v.grid 0 (c.args.z + 1) (omega (arith, c.requires.z, c.requires.y, c.sizes-sizes.ensures.leveled.grid.y.least)) (omega (arith, c.if-z-nz.true, nz)))
    ∙ ap (λ r. rank v.grid (heights v) (3 * (v.grid.nx * r))) here))

pub returns : goal.returns
returns g c =
    let v = (g.H.Heights.leveled c.args.field.now) in
    let ny : c.ny-ny.result ≡ v.grid.ny = c.ny-ny.ensures.value ∙ ap (λ (g : Grid). g.ny) c.sizes-sizes.ensures.value in
    let nz : c.nz-nz.result ≡ v.grid.nz = c.nz-nz.ensures.value ∙ ap (λ (g : Grid). g.nz) c.sizes-sizes.ensures.value in
    let end : c.args.y ≡ v.grid.ny = omega (arith, c.if-y-ny.false, ny, c.requires.y) in
    let last : c.args.z + 1 ≡ v.grid.nz = omega (arith, c.if-z-nz.false, nz, c.requires.z) in
    let whole : row_count v.grid ≡ v.grid.ny * (c.args.z + 1) = ap (λ n. v.grid.ny * n) (sym last) in
    let here : row_count v.grid ≡ c.args.y + v.grid.ny * c.args.z = omega (arith, end, whole) in
    c.requires.ranks.all ∙ ap (λ r. rank v.grid (heights v) (3 * (v.grid.nx * r))) here
