use Rattle.std.proofs.Common.{◌≡◌, ◌+◌, ◌*◌, ◌∙◌, ap, arith}
use Rattle.iso_defs.specs.Grid.{Grid}
use Rattle.sample_rows.proofs.SignRows.{row_of_slice, row_within}
use Rattle.sample_rows.proofs.signs.sign_row.Goals as goal

pub slice_bounds-result-end : goal.slice_bounds-result-end
slice_bounds-result-end g c =
    let v = (g.H.Heights.leveled c.args.field.now) in
    let nx : c.nx-nx.result ≡ v.grid.nx = c.nx-nx.ensures.value ∙ ap (λ (g : Grid). g.nx) c.sizes.ensures.value in
    let start : c.nx-nx.result * c.args.y ≡ v.grid.nx * c.args.y = ap (λ n. n * c.args.y) nx in
    omega (arith, start, nx, row_within v c.args.z c.args.slice.now c.sizes.ensures.leveled c.requires.signs c.requires.z c.args.y c.requires.y)

pub returns : goal.returns
returns g c =
    let v = (g.H.Heights.leveled c.args.field.now) in
    let nx : c.nx-nx.result ≡ v.grid.nx = c.nx-nx.ensures.value ∙ ap (λ (g : Grid). g.nx) c.sizes.ensures.value in
    let start : c.nx-nx.result * c.args.y ≡ v.grid.nx * c.args.y = ap (λ n. n * c.args.y) nx in
    row_of_slice v c.args.z c.args.slice.now c.sizes.ensures.leveled c.requires.signs c.requires.z c.args.y (c.nx-nx.result * c.args.y) _ c.requires.y start
    (ap (λ n. c.nx-nx.result * c.args.y + n) nx)
