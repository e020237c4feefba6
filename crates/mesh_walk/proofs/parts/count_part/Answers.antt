use Rattle.std.proofs.Common.{◌≡◌, ℕ, suc, ◌+◌, ◌-◌, ◌*◌, ◌∙◌, ap, arith}
use Rattle.iso_defs.specs.Grid.{Grid}
use Rattle.mesh_walk.specs.Numbers.{edges_to}
use Rattle.mesh_walk.proofs.parts.count_part.Goals as goal

pub returns-clause-edges : goal.returns-clause-edges
returns-clause-edges g c =
    let v = g.R.Heights.leveled c.args.rows.now in
    let ny : c.ny.result ≡ v.grid.ny = c.ny.ensures.value ∙ ap (λ (g : Grid). g.ny) c.sizes-sizes.ensures.value in
    let z : ℕ = c.args.walk.slices - 1 in
    let next : suc z ≡ c.args.walk.slices = omega (arith, c.requires.some) in
    let rows : v.grid.ny + v.grid.ny * z ≡ v.grid.ny * suc z = omega arith in
    c.edges_to_row-edges.ensures
    ∙ (ap (λ n. edges_to v (v.grid.nx * (n + v.grid.ny * z))) ny
    ∙ ap (λ n. edges_to v (v.grid.nx * n)) (rows ∙ ap (λ n. v.grid.ny * n) next))
