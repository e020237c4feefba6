use Rattle.std.proofs.Common.{◌≡◌, ◌+◌, ◌-◌, ◌/◌, ◌%◌, refl, ap, arith}
use Rattle.iso_defs.specs.Grid.{Grid}
use Rattle.iso_defs.specs.Bricks.{bricks_along}
use Rattle.unpadded_volume.proofs.RowRuns.{rows_are, rows_within}
use Rattle.unpadded_volume.proofs.rows.rows_of_bricks.Goals as goal

pub returns-clause-rows : goal.returns-clause-rows
returns-clause-rows c =
    let v = c.args.store.now in
    let x : c.bricks_along-along_x.result ≡ bricks_along v.grid 0 = omega (arith, c.bricks_along-along_x.ensures.value, c.nx.ensures.value, ap (λ (g : Grid). g.nx) c.sizes-stored.ensures.value) in
    let y : c.bricks_along-along_y.result ≡ bricks_along v.grid 1 = omega (arith, c.bricks_along-along_y.ensures.value, c.ny-3.ensures.value, ap (λ (g : Grid). g.ny) c.sizes-stored.ensures.value) in
    let across : c.saturating_sub.result ≡ c.args.row % c.ny.result + c.layer_of-layer.result - 1 = omega (arith, c.saturating_sub.ensures) in
    let up : c.saturating_sub-2.result ≡ c.args.row / c.ny-2.result + c.layer_of-layer.result - 1 = omega (arith, c.saturating_sub-2.ensures) in
    rows_are v c.args.sizes.now _ c.sizes-stored.ensures.volume c.requires.sizes c.requires.row c.layer_of-layer.ensures.value
    (rw (x, y, across, up, c.ny.ensures.value, c.ny-2.ensures.value, c.layer_of-layer.ensures.value) refl)
    (rw (across, c.ny.ensures.value, c.layer_of-layer.ensures.value) refl)
    (rw (up, c.ny-2.ensures.value, c.layer_of-layer.ensures.value) refl)
    (rw (c.ny-4.ensures.value, c.ny-5.ensures.value) at c.min.ensures)

pub returns-clause-within : goal.returns-clause-within
returns-clause-within c =
    let g = c.args.sizes.now in
    let few = rw (c.ny-4.ensures.value, c.ny-5.ensures.value) at c.min.ensures in
    let h = c.sizes-stored.ensures.volume.inner.y.least in
    rows_within g.ny g.nz c.args.row (omega (arith, ap (λ (g : Grid). g.ny) c.requires.sizes)) c.requires.row c.min.result (omega (arith, few))
