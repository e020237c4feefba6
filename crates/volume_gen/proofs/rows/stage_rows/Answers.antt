use Rattle.std.proofs.Common.{◌≡◌, ◌+◌, ◌*◌, ◌<◌, ◌≤◌, ap₂, arith}
use Rattle.std.proofs.lemmas.Result.{err_from_is_err_and}
use Rattle.iso_defs.specs.Grid.{point_count}
use Rattle.volume_gen.specs.Generated.{first_samples}
use Rattle.volume_gen.proofs.Bytes.{more_staged, none_staged, not_staged}
use Rattle.volume_gen.proofs.Runs.{first_begins, first_rest, row_more, rows_within}
use Rattle.volume_gen.proofs.rows.stage_rows.Goals as goal

pub loop-row-init : goal.loop-row-init
loop-row-init g c = none_staged _ _ (first_samples c.args.seed c.args.sizes.now (c.args.sizes.now.nx * 0)) (first_begins c.args.seed c.args.sizes.now (c.args.sizes.now.nx * 0) (omega arith))

pub loop-row-preserved : goal.loop-row-preserved
loop-row-preserved g c =
    let e = c.args.sizes.now in
    let rows : c.ny-ny.result * c.nz.result ≡ e.ny * e.nz = ap₂ (λ a b. a * b) c.ny-ny.ensures.value c.nz.ensures.value in
    let room : c.loop-row.row < e.ny * e.nz = omega (arith, rows, c.loop-row-test.true) in
    more_staged _ _ _ _ _ _ _ _ _ _
    (row_more c.args.seed e c.loop-row.row c.nx-nx.result c.ny-ny.result c.nx-nx.ensures.value c.ny-ny.ensures.value (omega arith) room)
    c.loop-row.invariant c.in_ok-stage_row.ensures

pub returns-in_err-stage_row : goal.returns-in_err-stage_row
returns-in_err-stage_row g c =
    let p = err_from_is_err_and c.from_residual.result c.from_residual.ensures.1 in
    let e = c.args.sizes.now in
    let rows : c.ny-ny.result * c.nz.result ≡ e.ny * e.nz = ap₂ (λ a b. a * b) c.ny-ny.ensures.value c.nz.ensures.value in
    let room : c.loop-row.row < e.ny * e.nz = omega (arith, rows, c.loop-row-test.true) in
    let within : e.nx * (c.loop-row.row + 1) ≤ point_count e = omega (arith, rows_within e.nx (e.ny * e.nz) c.loop-row.row room) in
    rw p.1 (not_staged _ _ _ _ _ _ _ _ _ (first_rest c.args.seed e (e.nx * (c.loop-row.row + 1)) (point_count e) within)
    (more_staged _ _ _ _ _ _ _ _ _ _
    (row_more c.args.seed e c.loop-row.row c.nx-nx.result c.ny-ny.result c.nx-nx.ensures.value c.ny-ny.ensures.value (omega arith) room)
    c.loop-row.invariant c.in_err-stage_row.ensures))
