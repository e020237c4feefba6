use Rattle.std.proofs.Common.{◌≡◌, ◌+◌, ◌-◌, ◌*◌, ◌≤◌, length, map, All, sym, ap, subst, arith}
use Rattle.std.specs.List.{take-map}
use Rattle.std.proofs.lemmas.List.{length-map}
use Rattle.std.proofs.lemmas.Result.{err_from_is_err_and}
use Rattle.std.proofs.Math.Nat.{mul-le-mul_left}
use Rattle.iso_defs.specs.Grid.{point_count}
use Rattle.iso_base.specs.Volume.{IsOfKind}
use Rattle.unpadded_volume.specs.Unpadded.{inner_samples}
use Rattle.unpadded_volume.proofs.InnerSamples.{each_inner, length-inner_samples}
use Rattle.unpadded_volume.proofs.Pieces.{map_put}
use Rattle.unpadded_volume.proofs.RowsPut.{HasRows, same_kind, rows_none, rows_more, rows_failed, rows_fit, rows_joined, rows_all, rows_end}
use Rattle.unpadded_volume.proofs.raw_file.put_rows.Goals as goal

pub loop-row-init : goal.loop-row-init
loop-row-init g c =
    let t = g.K.Sink.seen c.args.sink.now in
    let none : 0 ≡ 0 * c.args.sizes.now.nx = omega arith in
    subst (HasRows t t c.kind-kind.result (inner_samples c.args.store.now) (map g.T.Packed.value c.args.block.now) 0) none (rows_none _ _ _ _)

pub make_room-requires-clause-each : goal.make_room-requires-clause-each
make_room-requires-clause-each g c =
    subst (All (IsOfKind c.kind-kind.result)) (take-map g.T.Packed.value c.loop-row.held c.loop-row.block) c.loop-row.invariant.each

pub put_packed_samples-requires : goal.put_packed_samples-requires
put_packed_samples-requires g c =
    subst (All (IsOfKind c.kind-kind.result)) (take-map g.T.Packed.value c.loop-row.held c.loop-row.block) c.loop-row.invariant.each

pub returns-in_err-held : goal.returns-in_err-held
returns-in_err-held g c =
    let p = err_from_is_err_and c.from_residual.result c.from_residual.ensures.1 in
    rw p.1 (same_kind _ _ _ _ _ _ c.kind-kind.ensures (rows_failed _ _ _ _ _ _ _ _ _ _ c.loop-row.invariant (rw (← take-map g.T.Packed.value c.loop-row.held c.loop-row.block) at c.in_err-held.ensures.failed)))

pub loop-row-preserved : goal.loop-row-preserved
loop-row-preserved g c =
    let v = c.args.store.now in
    let nx = c.args.sizes.now.nx in
    let row = c.loop-row.row in
    let end = c.copy_rows-end.result in
    let width : c.nx-width.result ≡ nx = c.nx-width.ensures.value in
    let each : All (IsOfKind c.kind-kind.result) (inner_samples v) = subst (λ k. All (IsOfKind k) (inner_samples v)) (sym c.kind-kind.ensures) (each_inner v c.sizes.ensures.volume) in
    let ends : row * nx + (end - row) * nx ≤ length (inner_samples v)
    = omega (
      arith,
      length-inner_samples v,
      ap point_count c.requires.sizes,
      rows_fit nx c.args.sizes.now.ny c.args.sizes.now.nz row end (omega (arith, c.copy_rows-end.ensures.some)) c.copy_rows-end.ensures.within,
    ) in
    let few : nx * (end - row) ≤ nx * 9 = mul-le-mul_left nx (omega (arith, c.copy_rows-end.ensures.few)) in
    let put = rw (← take-map g.T.Packed.value (c.loop-row.held - c.in_ok-held.held) c.loop-row.block) at c.in_ok-held.ensures.put in
    let room = length-map c.loop-row.block g.T.Packed.value in
    let gathered = length-map c.copy_rows-end.new.samples g.T.Packed.value in
    rw (width, map_put g.T.Packed.value)
    (rows_more _ _ _ _ _ (map g.T.Packed.value c.loop-row.block) (map g.T.Packed.value c.copy_rows-end.new.samples) c.loop-row.held c.in_ok-held.held (row * nx) ((end - row) * nx) (end * nx)
    (c.in_ok-held.held + nx * 9 - c.in_ok-held.held) c.loop-row.invariant c.in_ok-held.ensures.held put (omega (arith, c.in_ok-held.ensures.room, width, room))
    (omega (arith, c.copy_rows-end.auto.samples, width, gathered)) (omega (arith, few)) c.copy_rows-end.ensures.value ends each (rows_joined nx row end (omega (arith, c.copy_rows-end.ensures.some))))

pub returns : goal.returns
returns g c =
    let v = c.args.store.now in
    let past = rw (c.ny.ensures.value, c.nz.ensures.value) at c.loop-row-test.false in
    let le : length (inner_samples v) ≤ c.loop-row.row * c.args.sizes.now.nx
    = omega (arith, length-inner_samples v, ap point_count c.requires.sizes, rows_end c.args.sizes.now.nx c.args.sizes.now.ny c.args.sizes.now.nz c.loop-row.row past) in
    same_kind _ _ _ _ _ _ c.kind-kind.ensures (rows_all _ _ _ _ _ _ _ _ _ c.loop-row.invariant le (rw (← take-map g.T.Packed.value c.loop-row.held c.loop-row.block) at c.put_packed_samples.ensures))
