use Rattle.std.proofs.Common.{◌≡◌, ◌*◌, ◌∙◌, ap, arith, subst}
use Rattle.iso_defs.specs.Grid.{Grid}
use Rattle.sample_rows.specs.Kept.{AreKept}
use Rattle.sample_rows.proofs.row_storage.add_slices.Goals as goal

pub returns : goal.returns
returns g c =
    let v = c.args.field.now in
    let nz : c.nz-z-end.result ≡ v.grid.nz = c.nz-z-end.ensures.value ∙ ap (λ (g : Grid). g.nz) c.sizes-sizes.ensures.value in
    let end : c.loop-z.z ≡ v.grid.nz = omega (arith, c.loop-z-test.false, c.loop-z.auto.z-end, nz) in
    subst (λ n. AreKept v n c.loop-z.kept) (ap (λ z. v.grid.ny * z) end) c.loop-z.invariant.kept
