use Rattle.std.proofs.Common.{◌≡◌, ℕ, ◌-◌, ◌∙◌, List, ap, arith, length, subst, sym}
use Rattle.row_bits.specs.Active.{active_among}
use Rattle.sample_rows.specs.Cases.{AreRowBytes, AreRowCases, HaveRoom}
use Rattle.sample_rows.specs.Lists.{mixed_of}
use Rattle.sample_rows.proofs.MixedRows.{cells_listed}
use Rattle.sample_rows.proofs.lists.list_row.Goals as goal

pub returns-clause-cells : goal.returns-clause-cells
returns-clause-cells g c =
    let v = (g.H.Heights.leveled c.args.field.now) in
    let y = c.args.y in
    let z = c.args.z in
    let bytes : List ℕ = c.deref.result.now in
    let cases : List ℕ = c.deref-2.result.now in
    let count : length cases ≡ v.grid.nx = ap length c.deref-2.ensures.value ∙ c.requires.cases.count in
    cells_listed v y z bytes cases
    (subst (HaveRoom v.grid) (sym c.deref.ensures.value) c.requires.room) c.list_by_bytes.ensures.small
    (subst (AreRowCases v y z) (sym c.deref-2.ensures.value) c.requires.cases)
    (subst (AreRowBytes v y z) (sym c.deref.ensures.value) c.requires.bytes)
    _ _ (omega (arith, c.sizes.ensures.leveled.grid.x.least))
    (c.list_by_bytes.ensures.places ∙ ap (λ n. active_among (mixed_of bytes) 0 (n - 1)) count) c.list_by_bytes.ensures.cases
