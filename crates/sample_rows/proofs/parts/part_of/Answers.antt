use Rattle.std.proofs.Common.{◌≡◌, ◌∙◌, ◌+◌, ◌*◌, ap, arith, subst, sym, false}
use Rattle.std.proofs.lemmas.List.{get_or_read}
use Rattle.iso_defs.specs.Grid.{Grid}
use Rattle.sample_rows.specs.declared.parts.RowPart.{RowPart}
use Rattle.sample_rows.specs.Parts.{IsKeptRow, part_at}
use Rattle.sample_rows.proofs.Numbered.{row_low}
use Rattle.sample_rows.proofs.parts.part_of.Goals as goal

pub returns : goal.returns
returns g c =
    let v = g.H.Heights.leveled c.args.field.now in
    let y = c.args.y in
    let z = c.args.z in
    let rows = c.args.rows.now in
    let none : RowPart = record { start = 0; edges = 0; cells = 0; is_whole = false } in
    let ny : c.ny.result ≡ v.grid.ny = c.ny.ensures.value ∙ ap (λ (g : Grid). g.ny) c.sizes.ensures.value in
    let row : y + c.ny.result * z ≡ y + v.grid.ny * z = ap (λ n. y + n * z) ny in
    let low = row_low v.grid.ny v.grid.nz y z c.requires.y c.requires.z in
    let here : c.index.result.now ≡ part_at rows (y + v.grid.ny * z)
    = get_or_read rows.parts.items (y + c.ny.result * z) c.index.result.now (omega (arith, c.requires.rows.count, row, low)) c.index.ensures none ∙ ap (part_at rows) row in
    subst (IsKeptRow v y z rows.list.items) (sym here) (c.requires.rows.each y z c.requires.y c.requires.z low)
