use Rattle.std.proofs.Common.{◌≡◌, ◌+◌, ◌-◌, ◌*◌, ◌∙◌, drop, get_or, length, take, ap, arith}
use Rattle.std.proofs.lemmas.List.{get_or_read}
use Rattle.iso_defs.specs.Grid.{Grid}
use Rattle.sample_rows.proofs.RowPlaces.{row_few, row_part}
use Rattle.sample_rows.proofs.Numbered.{row_low}
use Rattle.sample_rows.proofs.places.place_row.Goals as goal

pub overflow_add-result : goal.overflow_add-result
overflow_add-result g c =
    let v = (g.H.Heights.leveled c.args.field.now) in
    omega (arith, c.requires.count, row_few v c.args.y c.args.z, c.sizes-sizes.ensures.leveled.grid.x.most)

pub slice_bounds-result-end : goal.slice_bounds-result-end
slice_bounds-result-end g c =
    let v = (g.H.Heights.leveled c.args.field.now) in
    let y = c.args.y in
    let z = c.args.z in
    let starts = c.args.places.now.starts.items in
    let a = c.index.result.now in
    let ny : c.ny.result ≡ v.grid.ny = c.ny.ensures.value ∙ ap (λ (g : Grid). g.ny) c.sizes-sizes.ensures.value in
    let row : y + c.ny.result * z ≡ y + v.grid.ny * z = ap (λ n. y + n * z) ny in
    let low = row_low v.grid.ny v.grid.nz y z c.requires.y c.requires.z in
    let start : a ≡ get_or starts (y + v.grid.ny * z) 0
    = get_or_read starts (y + c.ny.result * z) a (omega (arith, c.requires.places.count, row, low)) c.index.ensures 0 ∙ ap (λ r. get_or starts r 0) row in
    let found = row_part v c.args.places.now y z a (a + c.args.count) c.requires.places c.requires.y c.requires.z start (ap (λ n. a + n) c.requires.count) in
    omega (arith, found.within, ap length c.deref.ensures.value)

pub returns : goal.returns
returns g c =
    let v = (g.H.Heights.leveled c.args.field.now) in
    let y = c.args.y in
    let z = c.args.z in
    let starts = c.args.places.now.starts.items in
    let a = c.index.result.now in
    let ny : c.ny.result ≡ v.grid.ny = c.ny.ensures.value ∙ ap (λ (g : Grid). g.ny) c.sizes-sizes.ensures.value in
    let row : y + c.ny.result * z ≡ y + v.grid.ny * z = ap (λ n. y + n * z) ny in
    let low = row_low v.grid.ny v.grid.nz y z c.requires.y c.requires.z in
    let start : a ≡ get_or starts (y + v.grid.ny * z) 0
    = get_or_read starts (y + c.ny.result * z) a (omega (arith, c.requires.places.count, row, low)) c.index.ensures 0 ∙ ap (λ r. get_or starts r 0) row in
    let found = row_part v c.args.places.now y z a (a + c.args.count) c.requires.places c.requires.y c.requires.z start (ap (λ n. a + n) c.requires.count) in
    ap (λ l. take (a + c.args.count - a) (drop a l)) c.deref.ensures.value ∙ found.part
