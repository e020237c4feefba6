use Rattle.std.proofs.Common.{◌≡◌, ◌+◌, ◌*◌, ◌∙◌, ap, get_or, length, rules, arith, vec_len}
use Rattle.std.proofs.lemmas.List.{get_or_read}
use Rattle.iso_defs.specs.Grid.{Grid}
use Rattle.mesh_rows.specs.Rows.{row_names}
use Rattle.sample_rows.proofs.RowPlaces.{all_low, edges_here}
use Rattle.sample_rows.proofs.Numbered.{row_low}
use Rattle.sample_rows.proofs.places.count_row.Goals as goal
use Rattle.sample_rows.proofs.places.count_row.Goals.{then-row-len, else-row-len}

pub overflow_cast-end : goal.overflow_cast-end
overflow_cast-end g c =
    let v = (g.H.Heights.leveled c.args.field.now) in
    let places = c.args.places.now in
    let listed : vec_len places.list ≡ length places.list.items = search rules in
    omega (arith, listed, all_low v places c.requires.places, c.sizes-sizes.ensures.leveled.grid.count)

pub overflow_sub-result : goal.overflow_sub-result
overflow_sub-result g c =
    let v = (g.H.Heights.leveled c.args.field.now) in
    let y = c.args.y in
    let z = c.args.z in
    let have = c.requires.places in
    let places = c.args.places.now in
    let ny : c.ny.result ≡ v.grid.ny = c.ny.ensures.value ∙ ap (λ (g : Grid). g.ny) c.sizes-sizes.ensures.value in
    let row : y + c.ny.result * z ≡ y + v.grid.ny * z = ap (λ n. y + n * z) ny in
    let low = row_low v.grid.ny v.grid.nz y z c.requires.y c.requires.z in
    let held : vec_len places.starts ≡ length places.starts.items = search rules in
    let listed : vec_len places.list ≡ length places.list.items = search rules in
    let count : c.len.result ≡ v.grid.ny * v.grid.nz = c.len.ensures ∙ (held ∙ have.count) in
    let first : c.index-2.result.now ≡ get_or places.starts.items (y + v.grid.ny * z) 0
    = get_or_read places.starts.items (y + c.ny.result * z) c.index-2.result.now (omega (arith, have.count, row, low)) c.index-2.ensures 0 ∙ ap (λ r. get_or places.starts.items r 0) row in
    let all : c.if-row-len.end ≡ c.index-2.result.now + length (row_names v y z) = elim c.if-row-len.branch [
      | then-row-len w ↦ edges_here v places y z have c.requires.y c.requires.z c.index-2.result.now c.if-row-len.end first
          (λ more. w.end-is ∙ (get_or_read places.starts.items (y + c.ny.result * z + 1) w.index.result.now (omega (arith, have.count, row, more)) w.index.ensures 0
          ∙ ap (λ r. get_or places.starts.items (r + 1) 0) row))
          (λ all. absurd (omega (arith, all, w.if-row-len.true, count, row)))
      | else-row-len w ↦ edges_here v places y z have c.requires.y c.requires.z c.index-2.result.now c.if-row-len.end first
          (λ more. absurd (omega (arith, more, w.if-row-len.false, count, row)))
          (λ all. w.end-is ∙ (w.len-else-row-len.ensures ∙ listed))
    ] in
    omega (arith, all)

pub returns : goal.returns
returns g c =
    let v = (g.H.Heights.leveled c.args.field.now) in
    let y = c.args.y in
    let z = c.args.z in
    let have = c.requires.places in
    let places = c.args.places.now in
    let ny : c.ny.result ≡ v.grid.ny = c.ny.ensures.value ∙ ap (λ (g : Grid). g.ny) c.sizes-sizes.ensures.value in
    let row : y + c.ny.result * z ≡ y + v.grid.ny * z = ap (λ n. y + n * z) ny in
    let low = row_low v.grid.ny v.grid.nz y z c.requires.y c.requires.z in
    let held : vec_len places.starts ≡ length places.starts.items = search rules in
    let listed : vec_len places.list ≡ length places.list.items = search rules in
    let count : c.len.result ≡ v.grid.ny * v.grid.nz = c.len.ensures ∙ (held ∙ have.count) in
    let first : c.index-2.result.now ≡ get_or places.starts.items (y + v.grid.ny * z) 0
    = get_or_read places.starts.items (y + c.ny.result * z) c.index-2.result.now (omega (arith, have.count, row, low)) c.index-2.ensures 0 ∙ ap (λ r. get_or places.starts.items r 0) row in
    let all : c.if-row-len.end ≡ c.index-2.result.now + length (row_names v y z) = elim c.if-row-len.branch [
      | then-row-len w ↦ edges_here v places y z have c.requires.y c.requires.z c.index-2.result.now c.if-row-len.end first
          (λ more. w.end-is ∙ (get_or_read places.starts.items (y + c.ny.result * z + 1) w.index.result.now (omega (arith, have.count, row, more)) w.index.ensures 0
          ∙ ap (λ r. get_or places.starts.items (r + 1) 0) row))
          (λ all. absurd (omega (arith, all, w.if-row-len.true, count, row)))
      | else-row-len w ↦ edges_here v places y z have c.requires.y c.requires.z c.index-2.result.now c.if-row-len.end first
          (λ more. absurd (omega (arith, more, w.if-row-len.false, count, row)))
          (λ all. w.end-is ∙ (w.len-else-row-len.ensures ∙ listed))
    ] in
    omega (arith, all)
