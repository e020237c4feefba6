use Rattle.std.proofs.Common.{◌∙◌, ap, refl, arith}
use Rattle.iso_defs.specs.Grid.{Grid}
use Rattle.brick_rows.specs.Bricks.{first_brick}
use Rattle.brick_rows.proofs.NextBricks.{row_in_slice, row_marked}
use Rattle.brick_rows.proofs.active.ActiveRow.mark_anew.Goals as goal

pub overflow_sub-self : goal.overflow_sub-self
overflow_sub-self c =
    let v = c.args.field.now in
    let first = c.of-row.ensures.first ∙ ap (λ (g : Grid). first_brick g c.args.y c.args.z) c.sizes-sizes.ensures.value in
    omega (arith, first, c.mark_slice.ensures.first, (row_in_slice v c.sizes-sizes.ensures.leveled.grid c.args.y c.args.z c.requires.y c.requires.z).0)

pub returns-clause-marked : goal.returns-clause-marked
returns-clause-marked c =
    let v = c.args.field.now in
    let first = c.of-row.ensures.first ∙ ap (λ (g : Grid). first_brick g c.args.y c.args.z) c.sizes-sizes.ensures.value in
    row_marked v c.sizes-sizes.ensures.leveled.grid c.mark_slice.new.slice c.args.y c.args.z c.of-row.result.first _ c.requires.y c.requires.z
    c.mark_slice.ensures.marked c.mark_slice.ensures.first first refl
