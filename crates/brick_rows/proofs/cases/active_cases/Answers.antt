use Rattle.std.proofs.Common.{◌+◌, ◌*◌, sym, subst, ◌∙◌, refl, arith}
use Rattle.flat_mesh.specs.Lattice.{heights}
use Rattle.iso_defs.specs.Grid.{Grid}
use Rattle.brick_rows.specs.Named.{IsCellRow}
use Rattle.brick_rows.proofs.Asked.{asked_one}
use Rattle.brick_rows.proofs.Places.{few_bricks}
use Rattle.brick_rows.proofs.CaseRows.{cases_more, is_row, run_length}
use Rattle.brick_rows.proofs.cases.active_cases.Goals as goal

pub overflow_add-bricks : goal.overflow_add-bricks
overflow_add-bricks g c =
    let v = c.args.field.now in
    let row = is_row v c.sizes.ensures.leveled.grid c.args.x c.args.row.y c.args.row.z c.requires.x c.requires.y c.requires.z c.args.row.bricks c.requires.row.bricks in
    omega (arith, row.known, few_bricks v.grid c.sizes.ensures.leveled.grid)

pub row-requires : goal.row-requires
row-requires g c =
    let v = c.args.field.now in
    subst (λ (g : Grid). IsCellRow g (c.args.row.bricks.first + c.args.x) c.args.row.bricks.y c.args.row.bricks.z) (sym c.requires.named.grid)
    (is_row v c.sizes.ensures.leveled.grid c.args.x c.args.row.y c.args.row.z c.requires.x c.requires.y c.requires.z c.args.row.bricks c.requires.row.bricks)

pub fill_run-requires : goal.fill_run-requires
fill_run-requires g c =
    let v = c.args.field.now in
    let len = run_length v c.sizes.ensures.leveled.grid c.args.x c.args.row.y c.args.row.z c.requires.x c.requires.y c.requires.z c.args.row.bricks c.requires.row.bricks
    (g.R.CellRows.named c.args.rows.now) c.requires.named c.requires.active.is c.as_slice.result.now (c.as_slice.ensures.value ∙ c.row.ensures.cases) in
    omega (arith, len, c.requires.cases)

pub returns-clause-cases : goal.returns-clause-cases
returns-clause-cases g c =
    let v = c.args.field.now in
    cases_more v c.sizes.ensures.leveled.grid c.args.x c.args.row.y c.args.row.z c.requires.x c.requires.y c.requires.z c.args.row.bricks c.requires.row.bricks
    (g.R.CellRows.named c.args.rows.now) c.requires.named c.requires.active.is c.as_slice.result.now (c.as_slice.ensures.value ∙ c.row.ensures.cases)
    (8 * c.args.x) c.args.cases.now c.fill_run.new.out refl c.fill_run.ensures.inside c.fill_run.ensures.before c.requires.before

pub returns-clause-most : goal.returns-clause-most
returns-clause-most g c =
    let v = c.args.field.now in
    let one = asked_one v.grid (heights v) (g.R.CellRows.named c.args.rows.now) (c.args.row.bricks.first + c.args.x) c.requires.active.is in
    omega (arith, one, c.row.ensures.most)

pub returns-clause-zeros : goal.returns-clause-zeros
returns-clause-zeros g c = λ k from low.
    let v = c.args.field.now in
    let len = run_length v c.sizes.ensures.leveled.grid c.args.x c.args.row.y c.args.row.z c.requires.x c.requires.y c.requires.z c.args.row.bricks c.requires.row.bricks
    (g.R.CellRows.named c.args.rows.now) c.requires.named c.requires.active.is c.as_slice.result.now (c.as_slice.ensures.value ∙ c.row.ensures.cases) in
    c.fill_run.ensures.behind k (omega (arith, len)) ∙ c.requires.zeros k (omega arith) (omega (arith, low))
