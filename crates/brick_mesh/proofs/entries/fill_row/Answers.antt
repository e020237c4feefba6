use Rattle.std.proofs.Common.{◌≡◌, ◌∙◌, ◌+◌, ◌*◌, ◌-◌, ◌/◌, ◌%◌, ℕ, ap, arith, length, rules, subst}
use Rattle.brick_store.specs.Holding.{points_along}
use Rattle.brick_mesh.specs.Signs.{AreBytes}
use Rattle.brick_mesh.proofs.RowSigns.{only_copies}
use Rattle.brick_mesh.proofs.Runs.{first_long, first_of_row}
use Rattle.brick_mesh.proofs.entries.fill_row.Goals as goal

pub push_plain-requires-then-has_only-2-clause-signs : goal.push_plain-requires-then-has_only-2-clause-signs
push_plain-requires-then-has_only-2-clause-signs g c =
    let signs = c.bytes_among-signs.result in
    let long : length signs ≡ 8 = search rules in
    subst (AreBytes c.args.block.now (c.args.y + 8 * c.args.z)) (only_copies signs 255 long (c.has_only-then-whole-2.ensures c.if-has_only-2.true))
    c.bytes_among-signs.ensures

pub returns-then-has_only-clause-cases : goal.returns-then-has_only-clause-cases
returns-then-has_only-clause-cases g c =
    c.push_plain.ensures.cases ∙ first_of_row c.args.block.now c.args.y c.args.z (c.args.y + 8 * c.args.z) 8 (omega arith) c.requires.row.y_low (omega arith)

pub returns-then-has_only-clause-bound : goal.returns-then-has_only-clause-bound
returns-then-has_only-clause-bound g c =
    let row : ℕ = c.args.y + 8 * c.args.z in
    omega (arith, c.push_plain.ensures.counted, ap length c.push_plain.ensures.cases, first_long c.args.block.now (row % 8) (row / 8) 8)

pub returns-then-has_only-2-clause-cases : goal.returns-then-has_only-2-clause-cases
returns-then-has_only-2-clause-cases g c =
    c.push_plain-then-has_only-2.ensures.cases ∙ first_of_row c.args.block.now c.args.y c.args.z (c.args.y + 8 * c.args.z) 8 (omega arith) c.requires.row.y_low (omega arith)

pub returns-then-has_only-2-clause-bound : goal.returns-then-has_only-2-clause-bound
returns-then-has_only-2-clause-bound g c =
    let row : ℕ = c.args.y + 8 * c.args.z in
    omega (arith, c.push_plain-then-has_only-2.ensures.counted, ap length c.push_plain-then-has_only-2.ensures.cases, first_long c.args.block.now (row % 8) (row / 8) 8)

pub returns-else-whole-2-clause-cases : goal.returns-else-whole-2-clause-cases
returns-else-whole-2-clause-cases g c =
    let b = c.args.block.now in
    c.push_cases.ensures.cases ∙ first_of_row b c.args.y c.args.z (c.args.y + 8 * c.args.z) (points_along b.grid b.brick 0 - 1) (omega arith) c.requires.row.y_low (omega arith)

pub returns-else-whole-2-clause-bound : goal.returns-else-whole-2-clause-bound
returns-else-whole-2-clause-bound g c =
    let b = c.args.block.now in
    let row : ℕ = c.args.y + 8 * c.args.z in
    omega (
      arith,
      c.push_cases.ensures.counted,
      ap length c.push_cases.ensures.cases,
      first_long b (row % 8) (row / 8) (points_along b.grid b.brick 0 - 1),
      c.cells_along_x-whole.ensures.value,
      c.cells_along_x-whole.ensures.bound,
    )
