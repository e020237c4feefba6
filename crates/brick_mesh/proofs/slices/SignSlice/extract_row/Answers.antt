use Rattle.std.proofs.Common.{◌∙◌, ◌+◌, ◌*◌, ◌-◌, ◌/◌, ◌%◌, ℕ, ap, arith, length}
use Rattle.iso_defs.specs.Bricks.{row_cases}
use Rattle.brick_store.specs.Holding.{points_along}
use Rattle.brick_mesh.specs.Block.{BrickAt, heights}
use Rattle.brick_mesh.proofs.Runs.{first_long, first_of_row}
use Rattle.brick_mesh.proofs.slices.SignSlice.extract_row.Goals as goal

pub returns-then-has_only-clause-cases : goal.returns-then-has_only-clause-cases
returns-then-has_only-clause-cases g c =
    let b = c.of-block.result in
    c.extract_plain.ensures.cases
    ∙ (first_of_row b c.args.y c.args.self.now.z (c.args.y + 8 * c.args.self.now.z) 8 (omega arith) c.requires.y (omega (arith, ap (λ (b : BrickAt). points_along b.grid b.brick 0) c.of-block.ensures ∙ c.requires.signed.whole c.if-self.true))
    ∙ ap (λ (b : BrickAt). row_cases b.grid (heights b) b.brick c.args.y c.args.self.now.z) c.of-block.ensures)

pub returns-then-has_only-clause-bound : goal.returns-then-has_only-clause-bound
returns-then-has_only-clause-bound g c =
    let b = c.of-block.result in
    let row : ℕ = c.args.y + 8 * c.args.self.now.z in
    omega (arith, c.extract_plain.ensures.counted, ap length c.extract_plain.ensures.cases, first_long b (row % 8) (row / 8) 8)

pub returns-then-has_only-2-clause-cases : goal.returns-then-has_only-2-clause-cases
returns-then-has_only-2-clause-cases g c =
    let b = c.of-block.result in
    c.extract_plain-then-has_only-2.ensures.cases
    ∙ (first_of_row b c.args.y c.args.self.now.z (c.args.y + 8 * c.args.self.now.z) 8 (omega arith) c.requires.y (omega (arith, ap (λ (b : BrickAt). points_along b.grid b.brick 0) c.of-block.ensures ∙ c.requires.signed.whole c.if-self-2.true))
    ∙ ap (λ (b : BrickAt). row_cases b.grid (heights b) b.brick c.args.y c.args.self.now.z) c.of-block.ensures)

pub returns-then-has_only-2-clause-bound : goal.returns-then-has_only-2-clause-bound
returns-then-has_only-2-clause-bound g c =
    let b = c.of-block.result in
    let row : ℕ = c.args.y + 8 * c.args.self.now.z in
    omega (arith, c.extract_plain-then-has_only-2.ensures.counted, ap length c.extract_plain-then-has_only-2.ensures.cases, first_long b (row % 8) (row / 8) 8)

pub returns-then-are_plain-clause-cases : goal.returns-then-are_plain-clause-cases
returns-then-are_plain-clause-cases g c =
    let b = c.of-block.result in
    c.extract_plain-then-are_plain.ensures.cases
    ∙ (first_of_row b c.args.y c.args.self.now.z (c.args.y + 8 * c.args.self.now.z) 8 (omega arith) c.requires.y (omega (arith, ap (λ (b : BrickAt). points_along b.grid b.brick 0) c.of-block.ensures ∙ c.requires.signed.whole c.if-self-3.true))
    ∙ ap (λ (b : BrickAt). row_cases b.grid (heights b) b.brick c.args.y c.args.self.now.z) c.of-block.ensures)

pub returns-then-are_plain-clause-bound : goal.returns-then-are_plain-clause-bound
returns-then-are_plain-clause-bound g c =
    let b = c.of-block.result in
    let row : ℕ = c.args.y + 8 * c.args.self.now.z in
    omega (arith, c.extract_plain-then-are_plain.ensures.counted, ap length c.extract_plain-then-are_plain.ensures.cases, first_long b (row % 8) (row / 8) 8)

pub returns-else-self-3-clause-cases : goal.returns-else-self-3-clause-cases
returns-else-self-3-clause-cases g c =
    let b = c.of-block.result in
    c.extract_apart.ensures.cases
    ∙ (first_of_row b c.args.y c.args.self.now.z (c.args.y + 8 * c.args.self.now.z) (points_along b.grid b.brick 0 - 1) (omega arith) c.requires.y (omega arith)
    ∙ ap (λ (b : BrickAt). row_cases b.grid (heights b) b.brick c.args.y c.args.self.now.z) c.of-block.ensures)

pub returns-else-self-3-clause-bound : goal.returns-else-self-3-clause-bound
returns-else-self-3-clause-bound g c =
    let b = c.of-block.result in
    let row : ℕ = c.args.y + 8 * c.args.self.now.z in
    omega (arith, c.extract_apart.ensures.counted, ap length c.extract_apart.ensures.cases, first_long b (row % 8) (row / 8) (points_along b.grid b.brick 0 - 1))
