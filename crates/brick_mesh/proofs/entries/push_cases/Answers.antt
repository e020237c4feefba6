use Rattle.std.proofs.Common.{◌≡◌, ◌∙◌, ◌∷◌, ◌++◌, ◌+◌, ◌*◌, ◌/◌, ◌%◌, ℕ, [], ap, ap₂, arith, get_or, length, subst, sym, length-append}
use Rattle.iso_defs.specs.Bricks.{bits_of, brick_cell}
use Rattle.iso_defs.specs.Cell.{cell_signs}
use Rattle.brick_mesh.specs.Block.{IsCell, heights}
use Rattle.brick_mesh.specs.Entries.{first_cases}
use Rattle.brick_mesh.proofs.RowRuns.{cell_there}
use Rattle.brick_mesh.proofs.Runs.{first_long, first_more, first_none}
use Rattle.brick_mesh.proofs.entries.push_cases.Goals as goal

pub push-requires : goal.push-requires
push-requires g c = omega (arith, ap length c.loop-x.invariant.cases, first_long c.args.block.now (c.args.row % 8) (c.args.row / 8) c.loop-x.x)

pub loop-x-init : goal.loop-x-init
loop-x-init g c = record {
  cases = c.requires.none ∙ sym (first_none c.args.block.now (c.args.row % 8) (c.args.row / 8));
  counted = omega (arith, ap length c.requires.none);
}

pub case_with-requires-clause-signs : goal.case_with-requires-clause-signs
case_with-requires-clause-signs g c =
    let b = c.args.block.now in
    let x : ℕ = c.loop-x.x in
    let cell : ℕ = 8 * c.from.result + c.from-in-loop-x.result in
    let at : 8 * c.args.row + x ≡ cell = omega arith in
    let is : IsCell b (8 * c.args.row + x) = cell_there b c.args.row x c.requires.row (omega arith) c.requires.there (omega arith) in
    subst (λ k. bits_of 8 (get_or c.args.signs.now x 0) ≡ cell_signs b.grid (heights b) (brick_cell b.grid b.brick k)) at (c.requires.signs x (omega arith) is)

pub loop-x-preserved : goal.loop-x-preserved
loop-x-preserved g c =
    let cell : ℕ = 8 * c.from.result + c.from-in-loop-x.result in
    let at : cell ≡ c.loop-x.x + 8 * (c.args.row % 8 + 8 * (c.args.row / 8)) = omega arith in
    record {
      cases = c.push.ensures.items ∙ ap₂ (λ l case. l ++ case ∷ []) c.loop-x.invariant.cases c.case_with.ensures.value
          ∙ sym (first_more c.args.block.now (c.args.row % 8) (c.args.row / 8) c.loop-x.x cell (omega arith) (omega arith) at);
      counted = omega (arith, c.case_with.ensures.counted, c.loop-x.invariant.counted, ap length c.push.ensures.items ∙ length-append c.loop-x.rows.items (c.case_with.result ∷ []));
    }

pub returns-clause-cases : goal.returns-clause-cases
returns-clause-cases g c = c.loop-x.invariant.cases ∙ ap (first_cases c.args.block.now (c.args.row % 8) (c.args.row / 8)) (omega arith)
