use Rattle.std.proofs.Common.{◌≡◌, ◌∙◌, ◌∷◌, ◌++◌, ◌+◌, ◌*◌, ◌/◌, ◌%◌, ℕ, [], ap, ap₂, arith, length, sym, length-append}
use Rattle.brick_mesh.specs.Block.{IsCell}
use Rattle.brick_mesh.proofs.RowRuns.{cell_there}
use Rattle.brick_mesh.proofs.Runs.{first_long, first_more, first_none, plain_case}
use Rattle.brick_mesh.proofs.entries.push_plain.Goals as goal

pub push-requires : goal.push-requires
push-requires g c = omega (arith, ap length c.loop-x.invariant.cases, first_long c.args.block.now (c.args.row % 8) (c.args.row / 8) c.loop-x.x)

pub loop-x-init : goal.loop-x-init
loop-x-init g c = record {
  cases = c.requires.none ∙ sym (first_none c.args.block.now (c.args.row % 8) (c.args.row / 8));
  counted = omega (arith, ap length c.requires.none);
}

pub loop-x-preserved : goal.loop-x-preserved
loop-x-preserved g c =
    let b = c.args.block.now in
    let x : ℕ = c.loop-x.x in
    let cell : ℕ = 8 * c.args.row + x in
    let at : cell ≡ x + 8 * (c.args.row % 8 + 8 * (c.args.row / 8)) = omega arith in
    let is : IsCell b cell = cell_there b c.args.row x c.requires.row (omega arith) c.requires.there (omega arith) in
    record {
      cases = c.push.ensures.items
          ∙ ap₂ (λ l case. l ++ case ∷ []) c.loop-x.invariant.cases (c.number.ensures.value ∙ c.classify_with.ensures.number ∙ plain_case b cell _ (c.requires.plain x (omega arith)) (c.requires.signs x (omega arith) is))
          ∙ sym (first_more b (c.args.row % 8) (c.args.row / 8) x cell (omega arith) (omega arith) at);
      counted = omega (arith, c.classify_with.ensures.counted, c.loop-x.invariant.counted, ap length c.push.ensures.items ∙ length-append c.loop-x.rows.items (c.number.result ∷ []));
    }
