use Rattle.std.proofs.Common.{◌≡◌, ◌-◌, ◌*◌, ◌∙◌, rules, ℤ, List, map, w64, to_z, of_z, ap, min, arith, refl}
use Rattle.std.specs.Prelude.{int_le}
use Rattle.std.proofs.lemmas.Int.{to_z-of_z}
use Rattle.brick_rows.proofs.FlagRows.{flags_more}
use Rattle.brick_rows.proofs.Heights.{run_count}
use Rattle.brick_rows.proofs.points.brick_flags.Goals as goal

pub fill_eight-requires-clause-here : goal.fill_eight-requires-clause-here
fill_eight-requires-clause-here g c = omega (arith, run_count _ _ _ _ _ _ c.full_runs-runs.ensures.here, c.requires.x)

pub fill_eight-requires-clause-up : goal.fill_eight-requires-clause-up
fill_eight-requires-clause-up g c = omega (arith, run_count _ _ _ _ _ _ c.full_runs-runs.ensures.here, run_count _ _ _ _ _ _ c.full_runs-runs.ensures.up)

pub fill_eight-requires-clause-far : goal.fill_eight-requires-clause-far
fill_eight-requires-clause-far g c = omega (arith, run_count _ _ _ _ _ _ c.full_runs-runs.ensures.here, run_count _ _ _ _ _ _ c.full_runs-runs.ensures.far)

pub returns-clause-flags : goal.returns-clause-flags
returns-clause-flags g c =
    let v = c.args.field.now in
    let runs = c.full_runs-runs.result in
    let here : List ℤ = map g.T.Packed.value runs.here.now in
    let up : List ℤ = map g.T.Packed.value runs.up.now in
    let far : List ℤ = map g.T.Packed.value runs.far.now in
    let e : to_z w64 (of_z w64 c.least_above-least.result) ≡ c.least_above-least.result = search (rules, to_z-of_z) in
    (flags_more v c.sizes.ensures.leveled c.args.row.y c.args.row.z c.requires.row.y_low c.requires.row.z_low c.args.x (min 9 (v.grid.nx - 8 * c.args.x))
    (to_z w64 (of_z w64 c.least_above-least.result)) here up far c.args.flags.now c.fill_eight.new.flags (omega (arith, c.requires.x)) refl
    c.full_runs-runs.ensures.here c.full_runs-runs.ensures.up c.full_runs-runs.ensures.far
    (λ s. ap (λ l. int_le l s) e ∙ c.least_above-least.ensures s)
    (λ i low near. c.fill_eight.ensures.inside i (near c.requires.x))
    c.fill_eight.ensures.before c.requires.before).first

pub returns-clause-zeros : goal.returns-clause-zeros
returns-clause-zeros g c = λ k from low. c.fill_eight.ensures.behind k (omega (arith, from)) ∙ c.requires.zeros k (omega (arith, from)) (omega (arith, low))
