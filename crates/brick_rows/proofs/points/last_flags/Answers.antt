use Rattle.std.proofs.Common.{◌≡◌, ◌-◌, ◌*◌, ◌∙◌, rules, ℤ, List, map, w64, to_z, of_z, ap, min, arith, refl}
use Rattle.std.specs.Prelude.{int_le}
use Rattle.std.proofs.lemmas.Int.{to_z-of_z}
use Rattle.std.proofs.lemmas.List.{length-map}
use Rattle.brick_rows.proofs.FlagRows.{flags_more}
use Rattle.brick_rows.proofs.Heights.{run_count}
use Rattle.brick_rows.proofs.points.last_flags.Goals as goal

pub fill_last-requires-clause-here : goal.fill_last-requires-clause-here
fill_last-requires-clause-here g c = omega (arith, run_count _ _ _ _ _ _ c.point_runs-runs.ensures.here, c.requires.x, c.requires.last, c.requires.flags)

pub fill_last-requires-clause-up : goal.fill_last-requires-clause-up
fill_last-requires-clause-up g c = omega (arith, run_count _ _ _ _ _ _ c.point_runs-runs.ensures.here, run_count _ _ _ _ _ _ c.point_runs-runs.ensures.up)

pub fill_last-requires-clause-far : goal.fill_last-requires-clause-far
fill_last-requires-clause-far g c = omega (arith, run_count _ _ _ _ _ _ c.point_runs-runs.ensures.here, run_count _ _ _ _ _ _ c.point_runs-runs.ensures.far)

pub returns : goal.returns
returns g c =
    let v = c.args.field.now in
    let runs = c.point_runs-runs.result in
    let here : List ℤ = map g.T.Packed.value runs.here.now in
    let up : List ℤ = map g.T.Packed.value runs.up.now in
    let far : List ℤ = map g.T.Packed.value runs.far.now in
    let e : to_z w64 (of_z w64 c.least_above-least.result) ≡ c.least_above-least.result = search (rules, to_z-of_z) in
    (flags_more v c.sizes.ensures.leveled c.args.row.y c.args.row.z c.requires.row.y_low c.requires.row.z_low c.args.x (min 9 (v.grid.nx - 8 * c.args.x))
    (to_z w64 (of_z w64 c.least_above-least.result)) here up far c.args.flags.now c.fill_last.new.flags c.requires.x refl
    c.point_runs-runs.ensures.here c.point_runs-runs.ensures.up c.point_runs-runs.ensures.far
    (λ s. ap (λ l. int_le l s) e ∙ c.least_above-least.ensures s)
    (λ i low near. c.fill_last.ensures.inside i (omega (arith, low, length-map runs.here.now g.T.Packed.value)))
    c.fill_last.ensures.before c.requires.before).all (omega (arith, c.requires.last))
