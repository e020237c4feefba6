use Rattle.std.proofs.Common.{◌≡◌, ◌∙◌, ap, arith, rules, w64, to_z, of_z}
use Rattle.std.proofs.lemmas.Int.{to_z-of_z}
use Rattle.iso_base.specs.Volume.{sample}
use Rattle.samples.proofs.Cells.{cell_values_are}
use Rattle.samples.proofs.samples.each_corner.Goals as goal

pub returns : goal.returns
returns g c =
    let s = sample (g.S.Samples.list c.args.samples.now) in
    let e0 : to_z w64 (of_z w64 c.at_point.result) ≡ c.at_point.result = search (rules, to_z-of_z) in
    let e1 : to_z w64 (of_z w64 c.at_point-2.result) ≡ c.at_point-2.result = search (rules, to_z-of_z) in
    let e2 : to_z w64 (of_z w64 c.at_point-3.result) ≡ c.at_point-3.result = search (rules, to_z-of_z) in
    let e3 : to_z w64 (of_z w64 c.at_point-4.result) ≡ c.at_point-4.result = search (rules, to_z-of_z) in
    let e4 : to_z w64 (of_z w64 c.at_point-5.result) ≡ c.at_point-5.result = search (rules, to_z-of_z) in
    let e5 : to_z w64 (of_z w64 c.at_point-6.result) ≡ c.at_point-6.result = search (rules, to_z-of_z) in
    let e6 : to_z w64 (of_z w64 c.at_point-7.result) ≡ c.at_point-7.result = search (rules, to_z-of_z) in
    let e7 : to_z w64 (of_z w64 c.at_point-8.result) ≡ c.at_point-8.result = search (rules, to_z-of_z) in
    cell_values_are c.args.sizes.now s c.args.low.x c.args.low.y c.args.low.z _ _ _ _ _ _ _ _
    (e0 ∙ c.at_point.ensures ∙ ap s (omega arith)) (e1 ∙ c.at_point-2.ensures ∙ ap s (omega arith)) (e2 ∙ c.at_point-3.ensures ∙ ap s (omega arith)) (e3 ∙ c.at_point-4.ensures ∙ ap s (omega arith))
    (e4 ∙ c.at_point-5.ensures ∙ ap s (omega arith)) (e5 ∙ c.at_point-6.ensures ∙ ap s (omega arith)) (e6 ∙ c.at_point-7.ensures ∙ ap s (omega arith)) (e7 ∙ c.at_point-8.ensures ∙ ap s (omega arith))
