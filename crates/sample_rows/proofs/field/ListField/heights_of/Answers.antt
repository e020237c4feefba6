use Rattle.std.proofs.Common.{◌≡◌, ◌<◌, ◌^◌, ◌∙◌, sym, subst, arith, rules, ℤ, w64, to_z, of_z, unsigned_abs}
use Rattle.std.proofs.lemmas.Int.{to_z-of_z}
use Rattle.flat_mesh.proofs.CellCase.{all_eight}
use Rattle.sample_rows.proofs.Corners.{eight_shifted}
use Rattle.sample_rows.proofs.field.ListField.heights_of.Goals as goal

pub returns-clause-values : goal.returns-clause-values
returns-clause-values g c =
    let e0 : to_z w64 (of_z w64 c.height_of.result) ≡ c.height_of.result = search (rules, to_z-of_z) in
    let e1 : to_z w64 (of_z w64 c.height_of-2.result) ≡ c.height_of-2.result = search (rules, to_z-of_z) in
    let e2 : to_z w64 (of_z w64 c.height_of-3.result) ≡ c.height_of-3.result = search (rules, to_z-of_z) in
    let e3 : to_z w64 (of_z w64 c.height_of-4.result) ≡ c.height_of-4.result = search (rules, to_z-of_z) in
    let e4 : to_z w64 (of_z w64 c.height_of-5.result) ≡ c.height_of-5.result = search (rules, to_z-of_z) in
    let e5 : to_z w64 (of_z w64 c.height_of-6.result) ≡ c.height_of-6.result = search (rules, to_z-of_z) in
    let e6 : to_z w64 (of_z w64 c.height_of-7.result) ≡ c.height_of-7.result = search (rules, to_z-of_z) in
    let e7 : to_z w64 (of_z w64 c.height_of-8.result) ≡ c.height_of-8.result = search (rules, to_z-of_z) in
    eight_shifted c.args.self.now.level c.args.corners.now _ _ _ _ _ _ _ _ (omega arith)
    (e0 ∙ c.height_of.ensures.value) (e1 ∙ c.height_of-2.ensures.value) (e2 ∙ c.height_of-3.ensures.value) (e3 ∙ c.height_of-4.ensures.value) (e4 ∙ c.height_of-5.ensures.value) (e5 ∙ c.height_of-6.ensures.value) (e6 ∙ c.height_of-7.ensures.value) (e7 ∙ c.height_of-8.ensures.value)

pub returns-clause-bound : goal.returns-clause-bound
returns-clause-bound g c =
    let P = λ (v : ℤ). unsigned_abs v < 2 ^ 44 in
    let e0 : to_z w64 (of_z w64 c.height_of.result) ≡ c.height_of.result = search (rules, to_z-of_z) in
    let e1 : to_z w64 (of_z w64 c.height_of-2.result) ≡ c.height_of-2.result = search (rules, to_z-of_z) in
    let e2 : to_z w64 (of_z w64 c.height_of-3.result) ≡ c.height_of-3.result = search (rules, to_z-of_z) in
    let e3 : to_z w64 (of_z w64 c.height_of-4.result) ≡ c.height_of-4.result = search (rules, to_z-of_z) in
    let e4 : to_z w64 (of_z w64 c.height_of-5.result) ≡ c.height_of-5.result = search (rules, to_z-of_z) in
    let e5 : to_z w64 (of_z w64 c.height_of-6.result) ≡ c.height_of-6.result = search (rules, to_z-of_z) in
    let e6 : to_z w64 (of_z w64 c.height_of-7.result) ≡ c.height_of-7.result = search (rules, to_z-of_z) in
    let e7 : to_z w64 (of_z w64 c.height_of-8.result) ≡ c.height_of-8.result = search (rules, to_z-of_z) in
    all_eight P _ _ _ _ _ _ _ _
    (subst P (sym e0) c.height_of.ensures.bound) (subst P (sym e1) c.height_of-2.ensures.bound) (subst P (sym e2) c.height_of-3.ensures.bound) (subst P (sym e3) c.height_of-4.ensures.bound) (subst P (sym e4) c.height_of-5.ensures.bound) (subst P (sym e5) c.height_of-6.ensures.bound) (subst P (sym e6) c.height_of-7.ensures.bound) (subst P (sym e7) c.height_of-8.ensures.bound)
