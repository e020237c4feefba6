use Rattle.std.proofs.Common.{arith, rules, ◌≡◌, ◌∙◌, ◌+◌, ◌-◌, ◌*◌, IfSome, length, sym, ap, subst, to_z, of_z, w64}
use Rattle.std.proofs.lemmas.Int.{to_z-of_z}
use Rattle.iso_defs.specs.Grid.{index, point_count}
use Rattle.iso_base.specs.Points.{IsPoint, index_of}
use Rattle.iso_base.specs.Volume.{sample}
use Rattle.padded_samples.specs.PaddedSlabs.{in_both}
use Rattle.padded_samples.specs.Pads.{InPad, IsInnerRow}
use Rattle.padded_samples.proofs.PadRows.{at_first, at_inner, at_last, in_pad_row}
use Rattle.padded_samples.proofs.Parts.{along}
use Rattle.padded_samples.proofs.slab.PaddedSlab.get.Goals as goal

pub returns-in_default : goal.returns-in_default
returns-in_default g c =
    let p = in_both c.args.self.now in
    let same : p.grid ≡ c.self.inside.sizes = sym (ap (λ (q : InPad). q.grid) (ap in_both c.self.view_is)) in
    let back : to_z w64 (of_z w64 c.self.inside.pad) ≡ c.self.inside.pad = search (rules, to_z-of_z) in
    let is = c.inner_row.ensures.none p same c.in_default.is in
    back ∙ ap (λ (q : InPad). q.pad) (ap in_both c.self.view_is) ∙ sym (in_pad_row p c.args.point.x c.args.point.y c.args.point.z is c.requires.x)

pub returns : goal.returns
returns g c =
    let p = in_both c.args.self.now in
    let q = c.in-Some.row in
    let x = c.args.point.x in
    let same : p.grid ≡ c.self.inside.sizes = sym (ap (λ (q : InPad). q.grid) (ap in_both c.self.view_is)) in
    let wide : c.nx.result ≡ p.grid.nx = c.nx.ensures.value ∙ ap (λ (q : InPad). q.grid.nx) (ap in_both c.self.view_is) in
    let count : length p.samples ≡ point_count p.grid = subst (λ (q : InPad). length q.samples ≡ point_count q.grid) (ap in_both c.self.view_is) c.self.invariant.0.count in
    let back : to_z w64 (of_z w64 c.at_point.result) ≡ c.at_point.result = search (rules, to_z-of_z) in
    let is : IsInnerRow p (c.args.point.y + (p.grid.ny + 2) * c.args.point.z) (index_of p.grid q)
    = subst (λ o. IfSome o (λ r. IsInnerRow p (c.args.point.y + (p.grid.ny + 2) * c.args.point.z) (index_of p.grid r))) c.in-Some.is (c.inner_row.ensures.some p same count) in
    let begun = subst (λ o. IfSome o (λ r. (IsPoint c.self.inside.sizes r × (r.x ≡ 0)))) c.in-Some.is c.inner_row.ensures.point in
    back ∙ c.at_point.ensures ∙ ap (λ (r : InPad). sample r.samples (index c.self.inside.sizes (x - 1) q.y q.z)) (ap in_both c.self.view_is)
    ∙ ap (sample p.samples) (sym (along p.grid c.self.inside.sizes q (x - 1) same begun.1))
    ∙ sym (at_inner p x c.args.point.y c.args.point.z (index_of p.grid q) is (omega (arith, c.if-point-eq0.false)) (omega (arith, c.requires.x, c.if-point-nx.false, wide)))

pub returns-then-point-eq0 : goal.returns-then-point-eq0
returns-then-point-eq0 g c =
    let p = in_both c.args.self.now in
    let q = c.in-Some.row in
    let x = c.args.point.x in
    let same : p.grid ≡ c.self.inside.sizes = sym (ap (λ (q : InPad). q.grid) (ap in_both c.self.view_is)) in
    let count : length p.samples ≡ point_count p.grid = subst (λ (q : InPad). length q.samples ≡ point_count q.grid) (ap in_both c.self.view_is) c.self.invariant.0.count in
    let back : to_z w64 (of_z w64 c.self.inside.pad) ≡ c.self.inside.pad = search (rules, to_z-of_z) in
    let is : IsInnerRow p (c.args.point.y + (p.grid.ny + 2) * c.args.point.z) (index_of p.grid q)
    = subst (λ o. IfSome o (λ r. IsInnerRow p (c.args.point.y + (p.grid.ny + 2) * c.args.point.z) (index_of p.grid r))) c.in-Some.is (c.inner_row.ensures.some p same count) in
    back ∙ ap (λ (q : InPad). q.pad) (ap in_both c.self.view_is) ∙ sym (at_first p x c.args.point.y c.args.point.z (index_of p.grid q) is c.if-point-eq0.true)

pub returns-then-point-nx : goal.returns-then-point-nx
returns-then-point-nx g c =
    let p = in_both c.args.self.now in
    let q = c.in-Some.row in
    let x = c.args.point.x in
    let same : p.grid ≡ c.self.inside.sizes = sym (ap (λ (q : InPad). q.grid) (ap in_both c.self.view_is)) in
    let wide : c.nx.result ≡ p.grid.nx = c.nx.ensures.value ∙ ap (λ (q : InPad). q.grid.nx) (ap in_both c.self.view_is) in
    let count : length p.samples ≡ point_count p.grid = subst (λ (q : InPad). length q.samples ≡ point_count q.grid) (ap in_both c.self.view_is) c.self.invariant.0.count in
    let back : to_z w64 (of_z w64 c.self.inside.pad) ≡ c.self.inside.pad = search (rules, to_z-of_z) in
    let is : IsInnerRow p (c.args.point.y + (p.grid.ny + 2) * c.args.point.z) (index_of p.grid q)
    = subst (λ o. IfSome o (λ r. IsInnerRow p (c.args.point.y + (p.grid.ny + 2) * c.args.point.z) (index_of p.grid r))) c.in-Some.is (c.inner_row.ensures.some p same count) in
    back ∙ ap (λ (q : InPad). q.pad) (ap in_both c.self.view_is) ∙ sym (at_last p x c.args.point.y c.args.point.z (index_of p.grid q) is (omega (arith, c.if-point-nx.true, wide)))
