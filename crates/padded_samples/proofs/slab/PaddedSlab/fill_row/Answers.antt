use Rattle.std.proofs.Common.{arith, rules, ◌≡◌, ◌∙◌, ◌+◌, ◌*◌, IfSome, ℕ, ap, length, subst, sym, to_z, of_z, w64}
use Rattle.std.proofs.lemmas.Int.{to_z-of_z}
use Rattle.iso_defs.specs.Grid.{Grid, point_count}
use Rattle.iso_base.specs.Points.{index_of}
use Rattle.iso_base.specs.Volume.{sample}
use Rattle.padded_samples.specs.PaddedSlabs.{in_both}
use Rattle.padded_samples.specs.Pads.{InPad, IsInnerRow, IsPadRow}
use Rattle.samples.specs.Signs.{sign_of}
use Rattle.padded_samples.proofs.PadRows.{row_written}
use Rattle.padded_samples.proofs.slab.PaddedSlab.fill_row.Goals as goal

pub returns-clause-inside : goal.returns-clause-inside
returns-clause-inside g c =
    let p = in_both c.args.self.now in
    let q = c.in-Some.row in
    let number : ℕ = c.args.y + (p.grid.ny + 2) * c.args.z in
    let same : p.grid ≡ c.self.inside.sizes = sym (ap (λ (r : InPad). r.grid) (ap in_both c.self.view_is)) in
    let m : c.nx-count.result ≡ p.grid.nx = c.nx-count.ensures.value ∙ ap (λ (r : InPad). r.grid.nx) (ap in_both c.self.view_is) in
    let count : length p.samples ≡ point_count p.grid = subst (λ (r : InPad). length r.samples ≡ point_count r.grid) (ap in_both c.self.view_is) c.self.invariant.0.count in
    let is : IsInnerRow p number (index_of p.grid q) = subst (λ o. IfSome o (λ r. IsInnerRow p number (index_of p.grid r))) c.in-Some.is (c.inner_row.ensures.some p same count) in
    let start : c.index.result ≡ index_of p.grid q = c.index.ensures.value ∙ ap (λ (h : Grid). index_of h q) (sym same) in
    let back : to_z w64 (of_z w64 c.pad.result) ≡ c.pad.result = search (rules, to_z-of_z) in
    row_written (sign_of c.args.level) p number (index_of p.grid q) c.fill_inside.new.into c.args.from c.nx-count.result c.sample_sign-sign.result m is
    (c.sample_sign-sign.ensures ∙ ap (sign_of c.args.level) (back ∙ c.pad.ensures)) (omega (arith, c.requires.room, m, c.fill_inside.auto.into))
    (λ i low. c.fill_inside.ensures.inside i low ∙ ap (λ (r : InPad). sign_of c.args.level (sample r.samples (c.index.result + i))) (ap in_both c.self.view_is)
    ∙ ap (λ (k : ℕ). sign_of c.args.level (sample p.samples (k + i))) start)

pub returns-in_default-clause-inside : goal.returns-in_default-clause-inside
returns-in_default-clause-inside g c = λ i low.
    let p = in_both c.args.self.now in
    let same : p.grid ≡ c.self.inside.sizes = sym (ap (λ (r : InPad). r.grid) (ap in_both c.self.view_is)) in
    let m : c.nx-count.result ≡ p.grid.nx = c.nx-count.ensures.value ∙ ap (λ (r : InPad). r.grid.nx) (ap in_both c.self.view_is) in
    let is : IsPadRow p (c.args.y + (p.grid.ny + 2) * c.args.z) = c.inner_row.ensures.none p same c.in_default.is in
    let back : to_z w64 (of_z w64 c.pad.result) ≡ c.pad.result = search (rules, to_z-of_z) in
    c.repeat_sign.ensures.inside i (omega (arith, low, m)) ∙ c.sample_sign-sign.ensures ∙ ap (sign_of c.args.level) (back ∙ c.pad.ensures ∙ sym (is i low))
