use Rattle.std.proofs.Common.{arith, rules, refl, ◌≡◌, ◌∙◌, ◌+◌, ◌-◌, ◌*◌, ◌<◌, ℕ, IfSome, length, map, sym, ap, subst, to_z, of_z, w64}
use Rattle.std.proofs.lemmas.Int.{to_z-of_z}
use Rattle.iso_defs.specs.Grid.{index, point_count}
use Rattle.iso_base.specs.Points.{IsPoint, index_of}
use Rattle.iso_base.specs.Volume.{sample}
use Rattle.padded_samples.specs.PaddedSlabs.{in_both}
use Rattle.padded_samples.specs.Pads.{InPad, IsInnerRow, IsPadRow}
use Rattle.padded_samples.proofs.PadRows.{inner_part, pad_part}
use Rattle.padded_samples.proofs.Parts.{along_inner}
use Rattle.padded_samples.proofs.slab.PaddedSlab.copy_part.Goals as goal

pub fill_pad-requires-clause-fits : goal.fill_pad-requires-clause-fits
fill_pad-requires-clause-fits g c = λ some.
    let p = in_both c.args.self.now in
    let same : p.grid ≡ c.self.inside.sizes = sym (ap (λ (q : InPad). q.grid) (ap in_both c.self.view_is)) in
    let back : to_z w64 (of_z w64 c.self.inside.pad) ≡ c.self.inside.pad = search (rules, to_z-of_z) in
    let is : IsPadRow p (c.args.point.y + (p.grid.ny + 2) * c.args.point.z) = c.inner_row.ensures.none p same c.in_default.is in
    let at = pad_part p c.args.point.x c.args.point.y c.args.point.z 0 is (omega (arith, c.requires.row, some)) in
    subst g.T.Packed.Fits (at ∙ sym (back ∙ ap (λ (q : InPad). q.pad) (ap in_both c.self.view_is))) (c.requires.fits 0 some)

pub returns-in_default : goal.returns-in_default
returns-in_default g c = λ i low.
    let p = in_both c.args.self.now in
    let same : p.grid ≡ c.self.inside.sizes = sym (ap (λ (q : InPad). q.grid) (ap in_both c.self.view_is)) in
    let back : to_z w64 (of_z w64 c.self.inside.pad) ≡ c.self.inside.pad = search (rules, to_z-of_z) in
    let is : IsPadRow p (c.args.point.y + (p.grid.ny + 2) * c.args.point.z) = c.inner_row.ensures.none p same c.in_default.is in
    c.fill_pad.ensures.inside i (omega arith) low ∙ back ∙ ap (λ (q : InPad). q.pad) (ap in_both c.self.view_is)
    ∙ sym (pad_part p c.args.point.x c.args.point.y c.args.point.z i is (omega (arith, c.requires.row, low)))

pub copy_inside-requires-clause-point : goal.copy_inside-requires-clause-point
copy_inside-requires-clause-point g c =
    let begun = subst (λ o. IfSome o (λ r. (IsPoint c.self.inside.sizes r × (r.x ≡ 0)))) c.in-Some.is c.inner_row.ensures.point in
    record {
      x = omega (arith, c.if-point-eq0.false, c.if-point-max.false, c.max.ensures, c.nx.ensures.value);
      y = begun.0.y;
      z = begun.0.z;
    }

pub copy_inside-requires-clause-fits : goal.copy_inside-requires-clause-fits
copy_inside-requires-clause-fits g c = λ i low.
    let p = in_both c.args.self.now in
    let q = c.in-Some.row in
    let x = c.args.point.x in
    let y = c.args.point.y in
    let z = c.args.point.z in
    let n = length c.args.into.now in
    let same : p.grid ≡ c.self.inside.sizes = sym (ap (λ (r : InPad). r.grid) (ap in_both c.self.view_is)) in
    let wide : c.nx.result ≡ p.grid.nx = c.nx.ensures.value ∙ ap (λ (r : InPad). r.grid.nx) (ap in_both c.self.view_is) in
    let count : length p.samples ≡ point_count p.grid = subst (λ (r : InPad). length r.samples ≡ point_count r.grid) (ap in_both c.self.view_is) c.self.invariant.0.count in
    let row : ℕ = y + (p.grid.ny + 2) * z in
    let is : IsInnerRow p row (index_of p.grid q) = subst (λ o. IfSome o (λ r. IsInnerRow p row (index_of p.grid r))) c.in-Some.is (c.inner_row.ensures.some p same count) in
    let begun = subst (λ o. IfSome o (λ r. (IsPoint c.self.inside.sizes r × (r.x ≡ 0)))) c.in-Some.is c.inner_row.ensures.point in
    let some : 0 < x = omega (arith, c.if-point-eq0.false) in
    let at = inner_part p x y z (index_of p.grid q) n 0 n i is c.requires.row low (λ e h. absurd (omega (arith, e, some))) (λ h. refl)
    (omega (arith, c.if-point-max.false, c.max.ensures, wide)) (omega arith) low in
    let moved : index_of p.grid q + (x + i - 1) ≡ index c.self.inside.sizes (x - 1) q.y q.z + i = along_inner p.grid c.self.inside.sizes q x i same begun.1 some in
    subst g.T.Packed.Fits (at ∙ ap (sample p.samples) moved
    ∙ sym (ap (λ (r : InPad). sample r.samples (index c.self.inside.sizes (x - 1) q.y q.z + i)) (ap in_both c.self.view_is))) (c.requires.fits i low)

pub returns : goal.returns
returns g c = λ i low.
    let p = in_both c.args.self.now in
    let q = c.in-Some.row in
    let x = c.args.point.x in
    let y = c.args.point.y in
    let z = c.args.point.z in
    let n = length c.args.into.now in
    let same : p.grid ≡ c.self.inside.sizes = sym (ap (λ (r : InPad). r.grid) (ap in_both c.self.view_is)) in
    let wide : c.nx.result ≡ p.grid.nx = c.nx.ensures.value ∙ ap (λ (r : InPad). r.grid.nx) (ap in_both c.self.view_is) in
    let count : length p.samples ≡ point_count p.grid = subst (λ (r : InPad). length r.samples ≡ point_count r.grid) (ap in_both c.self.view_is) c.self.invariant.0.count in
    let row : ℕ = y + (p.grid.ny + 2) * z in
    let is : IsInnerRow p row (index_of p.grid q) = subst (λ o. IfSome o (λ r. IsInnerRow p row (index_of p.grid r))) c.in-Some.is (c.inner_row.ensures.some p same count) in
    let begun = subst (λ o. IfSome o (λ r. (IsPoint c.self.inside.sizes r × (r.x ≡ 0)))) c.in-Some.is c.inner_row.ensures.point in
    let some : 0 < x = omega (arith, c.if-point-eq0.false) in
    let moved : index_of p.grid q + (x + i - 1) ≡ index c.self.inside.sizes (x - 1) q.y q.z + i = along_inner p.grid c.self.inside.sizes q x i same begun.1 some in
    ap (λ (j : ℕ). sample (map g.T.Packed.value c.copy_inside.new.into) j) (zero i) ∙ c.copy_inside.ensures.inside i low
    ∙ ap (λ (r : InPad). sample r.samples (index c.self.inside.sizes (x - 1) q.y q.z + i)) (ap in_both c.self.view_is) ∙ ap (sample p.samples) (sym moved)
    ∙ sym (inner_part p x y z (index_of p.grid q) n 0 n i is c.requires.row low (λ e h. absurd (omega (arith, e, some))) (λ h. refl)
    (omega (arith, c.if-point-max.false, c.max.ensures, wide)) (omega arith) low)
  where
    zero : (i : ℕ) → i ≡ 0 + i
    zero i = omega arith

pub copy_ends-requires-clause-inner : goal.copy_ends-requires-clause-inner
copy_ends-requires-clause-inner g c =
    let p = in_both c.args.self.now in
    let q = c.in-Some.row in
    let row : ℕ = c.args.point.y + (p.grid.ny + 2) * c.args.point.z in
    let same : p.grid ≡ c.self.inside.sizes = sym (ap (λ (q : InPad). q.grid) (ap in_both c.self.view_is)) in
    let count : length p.samples ≡ point_count p.grid = subst (λ (r : InPad). length r.samples ≡ point_count r.grid) (ap in_both c.self.view_is) c.self.invariant.0.count in
    subst (λ o. IfSome o (λ r. IsInnerRow p row (index_of p.grid r))) c.in-Some.is (c.inner_row.ensures.some p same count)

pub copy_ends-requires-then-point-max-clause-inner : goal.copy_ends-requires-then-point-max-clause-inner
copy_ends-requires-then-point-max-clause-inner g c =
    let p = in_both c.args.self.now in
    let q = c.in-Some.row in
    let row : ℕ = c.args.point.y + (p.grid.ny + 2) * c.args.point.z in
    let same : p.grid ≡ c.self.inside.sizes = sym (ap (λ (q : InPad). q.grid) (ap in_both c.self.view_is)) in
    let count : length p.samples ≡ point_count p.grid = subst (λ (r : InPad). length r.samples ≡ point_count r.grid) (ap in_both c.self.view_is) c.self.invariant.0.count in
    subst (λ o. IfSome o (λ r. IsInnerRow p row (index_of p.grid r))) c.in-Some.is (c.inner_row.ensures.some p same count)
