use Rattle.std.proofs.Common.{arith, rules, inl, inr, min, eq-zero-or-pos, ◌≡◌, ◌∙◌, ◌+◌, ◌-◌, ◌*◌, ◌<◌, ℕ, length, map, sym, ap, subst, to_z, of_z, w64}
use Rattle.std.proofs.lemmas.Bool.{cases_lt}
use Rattle.std.proofs.lemmas.Int.{to_z-of_z}
use Rattle.iso_defs.specs.Grid.{index}
use Rattle.iso_base.specs.Points.{index_of}
use Rattle.iso_base.specs.Volume.{sample}
use Rattle.padded_samples.specs.PaddedSlabs.{in_both}
use Rattle.padded_samples.specs.Pads.{InPad, IsInnerRow}
use Rattle.padded_samples.proofs.PadRows.{after_part, before_part, inner_part}
use Rattle.padded_samples.proofs.Parts.{along_part}
use Rattle.padded_samples.proofs.slab.PaddedSlab.copy_ends.Goals as goal

pub fill_pad-requires-clause-fits : goal.fill_pad-requires-clause-fits
fill_pad-requires-clause-fits g c = λ some.
    let p = in_both c.args.self.now in
    let q = c.args.row in
    let n = length c.args.into.now in
    let same : p.grid ≡ c.self.inside.sizes = sym (ap (λ (r : InPad). r.grid) (ap in_both c.self.view_is)) in
    let wide : c.nx.result ≡ p.grid.nx = c.nx.ensures.value ∙ ap (λ (r : InPad). r.grid.nx) (ap in_both c.self.view_is) in
    let back : to_z w64 (of_z w64 c.self.inside.pad) ≡ c.self.inside.pad = search (rules, to_z-of_z) in
    let row : ℕ = c.args.point.y + (p.grid.ny + 2) * c.args.point.z in
    let is : IsInnerRow p row (index_of p.grid q) = c.requires.inner in
    let low : 0 < n = omega (arith, some, c.points_before-first.ensures.most) in
    let at = before_part p c.args.point.x c.args.point.y c.args.point.z (index_of p.grid q) n c.points_before-first.result c.min-last.result 0 is c.requires.row low
    c.points_before-first.ensures.first c.points_before-first.ensures.none (omega (arith, c.min-last.ensures, wide)) some in
    subst g.T.Packed.Fits (at ∙ sym (back ∙ ap (λ (r : InPad). r.pad) (ap in_both c.self.view_is))) (c.requires.fits 0 low)

pub fill_pad-requires-2-clause-fits : goal.fill_pad-requires-2-clause-fits
fill_pad-requires-2-clause-fits g c = λ some.
    let p = in_both c.args.self.now in
    let q = c.args.row in
    let n = length c.args.into.now in
    let same : p.grid ≡ c.self.inside.sizes = sym (ap (λ (r : InPad). r.grid) (ap in_both c.self.view_is)) in
    let wide : c.nx.result ≡ p.grid.nx = c.nx.ensures.value ∙ ap (λ (r : InPad). r.grid.nx) (ap in_both c.self.view_is) in
    let back : to_z w64 (of_z w64 c.self.inside.pad) ≡ c.self.inside.pad = search (rules, to_z-of_z) in
    let row : ℕ = c.args.point.y + (p.grid.ny + 2) * c.args.point.z in
    let is : IsInnerRow p row (index_of p.grid q) = c.requires.inner in
    let at = after_part p c.args.point.x c.args.point.y c.args.point.z (index_of p.grid q) n c.points_before-first.result c.min-last.result c.min-last.result is c.requires.row some
    c.points_before-first.ensures.first c.points_before-first.ensures.none (omega (arith, c.min-last.ensures, wide)) (omega arith) in
    subst g.T.Packed.Fits (at ∙ sym (back ∙ ap (λ (r : InPad). r.pad) (ap in_both c.self.view_is))) (c.requires.fits c.min-last.result some)

pub copy_inside-requires-clause-fits : goal.copy_inside-requires-clause-fits
copy_inside-requires-clause-fits g c = λ i low.
    let p = in_both c.args.self.now in
    let q = c.args.row in
    let n = length c.args.into.now in
    let first = c.points_before-first.result in
    let same : p.grid ≡ c.self.inside.sizes = sym (ap (λ (r : InPad). r.grid) (ap in_both c.self.view_is)) in
    let wide : c.nx.result ≡ p.grid.nx = c.nx.ensures.value ∙ ap (λ (r : InPad). r.grid.nx) (ap in_both c.self.view_is) in
    let row : ℕ = c.args.point.y + (p.grid.ny + 2) * c.args.point.z in
    let is : IsInnerRow p row (index_of p.grid q) = c.requires.inner in
    let begun = c.requires.begun in
    let within : first + i < n = omega (arith, low, c.min-last.ensures) in
    let some : 0 < c.args.point.x + first = elim (eq-zero-or-pos c.args.point.x) [
      | inl e ↦ omega (arith, c.points_before-first.ensures.first e (omega (arith, within)))
      | inr s ↦ omega (arith, s)
    ] in
    let at = inner_part p c.args.point.x c.args.point.y c.args.point.z (index_of p.grid q) n first c.min-last.result (first + i) is c.requires.row within
    c.points_before-first.ensures.first c.points_before-first.ensures.none (omega (arith, c.min-last.ensures, wide)) (omega arith) (omega (arith, low)) in
    subst g.T.Packed.Fits (at ∙ ap (sample p.samples) (along_part p.grid c.self.inside.sizes q c.args.point.x first i same begun.1 some)
    ∙ sym (ap (λ (r : InPad). sample r.samples (index c.self.inside.sizes (c.args.point.x + first - 1) q.y q.z + i)) (ap in_both c.self.view_is))) (c.requires.fits (first + i) within)

pub returns-then-first-last : goal.returns-then-first-last
returns-then-first-last g c = λ i low.
    let p = in_both c.args.self.now in
    let q = c.args.row in
    let x = c.args.point.x in
    let y = c.args.point.y in
    let z = c.args.point.z in
    let n = length c.args.into.now in
    let first = c.points_before-first.result in
    let last = c.min-last.result in
    let same : p.grid ≡ c.self.inside.sizes = sym (ap (λ (r : InPad). r.grid) (ap in_both c.self.view_is)) in
    let wide : c.nx.result ≡ p.grid.nx = c.nx.ensures.value ∙ ap (λ (r : InPad). r.grid.nx) (ap in_both c.self.view_is) in
    let back : to_z w64 (of_z w64 c.self.inside.pad) ≡ c.self.inside.pad = search (rules, to_z-of_z) in
    let row : ℕ = y + (p.grid.ny + 2) * z in
    let is : IsInnerRow p row (index_of p.grid q) = c.requires.inner in
    let begun = c.requires.begun in
    let ends : last ≡ min (p.grid.nx + 1 - x) n = omega (arith, c.min-last.ensures, wide) in
    let pad_is = back ∙ ap (λ (r : InPad). r.pad) (ap in_both c.self.view_is) in
    elim (cases_lt i first) [
      | inl before ↦ c.copy_inside.ensures.others i (inl before) ∙ c.fill_pad-2.ensures.others i (inl (omega (arith, before, c.if-first-last.true)))
          ∙ c.fill_pad.ensures.inside i (omega arith) before ∙ pad_is
          ∙ sym (before_part p x y z (index_of p.grid q) n first last i is c.requires.row low c.points_before-first.ensures.first c.points_before-first.ensures.none ends before)
      | inr from ↦ elim (cases_lt i last) [
        | inl inside ↦ (
            let k : ℕ = i - first in
            let at : first + k ≡ i = omega (arith, from) in
            let some : 0 < x + first = elim (eq-zero-or-pos x) [
              | inl e ↦ omega (arith, c.points_before-first.ensures.first e (omega (arith, low)))
              | inr s ↦ omega (arith, s)
            ] in
            ap (λ (j : ℕ). sample (map g.T.Packed.value c.copy_inside.new.into) j) (sym at)
            ∙ c.copy_inside.ensures.inside k (omega (arith, from, inside))
            ∙ ap (λ (r : InPad). sample r.samples (index c.self.inside.sizes (x + first - 1) q.y q.z + k)) (ap in_both c.self.view_is)
            ∙ ap (sample p.samples) (sym (along_part p.grid c.self.inside.sizes q x first k same begun.1 some) ∙ ap (λ (j : ℕ). index_of p.grid q + (x + j - 1)) at)
            ∙ sym (inner_part p x y z (index_of p.grid q) n first last i is c.requires.row low c.points_before-first.ensures.first c.points_before-first.ensures.none ends from inside))
        | inr after ↦ c.copy_inside.ensures.others i (inr (omega (arith, after, c.if-first-last.true))) ∙ c.fill_pad-2.ensures.inside i after low ∙ pad_is
            ∙ sym (after_part p x y z (index_of p.grid q) n first last i is c.requires.row low c.points_before-first.ensures.first c.points_before-first.ensures.none ends after)
      ]
    ]
