use Rattle.std.proofs.Common.{arith, All, length, map, take, drop, ◌≡◌, ◌+◌, ◌-◌, ◌∙◌, sym, ap, subst, List, ℤ, ℕ}
use Rattle.iso_base.specs.Points.{index_of}
use Rattle.samples.proofs.Lists.{part}
use Rattle.samples.proofs.list.copy_part.Goals as goal

-- the numbers from a place on, which is that of the point
whole : {X : Type 0} (f : X → ℤ) (xs : List X) (start i n : ℕ) → start ≡ i → map f (take (start + n - start) (drop start xs)) ≡ take n (drop i (map f xs))
whole f xs start i n e = part f xs start n (start + n - start) (size start n) ∙ ap (λ (k : ℕ). take n (drop k (map f xs))) e
  where
    size : (a n : ℕ) → a + n - a ≡ n
    size a n = omega arith

pub copy_all-requires-clause-fits : goal.copy_all-requires-clause-fits
copy_all-requires-clause-fits g c =
    let P : List ℤ → Type 0 = All g.U.Packed.Fits in
    subst P (sym (whole g.T.Packed.value c.args.numbers.now c.index-start.result (index_of c.args.sizes.now c.args.point) (length c.args.into.now) c.index-start.ensures.value)) c.requires.fits

pub returns : goal.returns
returns g c = c.copy_all.ensures ∙ whole g.T.Packed.value c.args.numbers.now c.index-start.result (index_of c.args.sizes.now c.args.point) (length c.args.into.now) c.index-start.ensures.value
