-- Where an edge is crossed, by the samples at its ends.
use Rattle.std.proofs.Common.{◌≡◌, ◌∙◌, ℕ, ◌+◌, ◌*◌, ◌/◌, ◌<◌, true, ℤ, pos, negsuc, ◌-ℤ◌, nat_abs, refl, sym, ap₂, arith}
use Rattle.std.proofs.lemmas.Int.{ints}
use Rattle.std.proofs.Math.Nat.{mul-div-mul_left}
use Rattle.iso_defs.specs.Place.{place}
use Rattle.iso_defs.specs.Grid.{differ, is_above}
use Rattle.iso_base.specs.Volume.{is_above_level, shifted}

module _ (low high level : ℤ) (apart : differ (is_above_level low level) (is_above_level high level) ≡ true) where
  abbrev part : ℕ
  part = nat_abs (shifted low level)

  -- how far the samples are apart
  abbrev whole : ℕ
  whole = nat_abs (low -ℤ high)

  -- the shifted values are a thousand times as far
  both : (a b : ℤ) → a ≡ shifted low level → b ≡ shifted high level → differ (is_above a) (is_above b) ≡ true → nat_abs a + nat_abs b ≡ 1000 * whole
  both (pos m) (pos n) ea eb h = absurd (cc)
  both (pos m) (negsuc n) ea eb h = omega (arith, ints, ea, eb)
  both (negsuc m) (pos n) ea eb h = omega (arith, ints, ea, eb)
  both (negsuc m) (negsuc n) ea eb h = absurd (cc)

  pub by_samples : (2 * part + whole) / (2 * whole) ≡ place (shifted low level) (shifted high level)
  by_samples =
      let d : ℕ = part + nat_abs (shifted high level) in
      let far : d ≡ 1000 * whole = both (shifted low level) (shifted high level) refl refl apart in
      let above : 2000 * part + d ≡ 1000 * (2 * part + whole) = omega (arith, far) in
      let below : 2 * d ≡ 1000 * (2 * whole) = omega (arith, far) in
      let thousand : 0 < 1000 = omega arith in
      sym (ap₂ ◌/◌ above below ∙ mul-div-mul_left (2 * part + whole) (2 * whole) thousand)
