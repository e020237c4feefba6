-- What the code computes of a volume that is moved is exact.
use Rattle.std.proofs.Common.{◌≡◌, ◌+◌, ◌*◌, ◌<◌, ◌≤◌, ◌^◌, ℤ, pos, ◌+ℤ◌, ◌-ℤ◌, ◌*ℤ◌, FitsSigned, unsigned_abs, ◌∙◌, ap, arith, subst, sym}
use Rattle.std.specs.Int.{w128}
use Rattle.std.proofs.lemmas.Int.{ints, fits_signed_from_abs}
use Rattle.measure_laws.specs.Vectors.{Vector}
use Rattle.measure.specs.Measures.{IsWithin}
use Rattle.measure.proofs.Exact.{abs_sum, abs_times, kept, kept_is}
use Rattle.component_walk.specs.Shares.{off_layer}

module _ (six : ℤ) (area : Vector) (h : unsigned_abs six ≤ 2 ^ 100) (near : IsWithin (2 ^ 80) area) where
  sum_near : unsigned_abs ((area.0 +ℤ area.1) +ℤ area.2) ≤ 2 ^ 80 + 2 ^ 80 + 2 ^ 80
  sum_near = abs_sum (area.0 +ℤ area.1) area.2 (2 ^ 80 + 2 ^ 80) (2 ^ 80) (abs_sum area.0 area.1 (2 ^ 80) (2 ^ 80) near.0 near.1) near.2

  sum_is : kept (kept (kept area.0 +ℤ kept area.1) +ℤ kept area.2) ≡ (area.0 +ℤ area.1) +ℤ area.2
  sum_is =
      let a = kept_is area.0 (let l = near.0 in omega arith) in
      let b = kept_is area.1 (let l = near.1 in omega arith) in
      let c = kept_is area.2 (let l = near.2 in omega arith) in
      let s : unsigned_abs (area.0 +ℤ area.1) ≤ 2 ^ 80 + 2 ^ 80 = abs_sum area.0 area.1 (2 ^ 80) (2 ^ 80) near.0 near.1 in
      let t : unsigned_abs ((area.0 +ℤ area.1) +ℤ area.2) ≤ 2 ^ 80 + 2 ^ 80 + 2 ^ 80 = sum_near in
      let d : kept (kept area.0 +ℤ kept area.1) ≡ area.0 +ℤ area.1 = ap kept (λ i. a i +ℤ b i) ∙ kept_is (area.0 +ℤ area.1) (omega arith) in
      ap kept (λ i. d i +ℤ c i) ∙ kept_is ((area.0 +ℤ area.1) +ℤ area.2) (omega arith)

  times_near : unsigned_abs (pos 1000 *ℤ ((area.0 +ℤ area.1) +ℤ area.2)) ≤ 1000 * (2 ^ 80 + 2 ^ 80 + 2 ^ 80)
  times_near = abs_times (pos 1000) ((area.0 +ℤ area.1) +ℤ area.2) 1000 (2 ^ 80 + 2 ^ 80 + 2 ^ 80) (omega arith) sum_near

  difference : kept six -ℤ kept (pos 1000 *ℤ kept (kept (kept area.0 +ℤ kept area.1) +ℤ kept area.2)) ≡ off_layer six area
  difference =
      let a = kept_is six (omega arith) in
      let l : unsigned_abs (pos 1000 *ℤ ((area.0 +ℤ area.1) +ℤ area.2)) ≤ 1000 * (2 ^ 80 + 2 ^ 80 + 2 ^ 80) = times_near in
      let b : kept (pos 1000 *ℤ kept (kept (kept area.0 +ℤ kept area.1) +ℤ kept area.2)) ≡ pos 1000 *ℤ ((area.0 +ℤ area.1) +ℤ area.2)
      = ap (λ z. kept (pos 1000 *ℤ z)) sum_is ∙ kept_is (pos 1000 *ℤ ((area.0 +ℤ area.1) +ℤ area.2)) (omega arith) in
      λ i. a i -ℤ b i

  moved_near : unsigned_abs (off_layer six area) < 2 ^ 127
  moved_near = apart six (pos 1000 *ℤ ((area.0 +ℤ area.1) +ℤ area.2)) h times_near
    where
      apart : (x y : ℤ) → unsigned_abs x ≤ 2 ^ 100 → unsigned_abs y ≤ 1000 * (2 ^ 80 + 2 ^ 80 + 2 ^ 80) → unsigned_abs (x -ℤ y) < 2 ^ 127
      apart x y h g = omega (arith, ints)

  pub difference_fits : FitsSigned w128 (kept six -ℤ kept (pos 1000 *ℤ kept (kept (kept area.0 +ℤ kept area.1) +ℤ kept area.2)))
  difference_fits = subst (FitsSigned w128) (sym difference) (fits_signed_from_abs w128 (off_layer six area) moved_near)

  pub difference_is : kept (kept six -ℤ kept (pos 1000 *ℤ kept (kept (kept area.0 +ℤ kept area.1) +ℤ kept area.2))) ≡ off_layer six area
  difference_is = ap kept difference ∙ kept_is (off_layer six area) moved_near
