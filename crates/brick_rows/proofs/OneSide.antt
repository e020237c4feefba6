-- Flags by the signs of samples, where these are known in another way.
use Rattle.std.proofs.Common.{◌≡◌, ◌∙◌, ℕ, ◌+◌, ◌<◌, cond, List, All, length, ℤ, pos, false, refl, sym, ap, ap₂, arith}
use Rattle.std.specs.Prelude.{int_le}
use Rattle.std.proofs.lemmas.Bool.{lt-ltb}
use Rattle.iso_base.specs.Volume.{sample}
use Rattle.corner_signs.specs.Rows.{bit_from}
use Rattle.crossing_edges.specs.Signs.{flag_of}
use Rattle.brick_rows.specs.Rows.{bit_right, run_flags}

module _ (FitsHere : ℤ → Type 0) (here up far : List ℤ) (more : 8 < length here) (up_long : length up ≡ length here) (far_long : length far ≡ length here)
    (here_fit : All FitsHere here) (up_fit : All FitsHere up) (far_fit : All FitsHere far) where
  module _ (least : ℤ) (sign : ℤ → ℕ) (known : (v : ℤ) → FitsHere v → bit_from least v ≡ sign v) where
    by_signs : (i : ℕ) → i < 8 → run_flags least here up far i ≡ flag_of (sign (sample here i)) (sign (sample here (i + 1))) (sign (sample up i)) (sign (sample far i))
    unfolding run_flags
    by_signs i low =
        let right : bit_right least here i ≡ sign (sample here (i + 1))
        = ap (λ b. cond b (bit_from least (sample here (i + 1))) (bit_from least (sample here i))) (lt-ltb (i + 1) (length here) (omega arith))
        ∙ known (sample here (i + 1)) (here_fit (i + 1) (pos 0) (omega arith)) in
        ap₂ (λ a b. flag_of a b (bit_from least (sample up i)) (bit_from least (sample far i))) (known (sample here i) (here_fit i (pos 0) (omega arith))) right
        ∙ ap₂ (flag_of (sign (sample here i)) (sign (sample here (i + 1)))) (known (sample up i) (up_fit i (pos 0) (omega arith))) (known (sample far i) (far_fit i (pos 0) (omega arith)))

  -- two least numbers that tell the same samples apart
  pub same_flags : (least bound : ℤ) → ((v : ℤ) → FitsHere v → int_le bound v ≡ int_le least v) → (i : ℕ) → i < 8 → run_flags bound here up far i ≡ run_flags least here up far i
  same_flags least bound same i low =
      by_signs bound (bit_from least) (λ v fits. ap (λ b. cond b 1 0) (same v fits)) i low ∙ sym (by_signs least (bit_from least) (λ v fits. refl) i low)

  -- no sample is so much
  pub no_flags : (least : ℤ) → ((v : ℤ) → FitsHere v → int_le least v ≡ false) → (i : ℕ) → i < 8 → run_flags least here up far i ≡ 0
  no_flags least none i low = by_signs least (λ v. 0) (λ v fits. ap (λ b. cond b 1 0) (none v fits)) i low
