-- The flags of the points of a run, one after the other.
use Rattle.std.proofs.Common.{◌≡◌, ℕ, ◌+◌, ◌<◌, List, length, get_or, set, cond, sym, ◌∙◌, ap, arith, below_more, get_or-set_same, get_or-set_other, ℤ}
use Rattle.std.proofs.lemmas.Bool.{lt-ltb, le-ltb}
use Rattle.iso_base.specs.Volume.{sample}
use Rattle.corner_signs.specs.Rows.{bit_from}
use Rattle.crossing_edges.specs.Signs.{flag_of}
use Rattle.brick_rows.specs.Rows.{bit_right, run_flags}

-- one more number is written
pub written_more : (f : ℕ → ℕ) (out : List ℕ) (i n : ℕ) → i < length out → n ≡ f i → ((k : ℕ) → k < i → get_or out k 0 ≡ f k) → (k : ℕ) → k < i + 1 → get_or (set out i n) k 0 ≡ f k
written_more f out i n room here before =
    below_more (λ k. get_or (set out i n) k 0 ≡ f k) i
    (λ k h. get_or-set_other out i k n 0 (omega arith) ∙ before k h)
    (get_or-set_same out i n 0 room ∙ here)

module _ (least : ℤ) (here up far : List ℤ) (i n a b c d : ℕ) (e : n ≡ flag_of a b c d) (ea : a ≡ bit_from least (sample here i))
    (ec : c ≡ bit_from least (sample up i)) (ed : d ≡ bit_from least (sample far i)) where
  by_right : b ≡ bit_right least here i → n ≡ run_flags least here up far i
  unfolding run_flags
  by_right eb =
      e ∙ (ap (λ k. flag_of k b c d) ea ∙ (ap (λ k. flag_of (bit_from least (sample here i)) k c d) eb
      ∙ (ap (λ k. flag_of (bit_from least (sample here i)) (bit_right least here i) k d) ec
      ∙ ap (λ k. flag_of (bit_from least (sample here i)) (bit_right least here i) (bit_from least (sample up i)) k) ed)))

  -- those of a point with a next one in the run, and those of the last one
  pub inner_flags : i + 1 < length here → b ≡ bit_from least (sample here (i + 1)) → n ≡ run_flags least here up far i
  inner_flags more eb =
      by_right (eb ∙ sym (ap (λ t. cond t (bit_from least (sample here (i + 1))) (bit_from least (sample here i))) (lt-ltb (i + 1) (length here) more)))

  pub last_flags : i + 1 ≡ length here → b ≡ bit_from least (sample here i) → n ≡ run_flags least here up far i
  last_flags last eb =
      by_right (eb ∙ sym (ap (λ t. cond t (bit_from least (sample here (i + 1))) (bit_from least (sample here i))) (le-ltb (i + 1) (length here) (omega arith))))
