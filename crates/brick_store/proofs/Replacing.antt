-- Samples that are replaced where a test holds.
use Rattle.std.proofs.Common.{◌≡◌, ℕ, ◌<◌, Bool, false, cond, List, length, refl, sym, ap, subst, ◌∙◌, arith, ℤ, pos}
use Rattle.std.proofs.lemmas.List.{ext_get_or}
use Rattle.std.proofs.lemmas.List.FromFn.{get_or-map-range_with_len, length-map-range_with_len}
use Rattle.iso_base.specs.Volume.{sample}
use Rattle.brick_store.specs.Boxes.{replaced}

pub length-replaced : (test : ℕ → Bool) (value : ℕ → ℤ) (samples : List ℤ) → length (replaced test value samples) ≡ length samples
unfolding replaced
length-replaced test value samples = length-map-range_with_len (λ p. cond (test p) (value p) (sample samples p)) 0 (length samples)

pub sample-replaced : (test : ℕ → Bool) (value : ℕ → ℤ) (samples : List ℤ) (p : ℕ) → p < length samples
    → sample (replaced test value samples) p ≡ cond (test p) (value p) (sample samples p)
unfolding replaced
sample-replaced test value samples p low = get_or-map-range_with_len (λ p. cond (test p) (value p) (sample samples p)) 0 (length samples) p p (pos 0) low (omega arith)

-- what has the same samples is the same list
pub replaced_is : (test : ℕ → Bool) (value : ℕ → ℤ) (samples now : List ℤ) → length now ≡ length samples
    → ((p : ℕ) → p < length samples → sample now p ≡ cond (test p) (value p) (sample samples p)) → now ≡ replaced test value samples
replaced_is test value samples now count each = ext_get_or (pos 0) now (replaced test value samples) (count ∙ sym (length-replaced test value samples))
    (λ p low. let here : p < length samples = subst (λ n. p < n) count low in each p here ∙ sym (sample-replaced test value samples p here))

-- nothing passes
pub replaced_none : (test : ℕ → Bool) (value : ℕ → ℤ) (samples : List ℤ) → ((p : ℕ) → p < length samples → test p ≡ false) → samples ≡ replaced test value samples
replaced_none test value samples none =
    replaced_is test value samples samples refl (λ p low. sym (ap (λ b. cond b (value p) (sample samples p)) (none p low)))

-- one test after another
pub replaced_twice : (test test' test'' : ℕ → Bool) (value value' value'' : ℕ → ℤ) (samples : List ℤ)
    → ((p : ℕ) → p < length samples
    → cond (test' p) (value' p) (cond (test p) (value p) (sample samples p)) ≡ cond (test'' p) (value'' p) (sample samples p))
    → replaced test' value' (replaced test value samples) ≡ replaced test'' value'' samples
replaced_twice test test' test'' value value' value'' samples each =
    let once : List ℤ = replaced test value samples in
    replaced_is test'' value'' samples (replaced test' value' once) (length-replaced test' value' once ∙ length-replaced test value samples)
    (λ p low. sample-replaced test' value' once p (subst (λ n. p < n) (sym (length-replaced test value samples)) low)
    ∙ (ap (λ s. cond (test' p) (value' p) s) (sample-replaced test value samples p low) ∙ each p low))
