-- What is read into a list of samples, and into their bytes.
use Rattle.std.proofs.Common.{◌≡◌, ℕ, ◌*◌, false, List, [], ◌∷◌, ◌++◌, length, Result, Ok, sym, ap, ◌∙◌, All, ℤ, append-nil, subst}
use Rattle.std.proofs.lemmas.List.Concat.{flat_map-cons}
use Rattle.std.proofs.lemmas.Grind.{flat_map-append}
use Rattle.iso_base.specs.Volume.{IsOfKind, width_of}
use Rattle.iso_base.specs.declared.kind.SampleKind.{SampleKind}
use Rattle.text_samples.specs.declared.fault.SampleFault.{SampleFault}
use Rattle.text_samples.specs.Gathered.{IsReadInto}
use Rattle.iso_base.specs.SampleBytes.{sample_bytes, samples_in, samples_text}
use Rattle.text_samples.proofs.BytesAgain.{length_samples, samples_alone}

-- one more sample is one more run of bytes
pub one_more : (kind : SampleKind) (samples : List ℤ) (v : ℤ) (old new bytes : List ℕ) → new ≡ old ++ bytes → old ≡ samples_text kind samples → bytes ≡ sample_bytes kind v
    → new ≡ samples_text kind (samples ++ v ∷ [])
one_more kind samples v old new bytes added before is =
    added ∙ ap (λ (l : List ℕ). l ++ bytes) before ∙ ap (λ (l : List ℕ). samples_text kind samples ++ l) (is ∙ sym (flat_map-cons (sample_bytes kind) v [] ∙ append-nil (sample_bytes kind v)))
    ∙ sym (flat_map-append (sample_bytes kind) samples (v ∷ []))

module _ (kind : SampleKind) (count : ℕ) (read : Result (List ℤ × ℕ) SampleFault) (left : ℕ) where
  -- a list that holds the samples is their list
  pub list_read : (list : List ℤ) → IsReadInto (λ samples. list ≡ samples) kind count read left → read ≡ Ok (list, left)
  list_read list r = r.read_is ∙ ap (λ (l : List ℤ). Ok (l, left)) (sym r.held)

  pub list_each : (list : List ℤ) → IsReadInto (λ samples. list ≡ samples) kind count read left → All (IsOfKind kind) list
  list_each list r = subst (All (IsOfKind kind)) (sym r.held) r.each

  pub list_number : (list : List ℤ) → IsReadInto (λ samples. list ≡ samples) kind count read left → length list ≡ count
  list_number list r = ap length r.held ∙ r.number

  -- the samples in bytes that hold them
  pub bytes_read : (bytes : List ℕ) → IsReadInto (λ samples. bytes ≡ samples_text kind samples) kind count read left → read ≡ Ok (samples_in kind false bytes count, left)
  bytes_read bytes r =
      let same : samples_in kind false bytes count ≡ r.samples
      = ap (λ (l : List ℕ). samples_in kind false l count) r.held ∙ ap (samples_in kind false (samples_text kind r.samples)) (sym r.number) ∙ samples_alone kind r.samples r.each in
      r.read_is ∙ ap (λ (l : List ℤ). Ok (l, left)) (sym same)

  pub bytes_size : (bytes : List ℕ) → IsReadInto (λ samples. bytes ≡ samples_text kind samples) kind count read left → length bytes ≡ width_of kind * count
  bytes_size bytes r = ap length r.held ∙ length_samples kind r.samples ∙ ap (λ n. width_of kind * n) r.number
