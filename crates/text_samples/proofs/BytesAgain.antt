-- The samples in their own bytes are the samples.
use Rattle.std.proofs.Common.{◌≡◌, ℕ, zero, suc, ◌+◌, ◌*◌, ◌<◌, false, List, [], ◌∷◌, ◌++◌, length, get_or, drop, refl, sym, ap, ◌∙◌, arith, append_assoc, All, ℤ, pos}
use Rattle.std.proofs.lemmas.List.{append-nil, length-append}
use Rattle.std.proofs.lemmas.List.Concat.{flat_map-cons}
use Rattle.std.proofs.lemmas.List.FromFn.{fill_by_all}
use Rattle.std.proofs.Math.Seq.{drop-append-add}
use Rattle.std.proofs.Math.Nat.{mul-suc}
use Rattle.byteorder.specs.Numbers.{length-bytes_low_first, little_number-reads_back}
use Rattle.iso_base.specs.Volume.{IsOfKind, width_of}
use Rattle.iso_base.specs.declared.kind.SampleKind.{SampleKind}
use Rattle.iso_base.specs.SampleBytes.{as_kind, bits_of, number_in, sample_bytes, sample_of, samples_in, samples_text}
use Rattle.text_samples.proofs.KindBits.{bits_fit, kind_bits}

pub length_sample : (kind : SampleKind) (v : ℤ) → length (sample_bytes kind v) ≡ width_of kind
length_sample kind v = length-bytes_low_first 0 (width_of kind) (bits_of kind v)

-- each sample has as many bytes as its kind
pub length_samples : (kind : SampleKind) (vs : List ℤ) → length (samples_text kind vs) ≡ width_of kind * length vs
length_samples kind [] = omega arith
length_samples kind (v ∷ vs) = ap length (flat_map-cons (sample_bytes kind) v vs) ∙ omega (arith, length-append (sample_bytes kind v) (samples_text kind vs), length_sample kind v, length_samples kind vs, mul-suc (width_of kind) (length vs))

sample_again : (kind : SampleKind) (v : ℤ) (rest : List ℕ) → IsOfKind kind v → as_kind kind (number_in false (width_of kind) (sample_bytes kind v ++ rest)) ≡ v
sample_again kind v rest h = ap (as_kind kind) (little_number-reads_back (width_of kind) (bits_of kind v) rest (bits_fit kind v h)) ∙ kind_bits kind v h

-- where the sample of an index stands
at_sample : (kind : SampleKind) (vs : List ℤ) (rest : List ℕ) (k : ℕ) → k < length vs → (more : List ℕ) × (drop (width_of kind * k) (samples_text kind vs ++ rest) ≡ sample_bytes kind (get_or vs k (pos 0)) ++ more)
at_sample kind [] rest k lt = absurd (omega arith)
at_sample kind (v ∷ vs) rest zero lt =
    let none : width_of kind * 0 ≡ 0 = omega arith in
    let parts : samples_text kind (v ∷ vs) ++ rest ≡ sample_bytes kind v ++ (samples_text kind vs ++ rest) = ap (λ (l : List ℕ). l ++ rest) (flat_map-cons (sample_bytes kind) v vs) ∙ append_assoc (sample_bytes kind v) (samples_text kind vs) rest in
    (samples_text kind vs ++ rest, ap (λ (n : ℕ). drop n (samples_text kind (v ∷ vs) ++ rest)) none ∙ parts)
at_sample kind (v ∷ vs) rest (suc k) lt =
    let ih = at_sample kind vs rest k (omega arith) in
    let parts : samples_text kind (v ∷ vs) ++ rest ≡ sample_bytes kind v ++ (samples_text kind vs ++ rest) = ap (λ (l : List ℕ). l ++ rest) (flat_map-cons (sample_bytes kind) v vs) ∙ append_assoc (sample_bytes kind v) (samples_text kind vs) rest in
    let n : width_of kind * suc k ≡ length (sample_bytes kind v) + width_of kind * k = omega (arith, mul-suc (width_of kind) k, length_sample kind v) in
    (ih.0, ap (λ (j : ℕ). drop j (samples_text kind (v ∷ vs) ++ rest)) n ∙ ap (drop (length (sample_bytes kind v) + width_of kind * k)) parts ∙ drop-append-add (sample_bytes kind v) (samples_text kind vs ++ rest) (width_of kind * k) ∙ ih.1)

-- whatever stands behind them
pub samples_again : (kind : SampleKind) (vs : List ℤ) (rest : List ℕ) → All (IsOfKind kind) vs → samples_in kind false (samples_text kind vs ++ rest) (length vs) ≡ vs
samples_again kind vs rest each = sym (fill_by_all (sample_of kind false (samples_text kind vs ++ rest)) vs (length vs) (pos 0) refl
    (λ k lt. let at = at_sample kind vs rest k lt in sym (ap (λ (l : List ℕ). as_kind kind (number_in false (width_of kind) l)) at.1 ∙ sample_again kind (get_or vs k (pos 0)) at.0 (each k (pos 0) lt))))

-- and where nothing does
pub samples_alone : (kind : SampleKind) (vs : List ℤ) → All (IsOfKind kind) vs → samples_in kind false (samples_text kind vs) (length vs) ≡ vs
samples_alone kind vs each = ap (λ (l : List ℕ). samples_in kind false l (length vs)) (sym (append-nil (samples_text kind vs))) ∙ samples_again kind vs [] each
