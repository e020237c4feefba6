-- Samples of an index, and runs of them.
use Rattle.std.proofs.Common.{◌≡◌, ℕ, ◌+◌, ◌*◌, ◌<◌, ◌≤◌, Bool, List, length, get_or, map, take, drop, sym, ap, ◌∙◌, arith, pos, ℤ}
use Rattle.std.specs.List.{range_with_len}
use Rattle.std.proofs.Math.Nat.{mul-le-mul_left}
use Rattle.std.proofs.lemmas.List.{drop-drop, get_or-take, get_or-drop, length-take-le, length-drop}
use Rattle.std.proofs.lemmas.List.FromFn.{fill_by_all, get_or-map-range_with_len}
use Rattle.iso_base.specs.Volume.{width_of}
use Rattle.iso_base.specs.declared.kind.SampleKind.{SampleKind}
use Rattle.iso_base.specs.SampleBytes.{number_in, as_kind, sample_of, samples_in}
use Rattle.raw_samples.proofs.SampleLaws.{length_samples}

-- the sample of an index
pub one_sample : (kind : SampleKind) (big_endian : Bool) (bytes : List ℕ) (count i : ℕ) → i < count → get_or (samples_in kind big_endian bytes count) i (pos 0) ≡ sample_of kind big_endian bytes i
one_sample kind big_endian bytes count i lt = get_or-map-range_with_len (λ (i : ℕ). sample_of kind big_endian bytes i) 0 count i i (pos 0) (omega arith) (omega arith)

-- there are bytes for it
pub room_for : (width i count bytes : ℕ) → i ≤ count → width * count ≤ bytes → width * i ≤ bytes
room_for width i count bytes le room = omega (arith, room, mul-le-mul_left width le)

-- a sample behind a run
pub behind : (kind : SampleKind) (big_endian : Bool) (bytes : List ℕ) (a k : ℕ) → sample_of kind big_endian bytes (a + k) ≡ sample_of kind big_endian (drop (width_of kind * a) bytes) k
behind kind big_endian bytes a k =
    let e : width_of kind * (a + k) ≡ width_of kind * a + width_of kind * k = omega arith in
    ap (λ (l : List ℕ). as_kind kind (number_in big_endian (width_of kind) l)) (ap (λ n. drop n bytes) e ∙ sym (drop-drop (width_of kind * k) (width_of kind * a) bytes))

-- a run of samples is read where it stands
pub run_at : (kind : SampleKind) (big_endian : Bool) (bytes : List ℕ) (count a n : ℕ) → a + n ≤ count
    → map (λ k. sample_of kind big_endian bytes (a + k)) (range_with_len 0 n) ≡ take n (drop a (samples_in kind big_endian bytes count))
run_at kind big_endian bytes count a n le =
    let all = samples_in kind big_endian bytes count in
    let len : length all ≡ count = length_samples kind big_endian bytes count in
    let rest : n ≤ length (drop a all) = omega (arith, len, length-drop a all) in
    sym (fill_by_all (λ k. sample_of kind big_endian bytes (a + k)) (take n (drop a all)) n (pos 0) (length-take-le n (drop a all) rest)
    (λ k lt. get_or-take n (drop a all) k (pos 0) lt ∙ get_or-drop a all k (pos 0) ∙ one_sample kind big_endian bytes count (a + k) (omega arith)))

-- so many samples of a list from a place on
pub part_is : (samples : List ℤ) (a n : ℕ) → a + n ≤ length samples → map (λ k. get_or samples (a + k) (pos 0)) (range_with_len 0 n) ≡ take n (drop a samples)
part_is samples a n le =
    let rest : n ≤ length (drop a samples) = omega (arith, length-drop a samples) in
    sym (fill_by_all (λ k. get_or samples (a + k) (pos 0)) (take n (drop a samples)) n (pos 0) (length-take-le n (drop a samples) rest)
    (λ k lt. get_or-take n (drop a samples) k (pos 0) lt ∙ get_or-drop a samples k (pos 0)))
