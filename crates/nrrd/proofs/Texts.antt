-- The written texts, piece by piece.
use Rattle.std.proofs.Common.{◌≡◌, ℕ, ◌+◌, ◌<◌, ◌≤◌, List, [], ◌∷◌, ◌++◌, length, get_or, take, drop, sym, ap, ◌∙◌, arith, All, ℤ, pos, append_assoc, to_z, of_z}
use Rattle.std.proofs.lemmas.List.{take-append-drop, append-nil, get_or-drop, length-drop, length-append, length-take-le}
use Rattle.std.proofs.lemmas.List.Concat.{flat_map-cons}
use Rattle.std.proofs.lemmas.Grind.{flat_map-append, take_at_read}
use Rattle.std.proofs.Math.Seq.{take-append_seam}
use Rattle.iso_base.specs.Volume.{width_of, IsOfKind}
use Rattle.iso_base.specs.declared.kind.SampleKind.{SampleKind}
use Rattle.iso_base.specs.declared.kind.SampleKind.TheVariants.{I8, U8, I16, U16, I32, U32}
use Rattle.std.proofs.lemmas.Int.{ints}
use Rattle.std.specs.Int.{w64}
use Rattle.iso_base.specs.SampleBytes.{sample_bytes}
use Rattle.text_samples.proofs.BytesAgain.{length_sample}
use Rattle.nrrd.specs.Writing.{samples_text}

pub two_parts : (kind : SampleKind) (rest piece after : List ℤ) (n : ℕ) → piece ≡ take n rest → after ≡ drop n rest → samples_text kind rest ≡ samples_text kind piece ++ samples_text kind after
two_parts kind rest piece after n front back =
    rw (front, back) (ap (samples_text kind) (sym (take-append-drop n rest)) ∙ flat_map-append (sample_bytes kind) (take n rest) (drop n rest))

pub all_behind : (P : ℤ → Type 0) (rest after : List ℤ) (n : ℕ) → after ≡ drop n rest → All P rest → All P after
all_behind P rest after n back each = rw back (λ k d lt. let at = get_or-drop n rest k d in rw at (each (n + k) d (omega (arith, length-drop n rest))))

one_more : (kind : SampleKind) (piece : List ℤ) (i : ℕ) → i < length piece → samples_text kind (take (i + 1) piece) ≡ samples_text kind (take i piece) ++ sample_bytes kind (get_or piece i (pos 0))
one_more kind piece i lt =
    let f = sample_bytes kind in
    let x = get_or piece i (pos 0) in
    ap (samples_text kind) (take_at_read piece i (pos 0) lt).1
    ∙ flat_map-append f (take i piece) (x ∷ [])
    ∙ ap (λ (l : List ℕ). samples_text kind (take i piece) ++ l) (flat_map-cons f x [] ∙ append-nil (f x))

placed : (front bytes more : List ℕ) (n : ℕ) → n ≡ length front + length bytes → take n (front ++ (bytes ++ more)) ≡ front ++ bytes
placed front bytes more n e =
    let k : n ≡ length (front ++ bytes) = omega (arith, length-append front bytes) in
    rw (k, ← append_assoc front bytes more) (take-append_seam (front ++ bytes) more)

pub stepped : (kind : SampleKind) (piece : List ℤ) (room buf rest post : List ℕ) (i n a : ℕ) (v : ℤ) → i < length piece → v ≡ get_or piece i (pos 0) → a ≤ length room → n ≡ a + width_of kind → buf ≡ sample_bytes kind v ++ rest
    → take a room ≡ samples_text kind (take i piece) → take n (take a room ++ (buf ++ post)) ≡ samples_text kind (take (i + 1) piece)
stepped kind piece room buf rest post i n a v lt here within e made so_far =
    let regrouped : take a room ++ (buf ++ post) ≡ take a room ++ (sample_bytes kind v ++ (rest ++ post)) = ap (λ (l : List ℕ). take a room ++ l) (ap (λ (l : List ℕ). l ++ post) made ∙ append_assoc (sample_bytes kind v) rest post) in
    ap (take n) regrouped
    ∙ placed (take a room) (sample_bytes kind v) (rest ++ post) n (omega (arith, length-take-le a room within, length_sample kind v))
    ∙ ap (λ (l : List ℕ). l ++ sample_bytes kind v) so_far
    ∙ ap (λ (x : ℤ). samples_text kind (take i piece) ++ sample_bytes kind x) here
    ∙ sym (one_more kind piece i lt)

-- a sample fits in 64 bits
pub wide : (kind : SampleKind) (z : ℤ) → IsOfKind kind z → to_z w64 (of_z w64 z) ≡ z
wide I8 z h = omega (arith, ints, h.low, h.high)
wide U8 z h = omega (arith, ints, h.low, h.high)
wide I16 z h = omega (arith, ints, h.low, h.high)
wide U16 z h = omega (arith, ints, h.low, h.high)
wide I32 z h = omega (arith, ints, h.low, h.high)
wide U32 z h = omega (arith, ints, h.low, h.high)
