-- The active cells of a row, listed by the bits of their sign bytes.
use Rattle.std.proofs.Common.{◌≡◌, ℕ, ◌+◌, ◌-◌, ◌^◌, ◌<◌, ◌≤◌, ◌∙◌, Bool, true, false, ◌++◌, ◌∷◌, [], List, eqb, if◌then◌else◌, length, map, take, set, get_or, cond, ◌||◌, inl, inr, refl, sym, ap, arith, bit_and, append_assoc, w64}
use Rattle.std.specs.Int.{bit_at, trailing_zeros}
use Rattle.std.proofs.lemmas.Bool.{cases_lt}
use Rattle.std.proofs.lemmas.List.{get_or-map, map-append, take_more_set}
use Rattle.std.proofs.lemmas.Nat.Bits.{bit_at-lt, bit_at-trailing_zeros, bit_at_above, bit_at_and}
use Rattle.row_bits.specs.Active.{active_among}
use Rattle.row_bits.proofs.ActiveLists.{group_cells}
use Rattle.row_bits.proofs.MixedBytes.{mixed, mixed_some}
use Rattle.row_bits.proofs.SetBits.{bits_set, lowest}
use Rattle.sample_rows.specs.Lists.{mixed_of}

pub mixed_here : (bytes : List ℕ) (x : ℕ) → x < length bytes → get_or (mixed_of bytes) x 0 ≡ mixed (get_or bytes x 0)
mixed_here bytes x low = get_or-map mixed bytes x 0 0 low

module _ (bytes : List ℕ) (from bits : ℕ) (room : from + 64 ≤ length bytes) (tell : (k : ℕ) → k < 64 → bit_at bits k ≡ mixed (get_or bytes (from + k) 0)) where
  -- the bits are these cells
  pub bits_listed : bits < 2 ^ 64 → map (λ k. from + k) (bits_set bits) ≡ active_among (mixed_of bytes) from 64
  bits_listed few =
      group_cells (mixed_of bytes) from bits 64 (omega arith)
      (λ k low. tell k low ∙ (sym (once (eqb (get_or bytes (from + k) 0) 0) (eqb (get_or bytes (from + k) 0) 255))
      ∙ ap (λ n. if eqb n 0 then 0 else 1) (sym (mixed_here bytes (from + k) (omega (arith, low, room))))))
      (λ k high. bit_at_above bits 64 k few high)
    where
      once : (a b : Bool) → (if eqb (cond {A = ℕ} (a || b) 0 1) 0 then 0 else 1) ≡ cond {A = ℕ} (a || b) 0 1
      once true b = refl
      once false true = refl
      once false false = refl

  -- and these begin before the last point
  pub bits_inside : (end : ℕ) → ((x : ℕ) → end ≤ x + 1 → get_or bytes x 0 ≡ 0) → (k : ℕ) → k < 64 → bit_at bits k ≡ 1 → from + k + 1 < end
  bits_inside end rest k low one = elim (cases_lt (from + k + 1) end) [
    | inl less ↦ less
    | inr far ↦ absurd (omega (arith, rest (from + k) far, mixed_some (get_or bytes (from + k) 0) (sym (tell k low) ∙ one)))
  ]

-- the lowest of some bits is put behind the places before it
module _ (n : ℕ) (some : 0 < n) (fits : n < 2 ^ 64) where
  pub lowest_inside : (from end : ℕ) → ((k : ℕ) → k < 64 → bit_at n k ≡ 1 → from + k + 1 < end) → from + trailing_zeros w64 n + 1 < end
  lowest_inside from end inside =
      let found = bit_at-trailing_zeros w64 n some fits in
      inside (trailing_zeros w64 n) found.0 found.1

  pub others_inside : (k : ℕ) → bit_at (bit_and n (n - 1)) k ≡ 1 → bit_at n k ≡ 1
  others_inside k one = omega (arith, one, bit_at_and n (n - 1) k, bit_at-lt n k)

  pub place_put : (from at : ℕ) (places all : List ℕ) → at < length places → take at places ++ map (λ k. from + k) (bits_set n) ≡ all
      → take (at + 1) (set places at (from + trailing_zeros w64 n)) ++ map (λ k. from + k) (bits_set (bit_and n (n - 1))) ≡ all
  place_put from at places all low before =
      let rest : List ℕ = map (λ k. from + k) (bits_set (bit_and n (n - 1))) in
      ap (λ l. l ++ rest) (take_more_set places at (from + trailing_zeros w64 n) low)
      ∙ (append_assoc (take at places) _ rest ∙ (ap (λ l. take at places ++ map (λ k. from + k) l) (sym (lowest n some fits)) ∙ before))

-- with its case
pub case_too : (all places cases : List ℕ) (at x : ℕ) → at < length places → at < length cases → take at cases ≡ map (λ x. get_or all x 0) (take at places)
    → take (at + 1) (set cases at (get_or all x 0)) ≡ map (λ x. get_or all x 0) (take (at + 1) (set places at x))
case_too all places cases at x room few before =
    let f : ℕ → ℕ = λ x. get_or all x 0 in
    take_more_set cases at (f x) few ∙ (ap (λ l. l ++ (f x ∷ [])) before ∙ sym (ap (map f) (take_more_set places at x room) ∙ map-append f (take at places) (x ∷ [])))
