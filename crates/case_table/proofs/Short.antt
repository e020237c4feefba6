-- The decision by products of 64 bits, where the values are short.
use Rattle.std.proofs.Common.{not, ◌≡◌, ◌∙◌, ℕ, ◌+◌, ◌<◌, ◌^◌, take, inl, inr, bit_or, Bool, true, false, ◌&&◌, ◌||◌, cond, ℤ, pos, negsuc, ◌*ℤ◌, List, length, refl, sym, ap, ap₂, subst, w64, to_z, of_z, arith, unsigned_abs, get_or, lit<, FitsSigned}
use Rattle.std.specs.Prelude.{int_le, int_lt, nat_lt}
use Rattle.std.specs.List.{All, list_all}
use Rattle.std.proofs.lemmas.Bool.{cases_lt, le-leb, le-ltb, leb-false, lt-ltb, ltb-true}
use Rattle.std.proofs.lemmas.Nat.{le_or_l, le_or_r, or_lt}
use Rattle.std.proofs.lemmas.List.Folds.{list_all_more}
use Rattle.std.proofs.lemmas.List.Sums.{AllPass-from_list_all}
use Rattle.std.proofs.lemmas.Int.{to_z-of_z, fits_signed_from_abs, fits_signed_mul}
use Rattle.iso_defs.specs.Grid.{is_above}
use Rattle.face_decider.specs.Cycle.{cycle_joined}

narrow : (z : ℤ) → unsigned_abs z < 2 ^ 31 → to_z w64 (of_z w64 z) ≡ z
narrow z h = to_z-of_z w64 z (fits_signed_from_abs w64 z (omega arith))

-- a short value is a small one
pub short_small : (xs : List ℤ) → All (λ v. unsigned_abs v < 2 ^ 31) xs → All (λ v. unsigned_abs v < 2 ^ 44) xs
short_small xs short = λ k d h. let low : unsigned_abs (get_or xs k d) < 2 ^ 31 = short k d h in omega arith

-- whether a value is short
abbrev pub is_short : ℤ → Bool
is_short v = nat_lt (unsigned_abs v) (2 ^ 31)

-- all are short where the `or` of their sizes is
either_short : (a b : ℕ) → nat_lt (bit_or a b) (2 ^ 31) ≡ (nat_lt a (2 ^ 31) && nat_lt b (2 ^ 31))
either_short a b = elim (cases_lt a (2 ^ 31)) [
  | inl h ↦ elim (cases_lt b (2 ^ 31)) [
    | inl g ↦ lt-ltb (bit_or a b) (2 ^ 31) (or_lt 31 a b h g) ∙ sym (ap₂ (λ p q. p && q) (lt-ltb a (2 ^ 31) h) (lt-ltb b (2 ^ 31) g))
    | inr g ↦ le-ltb (bit_or a b) (2 ^ 31) (omega (arith, le_or_r a b)) ∙ sym (ap₂ (λ p q. p && q) (lt-ltb a (2 ^ 31) h) (le-ltb b (2 ^ 31) g))
  ]
  | inr h ↦ le-ltb (bit_or a b) (2 ^ 31) (omega (arith, le_or_l a b)) ∙ sym (ap (λ p. p && nat_lt b (2 ^ 31)) (le-ltb a (2 ^ 31) h))
]

-- one value more
pub short_more : (xs : List ℤ) (i size here : ℕ) → i < length xs → All (λ v. unsigned_abs v < 2 ^ 44) xs → here ≡ unsigned_abs (to_z w64 (of_z w64 (get_or xs i (pos 0))))
    → nat_lt size (2 ^ 31) ≡ list_all is_short (take i xs) → nat_lt (bit_or size here) (2 ^ 31) ≡ list_all is_short (take (i + 1) xs)
short_more xs i size here h small is so_far =
    let low : unsigned_abs (get_or xs i (pos 0)) < 2 ^ 44 = small i (pos 0) h in
    ap (λ n. nat_lt (bit_or size n) (2 ^ 31)) (is ∙ ap unsigned_abs (to_z-of_z w64 (get_or xs i (pos 0)) (fits_signed_from_abs w64 (get_or xs i (pos 0)) (omega arith))))
    ∙ either_short size (unsigned_abs (get_or xs i (pos 0)))
    ∙ ap (λ b. b && is_short (get_or xs i (pos 0))) so_far
    ∙ sym (list_all_more is_short xs i (pos 0) h)

-- what the answer says of each
pub all_short : (xs : List ℤ) → list_all is_short xs ≡ true → All (λ v. unsigned_abs v < 2 ^ 31) xs
all_short xs h = λ k d g. ltb-true (unsigned_abs (get_or xs k d)) (2 ^ 31) (AllPass-from_list_all is_short xs h k d g)

-- the product of two short values
product_fits : (x y : ℤ) → unsigned_abs x < 2 ^ 31 → unsigned_abs y < 2 ^ 31 → FitsSigned w64 (x *ℤ y)
product_fits x y h g = fits_signed_mul w64 x y (2 ^ 31) (2 ^ 31) (omega arith) (omega arith) (lit< tt)

-- the code's choice by the first value
abbrev choice : ℤ → Bool → Bool → Bool
choice a more less = cond (int_lt a (pos 0)) (not more) more || (more && less)

above : (more less : Bool) → (more || (more && less)) ≡ more
above true less = refl
above false less = refl

below_level : (more less : Bool) → (more ≡ false → less ≡ true) → (not more || (more && less)) ≡ less
below_level true less h = refl
below_level false less h = sym (h refl)

-- one of two numbers is at most the other
pub one_way : (a b : ℤ) → int_le a b ≡ false → int_le b a ≡ true
one_way (pos m) (pos n) h = let less : n < m = leb-false m n h in le-leb n m (omega arith)
one_way (pos m) (negsuc n) h = refl
one_way (negsuc m) (pos n) h = cc
one_way (negsuc m) (negsuc n) h = let less : m < n = leb-false n m h in le-leb m n (omega arith)

choice_is : (a : ℤ) (more less : Bool) → (more ≡ false → less ≡ true) → choice a more less ≡ cond (is_above a) more less
choice_is (pos n) more less h = ap (λ b. cond b (not more) more || (more && less)) (le-ltb n 0 (omega arith)) ∙ above more less
choice_is (negsuc n) more less h = below_level more less h

-- a value of a face as the code reads it
abbrev read : List ℤ → ℕ → ℤ
read xs i = to_z w64 (of_z w64 (get_or xs i (pos 0)))

-- and a product of two
abbrev product : List ℤ → ℕ → ℕ → ℤ
product xs i k = to_z w64 (of_z w64 (read xs i *ℤ read xs k))

-- the code's decision
abbrev pub decided : List ℤ → Bool
decided xs = choice (read xs 0) (int_le (product xs 1 3) (product xs 0 2)) (int_le (product xs 0 2) (product xs 1 3))

module _ (xs : List ℤ) (four : length xs ≡ 4) (short : All (λ v. unsigned_abs v < 2 ^ 31) xs) where
  short_at : (i : ℕ) → i < 4 → unsigned_abs (get_or xs i (pos 0)) < 2 ^ 31
  short_at i h = short i (pos 0) (omega arith)

  read_is : (i : ℕ) → i < 4 → read xs i ≡ get_or xs i (pos 0)
  read_is i h = narrow (get_or xs i (pos 0)) (short_at i h)

  multiplied : (i k : ℕ) → i < 4 → k < 4 → read xs i *ℤ read xs k ≡ get_or xs i (pos 0) *ℤ get_or xs k (pos 0)
  multiplied i k h g = ap₂ (λ a b. a *ℤ b) (read_is i h) (read_is k g)

  pub fits_at : (i k : ℕ) → i < 4 → k < 4 → FitsSigned w64 (read xs i *ℤ read xs k)
  fits_at i k h g =
      subst (λ p. FitsSigned w64 p) (sym (multiplied i k h g))
      (product_fits (get_or xs i (pos 0)) (get_or xs k (pos 0)) (short_at i h) (short_at k g))

  exact : (i k : ℕ) → i < 4 → k < 4 → product xs i k ≡ get_or xs i (pos 0) *ℤ get_or xs k (pos 0)
  exact i k h g = to_z-of_z w64 (read xs i *ℤ read xs k) (fits_at i k h g) ∙ multiplied i k h g

  pub decided_is : decided xs ≡ cycle_joined xs
  decided_is =
      ap (λ a. choice a (int_le (product xs 1 3) (product xs 0 2)) (int_le (product xs 0 2) (product xs 1 3))) (read_is 0 (lit< tt))
      ∙ ap₂ (λ even odd. choice (get_or xs 0 (pos 0)) (int_le odd even) (int_le even odd)) (exact 0 2 (lit< tt) (lit< tt)) (exact 1 3 (lit< tt) (lit< tt))
      ∙ choice_is (get_or xs 0 (pos 0)) _ _
      (one_way (get_or xs 1 (pos 0) *ℤ get_or xs 3 (pos 0)) (get_or xs 0 (pos 0) *ℤ get_or xs 2 (pos 0)))
