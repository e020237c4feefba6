-- The decider's products, as the code makes them.
use Rattle.std.proofs.Common.{◌≡◌, ◌∙◌, ℕ, ◌<◌, ◌^◌, Bool, true, false, cond, ℤ, pos, negsuc, ◌*ℤ◌, List, length, sym, ap, ap₂, w64, to_z, of_z, arith, unsigned_abs, get_or, lit<}
use Rattle.std.specs.Prelude.{int_le}
use Rattle.std.specs.List.{All}
use Rattle.std.specs.Int.{w128}
use Rattle.std.proofs.Math.Dec.{leb-zero}
use Rattle.std.proofs.lemmas.Int.{to_z-of_z, fits_signed_from_abs, fits_signed_mul}
use Rattle.iso_defs.specs.Grid.{is_above}
use Rattle.face_decider.specs.Cycle.{cycle_joined}

narrow : (z : ℤ) → unsigned_abs z < 2 ^ 44 → to_z w64 (of_z w64 z) ≡ z
narrow z h = to_z-of_z w64 z (fits_signed_from_abs w64 z (omega arith))

-- the product of two small values is exact
exact : (x y p : ℤ) → unsigned_abs x < 2 ^ 44 → unsigned_abs y < 2 ^ 44 → p ≡ to_z w64 (of_z w64 x) *ℤ to_z w64 (of_z w64 y) → to_z w128 (of_z w128 p) ≡ x *ℤ y
exact x y p h g e =
    ap (λ z. to_z w128 (of_z w128 z)) (e ∙ ap₂ (λ a b. a *ℤ b) (narrow x h) (narrow y g))
    ∙ to_z-of_z w128 (x *ℤ y) (fits_signed_mul w128 x y (2 ^ 44) (2 ^ 44) (omega arith) (omega arith) (lit< tt))

-- the code's test of the first value
first_above : (z : ℤ) (b : Bool) → unsigned_abs z < 2 ^ 44 → int_le (pos 0) (to_z w64 (of_z w64 z)) ≡ b → is_above z ≡ b
first_above (pos n) b h e = sym (leb-zero n) ∙ ap (int_le (pos 0)) (sym (narrow (pos n) h)) ∙ e
first_above (negsuc n) b h e = ap (int_le (pos 0)) (sym (narrow (negsuc n) h)) ∙ e

-- what the code knows of a product of two values of the cycle
abbrev pub IsProduct : List ℤ → ℕ → ℕ → ℤ → Type 0
IsProduct xs i k p = p ≡ to_z w64 (of_z w64 (get_or xs i (pos 0))) *ℤ to_z w64 (of_z w64 (get_or xs k (pos 0)))

module _ (xs : List ℤ) (even odd : ℤ) (four : length xs ≡ 4) (small : All (λ v. unsigned_abs v < 2 ^ 44) xs)
    (even_is : IsProduct xs 0 2 even) (odd_is : IsProduct xs 1 3 odd) where
  value : ℕ → ℤ
  value i = get_or xs i (pos 0)

  small_at : (i : ℕ) → i < 4 → unsigned_abs (get_or xs i (pos 0)) < 2 ^ 44
  small_at i h = small i (pos 0) (omega arith)

  even_exact : to_z w128 (of_z w128 even) ≡ get_or xs 0 (pos 0) *ℤ get_or xs 2 (pos 0)
  even_exact = exact (get_or xs 0 (pos 0)) (get_or xs 2 (pos 0)) even (small_at 0 (lit< tt)) (small_at 2 (lit< tt)) even_is

  odd_exact : to_z w128 (of_z w128 odd) ≡ get_or xs 1 (pos 0) *ℤ get_or xs 3 (pos 0)
  odd_exact = exact (get_or xs 1 (pos 0)) (get_or xs 3 (pos 0)) odd (small_at 1 (lit< tt)) (small_at 3 (lit< tt)) odd_is

  choice : Bool → Bool
  choice b = cond b (int_le (get_or xs 1 (pos 0) *ℤ get_or xs 3 (pos 0)) (get_or xs 0 (pos 0) *ℤ get_or xs 2 (pos 0)))
      (int_le (get_or xs 0 (pos 0) *ℤ get_or xs 2 (pos 0)) (get_or xs 1 (pos 0) *ℤ get_or xs 3 (pos 0)))

  pub even_decides : int_le (pos 0) (to_z w64 (of_z w64 (get_or xs 0 (pos 0)))) ≡ true → int_le (to_z w128 (of_z w128 odd)) (to_z w128 (of_z w128 even)) ≡ cycle_joined xs
  unfolding choice
  even_decides first = ap₂ int_le odd_exact even_exact ∙ ap choice (sym (first_above (get_or xs 0 (pos 0)) true (small_at 0 (lit< tt)) first))

  pub odd_decides : int_le (pos 0) (to_z w64 (of_z w64 (get_or xs 0 (pos 0)))) ≡ false → int_le (to_z w128 (of_z w128 even)) (to_z w128 (of_z w128 odd)) ≡ cycle_joined xs
  unfolding choice
  odd_decides first = ap₂ int_le even_exact odd_exact ∙ ap choice (sym (first_above (get_or xs 0 (pos 0)) false (small_at 0 (lit< tt)) first))
