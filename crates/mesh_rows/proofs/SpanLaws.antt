-- What runs of numbers give, piece by piece.
use Rattle.std.proofs.Common.{◌≡◌, ℕ, ◌+◌, ◌<◌, ◌≤◌, Bool, true, false, cond, List, [], ◌∷◌, ◌++◌, length, refl, ◌∙◌, ap, ap₂, append-nil, length-append, inl, inr}
use Rattle.std.specs.List.{filter, flat_map, range_with_len}
use Rattle.std.proofs.lemmas.List.Elements.{filter-append}
use Rattle.std.proofs.lemmas.List.Concat.{flat_map-append}
use Rattle.iso_defs.proofs.Ranges.{range_append}
use Rattle.mesh_laws.proofs.Cells.{range_at_least}
use Rattle.triangle_laws.proofs.Lists.{In, In-filter}
use Rattle.mesh_rows.specs.Counts.{span}

module _ {X : Type 0} (f : ℕ → List X) (p : ℕ → Bool) where
  pub span_none : (a : ℕ) → span f p a 0 ≡ []
  unfolding span
  span_none a = refl

  pub span_more : (a m n : ℕ) → span f p a (m + n) ≡ span f p a m ++ span f p (a + m) n
  unfolding span
  span_more a m n =
      ap (λ l. flat_map f (filter p l)) (range_append a m n)
      ∙ (ap (flat_map f) (filter-append p (range_with_len a m) (range_with_len (a + m) n))
      ∙ flat_map-append f (filter p (range_with_len a m)) (filter p (range_with_len (a + m) n)))

  -- one number that passes, and one that does not
  pub span_one : (a : ℕ) → p a ≡ true → span f p a 1 ≡ f a
  unfolding span
  span_one a e = ap (λ b. flat_map f (cond {A = List ℕ} b (a ∷ []) [])) e ∙ append-nil (f a)

  pub span_not : (a : ℕ) → p a ≡ false → span f p a 1 ≡ []
  unfolding span
  span_not a e = ap (λ b. flat_map f (cond {A = List ℕ} b (a ∷ []) [])) e

  nothing : (xs : List ℕ) → ((x : ℕ) → In x xs → f x ≡ []) → flat_map f xs ≡ []
  nothing [] h = refl
  nothing (x ∷ xs) h = ap₂ ◌++◌ (h x (inl refl)) (nothing xs (λ y i. h y (inr i)))

  -- a run that gives nothing
  pub span_quiet : (a n : ℕ) → ((q : ℕ) → a ≤ q → q < a + n → p q ≡ true → f q ≡ []) → span f p a n ≡ []
  unfolding span
  span_quiet a n quiet = nothing (filter p (range_with_len a n)) (λ q i.
      let r : In q (range_with_len a n) × (p q ≡ true) = In-filter p q (range_with_len a n) i in
      let b : (a ≤ q) × (q < a + n) = range_at_least a n q r.0 in
      quiet q b.0 b.1 r.1)

  pub length_more : (a m n : ℕ) → length (span f p a (m + n)) ≡ length (span f p a m) + length (span f p (a + m) n)
  length_more a m n = ap length (span_more a m n) ∙ length-append (span f p a m) (span f p (a + m) n)
