-- The corners of a cell: their samples and their shifted values.
use Rattle.std.proofs.Common.{◌≡◌, ◌<◌, ◌∙◌, [], ◌∷◌, inl, inr, zero, suc, refl, sym, ap, subst, arith, ℕ, ℤ, pos, All, List, length, map, get_or}
use Rattle.std.proofs.lemmas.Bool.{cases_lt}
use Rattle.std.proofs.lemmas.Int.{ints}
use Rattle.std.proofs.lemmas.List.{ext_get_or, get_or-map, get_or_past, length-map}
use Rattle.iso_defs.specs.Cell.{cell_values}
use Rattle.iso_base.specs.Points.{index_of}
use Rattle.iso_base.specs.Volume.{IsSample, shifted, sample}
use Rattle.iso_base.specs.declared.point.Point.{Point}
use Rattle.flat_mesh.specs.Cases.{values_at}
use Rattle.flat_mesh.specs.Lattice.{IsLeveled, Leveled}
use Rattle.flat_mesh.proofs.CellCase.{all_eight}

-- the shifted values of eight samples
pub eight_shifted : (level : ℤ) (corners : List ℤ) (a b c d e f g h : ℤ) → length corners ≡ 8
    → a ≡ shifted (sample corners 0) level → b ≡ shifted (sample corners 1) level → c ≡ shifted (sample corners 2) level → d ≡ shifted (sample corners 3) level
    → e ≡ shifted (sample corners 4) level → f ≡ shifted (sample corners 5) level → g ≡ shifted (sample corners 6) level → h ≡ shifted (sample corners 7) level
    → a ∷ b ∷ c ∷ d ∷ e ∷ f ∷ g ∷ h ∷ [] ≡ map (λ s. shifted s level) corners
eight_shifted level corners a b c d e f g h len e0 e1 e2 e3 e4 e5 e6 e7 =
    ext_get_or (pos 0) (a ∷ b ∷ c ∷ d ∷ e ∷ f ∷ g ∷ h ∷ []) (map (λ s. shifted s level) corners) (sym (length-map corners (λ s. shifted s level) ∙ len)) at
  where
    mapped : (k : ℕ) → k < 8 → shifted (sample corners k) level ≡ get_or (map (λ s. shifted s level) corners) k (pos 0)
    mapped k low = sym (get_or-map (λ s. shifted s level) corners k (pos 0) (pos 0) (omega (arith, low, len)))

    at : (j : ℕ) → j < 8 → get_or (a ∷ b ∷ c ∷ d ∷ e ∷ f ∷ g ∷ h ∷ []) j (pos 0) ≡ get_or (map (λ s. shifted s level) corners) j (pos 0)
    at zero low = e0 ∙ mapped 0 (omega arith)
    at (suc zero) low = e1 ∙ mapped 1 (omega arith)
    at (suc (suc zero)) low = e2 ∙ mapped 2 (omega arith)
    at (suc (suc (suc zero))) low = e3 ∙ mapped 3 (omega arith)
    at (suc (suc (suc (suc zero)))) low = e4 ∙ mapped 4 (omega arith)
    at (suc (suc (suc (suc (suc zero))))) low = e5 ∙ mapped 5 (omega arith)
    at (suc (suc (suc (suc (suc (suc zero)))))) low = e6 ∙ mapped 6 (omega arith)
    at (suc (suc (suc (suc (suc (suc (suc zero))))))) low = e7 ∙ mapped 7 (omega arith)
    at (suc (suc (suc (suc (suc (suc (suc (suc k)))))))) low = absurd (omega arith)

module _ (v : Leveled) where
  -- what stands at any place is a sample, and so what stands at the corners of a cell
  pub sample_is : IsLeveled v → (p : ℕ) → IsSample (sample v.samples p)
  sample_is leveled p = elim (cases_lt p (length v.samples)) [
    | inl low ↦ leveled.range p (pos 0) low
    | inr high ↦ subst IsSample (sym (get_or_past v.samples p (pos 0) high)) (record { low = omega (arith, ints); high = omega (arith, ints) })
  ]

  pub are_samples : IsLeveled v → (low : Point) (corners : List ℤ) → corners ≡ cell_values v.grid (sample v.samples) (index_of v.grid low) → All IsSample corners
  are_samples leveled low corners is = subst (All IsSample) (sym is) (all_eight IsSample _ _ _ _ _ _ _ _ (at _) (at _) (at _) (at _) (at _) (at _) (at _) (at _))
    where
      at : (p : ℕ) → IsSample (sample v.samples p)
      at = sample_is leveled

  -- their shifted values
  shifted_corners : (q : ℕ) → map (λ s. shifted s v.level) (cell_values v.grid (sample v.samples) q) ≡ values_at v q
  unfolding values_at
  shifted_corners q = refl

  -- the shifted values of the samples at the corners of a cell are those of the volume that a view stands on
  pub values_are : (w : Leveled) (low : Point) (corners result : List ℤ) → w ≡ v → corners ≡ cell_values w.grid (sample w.samples) (index_of w.grid low)
      → result ≡ map (λ s. shifted s v.level) corners → result ≡ values_at v (index_of v.grid low)
  values_are w low corners result same is shifts =
      shifts ∙ ap (map (λ s. shifted s v.level)) (is ∙ ap (λ (u : Leveled). cell_values u.grid (sample u.samples) (index_of u.grid low)) same)
      ∙ shifted_corners (index_of v.grid low)
