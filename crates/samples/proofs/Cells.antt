-- The values at the corners of a cell, by its lowest point.
use Rattle.std.proofs.Common.{◌≡◌, ◌+◌, ◌∙◌, [], ◌∷◌, refl, ap, ap₂, arith, ℕ, ℤ}
use Rattle.iso_defs.specs.Cell.{cell_values}
use Rattle.iso_defs.specs.Grid.{Grid, index}

module _ (g : Grid) (s : ℕ → ℤ) (x y z : ℕ) where
  -- the value so many points on along each axis
  abbrev on : ℕ → ℕ → ℕ → ℤ
  on right up far = s (index g (x + right) (y + up) (z + far))

  pub cell_values_are : (a b c d e f g' h : ℤ) → a ≡ on 0 0 0 → b ≡ on 1 0 0 → c ≡ on 0 1 0 → d ≡ on 1 1 0 → e ≡ on 0 0 1 → f ≡ on 1 0 1 → g' ≡ on 0 1 1 → h ≡ on 1 1 1
      → a ∷ b ∷ c ∷ d ∷ e ∷ f ∷ g' ∷ h ∷ [] ≡ cell_values g s (index g x y z)
  cell_values_are a b c d e f g' h ea eb ec ed ee ef eg eh =
      ap₂ ◌∷◌ (ea ∙ ap s (omega arith)) (ap₂ ◌∷◌ (eb ∙ ap s (omega arith)) (ap₂ ◌∷◌ (ec ∙ ap s (omega arith)) (ap₂ ◌∷◌ (ed ∙ ap s (omega arith))
      (ap₂ ◌∷◌ (ee ∙ ap s (omega arith)) (ap₂ ◌∷◌ (ef ∙ ap s (omega arith)) (ap₂ ◌∷◌ (eg ∙ ap s (omega arith)) (ap₂ ◌∷◌ (eh ∙ ap s (omega arith)) refl)))))))
