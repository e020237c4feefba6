-- Signs by the least sample above the level.
use Rattle.std.proofs.Common.{◌≡◌, ℤ, List, [], ◌∷◌, ap, ap₂, cond, int_le, map, refl}
use Rattle.iso_base.specs.Volume.{is_above_level}
use Rattle.samples.specs.Signs.{sign_of}

pub by_least : {X : Type 0} (value : X → ℤ) (level least : ℤ) → ((s : ℤ) → int_le least s ≡ is_above_level s level) → (xs : List X)
    → map (λ x. cond (int_le least (value x)) 1 0) xs ≡ map (λ x. sign_of level (value x)) xs
by_least value level least same [] = refl
by_least value level least same (x ∷ xs) = ap₂ ◌∷◌ (ap (λ b. cond b 1 0) (same (value x))) (by_least value level least same xs)
