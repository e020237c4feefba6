-- Signs of samples.
use Rattle.std.specs.Prelude.{◌≡◌, ℕ, ℤ, cond, int_le, false, Option, MatchOption}
use Rattle.iso_base.specs.Volume.{is_above_level}

-- the sign of a sample at a level: 1 where it is above, else 0
abbrev pub sign_of : ℤ → ℤ → ℕ
sign_of level sample = cond (is_above_level sample level) 1 0

-- samples that there is room for are at least so much where they are at least that of the number; where there is none, none is
abbrev pub IsBound : {X : Type 0} → (ℤ → Type 0) → (X → ℤ) → ℤ → Option X → Type 0
IsBound Fits value least bound = MatchOption bound ((v : ℤ) → Fits v → int_le least v ≡ false) (λ n. (v : ℤ) →
    Fits v → int_le (value n) v ≡ int_le least v)
