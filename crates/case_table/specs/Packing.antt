-- The faces of a set, packed to those of another.
use Rattle.std.specs.Prelude.{ℕ, ◌+◌, ◌*◌, ◌/◌, ◌%◌, ◌^◌, ◌==◌, List, [], ◌∷◌, if◌then◌else◌}

-- the bits of `joined` at those of the listed faces that are in the set `faces`, the first one lowest
abbrev pub packed_set : List ℕ → ℕ → ℕ → ℕ
packed_set [] faces joined = 0
packed_set (f ∷ fs) faces joined =
    let rest : ℕ = packed_set fs faces joined in
    if faces / 2 ^ f % 2 == 1 then joined / 2 ^ f % 2 + 2 * rest else rest
