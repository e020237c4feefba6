-- A face cycle as the code has it: four values, or four signs, and where its segments end.
use Rattle.std.specs.Prelude.{◌≡◌, ℕ, ◌-◌, ◌<◌, ◌==◌, ℤ, pos, Bool, List, [], ◌∷◌, map, reverse, slice_index_or, if◌then◌else◌}
use Rattle.iso_defs.specs.Lists.{below, has_pair}
use Rattle.iso_defs.specs.Face.{is_joined, segments}

-- whether the values above have a product of at least that of the values below
abbrev pub cycle_joined : List ℤ → Bool
cycle_joined cycle =
    let value : ℕ → ℤ = λ i. slice_index_or cycle i (pos 0) in
    is_joined (value 0) (value 1) (value 2) (value 3)

-- the end of the segment that begins at an edge of the cycle, or 4
abbrev pub end_of : List (ℕ × ℕ) → ℕ → ℕ
end_of [] i = 4
end_of (p ∷ ps) i = if p.0 == i then p.1 else end_of ps i

-- that of each of the four edges
abbrev pub cycle_ends : List Bool → Bool → List ℕ
cycle_ends signs joined = map (end_of (segments signs joined)) (below 4)

-- the cycle that the cell beyond the face runs: the same first corner, and the others backwards
abbrev pub mirrored : List Bool → List Bool
mirrored [] = []
mirrored (sign ∷ signs) = sign ∷ reverse signs

-- edge i of the one is this edge of the other
abbrev pub mirrored_edge : ℕ → ℕ
mirrored_edge i = 3 - i

-- each segment of the one cycle is one of the other run backwards, where edge i of the one is its edge `image i`
abbrev pub AreReverses : List Bool → List Bool → Bool → (ℕ → ℕ) → Type 0
AreReverses signs others joined image =
    (i k : ℕ) → i < 4 → k < 4
    → has_pair (segments signs joined) i k ≡ has_pair (segments others joined) (image k) (image i)
