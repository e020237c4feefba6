-- The cases of a cell by number: the signs of its corners, and which of its faces are joined.
use Rattle.std.specs.Prelude.{ℕ, Bool, true, false, not, ◌||◌, List, [], ◌∷◌, map, length, slice_index_or, if◌then◌else◌}
use Rattle.std.specs.List.{flat_map, list_all}
use Rattle.iso_defs.specs.Lists.{below}
use Rattle.iso_defs.specs.Face.{holds_at, is_ambiguous}
use Rattle.iso_defs.specs.Cell.{face_signs, next_pairs}
use Rattle.iso_defs.specs.Bricks.{bits_of}

-- which of the six faces are ambiguous
abbrev pub ambiguous_flags : List Bool → List Bool
ambiguous_flags signs = map (λ f. is_ambiguous (face_signs signs f)) (below 6)

-- whether each joined face is ambiguous
abbrev pub are_ambiguous : List Bool → List Bool → Bool
are_ambiguous signs joined = list_all (λ f. not (holds_at joined f) || is_ambiguous (face_signs signs f))
    (below (length joined))

-- the sets of joined faces among some faces, as binary numbers go, the first face lowest
abbrev pub joined_sets : List Bool → List ℕ → List (List Bool)
joined_sets signs [] = [] ∷ []
joined_sets signs (f ∷ fs) =
    flat_map (λ set. if is_ambiguous (face_signs signs f) then (false ∷ set) ∷ (true ∷ set) ∷ []
    else (false ∷ set) ∷ [])
    (joined_sets signs fs)

-- all cases in order: by sign byte, then by the set of joined faces
unfoldable pub cases : List (List Bool × List Bool)
cases = flat_map (λ byte. map (λ set. (bits_of 8 byte, set)) (joined_sets (bits_of 8 byte) (below 6))) (below 256)

-- the signs and the joined faces of a case by its number
unfoldable pub case_at : ℕ → List Bool × List Bool
case_at n = slice_index_or cases n ([], [])

-- which corners are above
abbrev pub case_signs : ℕ → List Bool
case_signs n = (case_at n).0

-- which faces are joined
abbrev pub case_joined : ℕ → List Bool
case_joined n = (case_at n).1

-- the segments of the six faces
abbrev pub case_pairs : ℕ → List (ℕ × ℕ)
case_pairs n = next_pairs (case_signs n) (case_joined n)
