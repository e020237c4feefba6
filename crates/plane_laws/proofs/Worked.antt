-- Worked contour lines, by computation.
use Rattle.iso_defs.specs.Contours.{contours}
use Rattle.std.specs.Prelude.{◌≡◌, ℕ, ℤ, pos, negsuc, [], ◌∷◌, true, false, if◌then◌else◌, ◌==◌}
use Rattle.std.proofs.Common.{refl}

-- one point above in the middle of three by three
peak : ℕ → ℤ
peak p = if p == 13 then pos 5 else negsuc 4

peak_lines : contours (record { nx = 3; ny = 3; nz = 3 }) peak 1 ≡ (true, 31 ∷ 36 ∷ 40 ∷ 39 ∷ []) ∷ []
unfolding peak
peak_lines = refl

-- one point below at the border: one path, whose second edge is named 15
dip : ℕ → ℤ
dip p = if p == 5 then negsuc 0 else pos 1

dip_lines : contours (record { nx = 5; ny = 3; nz = 2 }) dip 0 ≡ (false, 1 ∷ 15 ∷ 16 ∷ []) ∷ []
unfolding dip
dip_lines = refl

-- a path is listed from its first edge, which is not the least here
corner : ℕ → ℤ
corner p = if p == 0 then pos 5 else negsuc 4

corner_lines : contours (record { nx = 2; ny = 2; nz = 2 }) corner 0 ≡ (false, 1 ∷ 0 ∷ []) ∷ []
unfolding corner
corner_lines = refl
