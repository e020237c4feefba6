-- The way along a contour line, forwards and back.
use Rattle.std.specs.Prelude.{ℕ, List, [], ◌∷◌, map, if◌then◌else◌}
use Rattle.iso_defs.specs.Lists.{ends}
use Rattle.iso_defs.specs.Contours.{line_from}

-- the pairs run backwards
abbrev pub backwards : List (ℕ × ℕ) → List (ℕ × ℕ)
backwards pairs = map (λ (p : ℕ × ℕ). (p.1, p.0)) pairs

-- the last of some numbers, the first of which is given
abbrev pub last_of : ℕ → List ℕ → ℕ
last_of e [] = e
last_of e (x ∷ xs) = last_of x xs

-- where the line through an edge begins: at the last edge on the way back from it, or where that way leads round, at itself
abbrev pub start_of : List (ℕ × ℕ) → ℕ → ℕ
start_of pairs e =
    let last : ℕ = last_of e (line_from (backwards pairs) e) in
    if ends pairs last then e else last
