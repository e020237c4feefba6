-- How many bricks are asked for a row of cells, by its place.
use Rattle.std.proofs.Common.{◌≡◌, ℕ, ◌+◌, ◌*◌, ◌/◌, ◌%◌, ◌<◌, ◌∙◌, ap, arith}
use Rattle.std.proofs.lemmas.Nat.{div-mul-add, mod-mul-add}
use Rattle.flat_mesh.specs.Lattice.{Leveled, heights}
use Rattle.brick_rows.specs.Named.{Named, asked_along}
use Rattle.stitch.specs.Asked.{asked_in_row}

-- where a row of points lies, by its number
pub row_y : (n y z : ℕ) → y < n → (y + n * z) % n ≡ y
row_y n y z low = let turn : y + n * z ≡ z * n + y = omega arith in ap (λ k. k % n) turn ∙ mod-mul-add z n y low

pub row_z : (n y z : ℕ) → y < n → (y + n * z) / n ≡ z
row_z n y z low = let turn : y + n * z ≡ z * n + y = omega arith in ap (λ k. k / n) turn ∙ div-mul-add z n y low

pub asked_row_is : (v : Leveled) (names : Named) (y z : ℕ) → y < v.grid.ny → asked_in_row v names (y + v.grid.ny * z) ≡ asked_along v.grid (heights v) names y z
unfolding asked_in_row
asked_row_is v names y z low =
    let n : ℕ = v.grid.ny in
    ap (λ y'. asked_along v.grid (heights v) names y' ((y + n * z) / n)) (row_y n y z low) ∙ ap (asked_along v.grid (heights v) names y) (row_z n y z low)
