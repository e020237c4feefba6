-- No edge from a point of a brick that is not active is crossing.
use Rattle.std.proofs.Common.{◌≡◌, ℕ, ◌+◌, ◌-◌, ◌*◌, ◌/◌, ◌<◌, ◌≤◌, false, List, cond, get_or, inl, inr, length, min, refl, sym, ◌∙◌, ap, arith, eq-eqb}
use Rattle.std.proofs.lemmas.Bool.{cases_lt}
use Rattle.iso_defs.specs.Grid.{index}
use Rattle.iso_defs.specs.Cell.{cell_signs, corner_point}
use Rattle.iso_defs.specs.Bricks.{bricks_along, is_active, is_mixed}
use Rattle.crossing_edges.specs.Flags.{flags_at}
use Rattle.crossing_edges.specs.Signs.{apart, flag_of}
use Rattle.flat_mesh.specs.Lattice.{IsLeveled, Leveled, heights}
use Rattle.flat_mesh.specs.Rows.{row_start, sign_bit}
use Rattle.brick_rows.specs.declared.bricks.BrickRow.{BrickRow}
use Rattle.brick_rows.specs.Bricks.{HoldRow, IsNextFrom, brick_at, next_at}
use Rattle.brick_rows.specs.Rows.{AreZerosFrom, HasMoreFlags}
use Rattle.mesh_rows.specs.Rows.{AreFlagsTo}
use Rattle.brick_rows.proofs.FlagRows.{point_flags}
use Rattle.brick_rows.proofs.Places.{number_in, point_is, row_there}
use Rattle.brick_rows.proofs.Corners.{corner_at}
use Rattle.brick_rows.proofs.QuietBricks.{corner_alike, unmixed_cell}

flag_none : (c : ℕ) → flag_of c c c c ≡ 0
flag_none c = let none : apart c c ≡ 0 = ap (λ b. cond b 0 1) (eq-eqb c c refl) in rw none refl

module _ (v : Leveled) (is : IsLeveled v) (x y z : ℕ) (hx : 8 * x + 1 < v.grid.nx) (hy : y < v.grid.ny) (hz : z < v.grid.nz)
    (held : BrickRow) (hold : HoldRow v.grid y z held) (still : is_active v.grid (heights v) (held.first + x) ≡ false) where
  -- a cell of the brick
  unmixed : (a b d : ℕ) → 8 * x ≤ a → a < 8 * x + 8 → a + 1 < v.grid.nx → b + 1 < v.grid.ny → d + 1 < v.grid.nz
      → brick_at v.grid 1 y ≡ brick_at v.grid 1 b → brick_at v.grid 2 z ≡ brick_at v.grid 2 d → is_mixed (cell_signs v.grid (heights v) (index v.grid a b d)) ≡ false
  unmixed a b d from low wa wb wd eb ed =
      let row : BrickRow = record { first = held.first; y = b - 8 * brick_at v.grid 1 b; z = d - 8 * brick_at v.grid 2 d } in
      let first = hold.first ∙ (ap (λ n. bricks_along v.grid 0 * (n + bricks_along v.grid 1 * brick_at v.grid 2 z)) eb
      ∙ ap (λ n. bricks_along v.grid 0 * (brick_at v.grid 1 b + bricks_along v.grid 1 * n)) ed) in
      let holds : HoldRow v.grid b d row = record { first = first; y_at = omega arith; z_at = omega arith } in
      let i : ℕ = a - 8 * x in
      let at : 8 * x + i ≡ a = omega arith in
      let hb : b < v.grid.ny = omega arith in
      let hd : d < v.grid.nz = omega arith in
      let wide : 8 * x + (i + 1) < v.grid.nx = omega arith in
      unmixed_cell v (held.first + x) i row.y row.z (index v.grid a b d) still (omega arith) (omega arith) (omega arith)
      (row_there v.grid is.grid x b d hx hb hd row holds (i + 1) 1 1 wide wb wd)
      (point_is v.grid is.grid x b d hx hb hd row holds i ∙ ap (λ n. index v.grid n b d) at)

  -- the points round it
  point_sign : (a b d p q r : ℕ) → is_mixed (cell_signs v.grid (heights v) (index v.grid a b d)) ≡ false → a ≤ p → p ≤ a + 1 → b ≤ q → q ≤ b + 1 → d ≤ r → r ≤ d + 1
      → sign_bit v (index v.grid a b d) ≡ sign_bit v (index v.grid p q r)
  point_sign a b d p q r none ap₀ ap₁ bq₀ bq₁ dr₀ dr₁ =
      let i : ℕ = p - a in
      let j : ℕ = q - b in
      let k : ℕ = r - d in
      let ep : a + i ≡ p = omega arith in
      let eq : b + j ≡ q = omega arith in
      let er : d + k ≡ r = omega arith in
      let plain : corner_point v.grid (index v.grid a b d) 0 ≡ index v.grid a b d = omega arith in
      let corner = corner_at v.grid a b d i j k (omega arith) (omega arith) (omega arith) in
      let alike = corner_alike v (index v.grid a b d) none (i + 2 * j + 4 * k) (omega arith) in
      sym (ap (sign_bit v) plain) ∙ (sym (ap (λ b. cond b 1 0) alike) ∙ (ap (sign_bit v) corner
      ∙ (ap (λ n. sign_bit v (index v.grid n (b + j) (d + k))) ep ∙ (ap (λ n. sign_bit v (index v.grid p n (d + k))) eq ∙ ap (λ n. sign_bit v (index v.grid p q n)) er))))

  pub still_flags : (k : ℕ) → k < v.grid.nx → 8 * x ≤ k → min k (v.grid.nx - 2) < 8 * x + 8 → 0 ≡ flags_at v.grid (heights v) (row_start v.grid y z + k)
  still_flags k in_row from low =
      let least_y = is.grid.y.least in
      let least_z = is.grid.z.least in
      let a : ℕ = min k (v.grid.nx - 2) in
      let b : ℕ = min y (v.grid.ny - 2) in
      let d : ℕ = min z (v.grid.nz - 2) in
      let none = unmixed a b d (omega arith) low (omega arith) (omega arith) (omega arith) (omega arith) (omega arith) in
      let c : ℕ = sign_bit v (index v.grid a b d) in
      sym (flag_none c)
      ∙ point_flags v is y z hy hz k c c c c in_row
      (point_sign a b d k y z none (omega arith) (omega arith) (omega arith) (omega arith) (omega arith) (omega arith))
      (λ more. point_sign a b d (k + 1) y z none (omega arith) (omega arith) (omega arith) (omega arith) (omega arith) (omega arith))
      (λ last. refl)
      (point_sign a b d k (next_at y v.grid.ny) z none (omega arith) (omega arith) (omega arith) (omega arith) (omega arith) (omega arith))
      (point_sign a b d k y (next_at z v.grid.nz) none (omega arith) (omega arith) (omega arith) (omega arith) (omega arith) (omega arith))

-- zeros in place of the flags of the points of all bricks of a row between two places, behind the first of which the next active one stands at the second
module _ (v : Leveled) (is : IsLeveled v) (y z : ℕ) (hy : y < v.grid.ny) (hz : z < v.grid.nz) (held : BrickRow) (hold : HoldRow v.grid y z held) where
  pub zeros_more : (a b : ℕ) (flags : List ℕ) → a < bricks_along v.grid 0 → IsNextFrom v.grid (heights v) (held.first + a) (held.first + b)
      → length flags ≡ v.grid.nx → AreZerosFrom (8 * a) flags → AreFlagsTo v y z (8 * a) flags → HasMoreFlags v y z (8 * b) flags
  zeros_more a b flags some next long zeros before =
      let least_x = is.grid.x.least in
      let one : (k : ℕ) → k < v.grid.nx → min k (v.grid.nx - 2) < 8 * b → get_or flags k 0 ≡ flags_at v.grid (heights v) (row_start v.grid y z + k)
      = λ k in_row near. elim (cases_lt k (8 * a)) [
        | inl earlier ↦ before k in_row earlier
        | inr from ↦ (
            let x : ℕ = min (k / 8) (bricks_along v.grid 0 - 1) in
            let wide : 8 * x + 1 < v.grid.nx = omega arith in
            let known = number_in v.grid is.grid x y z wide hy hz held hold in
            let still = next.none_before (held.first + x) (omega arith) (omega arith) known in
            zeros k from (omega arith) ∙ still_flags v is x y z wide hy hz held hold still k in_row (omega arith) (omega arith))
      ] in
      record { first = λ k in_row low. one k in_row (omega arith); all = λ last k in_row. one k in_row (omega arith) }
