-- Where the bricks of a row stand.
use Rattle.std.proofs.Common.{◌≡◌, ℕ, ◌+◌, ◌*◌, ◌/◌, ◌%◌, ◌<◌, ◌≤◌, true, sym, ◌∙◌, ap, subst, arith}
use Rattle.std.proofs.lemmas.Bool.{and_from, lt-ltb}
use Rattle.std.proofs.lemmas.Nat.{div-mul-add, mod-mul-add}
use Rattle.std.proofs.Math.Nat.{div-div-eq-div-mul, mul-le-mul_right}
use Rattle.iso_defs.specs.Grid.{Grid, index}
use Rattle.iso_defs.specs.Bricks.{brick_count, brick_point, brick_start, bricks_along, in_brick}
use Rattle.iso_defs.proofs.Points.{index_in}
use Rattle.iso_base.specs.Volume.{IsGrid}
use Rattle.brick_rows.specs.declared.bricks.BrickRow.{BrickRow}
use Rattle.brick_rows.specs.Bricks.{HoldRow, brick_at, first_brick}
use Rattle.brick_rows.specs.Named.{IsCellRow}

-- at most so many bricks stand in a grid
pub few_bricks : (g : Grid) → IsGrid g → brick_count g ≤ 129 * 129 * 129
few_bricks g is =
    let x : bricks_along g 0 ≤ 129 = let h = is.x.most in omega arith in
    let y : bricks_along g 1 ≤ 129 = let h = is.y.most in omega arith in
    let z : bricks_along g 2 ≤ 129 = let h = is.z.most in omega arith in
    three (bricks_along g 0) (bricks_along g 1) (bricks_along g 2) x y z
  where
    three : (a b c : ℕ) → a ≤ 129 → b ≤ 129 → c ≤ 129 → a * b * c ≤ 129 * 129 * 129
    three a b c x y z =
        let ab : a * b ≤ 129 * 129 = let l : a * b ≤ 129 * b = mul-le-mul_right b x in omega arith in
        let abc : a * b * c ≤ 129 * 129 * c = mul-le-mul_right c ab in
        omega arith

module _ (g : Grid) (is : IsGrid g) (x y z : ℕ) (hx : 8 * x + 1 < g.nx) (hy : y < g.ny) (hz : z < g.nz) where
  abbrev brick : ℕ
  brick = first_brick g y z + x

  x_low : x < bricks_along g 0
  x_low = omega arith

  y_low : brick_at g 1 y < bricks_along g 1
  y_low = let h = is.y.least in omega arith

  z_low : brick_at g 2 z < bricks_along g 2
  z_low = let h = is.z.least in omega arith

  as_row : brick ≡ (brick_at g 1 y + bricks_along g 1 * brick_at g 2 z) * bricks_along g 0 + x
  as_row = omega arith

  row : brick / bricks_along g 0 ≡ brick_at g 2 z * bricks_along g 1 + brick_at g 1 y
  row =
      ap (λ b. b / bricks_along g 0) as_row
      ∙ (div-mul-add (brick_at g 1 y + bricks_along g 1 * brick_at g 2 z) (bricks_along g 0) x x_low ∙ omega arith)

  pub start_x : brick_start g brick 0 ≡ 8 * x
  start_x =
      ap (λ n. 8 * n) (ap (λ b. b % bricks_along g 0) as_row ∙ mod-mul-add (brick_at g 1 y + bricks_along g 1 * brick_at g 2 z) (bricks_along g 0) x x_low)

  pub start_y : brick_start g brick 1 ≡ 8 * brick_at g 1 y
  start_y =
      ap (λ n. 8 * n) (ap (λ b. b % bricks_along g 1) row ∙ mod-mul-add (brick_at g 2 z) (bricks_along g 1) (brick_at g 1 y) y_low)

  pub start_z : brick_start g brick 2 ≡ 8 * brick_at g 2 z
  start_z =
      ap (λ n. 8 * n) (sym (div-div-eq-div-mul brick (bricks_along g 0) (bricks_along g 1))
      ∙ (ap (λ b. b / bricks_along g 1) row ∙ div-mul-add (brick_at g 2 z) (bricks_along g 1) (brick_at g 1 y) y_low))

  pub brick_in : brick < brick_count g
  brick_in =
      let b : Grid = record { nx = bricks_along g 0; ny = bricks_along g 1; nz = bricks_along g 2 } in
      let h : index b x (brick_at g 1 y) (brick_at g 2 z) < brick_count g = index_in b x (brick_at g 1 y) (brick_at g 2 z) x_low y_low z_low in
      omega arith

  module _ (held : BrickRow) (hold : HoldRow g y z held) where
    pub number_in : held.first + x < brick_count g
    number_in = let h = hold.first in subst (λ n. n + x < brick_count g) (sym h) brick_in

    pub starts : (axis : ℕ) → brick_start g (held.first + x) axis ≡ brick_start g brick axis
    starts axis = ap (λ n. brick_start g (n + x) axis) hold.first

    -- its points
    pub point_is : (i : ℕ) → brick_point g (held.first + x) i held.y held.z ≡ index g (8 * x + i) y z
    point_is i =
        let a : brick_start g (held.first + x) 0 ≡ 8 * x = starts 0 ∙ start_x in
        let b : brick_start g (held.first + x) 1 + held.y ≡ y = let s = start_y in let h = hold.y_at in let e = starts 1 in omega (arith, s, h, e) in
        let c : brick_start g (held.first + x) 2 + held.z ≡ z = let s = start_z in let h = hold.z_at in let e = starts 2 in omega (arith, s, h, e) in
        ap (λ n. index g (n + i) (brick_start g (held.first + x) 1 + held.y) (brick_start g (held.first + x) 2 + held.z)) a
        ∙ (ap (λ n. index g (8 * x + i) n (brick_start g (held.first + x) 2 + held.z)) b ∙ ap (index g (8 * x + i) y) c)

    -- and those of the next rows
    pub offset_point : (i j k : ℕ) → brick_point g (held.first + x) i (held.y + j) (held.z + k) ≡ index g (8 * x + i) (y + j) (z + k)
    offset_point i j k =
        let a : brick_start g (held.first + x) 0 ≡ 8 * x = starts 0 ∙ start_x in
        let b : brick_start g (held.first + x) 1 + (held.y + j) ≡ y + j = let s = start_y in let h = hold.y_at in let e = starts 1 in omega (arith, s, h, e) in
        let c : brick_start g (held.first + x) 2 + (held.z + k) ≡ z + k = let s = start_z in let h = hold.z_at in let e = starts 2 in omega (arith, s, h, e) in
        ap (λ n. index g (n + i) (brick_start g (held.first + x) 1 + (held.y + j)) (brick_start g (held.first + x) 2 + (held.z + k))) a
        ∙ (ap (λ n. index g (8 * x + i) n (brick_start g (held.first + x) 2 + (held.z + k))) b ∙ ap (index g (8 * x + i) (y + j)) c)

    -- the row is in it
    pub row_there : (i j k : ℕ) → 8 * x + i < g.nx → y + j < g.ny → z + k < g.nz → in_brick g (held.first + x) i (held.y + j) (held.z + k) ≡ true
    row_there i j k hi hj hk =
        let a : brick_start g (held.first + x) 0 ≡ 8 * x = starts 0 ∙ start_x in
        let b : brick_start g (held.first + x) 1 + held.y ≡ y = let s = start_y in let h = hold.y_at in let e = starts 1 in omega (arith, s, h, e) in
        let c : brick_start g (held.first + x) 2 + held.z ≡ z = let s = start_z in let h = hold.z_at in let e = starts 2 in omega (arith, s, h, e) in
        let p : brick_start g (held.first + x) 0 + i < g.nx = omega (arith, a) in
        let q : brick_start g (held.first + x) 1 + (held.y + j) < g.ny = omega (arith, b) in
        let r : brick_start g (held.first + x) 2 + (held.z + k) < g.nz = omega (arith, c) in
        and_from _ _ (lt-ltb _ _ p) (and_from _ _ (lt-ltb _ _ q) (lt-ltb _ _ r))

    pub points_there : in_brick g (held.first + x) 0 held.y held.z ≡ true
    points_there =
        let w : 8 * x + 0 < g.nx = omega arith in
        let h : y + 0 < g.ny = omega arith in
        let d : z + 0 < g.nz = omega arith in
        let e : held.y + 0 ≡ held.y = omega arith in
        let f : held.z + 0 ≡ held.z = omega arith in
        ap (λ n. in_brick g (held.first + x) 0 n held.z) (sym e) ∙ (ap (in_brick g (held.first + x) 0 (held.y + 0)) (sym f) ∙ row_there 0 0 0 w h d)

    -- it is a row of cells of theirs
    pub cell_row : y + 1 < g.ny → z + 1 < g.nz → IsCellRow g (held.first + x) held.y held.z
    cell_row ty tz = record {
      known = number_in;
      y_low = let h = hold.y_at in omega arith;
      z_low = let h = hold.z_at in omega arith;
      there = row_there 1 1 1 hx ty tz;
    }
