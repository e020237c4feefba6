-- The points of a box and their numbers are each other's inverses.
use Rattle.std.proofs.Common.{◌≡◌, ℕ, ◌+◌, ◌-◌, ◌*◌, ◌/◌, ◌%◌, ◌^◌, ◌<◌, ◌≤◌, Bool, true, refl, sym, ap, subst, ◌∙◌, arith}
use Rattle.std.specs.Prelude.{◌&&◌, nat_le}
use Rattle.std.proofs.lemmas.Bool.{and_parts, leb-true, le-leb}
use Rattle.std.proofs.lemmas.Nat.{div_below, div-mul-add, mod-mul-add}
use Rattle.std.proofs.Math.Nat.{div-add-mod, div-div-eq-div-mul, div-one, mod-eq_of_lt, mul-le-mul}
use Rattle.iso_defs.specs.Grid.{Grid, coordinate, index, point_count}
use Rattle.iso_defs.proofs.Points.{x_index, y_index, z_index, index_in, index_of_point}
use Rattle.iso_base.specs.Points.{IsPoint, index_of}
use Rattle.iso_base.specs.declared.point.Point.{Point}
use Rattle.voxel_list.specs.Areas.{Area, IsArea, area_count, is_in_area, is_within}
use Rattle.brick_store.specs.Boxes.{IsBox, area_grid, area_index, area_place}

-- tests that hold together
both : (p q : Bool) → p ≡ true → q ≡ true → p && q ≡ true
both p q e f = rw (e, f) refl

within_by : (a : Area) (p : Point) → a.low.x ≤ p.x → p.x ≤ a.high.x → a.low.y ≤ p.y → p.y ≤ a.high.y → a.low.z ≤ p.z → p.z ≤ a.high.z → is_within a p ≡ true
within_by a p lx hx ly hy lz hz =
    both (nat_le a.low.x p.x && nat_le p.x a.high.x) _ (both _ _ (le-leb _ _ lx) (le-leb _ _ hx))
    (both (nat_le a.low.y p.y && nat_le p.y a.high.y) _ (both _ _ (le-leb _ _ ly) (le-leb _ _ hy)) (both _ _ (le-leb _ _ lz) (le-leb _ _ hz)))

-- the coordinates of a place of a grid that may be thin
z_of_number : (g : Grid) (k : ℕ) → 0 < g.nx → 0 < g.ny → k < point_count g → coordinate g 2 k ≡ k / g.nx / g.ny
z_of_number g k wide deep low =
    let high : k / g.nx / g.ny < g.nz = below_depth g.nx g.ny g.nz k wide deep low in
    let e : k / (g.nx * g.ny) ≡ k / g.nx / g.ny = sym (div-div-eq-div-mul k g.nx g.ny) in
    mod-eq_of_lt (subst (λ n. n < g.nz) (sym e) high) ∙ e
  where
    below_depth : (a b c n : ℕ) → 0 < a → 0 < b → n < a * b * c → n / a / b < c
    below_depth a b c n p q h =
        let rows : n / a < b * c = div_below n a (b * c) p (omega arith) in
        div_below (n / a) b c q (omega arith)

-- the point number k
module _ (g : Grid) (a : Area) (is : IsBox g a) (k : ℕ) (low : k < area_count a) where
  -- the point between two corners
  abbrev numbered : Point → Point → Point
  numbered l h = record {
    x = l.x + k % (h.x - l.x + 1);
    y = l.y + k / (h.x - l.x + 1) % (h.y - l.y + 1);
    z = l.z + k / (h.x - l.x + 1) / (h.y - l.y + 1);
  }

  x_low : coordinate (area_grid a) 0 k ≤ a.high.x - a.low.x
  x_low = omega arith

  y_low : coordinate (area_grid a) 1 k ≤ a.high.y - a.low.y
  y_low = omega arith

  z_low : coordinate (area_grid a) 2 k ≤ a.high.z - a.low.z
  z_low = omega arith

  x_in : a.low.x + coordinate (area_grid a) 0 k < g.nx
  x_in = omega (arith, x_low, is.area.x, is.high.x)

  y_in : a.low.y + coordinate (area_grid a) 1 k < g.ny
  y_in = omega (arith, y_low, is.area.y, is.high.y)

  z_in : a.low.z + coordinate (area_grid a) 2 k < g.nz
  z_in = omega (arith, z_low, is.area.z, is.high.z)

  pub area_index_in : area_index g a k < point_count g
  area_index_in = index_in g _ _ _ x_in y_in z_in

  x_is : coordinate g 0 (area_index g a k) ≡ a.low.x + coordinate (area_grid a) 0 k
  x_is = x_index g _ _ _ x_in y_in z_in

  y_is : coordinate g 1 (area_index g a k) ≡ a.low.y + coordinate (area_grid a) 1 k
  y_is = y_index g _ _ _ x_in y_in z_in

  z_is : coordinate g 2 (area_index g a k) ≡ a.low.z + coordinate (area_grid a) 2 k
  z_is = z_index g _ _ _ x_in y_in z_in

  pub area_place-area_index : area_place g a (area_index g a k) ≡ k
  area_place-area_index =
      by_parts _ _ _ (ap (λ n. n - a.low.x) x_is ∙ omega arith) (ap (λ n. n - a.low.y) y_is ∙ omega arith) (ap (λ n. n - a.low.z) z_is ∙ omega arith)
      ∙ index_of_point (area_grid a) k low
    where
      by_parts : (x y z : ℕ) → x ≡ coordinate (area_grid a) 0 k → y ≡ coordinate (area_grid a) 1 k → z ≡ coordinate (area_grid a) 2 k
          → index (area_grid a) x y z ≡ index (area_grid a) (coordinate (area_grid a) 0 k) (coordinate (area_grid a) 1 k) (coordinate (area_grid a) 2 k)
      by_parts x y z ex ey ez = rw (ex, ey, ez) refl

  pub area_index_is_in : is_in_area g a (area_index g a k) ≡ true
  area_index_is_in =
      let p : Point = record { x = a.low.x + coordinate (area_grid a) 0 k; y = a.low.y + coordinate (area_grid a) 1 k; z = a.low.z + coordinate (area_grid a) 2 k } in
      rw (x_is, y_is, z_is) (within_by a p (omega arith) (omega (arith, x_low, is.area.x)) (omega arith) (omega (arith, y_low, is.area.y)) (omega arith) (omega (arith, z_low, is.area.z)))

  -- as it is computed
  pub point_is : (low high : Point) → low ≡ a.low → high ≡ a.high
      → (index_of g (numbered low high) ≡ area_index g a k) × IsPoint g (numbered low high)
  point_is l h el eh = rw (el, eh) (is_at (numbered a.low a.high) (ap (λ n. a.low.x + n % (area_grid a).nx) (sym (div-one k))) refl
      (ap (λ n. a.low.z + n) (sym (z_of_number (area_grid a) k (omega arith) (omega arith) low))))
    where
      is_at : (p : Point) → p.x ≡ a.low.x + coordinate (area_grid a) 0 k → p.y ≡ a.low.y + coordinate (area_grid a) 1 k → p.z ≡ a.low.z + coordinate (area_grid a) 2 k
          → (index_of g p ≡ area_index g a k) × IsPoint g p
      is_at p x y z = (rw (x, y, z) refl, record { x = subst (λ n. n < g.nx) (sym x) x_in; y = subst (λ n. n < g.ny) (sym y) y_in; z = subst (λ n. n < g.nz) (sym z) z_in })

  -- as many points as are left in its row of the box lie in the grid's row
  pub row_fits : (p : Point) → IsPoint g p → index_of g p ≡ area_index g a k → (count : ℕ) → k % (area_grid a).nx + count ≤ (area_grid a).nx → p.x + count ≤ g.nx
  row_fits p at same count row =
      let x : p.x ≡ a.low.x + k % (area_grid a).nx = sym (x_index g p.x p.y p.z at.x at.y at.z) ∙ (ap (coordinate g 0) same ∙ (x_is ∙ ap (λ n. a.low.x + n % (area_grid a).nx) (div-one k))) in
      omega (arith, x, row, is.area.x, is.high.x)

-- a number further on in a row
on_in_row : (w k d : ℕ) → k % w + d < w → ((k + d) / w ≡ k / w) × ((k + d) % w ≡ k % w + d)
on_in_row w k d row =
    let steps : k + d ≡ k / w * w + (k % w + d) = omega (arith, div-add-mod k w) in
    (ap (λ n. n / w) steps ∙ div-mul-add (k / w) w (k % w + d) row, ap (λ n. n % w) steps ∙ mod-mul-add (k / w) w (k % w + d) row)

-- the points of a row of the box follow each other in the grid
pub row_index : (g : Grid) (a : Area) (k d : ℕ) → k % (area_grid a).nx + d < (area_grid a).nx → area_index g a (k + d) ≡ area_index g a k + d
row_index g a k d row =
    let at = on_in_row (area_grid a).nx k d row in
    let x : coordinate (area_grid a) 0 (k + d) ≡ coordinate (area_grid a) 0 k + d
    = ap (λ n. n % (area_grid a).nx) (div-one (k + d)) ∙ (at.1 ∙ sym (ap (λ n. n % (area_grid a).nx + d) (div-one k))) in
    let y : coordinate (area_grid a) 1 (k + d) ≡ coordinate (area_grid a) 1 k = ap (λ n. n % (area_grid a).ny) at.0 in
    let z : coordinate (area_grid a) 2 (k + d) ≡ coordinate (area_grid a) 2 k
    = ap (λ n. n % (area_grid a).nz)
    (sym (div-div-eq-div-mul (k + d) (area_grid a).nx (area_grid a).ny) ∙ (ap (λ n. n / (area_grid a).ny) at.0 ∙ div-div-eq-div-mul k (area_grid a).nx (area_grid a).ny)) in
    moved _ _ _ x y z
  where
    apart : (l x d r : ℕ) → l + (x + d) + r ≡ l + x + r + d
    apart l x d r = omega arith

    moved : (x y z : ℕ) → x ≡ coordinate (area_grid a) 0 k + d → y ≡ coordinate (area_grid a) 1 k → z ≡ coordinate (area_grid a) 2 k
        → index g (a.low.x + x) (a.low.y + y) (a.low.z + z) ≡ area_index g a k + d
    moved x y z ex ey ez =
        rw (ex, ey, ez) (apart a.low.x (coordinate (area_grid a) 0 k) d (g.nx * (a.low.y + coordinate (area_grid a) 1 k + g.ny * (a.low.z + coordinate (area_grid a) 2 k))))

-- a point of the box has a number
module _ (g : Grid) (a : Area) (is : IsBox g a) (p : ℕ) (low : p < point_count g) (inside : is_in_area g a p ≡ true) where
  along : (l h n : ℕ) → nat_le l n && nat_le n h ≡ true → (l ≤ n) × (n ≤ h)
  along l h n e = let t = and_parts (nat_le l n) (nat_le n h) e in (leb-true _ _ t.0, leb-true _ _ t.1)

  pub x_side : (a.low.x ≤ coordinate g 0 p) × (coordinate g 0 p ≤ a.high.x)
  x_side = along _ _ _ (and_parts (nat_le a.low.x (coordinate g 0 p) && nat_le (coordinate g 0 p) a.high.x) _ inside).0

  yz : (nat_le a.low.y (coordinate g 1 p) && nat_le (coordinate g 1 p) a.high.y && (nat_le a.low.z (coordinate g 2 p) && nat_le (coordinate g 2 p) a.high.z)) ≡ true
  yz = (and_parts (nat_le a.low.x (coordinate g 0 p) && nat_le (coordinate g 0 p) a.high.x) _ inside).1

  pub y_side : (a.low.y ≤ coordinate g 1 p) × (coordinate g 1 p ≤ a.high.y)
  y_side = along _ _ _ (and_parts (nat_le a.low.y (coordinate g 1 p) && nat_le (coordinate g 1 p) a.high.y) _ yz).0

  pub z_side : (a.low.z ≤ coordinate g 2 p) × (coordinate g 2 p ≤ a.high.z)
  z_side = along _ _ _ (and_parts (nat_le a.low.y (coordinate g 1 p) && nat_le (coordinate g 1 p) a.high.y) _ yz).1

  x_off : coordinate g 0 p - a.low.x < (area_grid a).nx
  x_off = omega (arith, x_side)

  y_off : coordinate g 1 p - a.low.y < (area_grid a).ny
  y_off = omega (arith, y_side)

  z_off : coordinate g 2 p - a.low.z < (area_grid a).nz
  z_off = omega (arith, z_side)

  pub area_place_in : area_place g a p < area_count a
  area_place_in = index_in (area_grid a) _ _ _ x_off y_off z_off

  pub area_index-area_place : area_index g a (area_place g a p) ≡ p
  area_index-area_place =
      by_parts _ _ _
      (ap (λ n. a.low.x + n) (x_index (area_grid a) _ _ _ x_off y_off z_off) ∙ omega (arith, x_side))
      (ap (λ n. a.low.y + n) (y_index (area_grid a) _ _ _ x_off y_off z_off) ∙ omega (arith, y_side))
      (ap (λ n. a.low.z + n) (z_index (area_grid a) _ _ _ x_off y_off z_off) ∙ omega (arith, z_side))
      ∙ index_of_point g p low
    where
      by_parts : (x y z : ℕ) → x ≡ coordinate g 0 p → y ≡ coordinate g 1 p → z ≡ coordinate g 2 p
          → index g x y z ≡ index g (coordinate g 0 p) (coordinate g 1 p) (coordinate g 2 p)
      by_parts x y z ex ey ez = rw (ex, ey, ez) refl

-- a box has few points
pub area_count_fits : (a : Area) → IsArea a → area_count a < 2 ^ 32
area_count_fits a is =
    let x : a.high.x - a.low.x + 1 ≤ 1026 = omega (arith, is.most_x) in
    let y : a.high.y - a.low.y + 1 ≤ 1026 = omega (arith, is.most_y) in
    let z : a.high.z - a.low.z + 1 ≤ 1026 = omega (arith, is.most_z) in
    few (a.high.x - a.low.x + 1) (a.high.y - a.low.y + 1) (a.high.z - a.low.z + 1) x y z
  where
    few : (a b c : ℕ) → a ≤ 1026 → b ≤ 1026 → c ≤ 1026 → a * b * c < 2 ^ 32
    few a b c x y z =
        let ab : a * b ≤ 1026 * 1026 = mul-le-mul x y in
        let abc : a * b * c ≤ 1026 * 1026 * 1026 = mul-le-mul ab z in
        omega (arith, abc)
