-- Each brick is asked for at most 64 rows.
use Rattle.std.proofs.Common.{◌≡◌, ℕ, zero, suc, ◌+◌, ◌*◌, ◌<◌, ◌≤◌, ◌&&◌, Bool, true, false, List, [], ◌∷◌, refl, sym, ◌∙◌, ap, ap₂, arith, if◌then◌else◌, zero-add}
use Rattle.std.specs.List.{sum_by}
use Rattle.std.specs.Prelude.{nat_lt}
use Rattle.std.proofs.lemmas.Bool.{and_from, le-ltb, lt-ltb}
use Rattle.std.proofs.lemmas.List.Sums.{sum_by-append, sum_by-cons}
use Rattle.iso_defs.proofs.Ranges.{range_append}
use Rattle.iso_defs.specs.Bricks.{brick_count}
use Rattle.iso_defs.specs.Lists.{below}
use Rattle.iso_base.specs.Volume.{IsGrid}
use Rattle.flat_mesh.specs.Lattice.{Leveled, heights}
use Rattle.brick_rows.specs.Named.{Named, asked_along, asked_among}
use Rattle.brick_rows.proofs.AskedAll.{rows_asked}
use Rattle.brick_rows.proofs.Uptos.{upto, upto_more, upto_same}
use Rattle.component_walk.specs.Asked.{asked_at, asked_before, asked_below}

sum_is : (f : ℕ → ℕ) (n : ℕ) → sum_by f (below n) ≡ upto f n
sum_is f zero = refl
sum_is f (suc n) =
    let here : 0 + n ≡ n = zero-add n in
    let next : n + 1 ≡ suc n = omega arith in
    ap (λ m. sum_by f (below m)) (sym next)
    ∙ (ap (λ (l : List ℕ). sum_by f l) (range_append 0 n 1)
    ∙ (sum_by-append f (below n) ((0 + n) ∷ []) ∙ ap₂ ◌+◌ (sum_is f n) (sum_by-cons f (0 + n) [] ∙ (omega arith ∙ ap f here))))

module _ (v : Leveled) (names : Named) where
  rows_are : (z y : ℕ) → asked_before v names z y ≡ upto (asked_at v names z) y
  unfolding asked_before
  rows_are z y = sum_is (asked_at v names z) y

  slices_are : (z : ℕ) → asked_below v names z ≡ upto (λ z. asked_before v names z v.grid.ny) z
  unfolding asked_below
  slices_are z = sum_is (λ z. asked_before v names z v.grid.ny) z

  -- one row more, and one slice
  pub row_more : (z y : ℕ) → asked_before v names z (y + 1) ≡ asked_before v names z y + asked_at v names z y
  row_more z y = let e : y + 1 ≡ suc y = omega arith in ap (asked_before v names z) e ∙ (rows_are z (suc y) ∙ ap (λ n. n + asked_at v names z y) (sym (rows_are z y)))

  pub slice_more : (z : ℕ) → asked_below v names (z + 1) ≡ asked_below v names z + asked_before v names z v.grid.ny
  slice_more z = let e : z + 1 ≡ suc z = omega arith in ap (asked_below v names) e ∙ (slices_are (suc z) ∙ ap (λ n. n + asked_before v names z v.grid.ny) (sym (slices_are z)))

  pub no_row : (z : ℕ) → asked_before v names z 0 ≡ 0
  no_row z = rows_are z 0

  pub no_slice : asked_below v names 0 ≡ 0
  no_slice = slices_are 0

  pub rows_grow : (z m n : ℕ) → m ≤ n → asked_before v names z m ≤ asked_before v names z n
  rows_grow z m n low = omega (arith, rows_are z m, rows_are z n, upto_more (asked_at v names z) m n low)

  pub slices_grow : (m n : ℕ) → m ≤ n → asked_below v names m ≤ asked_below v names n
  slices_grow m n low = omega (arith, slices_are m, slices_are n, upto_more (λ z. asked_before v names z v.grid.ny) m n low)

  -- a row that begins cells
  pub asked_inner : (z y : ℕ) → y + 1 < v.grid.ny → z + 1 < v.grid.nz → asked_at v names z y ≡ asked_along v.grid (heights v) names y z
  unfolding asked_at
  asked_inner z y hy hz =
      let begins : nat_lt (y + 1) v.grid.ny && nat_lt (z + 1) v.grid.nz ≡ true = and_from _ _ (lt-ltb (y + 1) v.grid.ny hy) (lt-ltb (z + 1) v.grid.nz hz) in
      ap (λ b. if b then asked_along v.grid (heights v) names y z else 0) begins

  not_asked : (z y : ℕ) → (nat_lt (y + 1) v.grid.ny && nat_lt (z + 1) v.grid.nz) ≡ false → asked_at v names z y ≡ 0
  unfolding asked_at
  not_asked z y none = ap (λ b. if b then asked_along v.grid (heights v) names y z else 0) none

  last_row : (z y : ℕ) → y + 1 ≡ v.grid.ny → asked_at v names z y ≡ 0
  last_row z y h = not_asked z y (ap (λ b. b && nat_lt (z + 1) v.grid.nz) (le-ltb (y + 1) v.grid.ny (omega arith)))

  last_slice : (z y : ℕ) → y < v.grid.ny → z + 1 ≡ v.grid.nz → asked_at v names z y ≡ 0
  last_slice z y low h = not_asked z y (false_right (nat_lt (y + 1) v.grid.ny) _ (le-ltb (z + 1) v.grid.nz (omega arith)))
    where
      false_right : (a b : Bool) → b ≡ false → (a && b) ≡ false
      false_right true b e = e
      false_right false b e = refl

  -- all rows together
  pub all_asked : IsGrid v.grid → 8 * asked_below v names v.grid.nz ≤ 512 * asked_among v.grid (heights v) names 0 (brick_count v.grid)
  all_asked is =
      let slices : asked_below v names v.grid.nz ≡ upto (λ z. asked_before v names z v.grid.ny) v.grid.nz = slices_are v.grid.nz in
      let rows : upto (λ z. asked_before v names z v.grid.ny) v.grid.nz ≡ upto (λ z. upto (asked_at v names z) v.grid.ny) v.grid.nz
      = upto_same (λ z. asked_before v names z v.grid.ny) (λ z. upto (asked_at v names z) v.grid.ny) v.grid.nz (λ z low. rows_are z v.grid.ny) in
      let few : upto (λ z. upto (asked_at v names z) v.grid.ny) v.grid.nz ≤ 64 * asked_among v.grid (heights v) names 0 (brick_count v.grid)
      = rows_asked v is names (asked_at v names) asked_inner last_row last_slice in
      omega arith
