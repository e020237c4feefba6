-- The signs of rows of points out of those of slices, and the flags by them.
use Rattle.std.proofs.Common.{◌≡◌, ℕ, ℤ, suc, ◌+◌, ◌*◌, ◌/◌, ◌<◌, ◌≤◌, cond, List, map, take, drop, length, get_or, sym, ◌∙◌, ap, arith, ltb, inl, inr, pos}
use Rattle.std.proofs.lemmas.Bool.{cases_lt, lt-ltb, le-ltb}
use Rattle.std.proofs.lemmas.List.{get_or-drop, get_or-map, get_or-take, length-drop, length-map, length-take-le}
use Rattle.std.proofs.lemmas.Nat.{div-mul-add}
use Rattle.std.proofs.Math.Nat.{mul-le-mul_left}
use Rattle.iso_defs.specs.Grid.{Grid, index, point_count}
use Rattle.iso_defs.proofs.Points.{index_in}
use Rattle.crossing_edges.specs.Flags.{flags_from}
use Rattle.crossing_edges.specs.Leveled.{IsLeveled, Leveled, heights}
use Rattle.crossing_edges.specs.Signs.{flag_of, right_of, sign_of}
use Rattle.crossing_edges.specs.Slices.{AreSliceSigns, next_to}
use Rattle.crossing_edges.proofs.FlagParts.{row_in}
use Rattle.crossing_edges.proofs.RowFlags.{row_flags}
use Rattle.crossing_edges.proofs.SignFlags.{part_flags}

-- a slice of points lies in the grid
pub slice_in : (g : Grid) (z : ℕ) → z < g.nz → g.nx * g.ny * z + g.nx * g.ny ≤ point_count g
slice_in g z hz =
    let k : g.nx * g.ny * suc z ≤ g.nx * g.ny * g.nz = mul-le-mul_left (g.nx * g.ny) hz in
    let e : g.nx * g.ny * suc z ≡ g.nx * g.ny * z + g.nx * g.ny = omega arith in
    omega arith

-- a row of points is one of the grid
pub row_of_grid : (g : Grid) (y z : ℕ) → y < g.ny → z < g.nz → y + g.ny * z < g.ny * g.nz
row_of_grid g y z hy hz =
    let k : g.ny * suc z ≤ g.ny * g.nz = mul-le-mul_left g.ny hz in
    let e : g.ny * suc z ≡ g.ny * z + g.ny = omega arith in
    omega arith

-- of a slice that is there
pub slice_low : (g : Grid) (y z row : ℕ) → row ≡ y + g.ny * z → row < g.ny * g.nz → z < g.nz
slice_low g y z row is low = elim (cases_lt z g.nz) [
  | inl less ↦ less
  | inr high ↦ (let most : g.ny * g.nz ≤ g.ny * z = mul-le-mul_left g.ny high in absurd (omega arith))
]

-- and of one slice alone
pub same_slice : (n y z y' z' : ℕ) → y < n → y' < n → y + n * z ≡ y' + n * z' → z ≡ z'
same_slice n y z y' z' hy hy' e =
    let here : z * n + y ≡ z' * n + y' = omega arith in
    sym (div-mul-add z n y hy) ∙ (ap (λ k. k / n) here ∙ div-mul-add z' n y' hy')

-- the part of a slice that a row is
module _ (g : Grid) (slice : List ℕ) (count : length slice ≡ g.nx * g.ny) (y : ℕ) (hy : y < g.ny) where
  pub row_within : g.nx * y + g.nx ≤ length slice
  row_within =
      let k : g.nx * suc y ≤ g.nx * g.ny = mul-le-mul_left g.nx hy in
      let e : g.nx * suc y ≡ g.nx * y + g.nx = omega arith in
      omega arith

  pub row_long : length (take g.nx (drop (g.nx * y) slice)) ≡ g.nx
  row_long = length-take-le g.nx (drop (g.nx * y) slice) (omega (arith, length-drop (g.nx * y) slice, row_within))

module _ (v : Leveled) (is : IsLeveled v) where
  abbrev plane : ℕ
  plane = v.grid.nx * v.grid.ny

  abbrev signs : List ℕ
  signs = map (sign_of v.level) v.samples

  module _ (z : ℕ) (slice : List ℕ) (are : AreSliceSigns v z slice) (hz : z < v.grid.nz) where
    abbrev part : List ℤ
    part = take plane (drop (plane * z) v.samples)

    part_long : length part ≡ plane
    part_long = length-take-le plane (drop (plane * z) v.samples) (omega (arith, length-drop (plane * z) v.samples, is.count, slice_in v.grid z hz))

    pub slice_long : length slice ≡ v.grid.nx * v.grid.ny
    slice_long = ap length are.list ∙ (length-map part (sign_of v.level) ∙ part_long)

    -- the signs of a row of it
    pub sign_here : (y i : ℕ) → y < v.grid.ny → i < v.grid.nx → get_or (take v.grid.nx (drop (v.grid.nx * y) slice)) i 0 ≡ get_or signs (index v.grid i y z) 0
    sign_here y i hy hi =
        let k : ℕ = v.grid.nx * y + i in
        let low : k < plane = omega (arith, row_within v.grid slice slice_long y hy, slice_long) in
        let at : plane * z + k ≡ index v.grid i y z = omega arith in
        let inside : index v.grid i y z < length v.samples = omega (arith, is.count, index_in v.grid i y z hi hy hz) in
        get_or-take v.grid.nx (drop (v.grid.nx * y) slice) i 0 hi
        ∙ (get_or-drop (v.grid.nx * y) slice i 0
        ∙ (ap (λ l. get_or l k 0) are.list
        ∙ (get_or-map (sign_of v.level) part k (pos 0) 0 (omega (arith, part_long))
        ∙ (ap (sign_of v.level) (get_or-take plane (drop (plane * z) v.samples) k (pos 0) low ∙ (get_or-drop (plane * z) v.samples k (pos 0) ∙ ap (λ p. get_or v.samples p (pos 0)) at))
        ∙ sym (get_or-map (sign_of v.level) v.samples (index v.grid i y z) (pos 0) 0 inside)))))

  -- the flags of a row, from its slice and the next one
  module _ (y z : ℕ) (near far : List ℕ) (hy : y < v.grid.ny) (hz : z < v.grid.nz) (near_are : AreSliceSigns v z near) (far_are : AreSliceSigns v (next_to z v.grid.nz) far) where
    abbrev here : List ℕ
    here = take v.grid.nx (drop (v.grid.nx * y) near)

    abbrev up : List ℕ
    up = take v.grid.nx (drop (v.grid.nx * next_to y v.grid.ny) near)

    abbrev behind : List ℕ
    behind = take v.grid.nx (drop (v.grid.nx * y) far)

    here_is : (i : ℕ) → i < v.grid.nx → get_or here i 0 ≡ get_or signs (index v.grid i y z) 0
    here_is i low = sign_here z near near_are hz y i hy low

    up_is : (i : ℕ) → i < v.grid.nx → get_or up i 0 ≡ cond (ltb (y + 1) v.grid.ny) (get_or signs (index v.grid i y z + v.grid.nx) 0) (get_or here i 0)
    up_is i low = elim (cases_lt (y + 1) v.grid.ny) [
      | inl more ↦ (
          let next : next_to y v.grid.ny ≡ y + 1 = omega arith in
          let point : index v.grid i (y + 1) z ≡ index v.grid i y z + v.grid.nx = omega arith in
          ap (λ n. get_or (take v.grid.nx (drop (v.grid.nx * n) near)) i 0) next
          ∙ (sign_here z near near_are hz (y + 1) i more low
          ∙ (ap (λ p. get_or signs p 0) point
          ∙ ap (λ b. cond b (get_or signs (index v.grid i y z + v.grid.nx) 0) (get_or here i 0)) (sym (lt-ltb (y + 1) v.grid.ny more)))))
      | inr last ↦ (
          let same : next_to y v.grid.ny ≡ y = omega arith in
          ap (λ n. get_or (take v.grid.nx (drop (v.grid.nx * n) near)) i 0) same
          ∙ ap (λ b. cond b (get_or signs (index v.grid i y z + v.grid.nx) 0) (get_or here i 0)) (sym (le-ltb (y + 1) v.grid.ny last)))
    ]

    next_low : next_to z v.grid.nz < v.grid.nz
    next_low = omega (arith, hz)

    behind_is : (i : ℕ) → i < v.grid.nx → get_or behind i 0 ≡ cond (ltb (z + 1) v.grid.nz) (get_or signs (index v.grid i y z + v.grid.nx * v.grid.ny) 0) (get_or here i 0)
    behind_is i low =
        sign_here (next_to z v.grid.nz) far far_are next_low y i hy low
        ∙ elim (cases_lt (z + 1) v.grid.nz) [
          | inl more ↦ (
              let next : next_to z v.grid.nz ≡ z + 1 = omega arith in
              let point : index v.grid i y (z + 1) ≡ index v.grid i y z + v.grid.nx * v.grid.ny = omega arith in
              ap (λ n. get_or signs (index v.grid i y n) 0) next
              ∙ (ap (λ p. get_or signs p 0) point
              ∙ ap (λ b. cond b (get_or signs (index v.grid i y z + v.grid.nx * v.grid.ny) 0) (get_or here i 0)) (sym (lt-ltb (z + 1) v.grid.nz more))))
          | inr last ↦ (
              let same : next_to z v.grid.nz ≡ z = omega arith in
              ap (λ n. get_or signs (index v.grid i y n) 0) same
              ∙ (sym (here_is i low)
              ∙ ap (λ b. cond b (get_or signs (index v.grid i y z + v.grid.nx * v.grid.ny) 0) (get_or here i 0)) (sym (le-ltb (z + 1) v.grid.nz last))))
        ]

    pub flags_of_slices : (out : List ℕ) → length out ≡ v.grid.nx
        → ((i : ℕ) → i < length here → get_or out i 0 ≡ flag_of (get_or here i 0) (right_of here (length here) i) (get_or up i 0) (get_or behind i 0))
        → out ≡ flags_from v.grid (heights v) (v.grid.nx * (y + v.grid.ny * z)) v.grid.nx
    flags_of_slices out len each =
        let long : length here ≡ v.grid.nx = row_long v.grid near (slice_long z near near_are hz) y hy in
        row_flags v.grid signs here up behind y z hy hz here_is up_is behind_is out len
        (λ i low. each i (omega (arith, long)) ∙ ap (λ n. flag_of (get_or here i 0) (right_of here n i) (get_or up i 0) (get_or behind i 0)) long)
        ∙ part_flags v.grid v.samples v.level (v.grid.nx * (y + v.grid.ny * z)) v.grid.nx is.count (row_in v.grid (y + v.grid.ny * z) (row_of_grid v.grid y z hy hz))
