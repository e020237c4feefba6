-- Rows of signs out of slices of signs, and the flags by them.
use Rattle.std.proofs.Common.{◌≡◌, ℕ, ℤ, suc, ◌+◌, ◌-◌, ◌*◌, ◌<◌, ◌≤◌, cond, List, map, take, drop, replicate, length, get_or, refl, sym, ◌∙◌, ap, subst, arith, ltb, eq-eqb, inl, inr, pos}
use Rattle.std.proofs.lemmas.Bool.{cases_lt, lt-ltb, le-ltb}
use Rattle.std.proofs.lemmas.List.{get_or-drop, get_or-map, get_or-replicate, get_or-take, length-drop, length-map, length-replicate, length-take-le}
use Rattle.std.proofs.lemmas.List.FromFn.{get_or-map-range_with_len}
use Rattle.std.proofs.Math.Nat.{mul-le-mul_left}
use Rattle.iso_defs.specs.Grid.{index, point_count}
use Rattle.iso_defs.proofs.Points.{index_in}
use Rattle.crossing_edges.specs.Signs.{apart, flag_of, right_of, sign_flags, sign_of}
use Rattle.crossing_edges.proofs.RowFlags.{row_flags}
use Rattle.crossing_edges.proofs.SignFlags.{flags_are}
use Rattle.flat_mesh.specs.Lattice.{IsLeveled, Leveled}
use Rattle.flat_mesh.specs.Rows.{AreSigns, row_start, sign_bit}
use Rattle.crossing_edges.proofs.SliceRows.{slice_in}
use Rattle.flat_mesh.proofs.Parts.{part_at, part_length, row_fits}
use Rattle.mesh_rows.specs.Rows.{AreFlags, IsStill}
use Rattle.sample_rows.specs.Cases.{HasNoLoops}
use Rattle.sample_rows.specs.Signs.{AreRowSigns, AreSliceSigns, next_to}
use Rattle.sample_rows.specs.declared.signs.RowSigns.{RowSigns}
use Rattle.sample_rows.proofs.RowCases.{alike_rows}

-- a row of a slice
module _ (v : Leveled) (z : ℕ) (slice : List ℕ) (is : IsLeveled v) (are : AreSliceSigns v z slice) (hz : z < v.grid.nz) where
  abbrev plane : ℕ
  plane = v.grid.nx * v.grid.ny

  abbrev part : List ℤ
  part = take plane (drop (plane * z) v.samples)

  part_long : length part ≡ plane
  part_long = length-take-le plane (drop (plane * z) v.samples) (omega (arith, length-drop (plane * z) v.samples, is.count, slice_in v.grid z hz))

  pub slice_length : length slice ≡ v.grid.nx * v.grid.ny
  slice_length = ap length are.list ∙ (length-map part (sign_of v.level) ∙ part_long)

  pub row_within : (y : ℕ) → y < v.grid.ny → v.grid.nx * y + v.grid.nx ≤ length slice
  row_within y hy =
      let k : v.grid.nx * suc y ≤ v.grid.nx * v.grid.ny = mul-le-mul_left v.grid.nx hy in
      let e : v.grid.nx * suc y ≡ v.grid.nx * y + v.grid.nx = omega arith in
      omega (arith, slice_length)

  sign_here : (x y : ℕ) → x < v.grid.nx → y < v.grid.ny → get_or slice (v.grid.nx * y + x) 0 ≡ sign_bit v (index v.grid x y z)
  sign_here x y hx hy =
      let i : ℕ = v.grid.nx * y + x in
      let low : i < plane = omega (arith, row_within y hy, slice_length) in
      let at : plane * z + i ≡ index v.grid x y z = omega arith in
      ap (λ l. get_or l i 0) are.list ∙ (get_or-map (sign_of v.level) part i (pos 0) 0 (omega (arith, part_long))
      ∙ ap (sign_of v.level) (get_or-take plane (drop (plane * z) v.samples) i (pos 0) low ∙ (get_or-drop (plane * z) v.samples i (pos 0) ∙ ap (λ p. get_or v.samples p (pos 0)) at)))

  pub row_of_slice : (y a e : ℕ) → y < v.grid.ny → a ≡ v.grid.nx * y → e ≡ a + v.grid.nx → AreSigns v y z (take (e - a) (drop a slice))
  row_of_slice y a e hy start end =
      let within : e ≤ length slice = omega (arith, row_within y hy) in
      record {
        count = part_length a v.grid.nx e slice end within;
        each = λ x h. part_at a v.grid.nx e slice end within x 0 h ∙ (ap (λ a. get_or slice (a + x) 0) start ∙ sign_here x y h hy);
      }

sign_at : (v : Leveled) (p : ℕ) → IsLeveled v → p < point_count v.grid → get_or (map (sign_of v.level) v.samples) p 0 ≡ sign_bit v p
sign_at v p is low = let count = is.count in get_or-map (sign_of v.level) v.samples p (pos 0) 0 (omega arith)

-- the flags, from the signs of the row and those of the next rows
module _ (v : Leveled) (is : IsLeveled v) (y z : ℕ) (hy : y < v.grid.ny) (hz : z < v.grid.nz) (row : RowSigns) (are : AreRowSigns v y z row) where
  abbrev signs : List ℕ
  signs = map (sign_of v.level) v.samples

  abbrev at : ℕ → ℕ → ℕ → ℕ
  at i j k = sign_bit v (index v.grid i j k)

  abbrev here : List ℕ
  here = row.here.now

  abbrev up : List ℕ
  up = row.up.now

  abbrev far : List ℕ
  far = row.far.now

  here_is : (i : ℕ) → i < v.grid.nx → get_or here i 0 ≡ get_or signs (index v.grid i y z) 0
  here_is i low = are.here.each i low ∙ sym (sign_at v (index v.grid i y z) is (index_in v.grid i y z low hy hz))

  up_is : (i : ℕ) → i < v.grid.nx → get_or up i 0 ≡ cond (ltb (y + 1) v.grid.ny) (get_or signs (index v.grid i y z + v.grid.nx) 0) (get_or here i 0)
  up_is i low = elim (cases_lt (y + 1) v.grid.ny) [
    | inl more ↦ (
        let next : next_to y v.grid.ny ≡ y + 1 = omega arith in
        let point : index v.grid i (y + 1) z ≡ index v.grid i y z + v.grid.nx = omega arith in
        are.up.each i low ∙ (ap (λ n. at i n z) next ∙ (sym (sign_at v (index v.grid i (y + 1) z) is (index_in v.grid i (y + 1) z low more hz))
        ∙ (ap (λ p. get_or signs p 0) point
        ∙ ap (λ b. cond b (get_or signs (index v.grid i y z + v.grid.nx) 0) (get_or here i 0)) (sym (lt-ltb (y + 1) v.grid.ny more))))))
    | inr last ↦ (
        let same : next_to y v.grid.ny ≡ y = omega arith in
        are.up.each i low ∙ (ap (λ n. at i n z) same ∙ (sym (are.here.each i low)
        ∙ ap (λ b. cond b (get_or signs (index v.grid i y z + v.grid.nx) 0) (get_or here i 0)) (sym (le-ltb (y + 1) v.grid.ny last)))))
  ]

  far_is : (i : ℕ) → i < v.grid.nx → get_or far i 0 ≡ cond (ltb (z + 1) v.grid.nz) (get_or signs (index v.grid i y z + v.grid.nx * v.grid.ny) 0) (get_or here i 0)
  far_is i low = elim (cases_lt (z + 1) v.grid.nz) [
    | inl more ↦ (
        let next : next_to z v.grid.nz ≡ z + 1 = omega arith in
        let point : index v.grid i y (z + 1) ≡ index v.grid i y z + v.grid.nx * v.grid.ny = omega arith in
        are.far.each i low ∙ (ap (λ n. at i y n) next ∙ (sym (sign_at v (index v.grid i y (z + 1)) is (index_in v.grid i y (z + 1) low hy more))
        ∙ (ap (λ p. get_or signs p 0) point
        ∙ ap (λ b. cond b (get_or signs (index v.grid i y z + v.grid.nx * v.grid.ny) 0) (get_or here i 0)) (sym (lt-ltb (z + 1) v.grid.nz more))))))
    | inr last ↦ (
        let same : next_to z v.grid.nz ≡ z = omega arith in
        are.far.each i low ∙ (ap (λ n. at i y n) same ∙ (sym (are.here.each i low)
        ∙ ap (λ b. cond b (get_or signs (index v.grid i y z + v.grid.nx * v.grid.ny) 0) (get_or here i 0)) (sym (le-ltb (z + 1) v.grid.nz last)))))
  ]

  flags_by : (out : List ℕ) → length out ≡ v.grid.nx
      → ((i : ℕ) → i < v.grid.nx → get_or out i 0 ≡ flag_of (get_or here i 0) (right_of here v.grid.nx i) (get_or up i 0) (get_or far i 0)) → AreFlags v y z out
  flags_by out len each x low =
      let count = is.count in
      let list = row_flags v.grid signs here up far y z hy hz here_is up_is far_is out len each in
      let fits = row_fits v.grid y z (omega arith) hy hz in
      ap (λ l. get_or l x 0) list
      ∙ (get_or-map-range_with_len (sign_flags v.grid signs) (row_start v.grid y z) v.grid.nx x (row_start v.grid y z + x) 0 low refl
      ∙ flags_are v.grid v.samples v.level (row_start v.grid y z + x) is.count (omega arith))

  pub flags_by_signs : (out : List ℕ) → length out ≡ v.grid.nx
      → ((i : ℕ) → i < length here → get_or out i 0 ≡ flag_of (get_or here i 0) (right_of here (length here) i) (get_or up i 0) (get_or far i 0)) → AreFlags v y z out
  flags_by_signs out len each =
      flags_by out len (λ i low. each i (omega (arith, are.here.count)) ∙ ap (λ n. flag_of (get_or here i 0) (right_of here n i) (get_or up i 0) (get_or far i 0)) are.here.count)

  -- rows that are all alike
  module _ (sign : ℕ) (here_all : (x : ℕ) → x < length here → get_or here x 0 ≡ sign) (up_all : (x : ℕ) → x < length up → get_or up x 0 ≡ sign)
      (far_all : (x : ℕ) → x < length far → get_or far x 0 ≡ sign) where
    right_all : (i : ℕ) → i < v.grid.nx → right_of here v.grid.nx i ≡ sign
    right_all i low = elim (cases_lt (i + 1) v.grid.nx) [
      | inl h ↦ ap (λ b. cond b (get_or here (i + 1) 0) (get_or here i 0)) (lt-ltb (i + 1) v.grid.nx h) ∙ here_all (i + 1) (omega (arith, are.here.count))
      | inr h ↦ ap (λ b. cond b (get_or here (i + 1) 0) (get_or here i 0)) (le-ltb (i + 1) v.grid.nx h) ∙ here_all i (omega (arith, are.here.count))
    ]

    no_flags : (a b c d : ℕ) → a ≡ sign → b ≡ sign → c ≡ sign → d ≡ sign → flag_of a b c d ≡ 0
    no_flags a b c d ea eb ec ed =
        let one : (k : ℕ) → k ≡ sign → apart a k ≡ 0 = λ k e. ap (λ t. cond t 0 1) (eq-eqb a k (ea ∙ sym e)) in
        omega (arith, one b eb, one c ec, one d ed)

    pub still_by_signs : IsStill v y z
    still_by_signs =
        let are_zero : AreFlags v y z (replicate v.grid.nx 0) = flags_by (replicate v.grid.nx 0) (length-replicate v.grid.nx 0)
        (λ i low. get_or-replicate v.grid.nx i 0 0 low ∙ sym (no_flags (get_or here i 0) (right_of here v.grid.nx i) (get_or up i 0) (get_or far i 0)
        (here_all i (omega (arith, are.here.count))) (right_all i low) (up_all i (omega (arith, are.up.count))) (far_all i (omega (arith, are.far.count))))) in
        record { none = λ x low. sym (are_zero x low) ∙ get_or-replicate v.grid.nx x 0 0 low }

    pub quiet_by_signs : ((x : ℕ) → x < length row.both.now → get_or row.both.now x 0 ≡ sign) → sign ≤ 1 → HasNoLoops v y z
    quiet_by_signs both_all small = record {
      none = λ x h more_y more_z.
          (let next_y : next_to y v.grid.ny ≡ y + 1 = omega arith in
          let next_z : next_to z v.grid.nz ≡ z + 1 = omega arith in
          (alike_rows v y z sign here up far row.both.now are.here (subst (λ j. AreSigns v j z up) next_y are.up) (subst (λ k. AreSigns v y k far) next_z are.far)
          (subst (λ k. AreSigns v (y + 1) k row.both.now) next_z (subst (λ j. AreSigns v j (next_to z v.grid.nz) row.both.now) next_y are.both))
          here_all up_all far_all both_all small).none x h more_y more_z);
    }
