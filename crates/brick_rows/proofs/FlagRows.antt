-- The flags of the points of a row, from the signs of three rows.
use Rattle.std.proofs.Common.{◌≡◌, ℕ, ◌+◌, ◌-◌, ◌*◌, ◌<◌, ◌≤◌, cond, List, map, length, get_or, min, refl, sym, ◌∙◌, ap, arith, ltb, inl, inr, ℤ, pos, zero-add}
use Rattle.std.specs.Prelude.{int_le}
use Rattle.std.proofs.lemmas.Bool.{cases_lt, lt-ltb, le-ltb}
use Rattle.std.proofs.lemmas.List.{ext_get_or, get_or-map}
use Rattle.std.proofs.lemmas.List.FromFn.{get_or-map-range_with_len, length-map-range_with_len}
use Rattle.iso_defs.specs.Lists.{below}
use Rattle.iso_defs.specs.Grid.{index, point_count}
use Rattle.iso_defs.proofs.Points.{index_in}
use Rattle.crossing_edges.specs.Flags.{flags_at, flags_from}
use Rattle.crossing_edges.specs.Signs.{flag_of, right_of, sign_flags, sign_of}
use Rattle.crossing_edges.proofs.Counting.{length-flags_from}
use Rattle.crossing_edges.proofs.FlagParts.{row_in}
use Rattle.crossing_edges.proofs.RowFlags.{row_flags}
use Rattle.crossing_edges.proofs.SignFlags.{flags_are}
use Rattle.flat_mesh.specs.Lattice.{IsLeveled, Leveled, heights}
use Rattle.flat_mesh.specs.Rows.{row_start, sign_bit}
use Rattle.brick_rows.specs.Bricks.{next_at}
use Rattle.brick_rows.specs.Rows.{HasMoreFlags, bit_right, run_flags}
use Rattle.mesh_rows.specs.Rows.{AreFlags, AreFlagsTo}
use Rattle.brick_rows.specs.Runs.{IsRun}
use Rattle.corner_signs.specs.Rows.{bit_from}
use Rattle.iso_base.specs.Volume.{is_above_level, sample}

-- flags by index are the list of flags
pub flags_list : (v : Leveled) (y z : ℕ) (flags : List ℕ) → length flags ≡ v.grid.nx → AreFlags v y z flags → flags ≡ flags_from v.grid (heights v) (row_start v.grid y z) v.grid.nx
flags_list v y z flags len each =
    ext_get_or 0 flags (flags_from v.grid (heights v) (row_start v.grid y z) v.grid.nx) (len ∙ sym (length-flags_from v.grid (heights v) (row_start v.grid y z) v.grid.nx))
    (λ i h. each i (omega arith)
    ∙ sym (get_or-map-range_with_len (flags_at v.grid (heights v)) (row_start v.grid y z) v.grid.nx i (row_start v.grid y z + i) 0 (omega arith) refl))

-- a row of points lies in the grid
pub row_fits : (v : Leveled) (y z : ℕ) → y < v.grid.ny → z < v.grid.nz → row_start v.grid y z + v.grid.nx ≤ point_count v.grid
row_fits v y z hy hz =
    let row : y + v.grid.ny * z < v.grid.ny * v.grid.nz = low_row y z v.grid.ny v.grid.nz hy hz in
    row_in v.grid (y + v.grid.ny * z) row
  where
    low_row : (a b m n : ℕ) → a < m → b < n → a + m * b < m * n
    low_row a b m n h k =
        let one : index (record { nx = m; ny = n; nz = 1 }) a b 0 < point_count (record { nx = m; ny = n; nz = 1 }) = index_in (record { nx = m; ny = n; nz = 1 }) a b 0 h k (omega arith) in
        omega arith

sign_at : (v : Leveled) (p : ℕ) → IsLeveled v → p < point_count v.grid → get_or (map (sign_of v.level) v.samples) p 0 ≡ sign_bit v p
sign_at v p is low = let count = is.count in get_or-map (sign_of v.level) v.samples p (pos 0) 0 (omega arith)

-- the flags, from the signs of the row and those of the next rows
module _ (v : Leveled) (is : IsLeveled v) (y z : ℕ) (hy : y < v.grid.ny) (hz : z < v.grid.nz) where
  abbrev signs : List ℕ
  signs = map (sign_of v.level) v.samples

  abbrev at : ℕ → ℕ → ℕ → ℕ
  at i j k = sign_bit v (index v.grid i j k)

  module _ (here up far : List ℕ) (h : (i : ℕ) → i < v.grid.nx → get_or here i 0 ≡ at i y z)
      (u : (i : ℕ) → i < v.grid.nx → get_or up i 0 ≡ at i (next_at y v.grid.ny) z) (f : (i : ℕ) → i < v.grid.nx → get_or far i 0 ≡ at i y (next_at z v.grid.nz)) where
    here_is : (i : ℕ) → i < v.grid.nx → get_or here i 0 ≡ get_or signs (index v.grid i y z) 0
    here_is i low = h i low ∙ sym (sign_at v (index v.grid i y z) is (index_in v.grid i y z low hy hz))

    up_is : (i : ℕ) → i < v.grid.nx → get_or up i 0 ≡ cond (ltb (y + 1) v.grid.ny) (get_or signs (index v.grid i y z + v.grid.nx) 0) (get_or here i 0)
    up_is i low = elim (cases_lt (y + 1) v.grid.ny) [
      | inl more ↦ (
          let next : next_at y v.grid.ny ≡ y + 1 = omega arith in
          let point : index v.grid i (y + 1) z ≡ index v.grid i y z + v.grid.nx = omega arith in
          u i low ∙ (ap (λ n. at i n z) next ∙ (sym (sign_at v (index v.grid i (y + 1) z) is (index_in v.grid i (y + 1) z low more hz))
          ∙ (ap (λ p. get_or signs p 0) point
          ∙ ap (λ b. cond b (get_or signs (index v.grid i y z + v.grid.nx) 0) (get_or here i 0)) (sym (lt-ltb (y + 1) v.grid.ny more))))))
      | inr last ↦ (
          let same : next_at y v.grid.ny ≡ y = omega arith in
          u i low ∙ (ap (λ n. at i n z) same ∙ (sym (h i low)
          ∙ ap (λ b. cond b (get_or signs (index v.grid i y z + v.grid.nx) 0) (get_or here i 0)) (sym (le-ltb (y + 1) v.grid.ny last)))))
    ]

    far_is : (i : ℕ) → i < v.grid.nx → get_or far i 0 ≡ cond (ltb (z + 1) v.grid.nz) (get_or signs (index v.grid i y z + v.grid.nx * v.grid.ny) 0) (get_or here i 0)
    far_is i low = elim (cases_lt (z + 1) v.grid.nz) [
      | inl more ↦ (
          let next : next_at z v.grid.nz ≡ z + 1 = omega arith in
          let point : index v.grid i y (z + 1) ≡ index v.grid i y z + v.grid.nx * v.grid.ny = omega arith in
          f i low ∙ (ap (λ n. at i y n) next ∙ (sym (sign_at v (index v.grid i y (z + 1)) is (index_in v.grid i y (z + 1) low hy more))
          ∙ (ap (λ p. get_or signs p 0) point
          ∙ ap (λ b. cond b (get_or signs (index v.grid i y z + v.grid.nx * v.grid.ny) 0) (get_or here i 0)) (sym (lt-ltb (z + 1) v.grid.nz more))))))
      | inr last ↦ (
          let same : next_at z v.grid.nz ≡ z = omega arith in
          f i low ∙ (ap (λ n. at i y n) same ∙ (sym (h i low)
          ∙ ap (λ b. cond b (get_or signs (index v.grid i y z + v.grid.nx * v.grid.ny) 0) (get_or here i 0)) (sym (le-ltb (z + 1) v.grid.nz last)))))
    ]

    flags_by_signs : (out : List ℕ) → length out ≡ v.grid.nx
        → ((i : ℕ) → i < v.grid.nx → get_or out i 0 ≡ flag_of (get_or here i 0) (right_of here v.grid.nx i) (get_or up i 0) (get_or far i 0)) → AreFlags v y z out
    flags_by_signs out len each x low =
        let count = is.count in
        let list = row_flags v.grid signs here up far y z hy hz here_is up_is far_is out len each in
        let fits = row_fits v y z hy hz in
        ap (λ l. get_or l x 0) list
        ∙ (get_or-map-range_with_len (sign_flags v.grid signs) (row_start v.grid y z) v.grid.nx x (row_start v.grid y z + x) 0 low refl
        ∙ flags_are v.grid v.samples v.level (row_start v.grid y z + x) is.count (omega arith))

  -- the signs of a whole row
  abbrev row_signs : ℕ → ℕ → List ℕ
  row_signs j k = map (λ i. at i j k) (below v.grid.nx)

  row_sign : (j k i : ℕ) → i < v.grid.nx → get_or (row_signs j k) i 0 ≡ at i j k
  row_sign j k i low = get_or-map-range_with_len (λ i. at i j k) 0 v.grid.nx i i 0 low (zero-add i)

  -- the flags of one point
  pub point_flags : (x a b c d : ℕ) → x < v.grid.nx → a ≡ at x y z → (x + 1 < v.grid.nx → b ≡ at (x + 1) y z) → (v.grid.nx ≤ x + 1 → b ≡ a)
      → c ≡ at x (next_at y v.grid.ny) z → d ≡ at x y (next_at z v.grid.nz) → flag_of a b c d ≡ flags_at v.grid (heights v) (row_start v.grid y z + x)
  point_flags x a b c d low ea more last ec ed =
      let here : List ℕ = row_signs y z in
      let up : List ℕ = row_signs (next_at y v.grid.ny) z in
      let far : List ℕ = row_signs y (next_at z v.grid.nz) in
      let flag : ℕ → ℕ = λ i. flag_of (get_or here i 0) (right_of here v.grid.nx i) (get_or up i 0) (get_or far i 0) in
      let all = flags_by_signs here up far (row_sign y z) (row_sign (next_at y v.grid.ny) z) (row_sign y (next_at z v.grid.nz)) (map flag (below v.grid.nx))
      (length-map-range_with_len flag 0 v.grid.nx) (λ i h. get_or-map-range_with_len flag 0 v.grid.nx i i 0 h (zero-add i)) x low in
      let fa : a ≡ get_or here x 0 = ea ∙ sym (row_sign y z x low) in
      let fb : b ≡ right_of here v.grid.nx x = elim (cases_lt (x + 1) v.grid.nx) [
        | inl h ↦ more h ∙ (sym (row_sign y z (x + 1) h) ∙ ap (λ t. cond t (get_or here (x + 1) 0) (get_or here x 0)) (sym (lt-ltb (x + 1) v.grid.nx h)))
        | inr h ↦ last h ∙ (fa ∙ ap (λ t. cond t (get_or here (x + 1) 0) (get_or here x 0)) (sym (le-ltb (x + 1) v.grid.nx h)))
      ] in
      let fc : c ≡ get_or up x 0 = ec ∙ sym (row_sign (next_at y v.grid.ny) z x low) in
      let fd : d ≡ get_or far x 0 = ed ∙ sym (row_sign y (next_at z v.grid.nz) x low) in
      ap (λ n. flag_of n b c d) fa ∙ (ap (λ n. flag_of (get_or here x 0) n c d) fb
      ∙ (ap (λ n. flag_of (get_or here x 0) (right_of here v.grid.nx x) n d) fc
      ∙ (ap (λ n. flag_of (get_or here x 0) (right_of here v.grid.nx x) (get_or up x 0) n) fd
      ∙ (sym (get_or-map-range_with_len flag 0 v.grid.nx x x 0 low (zero-add x)) ∙ all))))

  -- a run of them
  pub flags_more : (x n : ℕ) (least : ℤ) (here up far : List ℤ) (old new : List ℕ) → 8 * x + 1 < v.grid.nx → n ≡ min 9 (v.grid.nx - 8 * x)
      → IsRun v (8 * x) y z here → IsRun v (8 * x) (next_at y v.grid.ny) z up → IsRun v (8 * x) y (next_at z v.grid.nz) far
      → ((s : ℤ) → int_le least s ≡ is_above_level s v.level)
      → ((i : ℕ) → i < length here → (8 * x + 9 < v.grid.nx → i < 8) → get_or new (8 * x + i) 0 ≡ run_flags least here up far i)
      → ((k : ℕ) → k < 8 * x → get_or new k 0 ≡ get_or old k 0) → AreFlagsTo v y z (8 * x) old → HasMoreFlags v y z (8 * x + 8) new
  unfolding run_flags
  flags_more x n least here up far old new wide few h u f law inside before flags =
      let uy : ℕ = next_at y v.grid.ny in
      let fz : ℕ = next_at z v.grid.nz in
      let count : length here ≡ n = let e = h.count in omega arith in
      let wide_up : length up ≡ n = let e = u.count in omega arith in
      let wide_far : length far ≡ n = let e = f.count in omega arith in
      let bit : (run : List ℤ) (i p : ℕ) → get_or run i (pos 0) ≡ sample v.samples p → bit_from least (sample run i) ≡ sign_bit v p
      = λ run i p e. ap (λ b. cond b 1 0) (law (sample run i)) ∙ ap (λ s. sign_of v.level s) e in
      let one : (k : ℕ) → k < v.grid.nx → k < 8 * x + n → (k + 1 < v.grid.nx → k + 1 < 8 * x + n) → (8 * x + 9 < v.grid.nx → k < 8 * x + 8) → get_or new k 0 ≡ flags_at v.grid (heights v) (row_start v.grid y z + k)
      = λ k in_row low next near. elim (cases_lt k (8 * x)) [
        | inl earlier ↦ before k earlier ∙ flags k in_row earlier
        | inr later ↦ (
            let i : ℕ = k - 8 * x in
            let within : i < n = omega arith in
            let point : 8 * x + i ≡ k = omega arith in
            let behind : 8 * x + (i + 1) ≡ k + 1 = omega arith in
            sym (ap (λ n. get_or new n 0) point) ∙ (inside i (omega arith) (λ wider. let m = near wider in omega arith)
            ∙ point_flags k (bit_from least (sample here i)) (bit_right least here i) (bit_from least (sample up i)) (bit_from least (sample far i)) in_row
            (bit here i (index v.grid (8 * x + i) y z) (h.each i (omega arith)) ∙ ap (λ n. at n y z) point)
            (λ more. let right : i + 1 < length here = let m = next more in omega arith in
            ap (λ t. cond t (bit_from least (sample here (i + 1))) (bit_from least (sample here i))) (lt-ltb (i + 1) (length here) right)
            ∙ (bit here (i + 1) (index v.grid (8 * x + (i + 1)) y z) (h.each (i + 1) right) ∙ ap (λ n. at n y z) behind))
            (λ last. let none : length here ≤ i + 1 = omega arith in ap (λ t. cond t (bit_from least (sample here (i + 1))) (bit_from least (sample here i))) (le-ltb (i + 1) (length here) none))
            (bit up i (index v.grid (8 * x + i) uy z) (u.each i (omega arith)) ∙ ap (λ n. at n uy z) point)
            (bit far i (index v.grid (8 * x + i) y fz) (f.each i (omega arith)) ∙ ap (λ n. at n y fz) point)))
      ] in
      record {
        first = λ k in_row low. one k in_row (omega arith) (λ more. omega arith) (λ wider. low);
        all = λ last k in_row. one k in_row (omega arith) (λ more. omega arith) (λ wider. omega arith);
      }
