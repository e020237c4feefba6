-- Each cell stands in one brick, so that what all cells have is what the bricks' entries have.
use Rattle.std.proofs.Common.{◌≡◌, ℕ, zero, suc, ◌+◌, ◌*◌, ◌/◌, ◌%◌, ◌<◌, ◌≤◌, ◌&&◌, Bool, true, false, cond, List, [], ◌∷◌, map, length, ltb, ℤ, refl, sym, ◌∙◌, ap, ap₂, arith, zero-add}
use Rattle.std.specs.List.{filter, sum_by}
use Rattle.std.proofs.lemmas.Bool.{le-ltb}
use Rattle.std.proofs.lemmas.List.{map-append}
use Rattle.std.proofs.lemmas.List.Elements.{filter-append}
use Rattle.std.proofs.lemmas.List.Sums.{sum_by-append, sum_by-cons}
use Rattle.std.proofs.lemmas.Nat.{div-mul-add, mod-mul-add}
use Rattle.std.proofs.Math.Nat.{div-div-eq-div-mul}
use Rattle.iso_defs.specs.Lists.{below}
use Rattle.iso_defs.specs.Grid.{Grid, coordinate, index, is_cell}
use Rattle.iso_defs.specs.Rows.{row_count}
use Rattle.iso_defs.specs.Cell.{cell_signs}
use Rattle.iso_defs.specs.Bricks.{brick_cell, brick_count, brick_start, bricks_along, cell_case, entries, has_cell, is_active_cell, is_mixed}
use Rattle.iso_defs.proofs.Points.{x_index, y_index, z_index}
use Rattle.iso_defs.proofs.Ranges.{range_append}
use Rattle.iso_base.specs.Volume.{IsGrid}
use Rattle.mesh_rows.specs.Counts.{span}
use Rattle.mesh_rows.proofs.SpanLaws.{length_more, span_none, span_not, span_one}
use Rattle.brick_rows.proofs.Uptos.{in_eights, upto, upto_same, upto_split, upto_swap, zeros}

-- lists that are chosen by number, joined
pub span_sum : {X : Type 0} (f : ℕ → List X) (p : ℕ → Bool) (n : ℕ) → length (span f p 0 n) ≡ upto (λ q. cond (p q) (length (f q)) 0) n
span_sum f p zero = ap length (span_none f p 0)
span_sum f p (suc n) =
    let e : suc n ≡ n + 1 = omega arith in
    ap (λ k. length (span f p 0 k)) e
    ∙ (length_more f p 0 n 1 ∙ ap₂ ◌+◌ (span_sum f p n) (ap (λ a. length (span f p a 1)) (zero-add n) ∙ one (p n) refl))
  where
    one : (b : Bool) → p n ≡ b → length (span f p n 1) ≡ cond b (length (f n)) 0
    one true e = ap length (span_one f p n e)
    one false e = ap length (span_not f p n e)

-- what is chosen by number and mapped, summed
chosen_sum : (value : ℕ → ℕ) (h : ℕ → ℕ) (p : ℕ → Bool) (n : ℕ) → sum_by value (map h (filter p (below n))) ≡ upto (λ l. cond (p l) (value (h l)) 0) n
chosen_sum value h p zero = refl
chosen_sum value h p (suc n) =
    let e : suc n ≡ n + 1 = omega arith in
    ap (λ k. sum_by value (map h (filter p (below k)))) e
    ∙ (ap (λ l. sum_by value (map h (filter p l))) (range_append 0 n 1)
    ∙ (ap (λ l. sum_by value (map h l)) (filter-append p (below n) ((0 + n) ∷ []))
    ∙ (ap (sum_by value) (map-append h (filter p (below n)) (filter p ((0 + n) ∷ [])))
    ∙ (sum_by-append value (map h (filter p (below n))) (map h (filter p ((0 + n) ∷ [])))
    ∙ ap₂ ◌+◌ (chosen_sum value h p n) (ap (λ k. sum_by value (map h (filter p (k ∷ [])))) (zero-add n) ∙ one (p n))))))
  where
    one : (b : Bool) → sum_by value (map h (cond {A = List ℕ} b (n ∷ []) [])) ≡ cond b (value (h n)) 0
    one true = sum_by-cons value (h n) [] ∙ plus_none (value (h n))
      where
        plus_none : (n : ℕ) → n + 0 ≡ n
        plus_none n = omega arith
    one false = refl

module _ (g : Grid) (is : IsGrid g) (f : ℕ → ℕ) where
  abbrev nbx : ℕ
  nbx = bricks_along g 0

  abbrev nby : ℕ
  nby = bricks_along g 1

  abbrev nbz : ℕ
  nbz = bricks_along g 2

  -- whether a cell begins at the point (x, y, z)
  abbrev begins : ℕ → ℕ → ℕ → Bool
  begins x y z = ltb (x + 1) g.nx && (ltb (y + 1) g.ny && ltb (z + 1) g.nz)

  -- what it then has
  abbrev at : ℕ → ℕ → ℕ → ℕ
  at x y z = cond (begins x y z) (f (index g x y z)) 0

  regroup : (a b c : Bool) → ((a && b) && c) ≡ (a && (b && c))
  regroup true b c = refl
  regroup false b c = refl

  is_begun : (x y z : ℕ) → x < g.nx → y < g.ny → z < g.nz → is_cell g (index g x y z) ≡ begins x y z
  is_begun x y z hx hy hz =
      let p : ℕ = index g x y z in
      ap (λ c. (ltb (c + 1) g.nx && ltb (coordinate g 1 p + 1) g.ny) && ltb (coordinate g 2 p + 1) g.nz) (x_index g x y z hx hy hz)
      ∙ (ap₂ (λ a b. (ltb (x + 1) g.nx && ltb (a + 1) g.ny) && ltb (b + 1) g.nz) (y_index g x y z hx hy hz) (z_index g x y z hx hy hz)
      ∙ regroup (ltb (x + 1) g.nx) (ltb (y + 1) g.ny) (ltb (z + 1) g.nz))

  -- all cells, slice by slice and row by row
  by_rows : upto (λ q. cond (is_cell g q) (f q) 0) (g.nx * row_count g) ≡ upto (λ z. upto (λ y. upto (λ x. at x y z) g.nx) g.ny) g.nz
  by_rows =
      let cell : ℕ → ℕ = λ q. cond (is_cell g q) (f q) 0 in
      let row : ℕ → ℕ = λ r. upto (λ x. cell (g.nx * r + x)) g.nx in
      upto_split cell g.nx (row_count g)
      ∙ (upto_split row g.ny g.nz
      ∙ upto_same (λ z. upto (λ y. row (g.ny * z + y)) g.ny) (λ z. upto (λ y. upto (λ x. at x y z) g.nx) g.ny) g.nz (λ z hz.
      upto_same (λ y. row (g.ny * z + y)) (λ y. upto (λ x. at x y z) g.nx) g.ny (λ y hy.
      upto_same (λ x. cell (g.nx * (g.ny * z + y) + x)) (λ x. at x y z) g.nx (λ x hx.
      let place : g.nx * (g.ny * z + y) + x ≡ index g x y z = omega arith in
      ap cell place ∙ ap (λ b. cond b (f (index g x y z)) 0) (is_begun x y z hx hy hz)))))

  none_at : (x y z : ℕ) (b : Bool) → begins x y z ≡ b → b ≡ false → at x y z ≡ 0
  none_at x y z b e none = ap (λ b. cond b (f (index g x y z)) 0) (e ∙ none)

  no_x : (x y z : ℕ) → g.nx ≤ x + 1 → at x y z ≡ 0
  no_x x y z far = none_at x y z _ refl (first _ _ (le-ltb (x + 1) g.nx far))
    where
      first : (a b : Bool) → a ≡ false → (a && b) ≡ false
      first a b e = ap (λ a. a && b) e

  no_y : (x y z : ℕ) → g.ny ≤ y + 1 → at x y z ≡ 0
  no_y x y z far = none_at x y z _ refl (second _ _ _ (le-ltb (y + 1) g.ny far))
    where
      second : (a b c : Bool) → b ≡ false → (a && (b && c)) ≡ false
      second true b c e = ap (λ b. b && c) e
      second false b c e = refl

  no_z : (x y z : ℕ) → g.nz ≤ z + 1 → at x y z ≡ 0
  no_z x y z far = none_at x y z _ refl (third _ _ _ (le-ltb (z + 1) g.nz far))
    where
      third : (a b c : Bool) → c ≡ false → (a && (b && c)) ≡ false
      third true true c e = e
      third true false c e = refl
      third false b c e = refl

  abbrev row_at : ℕ → ℕ → ℕ
  row_at y z = upto (λ x. at x y z) g.nx

  abbrev slice_at : ℕ → ℕ
  slice_at z = upto (λ y. row_at y z) g.ny

  -- what the cells have that are in a brick's row
  abbrev run : ℕ → ℕ → ℕ → ℕ
  run bx y z = upto (λ i. at (8 * bx + i) y z) 8

  row_in : (y z : ℕ) → row_at y z ≡ upto (λ bx. run bx y z) nbx
  row_in y z = in_eights (λ x. at x y z) g.nx nbx (let h = is.x.least in omega arith) (omega arith) (λ x far. no_x x y z far)

  slice_in : (z : ℕ) → slice_at z ≡ upto (λ by. upto (λ j. row_at (8 * by + j) z) 8) nby
  slice_in z = in_eights (λ y. row_at y z) g.ny nby (let h = is.y.least in omega arith) (omega arith) (λ y far. zeros (λ x. at x y z) g.nx (λ x low. no_y x y z far))

  all_in : upto slice_at g.nz ≡ upto (λ bz. upto (λ k. slice_at (8 * bz + k)) 8) nbz
  all_in = in_eights slice_at g.nz nbz (let h = is.z.least in omega arith) (omega arith)
      (λ z far. zeros (λ y. row_at y z) g.ny (λ y hy. zeros (λ x. at x y z) g.nx (λ x low. no_z x y z far)))

  -- and in a brick
  abbrev cube : ℕ → ℕ → ℕ → ℕ
  cube bx by bz = upto (λ k. upto (λ j. run bx (8 * by + j) (8 * bz + k)) 8) 8

  by_cubes : upto slice_at g.nz ≡ upto (λ bz. upto (λ by. upto (λ bx. cube bx by bz) nbx) nby) nbz
  by_cubes =
      all_in
      ∙ upto_same (λ bz. upto (λ k. slice_at (8 * bz + k)) 8) (λ bz. upto (λ by. upto (λ bx. cube bx by bz) nbx) nby) nbz (λ bz low.
      upto_same (λ k. slice_at (8 * bz + k)) (λ k. upto (λ by. upto (λ j. row_at (8 * by + j) (8 * bz + k)) 8) nby) 8 (λ k hk. slice_in (8 * bz + k))
      ∙ (upto_swap (λ k by. upto (λ j. row_at (8 * by + j) (8 * bz + k)) 8) 8 nby
      ∙ upto_same (λ by. upto (λ k. upto (λ j. row_at (8 * by + j) (8 * bz + k)) 8) 8) (λ by. upto (λ bx. cube bx by bz) nbx) nby (λ by hby.
      upto_same (λ k. upto (λ j. row_at (8 * by + j) (8 * bz + k)) 8) (λ k. upto (λ bx. upto (λ j. run bx (8 * by + j) (8 * bz + k)) 8) nbx) 8 (λ k hk.
      upto_same (λ j. row_at (8 * by + j) (8 * bz + k)) (λ j. upto (λ bx. run bx (8 * by + j) (8 * bz + k)) nbx) 8 (λ j hj. row_in (8 * by + j) (8 * bz + k))
      ∙ upto_swap (λ j bx. run bx (8 * by + j) (8 * bz + k)) 8 nbx)
      ∙ upto_swap (λ k bx. upto (λ j. run bx (8 * by + j) (8 * bz + k)) 8) 8 nbx)))

  -- the cells of a brick by their numbers
  abbrev local : ℕ → ℕ → ℕ
  local b l = cond (has_cell g b l) (f (brick_cell g b l)) 0

  module _ (bx by bz : ℕ) (hx : bx < nbx) (hy : by < nby) where
    abbrev number : ℕ
    number = nbx * (nby * bz + by) + bx

    as_row : number ≡ (nby * bz + by) * nbx + bx
    as_row = omega arith

    row : number / nbx ≡ bz * nby + by
    row = ap (λ b. b / nbx) as_row ∙ (div-mul-add (nby * bz + by) nbx bx hx ∙ omega arith)

    start_x : brick_start g number 0 ≡ 8 * bx
    start_x = ap (λ n. 8 * n) (ap (λ b. b % nbx) as_row ∙ mod-mul-add (nby * bz + by) nbx bx hx)

    start_y : brick_start g number 1 ≡ 8 * by
    start_y = ap (λ n. 8 * n) (ap (λ b. b % nby) row ∙ mod-mul-add bz nby by hy)

    start_z : brick_start g number 2 ≡ 8 * bz
    start_z = ap (λ n. 8 * n) (sym (div-div-eq-div-mul number nbx nby) ∙ (ap (λ b. b / nby) row ∙ div-mul-add bz nby by hy))

    local_is : (i j k : ℕ) → i < 8 → j < 8 → k < 8 → local number (8 * (8 * k + j) + i) ≡ at (8 * bx + i) (8 * by + j) (8 * bz + k)
    local_is i j k hi hj hk =
        let l : ℕ = 8 * (8 * k + j) + i in
        let ex : brick_start g number 0 + l % 8 ≡ 8 * bx + i = let e : l % 8 ≡ i = omega arith in omega (arith, start_x) in
        let ey : brick_start g number 1 + l / 8 % 8 ≡ 8 * by + j = let e : l / 8 % 8 ≡ j = omega arith in omega (arith, start_y) in
        let ez : brick_start g number 2 + l / 64 ≡ 8 * bz + k = let e : l / 64 ≡ k = omega arith in omega (arith, start_z) in
        let fx : brick_start g number 0 + (l % 8 + 1) ≡ 8 * bx + i + 1 = omega (arith, ex) in
        let fy : brick_start g number 1 + (l / 8 % 8 + 1) ≡ 8 * by + j + 1 = omega (arith, ey) in
        let fz : brick_start g number 2 + (l / 64 + 1) ≡ 8 * bz + k + 1 = omega (arith, ez) in
        let has : has_cell g number l ≡ begins (8 * bx + i) (8 * by + j) (8 * bz + k)
        = ap₂ (λ a b. ltb a g.nx && (ltb b g.ny && ltb (brick_start g number 2 + (l / 64 + 1)) g.nz)) fx fy
        ∙ ap (λ c. ltb (8 * bx + i + 1) g.nx && (ltb (8 * by + j + 1) g.ny && ltb c g.nz)) fz in
        let cell : brick_cell g number l ≡ index g (8 * bx + i) (8 * by + j) (8 * bz + k)
        = ap₂ (λ a b. index g a b (brick_start g number 2 + l / 64)) ex ey ∙ ap (index g (8 * bx + i) (8 * by + j)) ez in
        ap₂ (λ b q. cond b (f q) 0) has cell

    cube_is : upto (local number) 512 ≡ cube bx by bz
    cube_is =
        let group : ℕ → ℕ = λ m. upto (λ i. local number (8 * m + i)) 8 in
        upto_split (local number) 8 64
        ∙ (upto_split group 8 8
        ∙ upto_same (λ k. upto (λ j. group (8 * k + j)) 8) (λ k. upto (λ j. run bx (8 * by + j) (8 * bz + k)) 8) 8 (λ k hk.
        upto_same (λ j. group (8 * k + j)) (λ j. run bx (8 * by + j) (8 * bz + k)) 8 (λ j hj.
        upto_same (λ i. local number (8 * (8 * k + j) + i)) (λ i. at (8 * bx + i) (8 * by + j) (8 * bz + k)) 8 (λ i hi. local_is i j k hi hj hk))))

  -- all cells, brick by brick
  pub by_bricks : upto (λ q. cond (is_cell g q) (f q) 0) (g.nx * row_count g) ≡ upto (λ b. upto (local b) 512) (brick_count g)
  by_bricks =
      let brick : ℕ → ℕ = λ b. upto (local b) 512 in
      let line : ℕ → ℕ = λ r. upto (λ bx. brick (nbx * r + bx)) nbx in
      let count : brick_count g ≡ nbx * (nby * nbz) = omega arith in
      by_rows
      ∙ (by_cubes
      ∙ sym (ap (upto brick) count ∙ (upto_split brick nbx (nby * nbz) ∙ (upto_split line nby nbz
      ∙ upto_same (λ bz. upto (λ by. line (nby * bz + by)) nby) (λ bz. upto (λ by. upto (λ bx. cube bx by bz) nbx) nby) nbz (λ bz hz.
      upto_same (λ by. line (nby * bz + by)) (λ by. upto (λ bx. cube bx by bz) nbx) nby (λ by hy.
      upto_same (λ bx. brick (nbx * (nby * bz + by) + bx)) (λ bx. cube bx by bz) nbx (λ bx hx. cube_is bx by bz hx hy)))))))

-- the entries of a brick, where only cells with a crossing edge have something, and what they have goes by their cases
module _ (g : Grid) (s : ℕ → ℤ) (f value : ℕ → ℕ) (small : (q : ℕ) → cell_case g s q < 1024) (is : (q : ℕ) → value (cell_case g s q) ≡ f q)
    (none : (q : ℕ) → is_mixed (cell_signs g s q) ≡ false → f q ≡ 0) where
  one_entry : (b l : ℕ) → cond (is_active_cell g s b l) (value ((1024 * l + cell_case g s (brick_cell g b l)) % 1024)) 0 ≡ cond (has_cell g b l) (f (brick_cell g b l)) 0
  one_entry b l =
      let q : ℕ = brick_cell g b l in
      let low : cell_case g s q < 1024 = small q in
      let case : (1024 * l + cell_case g s q) % 1024 ≡ cell_case g s q = omega arith in
      ap (λ n. cond (is_active_cell g s b l) (value n) 0) case
      ∙ (ap (λ n. cond (is_active_cell g s b l) n 0) (is q) ∙ by_tests (has_cell g b l) (is_mixed (cell_signs g s q)) (f q) (none q))
    where
      by_tests : (h m : Bool) (n : ℕ) → (m ≡ false → n ≡ 0) → cond (h && m) n 0 ≡ cond h n 0
      by_tests true true n e = refl
      by_tests true false n e = sym (e refl)
      by_tests false m n e = refl

  pub of_entries : (b : ℕ) → sum_by (λ e. value (e % 1024)) (entries g s b) ≡ upto (λ l. cond (has_cell g b l) (f (brick_cell g b l)) 0) 512
  of_entries b =
      chosen_sum (λ e. value (e % 1024)) (λ l. 1024 * l + cell_case g s (brick_cell g b l)) (is_active_cell g s b) 512
      ∙ upto_same (λ l. cond (is_active_cell g s b l) (value ((1024 * l + cell_case g s (brick_cell g b l)) % 1024)) 0)
      (λ l. cond (has_cell g b l) (f (brick_cell g b l)) 0) 512 (λ l low. one_entry b l)

  -- the entries of all bricks
  pub of_all : IsGrid g → upto (λ b. sum_by (λ e. value (e % 1024)) (entries g s b)) (brick_count g) ≡ upto (λ q. cond (is_cell g q) (f q) 0) (g.nx * row_count g)
  of_all grid =
      upto_same (λ b. sum_by (λ e. value (e % 1024)) (entries g s b)) (λ b. upto (λ l. cond (has_cell g b l) (f (brick_cell g b l)) 0) 512) (brick_count g) (λ b low. of_entries b)
      ∙ sym (by_bricks g grid f)
