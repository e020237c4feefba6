-- Where the labels of the edges of a cell stand.
use Rattle.std.proofs.Common.{◌≡◌, ◌∙◌, ℕ, zero, suc, [], ◌∷◌, slice_index, ◌+◌, ◌*◌, ◌/◌, ◌%◌, ◌<◌, ◌≤◌, ap, sym, arith}
use Rattle.iso_defs.specs.Grid.{Grid}
use Rattle.iso_defs.specs.Cell.{cell_edge}
use Rattle.component_labels.specs.Fronts.{room, row_name}
use Rattle.std.proofs.Math.Nat.{div-add-mod, mod-eq_of_lt, mod-lt, mul-add, mul-add-mod_self_left, mul-le-mul_left, mul_assoc}

-- of so many rows of c names each, the k-th of row r has that place among m rows
module _ (c m r k : ℕ) (low : k < c) (some : 0 < m) where
  fits : c * (r % m) + k < c * m
  fits =
      let a : r % m < m = mod-lt r some in
      let b : c * (r % m + 1) ≤ c * m = mul-le-mul_left c (omega arith) in
      let d : c * (r % m + 1) ≡ c * (r % m) + c * 1 = mul-add c (r % m) 1 in
      omega arith

  whole : c * r + k ≡ c * m * (r / m) + (c * (r % m) + k)
  whole =
      let a : c * (m * (r / m) + r % m) ≡ c * r = ap (λ z. c * z) (div-add-mod r m) in
      let b : c * (m * (r / m) + r % m) ≡ c * (m * (r / m)) + c * (r % m) = mul-add c (m * (r / m)) (r % m) in
      let d : c * m * (r / m) ≡ c * (m * (r / m)) = mul_assoc c m (r / m) in
      omega arith

  pub place_is : (c * r + k) % (c * m) ≡ c * (r % m) + k
  place_is = ap (λ z. z % (c * m)) whole ∙ (mul-add-mod_self_left (c * m) (r / m) (c * (r % m) + k) ∙ mod-eq_of_lt fits)

  pub place_fits : c * (r % m) + k < c * m
  place_fits = fits

-- a row has three names for each point, and there are two rows for each along y
pub rows_is : (x y : ℕ) → 3 * x * (2 * y) ≡ 6 * (x * y)
rows_is x y =
    let a : 3 * x * (2 * y) ≡ 3 * (x * (2 * y)) = mul_assoc 3 x (2 * y) in
    let b : 2 * y ≡ y + y = omega arith in
    let d : x * (2 * y) ≡ x * y + x * y = ap (λ z. x * z) b ∙ mul-add x y y in
    omega arith

-- where the k-th name of a row stands
pub row_place_is : (g : Grid) (row k : ℕ) → k < 3 * g.nx → 0 < g.ny → (row_name g row + k) % room g ≡ 3 * g.nx * (row % (2 * g.ny)) + k
row_place_is g row k low some =
    let e : 3 * g.nx * row ≡ 3 * (g.nx * row) = mul_assoc 3 g.nx row in
    ap (λ z. (z + k) % room g) (sym e) ∙ (ap (λ z. (3 * g.nx * row + k) % z) (sym (rows_is g.nx g.ny)) ∙ place_is (3 * g.nx) (2 * g.ny) row k low (omega arith))

pub row_fits : (g : Grid) (row : ℕ) → 0 < g.nx → 0 < g.ny → 3 * g.nx * (row % (2 * g.ny)) + 3 * g.nx ≤ room g
row_fits g row x y =
    let a : row % (2 * g.ny) < 2 * g.ny = mod-lt row (omega arith) in
    let b : 3 * g.nx * (row % (2 * g.ny) + 1) ≤ 3 * g.nx * (2 * g.ny) = mul-le-mul_left (3 * g.nx) (omega arith) in
    let d : 3 * g.nx * (row % (2 * g.ny) + 1) ≡ 3 * g.nx * (row % (2 * g.ny)) + 3 * g.nx * 1 = mul-add (3 * g.nx) (row % (2 * g.ny)) 1 in
    let e : 3 * g.nx * (2 * g.ny) ≡ room g = rows_is g.nx g.ny in
    omega arith

pub first_of_row : (g : Grid) (r : ℕ) → 0 < g.nx → 0 < g.ny → 3 * g.nx * (r % (2 * g.ny)) ≡ row_name g r % room g
first_of_row g r x y =
    let z : row_name g r + 0 ≡ row_name g r = omega arith in
    let q : 3 * g.nx * (r % (2 * g.ny)) + 0 ≡ 3 * g.nx * (r % (2 * g.ny)) = omega arith in
    sym q ∙ (sym (row_place_is g r 0 (omega arith) y) ∙ ap (λ n. n % room g) z)

-- the name that stands k names behind the first of a row stands k places behind it
pub at_row : (g : Grid) (r k name place : ℕ) → 0 < g.nx → 0 < g.ny → k < 3 * g.nx → name ≡ row_name g r + k → place ≡ row_name g r % room g → place + k ≡ name % room g
at_row g r k name place x y low e p =
    let a : (row_name g r + k) % room g ≡ 3 * g.nx * (r % (2 * g.ny)) + k = row_place_is g r k low y in
    let b : row_name g r % room g ≡ 3 * g.nx * (r % (2 * g.ny)) = sym (first_of_row g r x y) in
    let d : name % room g ≡ (row_name g r + k) % room g = ap (λ z. z % room g) e in
    omega (p, a, b, d, arith)

module _ (g : Grid) (row x near up far both : ℕ) (wide : x + 1 < g.nx) (some : 0 < g.ny) (n : near ≡ row_name g row % room g) (u : up ≡ row_name g (row + 1) % room g)
    (f : far ≡ row_name g (row + g.ny) % room g) (b : both ≡ row_name g (row + g.ny + 1) % room g) where
  abbrev q : ℕ
  q = g.nx * row + x

  nu : g.nx * (row + 1) ≡ g.nx * row + g.nx
  nu = (let e : g.nx * (row + 1) ≡ g.nx * row + g.nx * 1 = mul-add g.nx row 1 in omega arith)

  nf : g.nx * (row + g.ny) ≡ g.nx * row + g.nx * g.ny
  nf = mul-add g.nx row g.ny

  nb : g.nx * (row + g.ny + 1) ≡ g.nx * row + g.nx * g.ny + g.nx
  nb = (let e : g.nx * (row + g.ny + 1) ≡ g.nx * (row + g.ny) + g.nx * 1 = mul-add g.nx (row + g.ny) 1 in omega (arith, nf))

  in_near : (k name : ℕ) → k < 3 * g.nx → name ≡ 3 * (g.nx * row) + k → near + k ≡ name % room g
  in_near k name l e = at_row g row k name near (omega arith) some l e n

  in_up : (k name : ℕ) → k < 3 * g.nx → name ≡ 3 * (g.nx * row + g.nx) + k → up + k ≡ name % room g
  in_up k name l e = at_row g (row + 1) k name up (omega arith) some l (omega (arith, nu, e)) u

  in_far : (k name : ℕ) → k < 3 * g.nx → name ≡ 3 * (g.nx * row + g.nx * g.ny) + k → far + k ≡ name % room g
  in_far k name l e = at_row g (row + g.ny) k name far (omega arith) some l (omega (arith, nf, e)) f

  in_both : (k name : ℕ) → k < 3 * g.nx → name ≡ 3 * (g.nx * row + g.nx * g.ny + g.nx) + k → both + k ≡ name % room g
  in_both k name l e = at_row g (row + g.ny + 1) k name both (omega arith) some l (omega (arith, nb, e)) b

  -- edge by edge
  pub place_of_edge : (e : ℕ) → e < 12
      → slice_index (near ∷ up ∷ far ∷ both ∷ (near + 1) ∷ (near + 4) ∷ (far + 1) ∷ (far + 4) ∷ (near + 2) ∷ (near + 5) ∷ (up + 2) ∷ (up + 5) ∷ []) e + 3 * x ≡ cell_edge g q e % room g
  place_of_edge zero l = in_near (3 * x) (cell_edge g q 0) (omega arith) (omega arith)
  place_of_edge (suc zero) l = in_up (3 * x) (cell_edge g q 1) (omega arith) (omega arith)
  place_of_edge (suc (suc zero)) l = in_far (3 * x) (cell_edge g q 2) (omega arith) (omega arith)
  place_of_edge (suc (suc (suc zero))) l = in_both (3 * x) (cell_edge g q 3) (omega arith) (omega arith)
  place_of_edge (suc (suc (suc (suc zero)))) l = (let s : near + 1 + 3 * x ≡ near + (3 * x + 1) = omega arith in s ∙ in_near (3 * x + 1) (cell_edge g q 4) (omega arith) (omega arith))
  place_of_edge (suc (suc (suc (suc (suc zero))))) l = (let s : near + 4 + 3 * x ≡ near + (3 * x + 4) = omega arith in s ∙ in_near (3 * x + 4) (cell_edge g q 5) (omega arith) (omega arith))
  place_of_edge (suc (suc (suc (suc (suc (suc zero)))))) l = (let s : far + 1 + 3 * x ≡ far + (3 * x + 1) = omega arith in s ∙ in_far (3 * x + 1) (cell_edge g q 6) (omega arith) (omega arith))
  place_of_edge (suc (suc (suc (suc (suc (suc (suc zero))))))) l = (let s : far + 4 + 3 * x ≡ far + (3 * x + 4) = omega arith in s ∙ in_far (3 * x + 4) (cell_edge g q 7) (omega arith) (omega arith))
  place_of_edge (suc (suc (suc (suc (suc (suc (suc (suc zero)))))))) l = (let s : near + 2 + 3 * x ≡ near + (3 * x + 2) = omega arith in s ∙ in_near (3 * x + 2) (cell_edge g q 8) (omega arith) (omega arith))
  place_of_edge (suc (suc (suc (suc (suc (suc (suc (suc (suc zero))))))))) l = (let s : near + 5 + 3 * x ≡ near + (3 * x + 5) = omega arith in s ∙ in_near (3 * x + 5) (cell_edge g q 9) (omega arith) (omega arith))
  place_of_edge (suc (suc (suc (suc (suc (suc (suc (suc (suc (suc zero)))))))))) l = (let s : up + 2 + 3 * x ≡ up + (3 * x + 2) = omega arith in s ∙ in_up (3 * x + 2) (cell_edge g q 10) (omega arith) (omega arith))
  place_of_edge (suc (suc (suc (suc (suc (suc (suc (suc (suc (suc (suc zero))))))))))) l = (let s : up + 5 + 3 * x ≡ up + (3 * x + 5) = omega arith in s ∙ in_up (3 * x + 5) (cell_edge g q 11) (omega arith) (omega arith))
  place_of_edge (suc (suc (suc (suc (suc (suc (suc (suc (suc (suc (suc (suc e)))))))))))) l = absurd (omega arith)
