-- The cells round a lattice edge that are in the grid.
use Rattle.std.proofs.Common.{◌≡◌, ℕ, ◌+◌, ◌-◌, ◌*◌, ◌/◌, ◌<◌, true, ◌&&◌, ◌||◌, sym, ◌∙◌, ap, subst, ◌⊎◌, inl, inr, arith, eqb, zero-add}
use Rattle.std.proofs.lemmas.Bool.{and_parts, or_cases, ltb-true, lt-ltb, eqb-true, and_from}
use Rattle.iso_defs.specs.Lists.{below}
use Rattle.iso_defs.specs.Grid.{Grid, coordinate, index, point_count, cells, is_cell, has_next}
use Rattle.iso_defs.specs.Cell.{corner_point, cell_edge, edge_corner}
use Rattle.case_laws.proofs.EdgePairs.{bit_x, bit_y, bit_z}
use Rattle.case_laws.proofs.Rotation.{mixes}
use Rattle.triangle_laws.proofs.Lists.{In, in_filter}
use Rattle.mesh_laws.proofs.Cells.{cell_in, range_in}
use Rattle.mesh_laws.proofs.TwoCells.{Same, same_is, Corner, corner_is, corner_below}
use Rattle.mesh_laws.proofs.Names.{corner_in}
use Rattle.iso_defs.proofs.Points.{x_index, y_index, z_index, index_in, index_of_point}

-- one coordinate of the cell at z, from those of the cells at x and y; p is that of the point
one_axis : (p q r bx by bz n : ℕ) → p ≡ q + bx → p ≡ r + by → q + 1 < n → r + 1 < n → (bz ≡ bx) ⊎ (bz ≡ by) → (p - bz + bz ≡ p) × (p - bz + 1 < n)
one_axis p q r bx by bz n e f h k (inl a) = (omega arith, omega arith)
one_axis p q r bx by bz n e f h k (inr a) = (omega arith, omega arith)

-- the three coordinates of a cell are below the last ones
pub record Low (g : Grid) (q : ℕ) : Type 0 where
  pub x : coordinate g 0 q + 1 < g.nx
  pub y : coordinate g 1 q + 1 < g.ny
  pub z : coordinate g 2 q + 1 < g.nz

pub low_is : (g : Grid) (q : ℕ) → is_cell g q ≡ true → Low g q
low_is g q h =
    let p : ((has_next g 0 q && has_next g 1 q) ≡ true) × (has_next g 2 q ≡ true) = and_parts _ _ h in
    let r : (has_next g 0 q ≡ true) × (has_next g 1 q ≡ true) = and_parts _ _ p.0 in
    record { x = ltb-true _ _ r.0; y = ltb-true _ _ r.1; z = ltb-true _ _ p.1 }

either : (a b c : ℕ) → (eqb a b || eqb a c) ≡ true → (a ≡ b) ⊎ (a ≡ c)
either a b c h = elim (or_cases _ _ h) [ inl e ↦ inl (eqb-true _ _ e) | inr e ↦ inr (eqb-true _ _ e) ]

-- where two cells round an edge are in the grid, so is each whose coordinates are of them
pub mixed : (g : Grid) (q r x y z : ℕ) → In q (cells g) → In r (cells g) → x < 12 → y < 12 → z < 12 → x / 4 ≡ z / 4
    → cell_edge g q x ≡ cell_edge g r y → mixes x y z ≡ true → (t : ℕ) × In t (cells g) × (cell_edge g t z ≡ cell_edge g q x)
mixed g q r x y z iq ir hx hy hz ax e m =
    let cq : (is_cell g q ≡ true) × (q < point_count g) = cell_in g q iq in
    let cr : (is_cell g r ≡ true) × (r < point_count g) = cell_in g r ir in
    let s : Same g q r x y = same_is g q r x y cq.0 cr.0 hx hy e in
    let k : Corner g q (edge_corner x) = corner_is g q (edge_corner x) cq.0 (corner_below x hx) in
    let lq : Low g q = low_is g q cq.0 in
    let lr : Low g r = low_is g r cr.0 in
    let p : ℕ = corner_point g q (edge_corner x) in
    let p_in : p < point_count g = corner_in g q (edge_corner x) iq (corner_below x hx) in
    let m1 : ((eqb (bit_x z) (bit_x x) || eqb (bit_x z) (bit_x y)) ≡ true)
    × (((eqb (bit_y z) (bit_y x) || eqb (bit_y z) (bit_y y)) && (eqb (bit_z z) (bit_z x) || eqb (bit_z z) (bit_z y))) ≡ true) = and_parts _ _ m in
    let m2 : ((eqb (bit_y z) (bit_y x) || eqb (bit_y z) (bit_y y)) ≡ true) × ((eqb (bit_z z) (bit_z x) || eqb (bit_z z) (bit_z y)) ≡ true) = and_parts _ _ m1.1 in
    let dx : (coordinate g 0 p - bit_x z + bit_x z ≡ coordinate g 0 p) × (coordinate g 0 p - bit_x z + 1 < g.nx)
    = one_axis (coordinate g 0 p) (coordinate g 0 q) (coordinate g 0 r) (bit_x x) (bit_x y) (bit_x z) g.nx k.x (k.x ∙ s.x) lq.x lr.x (either _ _ _ m1.0) in
    let dy : (coordinate g 1 p - bit_y z + bit_y z ≡ coordinate g 1 p) × (coordinate g 1 p - bit_y z + 1 < g.ny)
    = one_axis (coordinate g 1 p) (coordinate g 1 q) (coordinate g 1 r) (bit_y x) (bit_y y) (bit_y z) g.ny k.y (k.y ∙ s.y) lq.y lr.y (either _ _ _ m2.0) in
    let dz : (coordinate g 2 p - bit_z z + bit_z z ≡ coordinate g 2 p) × (coordinate g 2 p - bit_z z + 1 < g.nz)
    = one_axis (coordinate g 2 p) (coordinate g 2 q) (coordinate g 2 r) (bit_z x) (bit_z y) (bit_z z) g.nz k.z (k.z ∙ s.z) lq.z lr.z (either _ _ _ m2.1) in
    let X : ℕ = coordinate g 0 p - bit_x z in
    let Y : ℕ = coordinate g 1 p - bit_y z in
    let Z : ℕ = coordinate g 2 p - bit_z z in
    let hX : X < g.nx = omega (arith, dx.1) in
    let hY : Y < g.ny = omega (arith, dy.1) in
    let hZ : Z < g.nz = omega (arith, dz.1) in
    let t : ℕ = index g X Y Z in
    let ex : coordinate g 0 t ≡ X = x_index g X Y Z hX hY hZ in
    let ey : coordinate g 1 t ≡ Y = y_index g X Y Z hX hY hZ in
    let ez : coordinate g 2 t ≡ Z = z_index g X Y Z hX hY hZ in
    let nx' : has_next g 0 t ≡ true = lt-ltb _ _ (subst (λ a. a + 1 < g.nx) (sym ex) dx.1) in
    let ny' : has_next g 1 t ≡ true = lt-ltb _ _ (subst (λ a. a + 1 < g.ny) (sym ey) dy.1) in
    let nz' : has_next g 2 t ≡ true = lt-ltb _ _ (subst (λ a. a + 1 < g.nz) (sym ez) dz.1) in
    let cell : is_cell g t ≡ true = and_from _ _ (and_from _ _ nx' ny') nz' in
    let low : t < point_count g = index_in g X Y Z hX hY hZ in
    let known : In t (cells g) = in_filter (is_cell g) t (below (point_count g)) (range_in 0 (point_count g) t (omega arith) (subst (λ n. t < n) (sym (zero-add (point_count g))) low)) cell in
    let moved : corner_point g t (edge_corner z) ≡ index g (X + bit_x z) (Y + bit_y z) (Z + bit_z z)
    = spread X Y Z (bit_x z) (bit_y z) (bit_z z) g.nx g.ny in
    let point : corner_point g t (edge_corner z) ≡ p
    = moved ∙ (ap (λ a. index g a (Y + bit_y z) (Z + bit_z z)) dx.0 ∙ (ap (λ a. index g (coordinate g 0 p) a (Z + bit_z z)) dy.0
    ∙ (ap (λ a. index g (coordinate g 0 p) (coordinate g 1 p) a) dz.0 ∙ index_of_point g p p_in))) in
    (t, known, ap (λ a. 3 * a + z / 4) point ∙ ap (λ a. 3 * p + a) (sym ax))
  where
    spread : (x y z a b c m n : ℕ) → x + m * (y + n * z) + (a * 1 + (b * m + c * (m * n))) ≡ (x + a) + m * ((y + b) + n * (z + c))
    spread x y z a b c m n = omega arith
