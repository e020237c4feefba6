-- A pair of lattice edges is a segment, in one direction, of one cell at most.
use Rattle.std.proofs.Common.{◌≡◌, ℕ, ◌+◌, ◌*◌, ◌/◌, ◌%◌, ◌<◌, Bool, true, false, ◌&&◌, ◌||◌, not, refl, sym, ◌∙◌, ap, subst, arith, ltb, eqb, ℤ, List, inl, inr}
use Rattle.std.proofs.lemmas.Bool.{and_parts, ltb-true, eqb-true, eq-eqb, or_cases, and_from}
use Rattle.std.proofs.lemmas.List.FromFn.{get_or-map-range_with_len}
use Rattle.iso_defs.specs.Grid.{Grid, coordinate, is_cell, has_next, is_above}
use Rattle.iso_defs.specs.Face.{holds_at}
use Rattle.iso_defs.specs.Cell.{corner_point, edge_corner, cell_edge, cell_signs, cell_joined, next_pairs}
use Rattle.case_laws.proofs.Cases.{all_below, same}
use Rattle.case_laws.proofs.EdgePairs.{shares_face, direction, pair_test, pair_test_all, bit_x, bit_y, bit_z, alike, same_corner, implies, two_cells_test, two_cells_all}
use Rattle.case_laws.proofs.Tests.{all_below_at, cell_passes}
use Rattle.triangle_laws.proofs.Lists.{In, list_all_at}
use Rattle.iso_defs.proofs.Coordinates.{x_moved, y_moved, z_moved}

pub corner_below : (e : ℕ) → e < 12 → edge_corner e < 8
corner_below e h =
    let test : all_below 12 (λ e. ltb (edge_corner e) 8) ≡ true = refl in
    ltb-true (edge_corner e) 8 (all_below_at 12 (λ e. ltb (edge_corner e) 8) e test h)

pub sign_is : (g : Grid) (s : ℕ → ℤ) (q c : ℕ) → c < 8 → holds_at (cell_signs g s q) c ≡ is_above (s (corner_point g q c))
sign_is g s q c h = get_or-map-range_with_len (λ c. is_above (s (corner_point g q c))) 0 8 c c false h (omega arith)

-- the coordinates of a corner of a cell
pub record Corner (g : Grid) (q c : ℕ) : Type 0 where
  pub x : coordinate g 0 (corner_point g q c) ≡ coordinate g 0 q + c % 2
  pub y : coordinate g 1 (corner_point g q c) ≡ coordinate g 1 q + c / 2 % 2
  pub z : coordinate g 2 (corner_point g q c) ≡ coordinate g 2 q + c / 4

pub corner_is : (g : Grid) (q c : ℕ) → is_cell g q ≡ true → c < 8 → Corner g q c
corner_is g q c h l =
    let p : ((has_next g 0 q && has_next g 1 q) ≡ true) × (has_next g 2 q ≡ true) = and_parts _ _ h in
    let r : (has_next g 0 q ≡ true) × (has_next g 1 q ≡ true) = and_parts _ _ p.0 in
    let hx : coordinate g 0 q + 1 < g.nx = ltb-true _ _ r.0 in
    let hy : coordinate g 1 q + 1 < g.ny = ltb-true _ _ r.1 in
    let hz : coordinate g 2 q + 1 < g.nz = ltb-true _ _ p.1 in
    let kx : coordinate g 0 q + c % 2 < g.nx = omega arith in
    let ky : coordinate g 1 q + c / 2 % 2 < g.ny = omega arith in
    let kz : coordinate g 2 q + c / 4 < g.nz = omega arith in
    record {
      x = x_moved g q (c % 2) (c / 2 % 2) (c / 4) kx ky kz;
      y = y_moved g q (c % 2) (c / 2 % 2) (c / 4) kx ky kz;
      z = z_moved g q (c % 2) (c / 2 % 2) (c / 4) kx ky kz;
    }

pub same_edge : (g : Grid) (q r a c : ℕ) → a < 12 → c < 12 → cell_edge g q a ≡ cell_edge g r c →
    (corner_point g q (edge_corner a) ≡ corner_point g r (edge_corner c)) × (a / 4 ≡ c / 4)
same_edge g q r a c ha hc e = (omega arith, omega arith)

-- two edges of two cells that are the same in the grid
pub record Same (g : Grid) (q r a c : ℕ) : Type 0 where
  pub axis : a / 4 ≡ c / 4
  pub point : corner_point g q (edge_corner a) ≡ corner_point g r (edge_corner c)
  pub x : coordinate g 0 q + bit_x a ≡ coordinate g 0 r + bit_x c
  pub y : coordinate g 1 q + bit_y a ≡ coordinate g 1 r + bit_y c
  pub z : coordinate g 2 q + bit_z a ≡ coordinate g 2 r + bit_z c

pub same_is : (g : Grid) (q r a c : ℕ) → is_cell g q ≡ true → is_cell g r ≡ true → a < 12 → c < 12 →
    cell_edge g q a ≡ cell_edge g r c → Same g q r a c
same_is g q r a c hq hr ha hc e =
    let s : (corner_point g q (edge_corner a) ≡ corner_point g r (edge_corner c)) × (a / 4 ≡ c / 4) = same_edge g q r a c ha hc e in
    let k : Corner g q (edge_corner a) = corner_is g q (edge_corner a) hq (corner_below a ha) in
    let l : Corner g r (edge_corner c) = corner_is g r (edge_corner c) hr (corner_below c hc) in
    record {
      axis = s.1;
      point = s.0;
      x = sym k.x ∙ (ap (coordinate g 0) s.0 ∙ l.x);
      y = sym k.y ∙ (ap (coordinate g 1) s.0 ∙ l.y);
      z = sym k.z ∙ (ap (coordinate g 2) s.0 ∙ l.z);
    }

pub alike_is : (g : Grid) (q r a b c d : ℕ) → Same g q r a c → Same g q r b d → alike a b c d ≡ true
alike_is g q r a b c d s t =
    let ex : bit_x a + bit_x d ≡ bit_x c + bit_x b = omega (arith, s.x, t.x) in
    let ey : bit_y a + bit_y d ≡ bit_y c + bit_y b = omega (arith, s.y, t.y) in
    let ez : bit_z a + bit_z d ≡ bit_z c + bit_z b = omega (arith, s.z, t.z) in
    and_from _ _ (eq-eqb _ _ ex) (and_from _ _ (eq-eqb _ _ ey) (eq-eqb _ _ ez))

pub same_cell : (g : Grid) (q r a c : ℕ) → Same g q r a c → same_corner a c ≡ true → q ≡ r
same_cell g q r a c s h =
    let p : (eqb (bit_x a) (bit_x c) ≡ true) × ((eqb (bit_y a) (bit_y c) && eqb (bit_z a) (bit_z c)) ≡ true) = and_parts _ _ h in
    let t : (eqb (bit_y a) (bit_y c) ≡ true) × (eqb (bit_z a) (bit_z c) ≡ true) = and_parts _ _ p.1 in
    let ex : bit_x a ≡ bit_x c = eqb-true _ _ p.0 in
    let ey : bit_y a ≡ bit_y c = eqb-true _ _ t.0 in
    let ez : bit_z a ≡ bit_z c = eqb-true _ _ t.1 in
    let e : q + (bit_x a * 1 + (bit_y a * g.nx + bit_z a * (g.nx * g.ny))) ≡ r + (bit_x c * 1 + (bit_y c * g.nx + bit_z c * (g.nx * g.ny))) = s.point in
    let f : q + (bit_x c * 1 + (bit_y c * g.nx + bit_z c * (g.nx * g.ny))) ≡ r + (bit_x c * 1 + (bit_y c * g.nx + bit_z c * (g.nx * g.ny)))
    = subst (λ x. q + (x * 1 + (bit_y c * g.nx + bit_z c * (g.nx * g.ny))) ≡ r + (bit_x c * 1 + (bit_y c * g.nx + bit_z c * (g.nx * g.ny)))) ex
    (subst (λ y. q + (bit_x a * 1 + (y * g.nx + bit_z c * (g.nx * g.ny))) ≡ r + (bit_x c * 1 + (bit_y c * g.nx + bit_z c * (g.nx * g.ny)))) ey
    (subst (λ z. q + (bit_x a * 1 + (bit_y a * g.nx + z * (g.nx * g.ny))) ≡ r + (bit_x c * 1 + (bit_y c * g.nx + bit_z c * (g.nx * g.ny)))) ez e)) in
    cancel q r _ f
  where
    cancel : (m n k : ℕ) → m + k ≡ n + k → m ≡ n
    cancel m n k h = omega arith

-- a segment of a cell, as a pair of edges
pub record Pair (signs : List Bool) (a b : ℕ) : Type 0 where
  pub first : a < 12
  pub second : b < 12
  pub shared : shares_face a b ≡ true
  pub up : same (holds_at signs (edge_corner a)) (not (direction a b)) ≡ true

pub pair_is : (g : Grid) (s : ℕ → ℤ) (q : ℕ) (p : ℕ × ℕ) → In p (next_pairs (cell_signs g s q) (cell_joined g s q)) → Pair (cell_signs g s q) p.0 p.1
pair_is g s q p i =
    let h : pair_test (cell_signs g s q) (cell_joined g s q) ≡ true = cell_passes pair_test pair_test_all g s q in
    let t : (ltb p.0 12 && (ltb p.1 12 && (shares_face p.0 p.1
    && same (holds_at (cell_signs g s q) (edge_corner p.0)) (not (direction p.0 p.1))))) ≡ true
    = list_all_at (λ (p : ℕ × ℕ). ltb p.0 12 && (ltb p.1 12 && (shares_face p.0 p.1
    && same (holds_at (cell_signs g s q) (edge_corner p.0)) (not (direction p.0 p.1)))))
    (next_pairs (cell_signs g s q) (cell_joined g s q)) p h i in
    let u : (ltb p.0 12 ≡ true) × ((ltb p.1 12 && (shares_face p.0 p.1
    && same (holds_at (cell_signs g s q) (edge_corner p.0)) (not (direction p.0 p.1)))) ≡ true) = and_parts _ _ t in
    let v : (ltb p.1 12 ≡ true) × ((shares_face p.0 p.1
    && same (holds_at (cell_signs g s q) (edge_corner p.0)) (not (direction p.0 p.1))) ≡ true) = and_parts _ _ u.1 in
    let w : (shares_face p.0 p.1 ≡ true) × (same (holds_at (cell_signs g s q) (edge_corner p.0)) (not (direction p.0 p.1)) ≡ true) = and_parts _ _ v.1 in
    record { first = ltb-true _ _ u.0; second = ltb-true _ _ v.0; shared = w.0; up = w.1 }

-- what the test of two cells says
two_cells_at : (a b c d : ℕ) → a < 12 → b < 12 → c < 12 → d < 12 → shares_face a b ≡ true → two_cells_test a b c d ≡ true
two_cells_at a b c d ha hb hc hd h =
    let inner : Bool → ℕ → ℕ → Bool = λ t a b. elim t as (λ _. Bool) [ false ↦ true | true ↦ all_below 12 (λ c. all_below 12 (λ d. two_cells_test a b c d)) ] in
    let t1 : all_below 12 (λ b. inner (shares_face a b) a b) ≡ true
    = all_below_at 12 (λ a. all_below 12 (λ b. inner (shares_face a b) a b)) a two_cells_all ha in
    let t2 : inner (shares_face a b) a b ≡ true = all_below_at 12 (λ b. inner (shares_face a b) a b) b t1 hb in
    let t3 : all_below 12 (λ c. all_below 12 (λ d. two_cells_test a b c d)) ≡ true = subst (λ t. inner t a b ≡ true) h t2 in
    let t4 : all_below 12 (λ d. two_cells_test a b c d) ≡ true = all_below_at 12 (λ c. all_below 12 (λ d. two_cells_test a b c d)) c t3 hc in
    all_below_at 12 (λ d. two_cells_test a b c d) d t4 hd

pub same-refl : (a b : Bool) → a ≡ b → same a b ≡ true
same-refl a b e = subst (λ b. same a b ≡ true) e (elim a as (λ a. same a a ≡ true) [ true ↦ refl | false ↦ refl ])

pub same-true : (a b : Bool) → same a b ≡ true → a ≡ b
same-true true true h = refl
same-true true false h = absurd (cc)
same-true false true h = absurd (cc)
same-true false false h = refl

-- a segment of two cells, in one direction, is a segment of one cell
pub one_cell : (g : Grid) (s : ℕ → ℤ) (q r : ℕ) (p t : ℕ × ℕ) → is_cell g q ≡ true → is_cell g r ≡ true
    → In p (next_pairs (cell_signs g s q) (cell_joined g s q)) → In t (next_pairs (cell_signs g s r) (cell_joined g s r))
    → cell_edge g q p.0 ≡ cell_edge g r t.0 → cell_edge g q p.1 ≡ cell_edge g r t.1 → q ≡ r
one_cell g s q r p t hq hr ip it e0 e1 =
    let k : Pair (cell_signs g s q) p.0 p.1 = pair_is g s q p ip in
    let l : Pair (cell_signs g s r) t.0 t.1 = pair_is g s r t it in
    let m : Same g q r p.0 t.0 = same_is g q r p.0 t.0 hq hr k.first l.first e0 in
    let n : Same g q r p.1 t.1 = same_is g q r p.1 t.1 hq hr k.second l.second e1 in
    let test : two_cells_test p.0 p.1 t.0 t.1 ≡ true = two_cells_at p.0 p.1 t.0 t.1 k.first k.second l.first l.second k.shared in
    let ante : (eqb (p.0 / 4) (t.0 / 4) && (eqb (p.1 / 4) (t.1 / 4) && (shares_face t.0 t.1 && alike p.0 p.1 t.0 t.1))) ≡ true
    = and_from _ _ (eq-eqb _ _ m.axis) (and_from _ _ (eq-eqb _ _ n.axis) (and_from _ _ l.shared (alike_is g q r p.0 p.1 t.0 t.1 m n))) in
    let post : (same_corner p.0 t.0 || not (same (direction p.0 p.1) (direction t.0 t.1))) ≡ true
    = subst (λ x. implies x (same_corner p.0 t.0 || not (same (direction p.0 p.1) (direction t.0 t.1))) ≡ true) ante test in
    let signs : holds_at (cell_signs g s q) (edge_corner p.0) ≡ holds_at (cell_signs g s r) (edge_corner t.0)
    = sign_is g s q (edge_corner p.0) (corner_below p.0 k.first)
    ∙ (ap (λ x. is_above (s x)) m.point ∙ sym (sign_is g s r (edge_corner t.0) (corner_below t.0 l.first))) in
    let turn : not (direction p.0 p.1) ≡ not (direction t.0 t.1)
    = sym (same-true _ _ k.up) ∙ (signs ∙ same-true _ _ l.up) in
    elim (or_cases _ _ post) [
      | inl h ↦ same_cell g q r p.0 t.0 m h
      | inr h ↦ absurd (clash (direction p.0 p.1) (direction t.0 t.1) turn h)
    ]
  where
    clash : (a b : Bool) → not a ≡ not b → not (same a b) ≡ true → ⊥
    clash true true e h = cc
    clash true false e h = cc
    clash false true e h = cc
    clash false false e h = cc
