-- The names of the vertices of a cell.
use Rattle.std.proofs.Common.{◌≡◌, ℕ, ◌+◌, ◌-◌, ◌*◌, ◌/◌, ◌%◌, ◌<◌, ◌≤◌, true, cond, ◌&&◌, refl, sym, ◌∙◌, ap, subst, ◌⊎◌, inl, inr, arith, eqb}
use Rattle.std.proofs.lemmas.Bool.{and_parts, eqb-true, eq-eqb, and_from, cases_lt, ltb-true, lt-ltb, le-ltb}
use Rattle.std.proofs.lemmas.Nat.{div_below}
use Rattle.std.proofs.Math.Nat.{div-lt_iff_lt-mul, mod-eq_of_lt}
use Rattle.iso_defs.specs.Grid.{Grid, cells, is_cell, has_next, point_count, name_bound, coordinate}
use Rattle.iso_defs.specs.Cell.{corner_point, edge_corner, cell_edge}
use Rattle.iso_defs.specs.Scratch.{vertex_name, centre_name}
use Rattle.case_laws.proofs.Cases.{all_below}
use Rattle.case_laws.proofs.EdgePairs.{bit_x, bit_y, bit_z, same_corner, implies}
use Rattle.triangle_laws.proofs.Lists.{In}
use Rattle.case_laws.proofs.Tests.{all_below_at}
use Rattle.mesh_laws.proofs.Cells.{cell_in}
use Rattle.iso_defs.proofs.Coordinates.{height_moved}
use Rattle.mesh_laws.proofs.TwoCells.{Same, same_is, corner_below}

pub corner_in : (g : Grid) (q c : ℕ) → In q (cells g) → c < 8 → corner_point g q c < point_count g
corner_in g q c i l =
    let k : (is_cell g q ≡ true) × (q < point_count g) = cell_in g q i in
    let p : ((has_next g 0 q && has_next g 1 q) ≡ true) × (has_next g 2 q ≡ true) = and_parts _ _ k.0 in
    let r : (has_next g 0 q ≡ true) × (has_next g 1 q ≡ true) = and_parts _ _ p.0 in
    let hx : coordinate g 0 q + 1 < g.nx = ltb-true _ _ r.0 in
    let hy : coordinate g 1 q + 1 < g.ny = ltb-true _ _ r.1 in
    let hz : coordinate g 2 q + 1 < g.nz = ltb-true _ _ p.1 in
    let kx : coordinate g 0 q + c % 2 < g.nx = omega arith in
    let ky : coordinate g 1 q + c / 2 % 2 < g.ny = omega arith in
    let kz : coordinate g 2 q + c / 4 < g.nz = omega arith in
    let area : 0 < g.nx * g.ny = positive g.nx g.ny (omega arith) (omega arith) in
    let q_low : q < g.nz * (g.nx * g.ny) = swap_factors g.nx g.ny g.nz q k.1 in
    let height : q / (g.nx * g.ny) < g.nz = div_below q (g.nx * g.ny) g.nz area q_low in
    let whole : coordinate g 2 q ≡ q / (g.nx * g.ny) = mod-eq_of_lt height in
    let moved : corner_point g q c / (g.nx * g.ny) ≡ q / (g.nx * g.ny) + c / 4
    = height_moved g q (c % 2) (c / 2 % 2) (c / 4) kx ky kz in
    let low : corner_point g q c / (g.nx * g.ny) < g.nz = omega arith in
    swap_back g.nx g.ny g.nz (corner_point g q c) ((div-lt_iff_lt-mul area).0 low)
  where
    positive : (a b : ℕ) → 0 < a → 0 < b → 0 < a * b
    positive a b h k = grind arith

    swap_factors : (a b c n : ℕ) → n < a * b * c → n < c * (a * b)
    swap_factors a b c n h = omega arith

    swap_back : (a b c n : ℕ) → n < c * (a * b) → n < a * b * c
    swap_back a b c n h = omega arith

pub edge_in : (g : Grid) (q e : ℕ) → In q (cells g) → e < 12 → cell_edge g q e < name_bound g
edge_in g q e i l =
    let k : corner_point g q (edge_corner e) < point_count g = corner_in g q (edge_corner e) i (corner_below e l) in
    let a : e / 4 < 3 = omega arith in
    omega arith

same_edges_all : all_below 12 (λ a. all_below 12 (λ c. implies (same_corner a c && eqb (a / 4) (c / 4)) (eqb a c))) ≡ true
same_edges_all = refl

pub edge_injective : (g : Grid) (q a c : ℕ) → is_cell g q ≡ true → a < 12 → c < 12 → cell_edge g q a ≡ cell_edge g q c → a ≡ c
edge_injective g q a c h ha hc e =
    let s : Same g q q a c = same_is g q q a c h h ha hc e in
    let ex : bit_x a ≡ bit_x c = omega (arith, s.x) in
    let ey : bit_y a ≡ bit_y c = omega (arith, s.y) in
    let ez : bit_z a ≡ bit_z c = omega (arith, s.z) in
    let t1 : all_below 12 (λ c. implies (same_corner a c && eqb (a / 4) (c / 4)) (eqb a c)) ≡ true
    = all_below_at 12 (λ a. all_below 12 (λ c. implies (same_corner a c && eqb (a / 4) (c / 4)) (eqb a c))) a same_edges_all ha in
    let t2 : implies (same_corner a c && eqb (a / 4) (c / 4)) (eqb a c) ≡ true
    = all_below_at 12 (λ c. implies (same_corner a c && eqb (a / 4) (c / 4)) (eqb a c)) c t1 hc in
    let ante : (same_corner a c && eqb (a / 4) (c / 4)) ≡ true
    = and_from _ _ (and_from _ _ (eq-eqb _ _ ex) (and_from _ _ (eq-eqb _ _ ey) (eq-eqb _ _ ez))) (eq-eqb _ _ s.axis) in
    let post : eqb a c ≡ true = subst (λ x. implies x (eqb a c) ≡ true) ante t2 in
    eqb-true a c post

pub name_of_edge : (g : Grid) (q v : ℕ) → v < 12 → vertex_name g q v ≡ cell_edge g q v
name_of_edge g q v h = ap (λ b. cond b (cell_edge g q v) (centre_name g q (v - 12))) (lt-ltb v 12 h)

pub name_of_centre : (g : Grid) (q v : ℕ) → 12 ≤ v → vertex_name g q v ≡ centre_name g q (v - 12)
name_of_centre g q v h = ap (λ b. cond b (cell_edge g q v) (centre_name g q (v - 12))) (le-ltb v 12 h)

-- equal names are of equal edges, or of one centre
pub same_vertex : (g : Grid) (q r v w : ℕ) → In q (cells g) → In r (cells g) → v < 16 → w < 16 → vertex_name g q v ≡ vertex_name g r w →
    ((v < 12) × (w < 12) × (cell_edge g q v ≡ cell_edge g r w)) ⊎ ((q ≡ r) × (v ≡ w) × (12 ≤ v))
same_vertex g q r v w iq ir hv hw e =
    elim (cases_lt v 12) [
      | inl a ↦ elim (cases_lt w 12) [
        | inl b ↦ inl (a, b, sym (name_of_edge g q v a) ∙ (e ∙ name_of_edge g r w b))
        | inr b ↦ (let low : cell_edge g q v < name_bound g = edge_in g q v iq a in
            let k : cell_edge g q v ≡ name_bound g + (4 * r + (w - 12)) = sym (name_of_edge g q v a) ∙ (e ∙ name_of_centre g r w b) in
            absurd (too_low (cell_edge g q v) (name_bound g) (4 * r + (w - 12)) low k))
      ]
      | inr a ↦ elim (cases_lt w 12) [
        | inl b ↦ (let low : cell_edge g r w < name_bound g = edge_in g r w ir b in
            let k : cell_edge g r w ≡ name_bound g + (4 * q + (v - 12)) = sym (name_of_edge g r w b) ∙ (sym e ∙ name_of_centre g q v a) in
            absurd (too_low (cell_edge g r w) (name_bound g) (4 * q + (v - 12)) low k))
        | inr b ↦ (let k : name_bound g + (4 * q + (v - 12)) ≡ name_bound g + (4 * r + (w - 12)) = sym (name_of_centre g q v a) ∙ (e ∙ name_of_centre g r w b) in
            let l : 4 * q + (v - 12) ≡ 4 * r + (w - 12) = cancel (name_bound g) _ _ k in
            let eq : q ≡ r = omega (arith, l) in
            let ev : v ≡ w = omega (arith, l) in
            inr (eq, ev, a))
      ]
    ]
  where
    too_low : (m n k : ℕ) → m < n → m ≡ n + k → ⊥
    too_low m n k h e = omega arith

    cancel : (k m n : ℕ) → k + m ≡ k + n → m ≡ n
    cancel k m n h = omega arith

pub vertex_injective : (g : Grid) (q v w : ℕ) → In q (cells g) → v < 16 → w < 16 → vertex_name g q v ≡ vertex_name g q w → v ≡ w
vertex_injective g q v w i hv hw e =
    elim (same_vertex g q q v w i i hv hw e) [
      | inl h ↦ edge_injective g q v w (cell_in g q i).0 h.0 h.1 h.2
      | inr h ↦ h.1
    ]
