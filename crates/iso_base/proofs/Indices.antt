-- Points and edges by number.
use Rattle.std.proofs.Common.{◌≡◌, ℕ, ◌*◌, ◌/◌, ◌%◌, ◌<◌, ◌≤◌, refl, sym, ap, subst, ◌∙◌, arith}
use Rattle.std.proofs.lemmas.Nat.{div_below}
use Rattle.std.proofs.Math.Nat.{div-div-eq-div-mul, div-one, mod-eq_of_lt}
use Rattle.iso_defs.specs.Grid.{Grid, point_count, coordinate}
use Rattle.iso_defs.proofs.Points.{x_index, y_index, z_index}
use Rattle.iso_base.specs.Points.{IsPoint, IsEdge, point_at, index_of, name_of}
use Rattle.iso_base.specs.declared.point.Point.{Point}

-- a point is found again by its index
pub point_at-index_of : (g : Grid) (p : Point) → IsPoint g p → point_at g (index_of g p) ≡ p
point_at-index_of g p h =
    rw (x_index g p.x p.y p.z h.x h.y h.z, y_index g p.x p.y p.z h.x h.y h.z, z_index g p.x p.y p.z h.x h.y h.z) refl

-- the coordinates of a place of the list, by its row
pub x_of_place : (g : Grid) (i : ℕ) → coordinate g 0 i ≡ i % g.nx
x_of_place g i = ap (λ a. a % g.nx) (div-one i)

pub z_of_place : (g : Grid) (i : ℕ) → 2 ≤ g.nx → 2 ≤ g.ny → i < point_count g → coordinate g 2 i ≡ i / g.nx / g.ny
z_of_place g i wide deep h =
    let high : i / g.nx / g.ny < g.nz = below_depth g.nx g.ny g.nz i (omega arith) (omega arith) h in
    let e : i / (g.nx * g.ny) ≡ i / g.nx / g.ny = sym (div-div-eq-div-mul i g.nx g.ny) in
    mod-eq_of_lt (subst (λ a. a < g.nz) (sym e) high) ∙ e
  where
    below_depth : (a b c n : ℕ) → 0 < a → 0 < b → n < a * b * c → n / a / b < c
    below_depth a b c n p q h =
        let rows : n / a < b * c = div_below n a (b * c) p (omega arith) in
        div_below (n / a) b c q (omega arith)

-- an edge is found again by its name
pub edge_by_name : (g : Grid) (p q : Point) (axis name : ℕ) → IsEdge g p axis → name_of g p axis ≡ name → q ≡ point_at g (name / 3) → (p ≡ q) × (axis ≡ name % 3)
edge_by_name g p q axis name h n q-is =
    let i : name / 3 ≡ index_of g p = omega (arith, h.known, n) in
    (sym (point_at-index_of g p h.lower) ∙ ap (point_at g) (sym i) ∙ sym q-is, omega (arith, h.known, n))
