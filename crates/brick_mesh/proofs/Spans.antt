-- Which points and cells a brick has.
use Rattle.std.proofs.Common.{◌≡◌, ◌∙◌, ℕ, ◌+◌, ◌-◌, ◌/◌, ◌%◌, ◌<◌, true, ◌&&◌, nat_lt, min, sym, ap₂, arith}
use Rattle.std.proofs.lemmas.Bool.{and_parts, ltb-true}
use Rattle.std.proofs.lemmas.Bool.Decides.{nat_tests}
use Rattle.iso_defs.specs.Grid.{Grid}
use Rattle.iso_defs.specs.Bricks.{brick_start, in_brick}
use Rattle.brick_mesh.specs.Block.{BrickAt, IsCell}
use Rattle.brick_store.specs.Holding.{points_along}

-- a place below the number of points is a coordinate below the size
below_span : (start n x : ℕ) → x < 9 → nat_lt (start + x) n ≡ nat_lt x (min 9 (n - start))
below_span start n x h = grind (arith, nat_tests)

pub in_spans : (g : Grid) (brick x y z : ℕ) → x < 9 → y < 9 → z < 9
    → in_brick g brick x y z ≡ (nat_lt x (points_along g brick 0) && (nat_lt y (points_along g brick 1) && nat_lt z (points_along g brick 2)))
in_spans g brick x y z hx hy hz =
    ap₂ (λ a b. a && b) (below_span (brick_start g brick 0) g.nx x hx)
    (ap₂ (λ a b. a && b) (below_span (brick_start g brick 1) g.ny y hy) (below_span (brick_start g brick 2) g.nz z hz))

-- the offsets of a point of the brick
pub record Offsets (g : Grid) (brick x y z : ℕ) : Type 0 where
  pub x-in : x < points_along g brick 0
  pub y-in : y < points_along g brick 1
  pub z-in : z < points_along g brick 2

pub offsets : (g : Grid) (brick x y z : ℕ) → x < 9 → y < 9 → z < 9 → in_brick g brick x y z ≡ true → Offsets g brick x y z
offsets g brick x y z hx hy hz h =
    let all = and_parts (nat_lt x (points_along g brick 0)) (nat_lt y (points_along g brick 1) && nat_lt z (points_along g brick 2)) (sym (in_spans g brick x y z hx hy hz) ∙ h) in
    let rest = and_parts (nat_lt y (points_along g brick 1)) (nat_lt z (points_along g brick 2)) all.1 in
    record { x-in = ltb-true x (points_along g brick 0) all.0; y-in = ltb-true y (points_along g brick 1) rest.0; z-in = ltb-true z (points_along g brick 2) rest.1 }

pub inside : (g : Grid) (brick x y z : ℕ) → Offsets g brick x y z → x < 9 → y < 9 → z < 9 → in_brick g brick x y z ≡ true
inside g brick x y z o hx hy hz = in_spans g brick x y z hx hy hz ∙ grind (arith, nat_tests, o.x-in, o.y-in, o.z-in)

-- the far corner of a cell of the brick
pub cell_offsets : (b : BrickAt) (cell : ℕ) → IsCell b cell → Offsets b.grid b.brick (cell % 8 + 1) (cell / 8 % 8 + 1) (cell / 64 + 1)
cell_offsets b cell h =
    let low : cell < 512 = h.local in
    offsets b.grid b.brick (cell % 8 + 1) (cell / 8 % 8 + 1) (cell / 64 + 1) (omega arith) (omega arith) (omega arith) h.there
