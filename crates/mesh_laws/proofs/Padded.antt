-- Where the outer layer is below, no edge of the mesh lies on the border.
use Rattle.std.proofs.Common.{◌≡◌, ℕ, zero, suc, ◌+◌, ◌-◌, ◌*◌, ◌/◌, ◌%◌, ◌<◌, Bool, true, false, ◌&&◌, ◌||◌, not, List, [], ◌∷◌, map, refl, sym, ◌∙◌, ap, subst, ◌⊎◌, inl, inr, arith, eqb, ltb, ℤ, length, add-zero, get_or}
use Rattle.std.proofs.lemmas.Nat.{mod_below, div_below}
use Rattle.std.proofs.Math.Nat.{mod-eq_of_lt, div-lt_iff_lt-mul}
use Rattle.std.specs.List.{flat_map, filter, list_any}
use Rattle.std.proofs.lemmas.Bool.{and_parts, or_cases, eqb-true, eq-eqb, or_left, or_right, ltb-true}
use Rattle.iso_defs.specs.Lists.{below}
use Rattle.iso_defs.specs.Grid.{point_count, Grid, size, stride, coordinate, cells, name_bound, has_next, edge_lower, edge_upper, is_edge, is_above, differ, is_crossing, is_outer, IsSolid, IsBelowOutside}
use Rattle.iso_defs.specs.Cell.{Triangle}
use Rattle.iso_defs.specs.Place.{Position, edge_position}
use Rattle.iso_defs.specs.Scratch.{triangles, number_of, vertex_names, vertices, crossing_edges, cell_centres, on_corners, named_triangles}
use Rattle.iso_defs.specs.Manifold.{times_run, runs, all_runs, runs_of, lies_in_plane, share_outer_plane}
use Rattle.iso_defs.specs.Verdict.{in_outer_plane, IsVerdict}
use Rattle.iso_defs.specs.Verdict.Verdict.{Closed}
use Rattle.triangle_laws.proofs.Lists.{In, In-append, In-map, in_map, In-flat_map, In-filter, any_in, in_any}
use Rattle.mesh_laws.proofs.Cells.{range_in, range_at_least}
use Rattle.iso_defs.proofs.Coordinates.{x_moved, y_moved, z_moved, height_moved}
use Rattle.mesh_laws.proofs.Oriented.{runs_match, vertex_at, centre_bounds}
use Rattle.mesh_laws.proofs.Surfaces.{manifold}
use Rattle.triangle_laws.proofs.Counts.{count_some, count_finds, run_in}
use Rattle.mesh_laws.proofs.Numbers.{Vertices, triangle_vertices}
use Rattle.mesh_laws.proofs.Opposite.{run_moves}

pub by_three : (P : ℕ → Type 0) → P 0 → P 1 → P 2 → (i : ℕ) → i < 3 → P i
by_three P a b c zero h = a
by_three P a b c (suc zero) h = b
by_three P a b c (suc (suc zero)) h = c
by_three P a b c (suc (suc (suc i))) h = absurd (omega arith)

module _ (g : Grid) (p cx cy cz : ℕ) (hx : coordinate g 0 p + cx < g.nx) (hy : coordinate g 1 p + cy < g.ny) (hz : coordinate g 2 p + cz < g.nz)
    (r : ℕ) (e : r ≡ p + (cx * 1 + (cy * g.nx + cz * (g.nx * g.ny)))) where
  x_at : coordinate g 0 r ≡ coordinate g 0 p + cx
  x_at = ap (coordinate g 0) e ∙ x_moved g p cx cy cz hx hy hz

  y_at : coordinate g 1 r ≡ coordinate g 1 p + cy
  y_at = ap (coordinate g 1) e ∙ y_moved g p cx cy cz hx hy hz

  z_at : coordinate g 2 r ≡ coordinate g 2 p + cz
  z_at = ap (coordinate g 2) e ∙ z_moved g p cx cy cz hx hy hz

-- a coordinate across the axis of an edge is the same at both ends
other_axis : (g : Grid) (p a m : ℕ) → IsSolid g → a < 3 → m < 3 → (a ≡ m → ⊥) → has_next g a p ≡ true → coordinate g m (p + stride g a) ≡ coordinate g m p
other_axis g p a m solid ha hm ne h =
    let mx : coordinate g 0 p < g.nx = mod_below (p / 1) g.nx solid.x in
    let my : coordinate g 1 p < g.ny = mod_below (p / g.nx) g.ny solid.y in
    let mz : coordinate g 2 p < g.nz = mod_below (p / (g.nx * g.ny)) g.nz solid.z in
    let ox : coordinate g 0 p + 0 < g.nx = omega arith in
    let oy : coordinate g 1 p + 0 < g.ny = omega arith in
    let oz : coordinate g 2 p + 0 < g.nz = omega arith in
    let P : ℕ → ℕ → Type 0 = λ a m. (a ≡ m → ⊥) → has_next g a p ≡ true → coordinate g m (p + stride g a) ≡ coordinate g m p in
    by_three (λ a. (m : ℕ) → m < 3 → P a m)
    (λ m. by_three (P 0)
    (λ ne h. absurd (ne refl))
    (λ ne h. y_at g p 1 0 0 (ltb-true _ _ h) oy oz (p + stride g 0) (omega arith) ∙ add-zero (coordinate g 1 p))
    (λ ne h. z_at g p 1 0 0 (ltb-true _ _ h) oy oz (p + stride g 0) (omega arith) ∙ add-zero (coordinate g 2 p)) m)
    (λ m. by_three (P 1)
    (λ ne h. x_at g p 0 1 0 ox (ltb-true _ _ h) oz (p + stride g 1) (omega arith) ∙ add-zero (coordinate g 0 p))
    (λ ne h. absurd (ne refl))
    (λ ne h. z_at g p 0 1 0 ox (ltb-true _ _ h) oz (p + stride g 1) (omega arith) ∙ add-zero (coordinate g 2 p)) m)
    (λ m. by_three (P 2)
    (λ ne h. x_at g p 0 0 1 ox oy (ltb-true _ _ h) (p + stride g 2) (omega arith) ∙ add-zero (coordinate g 0 p))
    (λ ne h. y_at g p 0 0 1 ox oy (ltb-true _ _ h) (p + stride g 2) (omega arith) ∙ add-zero (coordinate g 1 p))
    (λ ne h. absurd (ne refl)) m)
    a ha m hm ne h

-- the upper end of an edge is a point of the grid
upper_in : (g : Grid) (p a : ℕ) → IsSolid g → a < 3 → p < point_count g → has_next g a p ≡ true → p + stride g a < point_count g
upper_in g p a solid ha low h =
    let area : 0 < g.nx * g.ny = positive g.nx g.ny solid.x solid.y in
    let low' : p < g.nz * (g.nx * g.ny) = turn g.nx g.ny g.nz p low in
    let height : p / (g.nx * g.ny) < g.nz = div_below p (g.nx * g.ny) g.nz area low' in
    let whole : coordinate g 2 p ≡ p / (g.nx * g.ny) = mod-eq_of_lt height in
    let mx : coordinate g 0 p < g.nx = mod_below (p / 1) g.nx solid.x in
    let my : coordinate g 1 p < g.ny = mod_below (p / g.nx) g.ny solid.y in
    let mz : coordinate g 2 p < g.nz = mod_below (p / (g.nx * g.ny)) g.nz solid.z in
    let ox : coordinate g 0 p + 0 < g.nx = omega arith in
    let oy : coordinate g 1 p + 0 < g.ny = omega arith in
    let oz : coordinate g 2 p + 0 < g.nz = omega arith in
    let finish : (r : ℕ) → r / (g.nx * g.ny) < g.nz → r < point_count g = λ r k. turn_back g.nx g.ny g.nz r ((div-lt_iff_lt-mul area).0 k) in
    by_three (λ a. has_next g a p ≡ true → p + stride g a < point_count g)
    (λ h. finish (p + 1) (
    let e : (p + (1 * 1 + (0 * g.nx + 0 * (g.nx * g.ny)))) / (g.nx * g.ny) ≡ p / (g.nx * g.ny) + 0 = height_moved g p 1 0 0 (ltb-true _ _ h) oy oz in
    let f : p + 1 ≡ p + (1 * 1 + (0 * g.nx + 0 * (g.nx * g.ny))) = omega arith in
    subst (λ r. r / (g.nx * g.ny) < g.nz) (sym f) (omega (arith, e, height))))
    (λ h. finish (p + g.nx) (
    let e : (p + (0 * 1 + (1 * g.nx + 0 * (g.nx * g.ny)))) / (g.nx * g.ny) ≡ p / (g.nx * g.ny) + 0 = height_moved g p 0 1 0 ox (ltb-true _ _ h) oz in
    let f : p + g.nx ≡ p + (0 * 1 + (1 * g.nx + 0 * (g.nx * g.ny))) = omega arith in
    subst (λ r. r / (g.nx * g.ny) < g.nz) (sym f) (omega (arith, e, height))))
    (λ h. finish (p + g.nx * g.ny) (
    let k : coordinate g 2 p + 1 < g.nz = ltb-true _ _ h in
    let e : (p + (0 * 1 + (0 * g.nx + 1 * (g.nx * g.ny)))) / (g.nx * g.ny) ≡ p / (g.nx * g.ny) + 1 = height_moved g p 0 0 1 ox oy k in
    let f : p + g.nx * g.ny ≡ p + (0 * 1 + (0 * g.nx + 1 * (g.nx * g.ny))) = omega arith in
    subst (λ r. r / (g.nx * g.ny) < g.nz) (sym f) (omega (arith, e, k, whole))))
    a ha h
  where
    positive : (a b : ℕ) → 0 < a → 0 < b → 0 < a * b
    positive a b h k = grind arith

    turn : (a b c n : ℕ) → n < a * b * c → n < c * (a * b)
    turn a b c n h = omega arith

    turn_back : (a b c n : ℕ) → n < c * (a * b) → n < a * b * c
    turn_back a b c n h = omega arith

pub outer_edge : (g : Grid) (s : ℕ → ℤ) (n axis k : ℕ) → IsSolid g → IsBelowOutside g s → axis < 3 → (k ≡ 0) ⊎ (k ≡ size g axis - 1)
    → n < name_bound g → lies_in_plane g axis k n ≡ true → is_crossing g s n ≡ true → ⊥
outer_edge g s n axis k solid out ha hk bound lie cross =
    let l : (not (eqb (n % 3) axis) ≡ true) × (eqb (coordinate g axis (n / 3)) k ≡ true) = and_parts _ _ lie in
    let c : (is_edge g n ≡ true) × (differ (is_above (s (edge_lower n))) (is_above (s (edge_upper g n))) ≡ true) = and_parts _ _ cross in
    let at : coordinate g axis (n / 3) ≡ k = eqb-true _ _ l.1 in
    let ne : n % 3 ≡ axis → ⊥ = λ e. no (eqb (n % 3) axis) (eq-eqb _ _ e) l.0 in
    let up : coordinate g axis (n / 3 + stride g (n % 3)) ≡ k = other_axis g (n / 3) (n % 3) axis solid (omega arith) ha ne c.0 ∙ at in
    let outer : (p : ℕ) → coordinate g axis p ≡ k → is_outer g p ≡ true
    = λ p e. any_in (λ axis. eqb (coordinate g axis p) 0 || eqb (coordinate g axis p) (size g axis - 1)) (below 3) axis
    (range_in 0 3 axis (omega arith) (omega arith))
    (elim hk [
      | inl z ↦ or_left (eqb (coordinate g axis p) 0) (eqb (coordinate g axis p) (size g axis - 1)) (eq-eqb _ _ (e ∙ z))
      | inr z ↦ or_right (eqb (coordinate g axis p) 0) (eqb (coordinate g axis p) (size g axis - 1)) (eq-eqb _ _ (e ∙ z))
    ]) in
    let low : is_above (s (n / 3)) ≡ false = out (n / 3) (omega (arith, bound)) (outer (n / 3) at) in
    let high : is_above (s (n / 3 + stride g (n % 3))) ≡ false = out (n / 3 + stride g (n % 3)) (upper_in g (n / 3) (n % 3) solid (omega arith) (omega (arith, bound)) c.0) (outer (n / 3 + stride g (n % 3)) up) in
    alike (is_above (s (n / 3))) (is_above (s (n / 3 + stride g (n % 3)))) low high c.1
  where
    no : (b : Bool) → b ≡ true → not b ≡ true → ⊥
    no true e f = cc
    no false e f = cc

    alike : (a b : Bool) → a ≡ false → b ≡ false → differ a b ≡ true → ⊥
    alike true b e f d = cc
    alike false true e f d = cc
    alike false false e f d = cc

-- a vertex that is named like an edge is on a crossing edge
pub vertex_crosses : (g : Grid) (s : ℕ → ℤ) (n : ℕ) → In n (vertex_names g s) → n < name_bound g → is_crossing g s n ≡ true
vertex_crosses g s n i h =
    let v : (v : ℕ × Position) × In v (vertices g s) × (n ≡ v.0) = In-map (λ (v : ℕ × Position). v.0) n (vertices g s) i in
    elim (In-append v.0 (map (λ n. (n, edge_position g s n)) (crossing_edges g s)) (flat_map (cell_centres g s) (cells g)) v.1) [
      | inl j ↦ (let e : (m : ℕ) × In m (crossing_edges g s) × (v.0 ≡ (m, edge_position g s m)) = In-map (λ n. (n, edge_position g s n)) v.0 (crossing_edges g s) j in
          let k : n ≡ e.0 = v.2 ∙ ap (λ (z : ℕ × Position). z.0) e.2 in
          subst (λ m. is_crossing g s m ≡ true) (sym k) (In-filter (is_crossing g s) e.0 (below (name_bound g)) e.1).1)
      | inr j ↦ (let q : (q : ℕ) × In q (cells g) × In v.0 (cell_centres g s q) = In-flat_map (cell_centres g s) v.0 (cells g) j in
          let b : (t : ℕ) × (t < 4) × (v.0.0 ≡ name_bound g + (4 * q.0 + t)) = centre_bounds g s q.0 v.0.0 (in_map (λ (v : ℕ × Position). v.0) v.0 (cell_centres g s q.0) q.2) in
          absurd (high n (name_bound g) (4 * q.0 + b.0) h (v.2 ∙ b.2)))
    ]
  where
    high : (m n k : ℕ) → m < n → m ≡ n + k → ⊥
    high m n k h e = omega arith

-- no two vertices of the mesh lie on the border
pub no_border : (g : Grid) (s : ℕ → ℤ) (m n : ℕ) → IsSolid g → IsBelowOutside g s → In m (vertex_names g s) → share_outer_plane g m n ≡ true → ⊥
no_border g s m n solid out im h =
    let both : ℕ → ℕ → Bool = λ axis k. lies_in_plane g axis k m && lies_in_plane g axis k n in
    let on : ℕ → Bool = λ axis. both axis 0 || both axis (size g axis - 1) in
    let p : (ltb m (name_bound g) ≡ true) × ((ltb n (name_bound g) && list_any on (below 3)) ≡ true) = and_parts _ _ h in
    let r : (axis : ℕ) × In axis (below 3) × (on axis ≡ true) = in_any on (below 3) (and_parts (ltb n (name_bound g)) (list_any on (below 3)) p.1).1 in
    let ha : r.0 < 3 = (range_at_least 0 3 r.0 r.1).1 in
    let c : is_crossing g s m ≡ true = vertex_crosses g s m im (ltb-true _ _ p.0) in
    elim (or_cases (both r.0 0) (both r.0 (size g r.0 - 1)) r.2) [
      | inl e ↦ outer_edge g s m r.0 0 solid out ha (inl refl) (ltb-true _ _ p.0) (and_parts (lies_in_plane g r.0 0 m) _ e).0 c
      | inr e ↦ outer_edge g s m r.0 (size g r.0 - 1) solid out ha (inr refl) (ltb-true _ _ p.0) (and_parts (lies_in_plane g r.0 (size g r.0 - 1) m) _ e).0 c
    ]

filter_none : (p : ℕ × ℕ → Bool) (xs : List (ℕ × ℕ)) → ((x : ℕ × ℕ) → In x xs → p x ≡ false) → length (filter p xs) ≡ 0
filter_none p [] h = refl
filter_none p (x ∷ xs) h = rw (h x (inl refl)) (filter_none p xs (λ y i. h y (inr i)))

-- a run pair, by numbers, is of two vertices
numbers_of : (g : Grid) (s : ℕ → ℤ) (x : ℕ × ℕ) → In x (all_runs (triangles g s)) →
    (y : ℕ × ℕ) × In y.0 (vertex_names g s) × In y.1 (vertex_names g s) × (number_of g s y.0 ≡ x.0) × (number_of g s y.1 ≡ x.1) × (0 < times_run (triangles g s) x.0 x.1)
numbers_of g s x i =
    let u : (u : Triangle) × In u (triangles g s) × In x (runs_of u) = In-flat_map runs_of x (triangles g s) i in
    let t : (t : Triangle) × In t (named_triangles g s) × (u.0 ≡ on_corners (number_of g s) t) = In-map (on_corners (number_of g s)) u.0 (named_triangles g s) u.1 in
    let l : Vertices g s t.0 = triangle_vertices g s t.0 t.1 in
    let many : 0 < times_run (triangles g s) x.0 x.1 = count_some (runs x.0 x.1) (triangles g s) u.0 u.1 (run_moves (λ n. n) u.0 x u.2) in
    let j : In x (runs_of (on_corners (number_of g s) t.0)) = subst (λ w. In x (runs_of w)) t.2 u.2 in
    pick t.0 l many j
  where
    pick : (t : Triangle) → Vertices g s t → 0 < times_run (triangles g s) x.0 x.1 → In x (runs_of (on_corners (number_of g s) t)) →
        (y : ℕ × ℕ) × In y.0 (vertex_names g s) × In y.1 (vertex_names g s) × (number_of g s y.0 ≡ x.0) × (number_of g s y.1 ≡ x.1) × (0 < times_run (triangles g s) x.0 x.1)
    pick t l m (inl e) = ((t.0, t.1), l.first, l.second, ap (λ (z : ℕ × ℕ). z.0) (sym e), ap (λ (z : ℕ × ℕ). z.1) (sym e), m)
    pick t l m (inr (inl e)) = ((t.1, t.2), l.second, l.third, ap (λ (z : ℕ × ℕ). z.0) (sym e), ap (λ (z : ℕ × ℕ). z.1) (sym e), m)
    pick t l m (inr (inr (inl e))) = ((t.2, t.0), l.third, l.first, ap (λ (z : ℕ × ℕ). z.0) (sym e), ap (λ (z : ℕ × ℕ). z.1) (sym e), m)
    pick t l m (inr (inr (inr z))) = absurd z

-- no pair that is run is a border edge
pub off_border : (g : Grid) (s : ℕ → ℤ) → IsSolid g → IsBelowOutside g s → (x : ℕ × ℕ) → In x (all_runs (triangles g s)) → in_outer_plane g s x.0 x.1 ≡ false
off_border g s solid out x i =
    let y : (y : ℕ × ℕ) × In y.0 (vertex_names g s) × In y.1 (vertex_names g s) × (number_of g s y.0 ≡ x.0) × (number_of g s y.1 ≡ x.1) × (0 < times_run (triangles g s) x.0 x.1) = numbers_of g s x i in
    let b : in_outer_plane g s (number_of g s y.0.0) (number_of g s y.0.1) ≡ share_outer_plane g y.0.0 y.0.1
    = ap (λ z. share_outer_plane g z (get_or (vertex_names g s) (number_of g s y.0.1) 0)) (vertex_at g s y.0.0 y.1) ∙ ap (share_outer_plane g y.0.0) (vertex_at g s y.0.1 y.2) in
    let off : share_outer_plane g y.0.0 y.0.1 ≡ false = by_no (share_outer_plane g y.0.0 y.0.1) (λ e. no_border g s y.0.0 y.0.1 solid out y.1 e) in
    subst (λ z. in_outer_plane g s z x.1 ≡ false) y.3 (subst (λ z. in_outer_plane g s (number_of g s y.0.0) z ≡ false) y.4 (b ∙ off))
  where
    by_no : (b : Bool) → (b ≡ true → ⊥) → b ≡ false
    by_no true h = absurd (h refl)
    by_no false h = refl

pub run_off_border : (g : Grid) (s : ℕ → ℤ) (a b : ℕ) → IsSolid g → IsBelowOutside g s → 0 < times_run (triangles g s) a b → in_outer_plane g s a b ≡ false
run_off_border g s a b solid out h =
    let w : (u : Triangle) × In u (triangles g s) × (runs a b u ≡ true) = count_finds (runs a b) (triangles g s) h in
    off_border g s solid out (a, b) (run_in (triangles g s) w.0 a b w.1 w.2)

-- with the outer layer below, the mesh is closed
pub closed : (g : Grid) (s : ℕ → ℤ) → IsSolid g → IsBelowOutside g s → IsVerdict (triangles g s) Closed
closed g s solid out = (
  manifold g s,
  filter_none (λ (p : ℕ × ℕ). eqb (times_run (triangles g s) p.1 p.0) 0) (all_runs (triangles g s)) (λ x i.
      (let y : (y : ℕ × ℕ) × In y.0 (vertex_names g s) × In y.1 (vertex_names g s) × (number_of g s y.0 ≡ x.0) × (number_of g s y.1 ≡ x.1) × (0 < times_run (triangles g s) x.0 x.1) = numbers_of g s x i in
      let m : (in_outer_plane g s x.0 x.1 ≡ true → times_run (triangles g s) x.0 x.1 + times_run (triangles g s) x.1 x.0 ≡ 1)
      × (not (in_outer_plane g s x.0 x.1) ≡ true → (times_run (triangles g s) x.0 x.1 ≡ 1) × (times_run (triangles g s) x.1 x.0 ≡ 1)) = runs_match g s x.0 x.1 y.5 in
      let one : times_run (triangles g s) x.1 x.0 ≡ 1 = (m.1 (ap not (off_border g s solid out x i))).1 in
      ap (λ n. eqb n 0) one)),
)
