-- Each vertex is used by a triangle.
use Rattle.std.proofs.Common.{◌≡◌, ℕ, zero, suc, ◌+◌, ◌-◌, ◌*◌, ◌/◌, ◌%◌, ◌<◌, ◌≤◌, Bool, true, cond, ◌&&◌, ◌||◌, List, [], ◌∷◌, ◌++◌, map, refl, sym, ◌∙◌, ap, subst, ◌⊎◌, inl, inr, arith, eqb, ltb, leb, ℤ, length, get_or}
use Rattle.std.specs.List.{flat_map, filter, list_any, list_all, count_by}
use Rattle.std.proofs.lemmas.Bool.{and_parts, eq-eqb, or_left, or_right, ltb-true, lt-ltb, le-ltb, leb-true, cases_lt}
use Rattle.std.proofs.lemmas.Nat.{mod_below}
use Rattle.iso_defs.specs.Lists.{below, around, steps}
use Rattle.iso_defs.specs.Grid.{Grid, stride, index, coordinate, cells, name_bound, point_count, has_next, is_edge, is_above, differ, is_crossing, IsThick}
use Rattle.iso_defs.specs.Cell.{Triangle, corner_point, edge_corner, cell_edge, cell_signs, crosses}
use Rattle.iso_defs.specs.Place.{Position, edge_position, centre_position}
use Rattle.iso_defs.specs.Scratch.{triangles, number_of, vertex_names, vertices, crossing_edges, cell_centres, cell_loops, has_centre, centre_name, on_corners, named_triangles, cell_triangles, vertex_name}
use Rattle.iso_defs.specs.Manifold.{arcs, arc_of, uses}
use Rattle.triangle_laws.proofs.Lists.{In, In-append, In-map, in_map, In-flat_map, In-filter, any_in, list_all_at}
use Rattle.mesh_laws.proofs.Cells.{range_at_least}
use Rattle.iso_defs.proofs.Points.{x_index, y_index, z_index, index_in, index_of_point}
use Rattle.mesh_laws.proofs.Apart.{crosses_is}
use Rattle.mesh_laws.proofs.Arcs.{Part, part_is, arc_corner, flat_arcs, same_pairs_eq, on_pair, cell_arcs}
use Rattle.mesh_laws.proofs.Padded.{by_three}
use Rattle.iso_defs.specs.Verdict.{IsOrientedSurface}
use Rattle.case_laws.proofs.Wedges.{centre_test, centre_all, distinct_test, same_pairs}
use Rattle.case_laws.proofs.EdgePairs.{implies}
use Rattle.case_laws.proofs.Tests.{cell_passes}
use Rattle.mesh_laws.proofs.Names.{name_of_centre}
use Rattle.triangle_laws.proofs.Counts.{count-cons, count_none}
use Rattle.mesh_laws.proofs.Directed.{local}
use Rattle.mesh_laws.proofs.Oriented.{Ascending, vertices_ascend, runs_match}
use Rattle.mesh_laws.proofs.Surfaces.{manifold}
use Rattle.mesh_laws.proofs.Opposite.{cell_from}

-- on which side of a point a cell lies: at it, or one before
pub record Side (c n : ℕ) : Type 0 where
  pub bit : ℕ
  pub small : bit ≤ 1
  pub enough : bit ≤ c
  pub room : c - bit + 1 < n
  pub plain : c + 1 < n → bit ≡ 0

side : (c n : ℕ) → 2 ≤ n → c < n → Side c n
side c n h k =
    elim (cases_lt (c + 1) n) [
      | inl l ↦ record { bit = 0; small = omega arith; enough = omega arith; room = omega arith; plain = λ m. refl }
      | inr l ↦ record { bit = 1; small = omega arith; enough = omega arith; room = omega arith; plain = λ m. absurd (omega arith) }
    ]

two_bits : (P : ℕ → ℕ → Type 0) → P 0 0 → P 1 0 → P 0 1 → P 1 1 → (b c : ℕ) → b ≤ 1 → c ≤ 1 → P b c
two_bits P a b c d zero zero h k = a
two_bits P a b c d (suc zero) zero h k = b
two_bits P a b c d zero (suc zero) h k = c
two_bits P a b c d (suc zero) (suc zero) h k = d
two_bits P a b c d (suc (suc m)) n h k = absurd (omega arith)
two_bits P a b c d m (suc (suc n)) h k = absurd (omega arith)

-- the edge of a cell r along an axis from a point
the_edge : (g : Grid) (r p axis bx by bz : ℕ) → axis < 3 → bx ≤ 1 → by ≤ 1 → bz ≤ 1
    → (axis ≡ 0 → bx ≡ 0) → (axis ≡ 1 → by ≡ 0) → (axis ≡ 2 → bz ≡ 0)
    → p ≡ r + (bx + (by * g.nx + bz * (g.nx * g.ny)))
    → (x : ℕ) × (x < 12) × (x / 4 ≡ axis) × (corner_point g r (edge_corner x) ≡ p)
the_edge g r p axis bx by bz ha hx hy hz kx ky kz e =
    let Q : ℕ → Type 0 = λ a. (x : ℕ) × (x < 12) × (x / 4 ≡ a) × (corner_point g r (edge_corner x) ≡ p) in
    let E : ℕ → ℕ → ℕ → Type 0 = λ x y z. p ≡ r + (x + (y * g.nx + z * (g.nx * g.ny))) in
    by_three (λ a. (a ≡ 0 → bx ≡ 0) → (a ≡ 1 → by ≡ 0) → (a ≡ 2 → bz ≡ 0) → Q a)
    (λ k l m. two_bits (λ b c. E 0 b c → Q 0)
    (λ e. (0, omega arith, refl, omega arith)) (λ e. (1, omega arith, refl, omega arith))
    (λ e. (2, omega arith, refl, omega arith)) (λ e. (3, omega arith, refl, omega arith)) by bz hy hz (subst (λ b. E b by bz) (k refl) e))
    (λ k l m. two_bits (λ b c. E b 0 c → Q 1)
    (λ e. (4, omega arith, refl, omega arith)) (λ e. (5, omega arith, refl, omega arith))
    (λ e. (6, omega arith, refl, omega arith)) (λ e. (7, omega arith, refl, omega arith)) bx bz hx hz (subst (λ b. E bx b bz) (l refl) e))
    (λ k l m. two_bits (λ b c. E b c 0 → Q 2)
    (λ e. (8, omega arith, refl, omega arith)) (λ e. (9, omega arith, refl, omega arith))
    (λ e. (10, omega arith, refl, omega arith)) (λ e. (11, omega arith, refl, omega arith)) bx by hx hy (subst (λ b. E bx by b) (m refl) e))
    axis ha kx ky kz

-- a cell that has a crossing edge
pub cell_of_edge : (g : Grid) (s : ℕ → ℤ) (n : ℕ) → IsThick g → In n (crossing_edges g s) →
    (r : ℕ) × In r (cells g) × ((x : ℕ) × (x < 12) × (cell_edge g r x ≡ n) × (crosses (cell_signs g s r) x ≡ true))
cell_of_edge g s n thick i =
    let k : In n (below (name_bound g)) × (is_crossing g s n ≡ true) = In-filter (is_crossing g s) n (below (name_bound g)) i in
    let low : (0 ≤ n) × (n < 0 + name_bound g) = range_at_least 0 (name_bound g) n k.0 in
    let c : (is_edge g n ≡ true) × (differ (is_above (s (n / 3))) (is_above (s (n / 3 + stride g (n % 3)))) ≡ true) = and_parts _ _ k.1 in
    let p : ℕ = n / 3 in
    let a : ℕ = n % 3 in
    let p_in : p < point_count g = omega (arith, low.1) in
    let mx : coordinate g 0 p < g.nx = mod_below (p / 1) g.nx (omega (arith, thick.x)) in
    let my : coordinate g 1 p < g.ny = mod_below (p / g.nx) g.ny (omega (arith, thick.y)) in
    let mz : coordinate g 2 p < g.nz = mod_below (p / (g.nx * g.ny)) g.nz (omega (arith, thick.z)) in
    let sx : Side (coordinate g 0 p) g.nx = side (coordinate g 0 p) g.nx thick.x mx in
    let sy : Side (coordinate g 1 p) g.ny = side (coordinate g 1 p) g.ny thick.y my in
    let sz : Side (coordinate g 2 p) g.nz = side (coordinate g 2 p) g.nz thick.z mz in
    let X : ℕ = coordinate g 0 p - sx.bit in
    let Y : ℕ = coordinate g 1 p - sy.bit in
    let Z : ℕ = coordinate g 2 p - sz.bit in
    let eX : X + sx.bit ≡ coordinate g 0 p = omega (arith, sx.enough) in
    let eY : Y + sy.bit ≡ coordinate g 1 p = omega (arith, sy.enough) in
    let eZ : Z + sz.bit ≡ coordinate g 2 p = omega (arith, sz.enough) in
    let hX : X < g.nx = omega (arith, sx.room) in
    let hY : Y < g.ny = omega (arith, sy.room) in
    let hZ : Z < g.nz = omega (arith, sz.room) in
    let r : ℕ = index g X Y Z in
    let known : In r (cells g) = cell_from g r (index_in g X Y Z hX hY hZ)
    (subst (λ a. a + 1 < g.nx) (sym (x_index g X Y Z hX hY hZ)) sx.room)
    (subst (λ a. a + 1 < g.ny) (sym (y_index g X Y Z hX hY hZ)) sy.room)
    (subst (λ a. a + 1 < g.nz) (sym (z_index g X Y Z hX hY hZ)) sz.room) in
    let whole : index g (X + sx.bit) (Y + sy.bit) (Z + sz.bit) ≡ p
    = ap (λ a. index g a (Y + sy.bit) (Z + sz.bit)) eX ∙ (ap (λ a. index g (coordinate g 0 p) a (Z + sz.bit)) eY
    ∙ (ap (λ a. index g (coordinate g 0 p) (coordinate g 1 p) a) eZ ∙ index_of_point g p p_in)) in
    let e : p ≡ r + (sx.bit + (sy.bit * g.nx + sz.bit * (g.nx * g.ny))) = sym whole ∙ spread X Y Z sx.bit sy.bit sz.bit g.nx g.ny in
    let grid : (m : ℕ) → a ≡ m → has_next g m p ≡ true = λ m q. subst (λ b. has_next g b p ≡ true) q c.0 in
    let x : (x : ℕ) × (x < 12) × (x / 4 ≡ a) × (corner_point g r (edge_corner x) ≡ p)
    = the_edge g r p a sx.bit sy.bit sz.bit (omega arith) sx.small sy.small sz.small
    (λ q. sx.plain (ltb-true _ _ (grid 0 q))) (λ q. sy.plain (ltb-true _ _ (grid 1 q))) (λ q. sz.plain (ltb-true _ _ (grid 2 q))) e in
    let name : cell_edge g r x.0 ≡ n = ap (λ z. 3 * z + x.0 / 4) x.3 ∙ (ap (λ z. 3 * p + z) x.2 ∙ joined n) in
    let crossing : crosses (cell_signs g s r) x.0 ≡ true
    = crosses_is g s r x.0 x.1 ∙ (ap (λ z. differ (is_above (s z)) (is_above (s (z + stride g (x.0 / 4))))) x.3
    ∙ (ap (λ z. differ (is_above (s p)) (is_above (s (p + stride g z)))) x.2 ∙ c.1)) in
    (r, known, (x.0, x.1, name, crossing))
  where
    spread : (x y z a b c m n : ℕ) → (x + a) + m * ((y + b) + n * (z + c)) ≡ x + m * (y + n * z) + (a + (b * m + c * (m * n)))
    spread x y z a b c m n = omega arith

    joined : (n : ℕ) → 3 * (n / 3) + n % 3 ≡ n
    joined n = omega arith

-- and so the vertex of a crossing edge has an arc
pub edge_arc : (g : Grid) (s : ℕ → ℤ) (n : ℕ) → IsThick g → In n (crossing_edges g s) → (y : ℕ × ℕ) × In y (arcs (named_triangles g s) n)
edge_arc g s n thick i =
    let c : (r : ℕ) × In r (cells g) × ((x : ℕ) × (x < 12) × (cell_edge g r x ≡ n) × (crosses (cell_signs g s r) x ≡ true)) = cell_of_edge g s n thick i in
    let p : Part g s c.0 c.2.0 = part_is g s c.0 c.2.0 c.1 c.2.1 c.2.3 in
    let y : (y : ℕ × ℕ) × In y (steps (cell_edge g c.0 p.next ∷ (p.middle ++ cell_edge g c.0 p.previous ∷ []))) = some_step (cell_edge g c.0 p.next) p.middle (cell_edge g c.0 p.previous) in
    (y.0, flat_arcs (cell_triangles g s) (cells g) n y.0 c.0 c.1 (subst (λ v. In y.0 (arcs (cell_triangles g s c.0) v)) c.2.2 (p.whole y.0 y.1)))
  where
    some_step : (a : ℕ) (m : List ℕ) (b : ℕ) → (y : ℕ × ℕ) × In y (steps (a ∷ (m ++ b ∷ [])))
    some_step a [] b = ((a, b), inl refl)
    some_step a (c ∷ m) b = ((a, c), inl refl)

-- the number of the element at a place of an ascending list is the place
rank_at : (xs : List ℕ) (k : ℕ) → Ascending xs → k < length xs → In (get_or xs k 0) xs × (count_by (λ u. ltb u (get_or xs k 0)) xs ≡ k)
rank_at [] k a h = absurd (omega arith)
rank_at (x ∷ xs) zero a h = (
  inl refl,
  (let none : count_by (λ u. ltb u x) xs ≡ 0 = count_none (λ u. ltb u x) xs (λ y j e. (let l : x < y = a.0 y j in let m : y < x = ltb-true _ _ e in omega arith)) in
      let here : cond {A = ℕ} (ltb x x) 1 0 ≡ 0 = ap (λ b. cond {A = ℕ} b 1 0) (le-ltb x x (omega arith)) in
      count-cons (λ u. ltb u x) x xs ∙ (ap (λ n. n + count_by (λ u. ltb u x) xs) here ∙ ap (λ n. 0 + n) none)),
)
rank_at (x ∷ xs) (suc k) a h =
    let r : In (get_or xs k 0) xs × (count_by (λ u. ltb u (get_or xs k 0)) xs ≡ k) = rank_at xs k a.1 (omega arith) in
    let v : ℕ = get_or xs k 0 in
    let here : cond {A = ℕ} (ltb x v) 1 0 ≡ 1 = ap (λ b. cond {A = ℕ} b 1 0) (lt-ltb x v (a.0 v r.0)) in
    (inr r.0, count-cons (λ u. ltb u v) x xs ∙ (ap (λ n. n + count_by (λ u. ltb u v) xs) here ∙ (ap (λ n. 1 + n) r.1 ∙ one_more k)))
  where
    one_more : (k : ℕ) → 1 + k ≡ suc k
    one_more k = omega arith

-- the centre of a loop has an arc
centre_arc : (g : Grid) (s : ℕ → ℤ) (q : ℕ) (l : ℕ × List ℕ) → In q (cells g) → In l (filter has_centre (cell_loops g s q))
    → (y : ℕ × ℕ) × In y (arcs (named_triangles g s) (centre_name g q l.0))
centre_arc g s q l i j =
    let k : In l (cell_loops g s q) × (has_centre l ≡ true) = In-filter has_centre l (cell_loops g s q) j in
    let each : ℕ × List ℕ → Bool = λ (l : ℕ × List ℕ). ltb l.0 4 && (list_all (λ e. ltb e 12) l.1 && (distinct_test l.1
    && (leb 3 (length l.1) && implies (has_centre l) (same_pairs (arcs (local g s q) (12 + l.0)) (around l.1))))) in
    let t : each l ≡ true = list_all_at each (cell_loops g s q) l (cell_passes centre_test centre_all g s q) k.0 in
    let t1 : (ltb l.0 4 ≡ true) × ((list_all (λ e. ltb e 12) l.1 && (distinct_test l.1
    && (leb 3 (length l.1) && implies (has_centre l) (same_pairs (arcs (local g s q) (12 + l.0)) (around l.1))))) ≡ true) = and_parts _ _ t in
    let t2 : (list_all (λ e. ltb e 12) l.1 ≡ true) × ((distinct_test l.1
    && (leb 3 (length l.1) && implies (has_centre l) (same_pairs (arcs (local g s q) (12 + l.0)) (around l.1)))) ≡ true) = and_parts _ _ t1.1 in
    let t3 : (distinct_test l.1 ≡ true) × ((leb 3 (length l.1) && implies (has_centre l) (same_pairs (arcs (local g s q) (12 + l.0)) (around l.1))) ≡ true) = and_parts _ _ t2.1 in
    let t4 : (leb 3 (length l.1) ≡ true) × (implies (has_centre l) (same_pairs (arcs (local g s q) (12 + l.0)) (around l.1)) ≡ true) = and_parts _ _ t3.1 in
    let e : arcs (local g s q) (12 + l.0) ≡ around l.1
    = same_pairs_eq _ _ (subst (λ b. implies b (same_pairs (arcs (local g s q) (12 + l.0)) (around l.1)) ≡ true) k.1 t4.1) in
    let x : ℕ = 12 + l.0 in
    let low : x < 16 = omega (arith, ltb-true l.0 4 t1.0) in
    let z : (z : ℕ × ℕ) × In z (around l.1) = some_step l.1 (leb-true 3 (length l.1) t4.0) in
    let here : arcs (cell_triangles g s q) (vertex_name g q x) ≡ map (on_pair (vertex_name g q)) (arcs (local g s q) x) = cell_arcs g s q x i low in
    let name : vertex_name g q x ≡ centre_name g q l.0 = name_of_centre g q x (omega arith) ∙ ap (centre_name g q) (less l.0) in
    let y : ℕ × ℕ = on_pair (vertex_name g q) z.0 in
    let iy : In y (arcs (cell_triangles g s q) (vertex_name g q x))
    = subst (λ zs. In y zs) (sym here) (in_map (on_pair (vertex_name g q)) z.0 (arcs (local g s q) x) (subst (λ zs. In z.0 zs) (sym e) z.1)) in
    (y, flat_arcs (cell_triangles g s) (cells g) (centre_name g q l.0) y q i (subst (λ v. In y (arcs (cell_triangles g s q) v)) name iy))
  where
    less : (n : ℕ) → 12 + n - 12 ≡ n
    less n = omega arith

    some_step : (vs : List ℕ) → 3 ≤ length vs → (z : ℕ × ℕ) × In z (around vs)
    some_step [] h = absurd (omega arith)
    some_step (v ∷ []) h = ((v, v), inl refl)
    some_step (v ∷ w ∷ vs) h = ((v, w), inl refl)

-- each vertex has an arc
vertex_arc : (g : Grid) (s : ℕ → ℤ) (n : ℕ) → IsThick g → In n (vertex_names g s) → (y : ℕ × ℕ) × In y (arcs (named_triangles g s) n)
vertex_arc g s n thick i =
    let v : (v : ℕ × Position) × In v (vertices g s) × (n ≡ v.0) = In-map (λ (v : ℕ × Position). v.0) n (vertices g s) i in
    elim (In-append v.0 (map (λ n. (n, edge_position g s n)) (crossing_edges g s)) (flat_map (cell_centres g s) (cells g)) v.1) [
      | inl j ↦ (let e : (m : ℕ) × In m (crossing_edges g s) × (v.0 ≡ (m, edge_position g s m)) = In-map (λ n. (n, edge_position g s n)) v.0 (crossing_edges g s) j in
          let k : n ≡ e.0 = v.2 ∙ ap (λ (z : ℕ × Position). z.0) e.2 in
          subst (λ m. (y : ℕ × ℕ) × In y (arcs (named_triangles g s) m)) (sym k) (edge_arc g s e.0 thick e.1))
      | inr j ↦ (let q : (q : ℕ) × In q (cells g) × In v.0 (cell_centres g s q) = In-flat_map (cell_centres g s) v.0 (cells g) j in
          let l : (l : ℕ × List ℕ) × In l (filter has_centre (cell_loops g s q.0)) × (v.0 ≡ (centre_name g q.0 l.0, centre_position g s (map (cell_edge g q.0) l.1)))
          = In-map (λ (l : ℕ × List ℕ). (centre_name g q.0 l.0, centre_position g s (map (cell_edge g q.0) l.1))) v.0 (filter has_centre (cell_loops g s q.0)) q.2 in
          let k : n ≡ centre_name g q.0 l.0.0 = v.2 ∙ ap (λ (z : ℕ × Position). z.0) l.2 in
          subst (λ m. (y : ℕ × ℕ) × In y (arcs (named_triangles g s) m)) (sym k) (centre_arc g s q.0 l.0 q.1 l.1))
    ]

-- each number of a vertex is used
pub used : (g : Grid) (s : ℕ → ℤ) → IsThick g → (v : ℕ) → v < length (vertices g s) → list_any (uses v) (triangles g s) ≡ true
used g s thick v h =
    let names : List ℕ = vertex_names g s in
    let l : length names ≡ length (vertices g s) = length_map (vertices g s) in
    let r : In (get_or names v 0) names × (number_of g s (get_or names v 0) ≡ v) = rank_at names v (vertices_ascend g s) (subst (λ k. v < k) (sym l) h) in
    let n : ℕ = get_or names v 0 in
    let y : (y : ℕ × ℕ) × In y (arcs (named_triangles g s) n) = vertex_arc g s n thick r.0 in
    let t : (t : Triangle) × In t (named_triangles g s) × In y.0 (arc_of n t) = In-flat_map (arc_of n) y.0 (named_triangles g s) y.1 in
    any_in (uses v) (triangles g s) (on_corners (number_of g s) t.0) (in_map (on_corners (number_of g s)) t.0 (named_triangles g s) t.1)
    (corner_used (number_of g s) n v t.0 r.1 (arc_corner n t.0 y.0 t.2))
  where
    length_map : (vs : List (ℕ × Position)) → length (map (λ (v : ℕ × Position). v.0) vs) ≡ length vs
    length_map [] = refl
    length_map (v ∷ vs) = ap suc (length_map vs)

    corner_used : (f : ℕ → ℕ) (n v : ℕ) (t : Triangle) → f n ≡ v → (t.0 ≡ n) ⊎ ((t.1 ≡ n) ⊎ (t.2 ≡ n)) → uses v (on_corners f t) ≡ true
    corner_used f n v t e (inl k) = or_left (eqb (f t.0) v) (eqb (f t.1) v || eqb (f t.2) v) (eq-eqb _ _ (ap f k ∙ e))
    corner_used f n v t e (inr (inl k)) = or_right (eqb (f t.0) v) (eqb (f t.1) v || eqb (f t.2) v) (or_left (eqb (f t.1) v) (eqb (f t.2) v) (eq-eqb _ _ (ap f k ∙ e)))
    corner_used f n v t e (inr (inr k)) = or_right (eqb (f t.0) v) (eqb (f t.1) v || eqb (f t.2) v) (or_right (eqb (f t.1) v) (eqb (f t.2) v) (eq-eqb _ _ (ap f k ∙ e)))

-- the mesh of a field on a grid is an oriented surface
pub oriented_surface : (g : Grid) (s : ℕ → ℤ) → IsThick g → IsOrientedSurface g s
oriented_surface g s thick = record { manifold = manifold g s; matched = runs_match g s; used = used g s thick }
