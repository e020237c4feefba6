-- The segments of a plane are the edges of the mesh that lie in it.
use Rattle.std.proofs.Common.{◌≡◌, ℕ, ◌+◌, ◌-◌, ◌*◌, ◌/◌, ◌%◌, ◌<◌, ◌≤◌, Bool, true, ◌&&◌, ◌||◌, List, refl, sym, ◌∙◌, ap, subst, inl, inr, arith, eqb, ltb, ℤ, slice_index, get_or, zero-add}
use Rattle.std.proofs.lemmas.Bool.{and_parts, or_left, or_right, ltb-true, lt-ltb, eqb-true, eq-eqb, and_from, cases_lt}
use Rattle.iso_defs.specs.Lists.{below, has_pair}
use Rattle.iso_defs.specs.Grid.{Grid, cells, name_bound, coordinate, index, point_count, has_next, is_crossing, IsThick}
use Rattle.iso_defs.specs.Cell.{corner_point, cell_edge, cell_signs, cell_joined, cell_values, next_pairs, face_pairs, crosses, Triangle}
use Rattle.iso_defs.specs.Scratch.{vertex_name, on_corners, cell_triangles, named_triangles, triangles, number_of, vertex_names, crossing_edges}
use Rattle.iso_defs.specs.Manifold.{runs, times_run, runs_of, lies_in_plane}
use Rattle.iso_defs.specs.Contours.{squares, square_pairs, plane_pairs}
use Rattle.iso_defs.specs.PlaneOfMesh.{both_in_plane, IsPlaneEdge, IsPlaneOfMesh}
use Rattle.triangle_laws.proofs.Lists.{In, In-map, In-flat_map, in_flat_map, In-filter, in_filter}
use Rattle.triangle_laws.proofs.Counts.{pair_in, in_pair, count_finds, count_some}
use Rattle.mesh_laws.proofs.Cells.{cell_in, range_in, range_at_least}
use Rattle.mesh_laws.proofs.TwoCells.{Corner, corner_is, Pair, pair_is}
use Rattle.mesh_laws.proofs.Names.{edge_in, name_of_edge, name_of_centre, corner_in}
use Rattle.iso_defs.proofs.Points.{x_index, y_index, z_index, index_in, index_of_point}
use Rattle.mesh_laws.proofs.Mixed.{Low, low_is}
use Rattle.mesh_laws.proofs.Round.{in_some_face}
use Rattle.mesh_laws.proofs.Directed.{Source, source, Run, run_is}
use Rattle.mesh_laws.proofs.Opposite.{cell_runs, run_parts, cell_from, both_to, both_from}
use Rattle.mesh_laws.proofs.Numbers.{triangle_vertices, run_back, ends_of, crossing_of_cell, edge_vertex}
use Rattle.mesh_laws.proofs.Oriented.{vertex_at, times_move}
use Rattle.mesh_laws.proofs.Local.{cell_successor}
use Rattle.mesh_laws.proofs.Planes.{lower_face, upper_face, of_lower, of_upper, Segment}

module _ (g : Grid) (s : ℕ → ℤ) (k : ℕ) where
  -- a square of the plane
  a_square : (p : ℕ) → p < point_count g → coordinate g 2 p ≡ k → coordinate g 0 p + 1 < g.nx → coordinate g 1 p + 1 < g.ny → In p (squares g k)
  a_square p low ez hx hy =
      in_filter (λ p. eqb (coordinate g 2 p) k && (has_next g 0 p && has_next g 1 p)) p (below (point_count g))
      (range_in 0 (point_count g) p (omega arith) (subst (λ n. p < n) (sym (zero-add (point_count g))) low))
      (and_from _ _ (eq-eqb _ _ ez) (and_from _ _ (lt-ltb _ _ hx) (lt-ltb _ _ hy)))

  square_in : (p a b : ℕ) → In p (squares g k) → In (a, b) (square_pairs g s p) → has_pair (plane_pairs g s k) a b ≡ true
  square_in p a b i j = in_pair (plane_pairs g s k) a b (in_flat_map (square_pairs g s) (a, b) p (squares g k) i j)

  abbrev Either : ℕ → ℕ → Type 0
  Either a b = (has_pair (plane_pairs g s k) a b || has_pair (plane_pairs g s k) b a) ≡ true

  -- a segment of a cell between edges in the plane is a segment of the plane
  to_plane : (q x y : ℕ) → In q (cells g) → x < 12 → y < 12 → In (x, y) (next_pairs (cell_signs g s q) (cell_joined g s q))
      → (lies_in_plane g 2 k (cell_edge g q x) && lies_in_plane g 2 k (cell_edge g q y)) ≡ true → Either (cell_edge g q x) (cell_edge g q y)
  to_plane q x y i hx hy seg both =
      let f : (f : ℕ) × (f < 6) × In (x, y) (face_pairs (cell_signs g s q) (cell_joined g s q) f) = in_some_face g s q (x, y) seg in
      let z : (f.0 / 2 ≡ 2) × (coordinate g 2 q + f.0 % 2 ≡ k) = both_to g s q f.0 x y i f.1 hx hy f.2 2 k (omega arith) both in
      let l : Low g q = low_is g q (cell_in g q i).0 in
      elim (cases_lt f.0 5) [
        | inl h ↦ (
            let e : f.0 ≡ 4 = omega (arith, z.0) in
            let w : coordinate g 2 q ≡ k = omega (arith, z.1) in
            or_right (has_pair (plane_pairs g s k) (cell_edge g q x) (cell_edge g q y)) _
            (square_in q (cell_edge g q y) (cell_edge g q x) (a_square q (cell_in g q i).1 w l.x l.y)
            (lower_face g s q x y (subst (λ f. In (x, y) (face_pairs (cell_signs g s q) (cell_joined g s q) f)) e f.2))))
        | inr h ↦ (
            let e : f.0 ≡ 5 = omega (arith, f.1) in
            let c : Corner g q 4 = corner_is g q 4 (cell_in g q i).0 (omega arith) in
            let w : coordinate g 2 (corner_point g q 4) ≡ k = omega (arith, z.1, c.z) in
            let ux : coordinate g 0 (corner_point g q 4) + 1 < g.nx = omega (arith, c.x, l.x) in
            let uy : coordinate g 1 (corner_point g q 4) + 1 < g.ny = omega (arith, c.y, l.y) in
            or_left (has_pair (plane_pairs g s k) (cell_edge g q x) (cell_edge g q y)) _
            (square_in (corner_point g q 4) (cell_edge g q x) (cell_edge g q y) (a_square (corner_point g q 4) (corner_in g q 4 i (omega arith)) w ux uy)
            (upper_face g s q x y (subst (λ f. In (x, y) (face_pairs (cell_signs g s q) (cell_joined g s q) f)) e f.2))))
      ]

  -- a segment of a face of a cell in the plane is an edge of the mesh
  plane_edge : (q f x y : ℕ) → In q (cells g) → f < 6 → f / 2 ≡ 2 → coordinate g 2 q + f % 2 ≡ k
      → In (x, y) (face_pairs (cell_signs g s q) (cell_joined g s q) f) → IsPlaneEdge g s k (cell_edge g q x) (cell_edge g q y)
  plane_edge q f x y i hf half plane seg =
      let whole : In (x, y) (next_pairs (cell_signs g s q) (cell_joined g s q))
      = in_flat_map (face_pairs (cell_signs g s q) (cell_joined g s q)) (x, y) f (below 6) (range_in 0 6 f (omega arith) (omega arith)) seg in
      let p : Pair (cell_signs g s q) x y = pair_is g s q (x, y) whole in
      let both : (lies_in_plane g (f / 2) k (cell_edge g q x) && lies_in_plane g (f / 2) k (cell_edge g q y)) ≡ true
      = both_from g s q f x y i hf p.first p.second seg k (subst (λ n. coordinate g n q + f % 2 ≡ k) (sym half) plane) in
      let lies : (lies_in_plane g 2 k (cell_edge g q x) ≡ true) × (lies_in_plane g 2 k (cell_edge g q y) ≡ true)
      = and_parts _ _ (subst (λ n. (lies_in_plane g n k (cell_edge g q x) && lies_in_plane g n k (cell_edge g q y)) ≡ true) half both) in
      let cross : (crosses (cell_signs g s q) x ≡ true) × (crosses (cell_signs g s q) y ≡ true)
      = (cell_successor (cell_values g s q) refl).inside x y (in_pair (next_pairs (cell_signs g s q) (cell_joined g s q)) x y whole) in
      let cx : In (cell_edge g q x) (crossing_edges g s) = crossing_of_cell g s q x i p.first cross.0 in
      let cy : In (cell_edge g q y) (crossing_edges g s) = crossing_of_cell g s q y i p.second cross.1 in
      let r0 : 0 < times_run (named_triangles g s) (vertex_name g q x) (vertex_name g q y)
      = cell_runs g s q x y i ((run_parts g s q).1 (x, y) whole) in
      let r1 : 0 < times_run (named_triangles g s) (cell_edge g q x) (vertex_name g q y)
      = subst (λ u. 0 < times_run (named_triangles g s) u (vertex_name g q y)) (name_of_edge g q x p.first) r0 in
      let r2 : 0 < times_run (named_triangles g s) (cell_edge g q x) (cell_edge g q y)
      = subst (λ u. 0 < times_run (named_triangles g s) (cell_edge g q x) u) (name_of_edge g q y p.second) r1 in
      let moved : times_run (triangles g s) (number_of g s (cell_edge g q x)) (number_of g s (cell_edge g q y)) ≡ times_run (named_triangles g s) (cell_edge g q x) (cell_edge g q y)
      = times_move g s (cell_edge g q x) (cell_edge g q y) (edge_vertex g s (cell_edge g q x) cx) (edge_vertex g s (cell_edge g q y) cy) in
      let r3 : 0 < times_run (triangles g s) (number_of g s (cell_edge g q x)) (number_of g s (cell_edge g q y)) = subst (λ n. 0 < n) (sym moved) r2 in
      record {
        first = (edge_in g q x i p.first, (In-filter (is_crossing g s) (cell_edge g q x) (below (name_bound g)) cx).1, lies.0);
        second = (edge_in g q y i p.second, (In-filter (is_crossing g s) (cell_edge g q y) (below (name_bound g)) cy).1, lies.1);
        run = more _ _ r3;
      }
    where
      more : (m n : ℕ) → 0 < m → 0 < m + n
      more m n h = omega arith

  turned : (a b : ℕ) → IsPlaneEdge g s k a b → IsPlaneEdge g s k b a
  turned a b e = record { first = e.second; second = e.first; run = swap _ _ e.run }
    where
      swap : (m n : ℕ) → 0 < m + n → 0 < n + m
      swap m n h = omega arith

  from_square : (p a b : ℕ) → IsThick g → k < g.nz → In p (squares g k) → In (a, b) (square_pairs g s p) → IsPlaneEdge g s k a b
  from_square p a b thick hk i j =
      let f : In p (below (point_count g)) × ((eqb (coordinate g 2 p) k && (has_next g 0 p && has_next g 1 p)) ≡ true)
      = In-filter (λ p. eqb (coordinate g 2 p) k && (has_next g 0 p && has_next g 1 p)) p (below (point_count g)) i in
      let low : p < point_count g = subst (λ n. p < n) (zero-add (point_count g)) (range_at_least 0 (point_count g) p f.0).1 in
      let t : (eqb (coordinate g 2 p) k ≡ true) × ((has_next g 0 p && has_next g 1 p) ≡ true) = and_parts _ _ f.1 in
      let u : (has_next g 0 p ≡ true) × (has_next g 1 p ≡ true) = and_parts _ _ t.1 in
      let hz : coordinate g 2 p ≡ k = eqb-true _ _ t.0 in
      let hx : coordinate g 0 p + 1 < g.nx = ltb-true _ _ u.0 in
      let hy : coordinate g 1 p + 1 < g.ny = ltb-true _ _ u.1 in
      elim (cases_lt (k + 1) g.nz) [
        | inl h ↦ (
            let c : In p (cells g) = cell_from g p low hx hy (omega arith) in
            let m : Segment g s p 4 b a = of_lower g s p a b j in
            let e : IsPlaneEdge g s k (cell_edge g p m.0) (cell_edge g p m.1) = plane_edge p 4 m.0 m.1 c (omega arith) (omega arith) (omega arith) m.2 in
            turned b a (subst (λ z. IsPlaneEdge g s k z a) m.3 (subst (λ z. IsPlaneEdge g s k (cell_edge g p m.0) z) m.4 e)))
        | inr h ↦ (
            let nz2 : 2 ≤ g.nz = thick.z in
            let X : ℕ = coordinate g 0 p in
            let Y : ℕ = coordinate g 1 p in
            let Z : ℕ = k - 1 in
            let up : Z + 1 ≡ k = omega arith in
            let hX : X < g.nx = omega arith in
            let hY : Y < g.ny = omega arith in
            let hZ : Z < g.nz = omega arith in
            let q : ℕ = index g X Y Z in
            let ex : coordinate g 0 q ≡ X = x_index g X Y Z hX hY hZ in
            let ey : coordinate g 1 q ≡ Y = y_index g X Y Z hX hY hZ in
            let ez : coordinate g 2 q ≡ Z = z_index g X Y Z hX hY hZ in
            let c : In q (cells g) = cell_from g q (index_in g X Y Z hX hY hZ) (subst (λ n. n + 1 < g.nx) (sym ex) hx) (subst (λ n. n + 1 < g.ny) (sym ey) hy)
            (subst (λ n. n + 1 < g.nz) (sym ez) (omega arith)) in
            let point : corner_point g q 4 ≡ p
            = spread X Y Z g.nx g.ny ∙ (ap (index g X Y) (up ∙ sym hz) ∙ index_of_point g p low) in
            let m : Segment g s q 5 a b = of_upper g s q a b (subst (λ z. In (a, b) (square_pairs g s z)) (sym point) j) in
            let level : coordinate g 2 q + 5 % 2 ≡ k = omega (arith, ez, up) in
            let e : IsPlaneEdge g s k (cell_edge g q m.0) (cell_edge g q m.1) = plane_edge q 5 m.0 m.1 c (omega arith) (omega arith) level m.2 in
            subst (λ z. IsPlaneEdge g s k z b) m.3 (subst (λ z. IsPlaneEdge g s k (cell_edge g q m.0) z) m.4 e))
      ]
    where
      spread : (x y z m n : ℕ) → x + m * (y + n * z) + (4 % 2 * 1 + (4 / 2 % 2 * m + 4 / 4 * (m * n))) ≡ x + m * (y + n * (z + 1))
      spread x y z m n = omega arith

  -- a pair that is run between edges in the plane, by names
  named_segment : (m n : ℕ) → 0 < times_run (named_triangles g s) m n → m < name_bound g → n < name_bound g
      → (lies_in_plane g 2 k m && lies_in_plane g 2 k n) ≡ true → Either m n
  named_segment m n h lm ln both =
      let t : (t : Triangle) × In t (named_triangles g s) × (runs m n t ≡ true) = count_finds (runs m n) (named_triangles g s) h in
      let q : (q : ℕ) × In q (cells g) × In t.0 (cell_triangles g s q) = In-flat_map (cell_triangles g s) t.0 (cells g) t.1 in
      let c : Source g s q.0 m n = source g s q.0 m n (count_some (runs m n) (cell_triangles g s q.0) t.0 q.2 t.2) in
      let r : Run g s q.0 c.x c.y = run_is g s q.0 c.x c.y c.run in
      let hx : c.x < 12 = edge_number q.0 c.x (subst (λ z. z < name_bound g) (sym c.from) lm) in
      let hy : c.y < 12 = edge_number q.0 c.y (subst (λ z. z < name_bound g) (sym c.to) ln) in
      let em : cell_edge g q.0 c.x ≡ m = sym (name_of_edge g q.0 c.x hx) ∙ c.from in
      let en : cell_edge g q.0 c.y ≡ n = sym (name_of_edge g q.0 c.y hy) ∙ c.to in
      let both' : (lies_in_plane g 2 k (cell_edge g q.0 c.x) && lies_in_plane g 2 k (cell_edge g q.0 c.y)) ≡ true
      = ap (λ z. lies_in_plane g 2 k z && lies_in_plane g 2 k (cell_edge g q.0 c.y)) em ∙ (ap (λ z. lies_in_plane g 2 k m && lies_in_plane g 2 k z) en ∙ both) in
      subst (λ z. Either z n) em (subst (λ z. Either (cell_edge g q.0 c.x) z) en (to_plane q.0 c.x c.y q.1 hx hy (r.segment hx hy) both'))
    where
      edge_number : (q x : ℕ) → vertex_name g q x < name_bound g → x < 12
      edge_number q x h =
          elim (cases_lt x 12) [
            | inl a ↦ a
            | inr a ↦ absurd (too_high (vertex_name g q x) (name_bound g) (4 * q + (x - 12)) h (name_of_centre g q x a))
          ]
        where
          too_high : (m n k : ℕ) → m < n → m ≡ n + k → ⊥
          too_high m n k h e = omega arith

  -- a pair that is run, by numbers, is one by names
  numbered_segment : (i j : ℕ) → 0 < times_run (triangles g s) i j → both_in_plane g s k i j ≡ true
      → Either (slice_index (vertex_names g s) i) (slice_index (vertex_names g s) j)
  numbered_segment i j h both =
      let f : ℕ → ℕ = number_of g s in
      let names : List ℕ = vertex_names g s in
      let w : (u : Triangle) × In u (triangles g s) × (runs i j u ≡ true) = count_finds (runs i j) (triangles g s) h in
      let t : (t : Triangle) × In t (named_triangles g s) × (w.0 ≡ on_corners f t) = In-map (on_corners f) w.0 (named_triangles g s) w.1 in
      let r : (x : ℕ × ℕ) × In x (runs_of t.0) × (f x.0 ≡ i) × (f x.1 ≡ j) = run_back f t.0 i j (subst (λ u. runs i j u ≡ true) t.2 w.2) in
      let v : In r.0.0 names × In r.0.1 names = ends_of g s t.0 r.0 (triangle_vertices g s t.0 t.1) r.1 in
      let m : ℕ = r.0.0 in
      let n : ℕ = r.0.1 in
      let em : slice_index names i ≡ m = ap (λ z. get_or names z 0) (sym r.2) ∙ vertex_at g s m v.0 in
      let en : slice_index names j ≡ n = ap (λ z. get_or names z 0) (sym r.3) ∙ vertex_at g s n v.1 in
      let run : 0 < times_run (triangles g s) (f m) (f n) = subst (λ z. 0 < times_run (triangles g s) z (f n)) (sym r.2) (subst (λ z. 0 < times_run (triangles g s) i z) (sym r.3) h) in
      let named : 0 < times_run (named_triangles g s) m n = subst (λ z. 0 < z) (times_move g s m n v.0 v.1) run in
      let test : ℕ → ℕ → Bool = λ a b. ltb a (name_bound g) && (ltb b (name_bound g) && (lies_in_plane g 2 k a && lies_in_plane g 2 k b)) in
      let here : test m n ≡ true = subst (λ z. test z n ≡ true) em (subst (λ z. test (slice_index names i) z ≡ true) en both) in
      let p : (ltb m (name_bound g) ≡ true) × ((ltb n (name_bound g) && (lies_in_plane g 2 k m && lies_in_plane g 2 k n)) ≡ true) = and_parts _ _ here in
      let o : (ltb n (name_bound g) ≡ true) × ((lies_in_plane g 2 k m && lies_in_plane g 2 k n) ≡ true) = and_parts _ _ p.1 in
      subst (λ z. Either z (slice_index names j)) (sym em) (subst (λ z. Either m z) (sym en) (named_segment m n named (ltb-true _ _ p.0) (ltb-true _ _ o.0) o.1))

-- for every plane of the grid
pub plane_of_mesh : (g : Grid) (s : ℕ → ℤ) (k : ℕ) → IsThick g → k < g.nz → IsPlaneOfMesh g s k
plane_of_mesh g s k thick hk = record {
  edges = λ a b h.
      (let p : (p : ℕ) × In p (squares g k) × In (a, b) (square_pairs g s p) = In-flat_map (square_pairs g s) (a, b) (squares g k) (pair_in (plane_pairs g s k) a b h) in
      from_square g s k p.0 a b thick hk p.1 p.2);
  segments = λ i j h both. numbered_segment g s k i j h both;
}
