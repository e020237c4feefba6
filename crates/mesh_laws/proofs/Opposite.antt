-- A pair that is run off the border is run in both directions, and one on the border in one.
use Rattle.std.proofs.Common.{◌≡◌, ℕ, zero, suc, ◌+◌, ◌-◌, ◌*◌, ◌/◌, ◌%◌, ◌<◌, ◌≤◌, Bool, true, false, ◌&&◌, ◌||◌, not, List, refl, sym, ◌∙◌, ap, subst, ◌⊎◌, inl, inr, arith, eqb, ltb, ℤ, if◌then◌else◌}
use Rattle.std.specs.List.{flat_map, list_all, list_any}
use Rattle.std.proofs.lemmas.Bool.{and_parts, or_cases, or_left, or_right, cases_Bool, ltb-true, lt-ltb, eqb-true, eq-eqb, and_from, cases_lt, eqb-false}
use Rattle.iso_defs.specs.Lists.{below, has_pair, count_pair}
use Rattle.iso_defs.specs.Grid.{Grid, cells, is_cell, name_bound, coordinate, size, index, point_count}
use Rattle.iso_defs.specs.Face.{holds_at}
use Rattle.iso_defs.specs.Cell.{corner_point, cell_edge, edge_corner, cell_signs, cell_joined, next_pairs, face_pairs, Triangle}
use Rattle.iso_defs.specs.Scratch.{vertex_name, on_corners, cell_triangles, named_triangles}
use Rattle.iso_defs.specs.Manifold.{runs, times_run, runs_of, all_runs, lies_in_plane, share_outer_plane}
use Rattle.case_laws.proofs.Cases.{all_below, same, runs_test, runs_all}
use Rattle.case_laws.proofs.EdgePairs.{in_face, shares_face, alike, implies}
use Rattle.case_laws.proofs.Rotation.{plane_at, planes_all, sides_all, two_edges_test, two_edges_all, step_at, bit_along, up_half, half, follow}
use Rattle.triangle_laws.proofs.Lists.{In, in_map, In-flat_map, in_flat_map, in_filter, list_all_at, in_any, any_in}
use Rattle.case_laws.proofs.Tests.{all_below_at, cell_passes}
use Rattle.triangle_laws.proofs.Counts.{pair_in, count_some, count_finds}
use Rattle.mesh_laws.proofs.Cells.{cell_in, range_in, range_at_least}
use Rattle.mesh_laws.proofs.TwoCells.{Corner, corner_is, corner_below, Pair, pair_is, Same, same_is, alike_is, same-true}
use Rattle.mesh_laws.proofs.Names.{same_vertex, edge_in, name_of_edge, name_of_centre, corner_in}
use Rattle.iso_defs.proofs.Points.{x_index, y_index, z_index, index_in, index_of_point}
use Rattle.mesh_laws.proofs.Mixed.{Low, low_is}
use Rattle.mesh_laws.proofs.Neighbours.{Across, across_x_up, across_x_down, across_y_up, across_y_down, across_z_up, across_z_down}
use Rattle.mesh_laws.proofs.Round.{Placed, placed, in_some_face, Step, step_is, by_six, step_of}
use Rattle.mesh_laws.proofs.Apart.{Turns, turns_is, same_sign}
use Rattle.mesh_laws.proofs.Directed.{local, Source, source, Run, run_is}

-- what is run in a cell is run in the whole
pub run_moves : (f : ℕ → ℕ) (t : Triangle) (p : ℕ × ℕ) → In p (runs_of t) → runs (f p.0) (f p.1) (on_corners f t) ≡ true
run_moves f t p (inl e) =
    subst (λ (y : ℕ × ℕ). runs (f y.0) (f y.1) (on_corners f t) ≡ true) (sym e)
    (or_left (eqb (f t.0) (f t.0) && eqb (f t.1) (f t.1)) _ (and_from _ _ (eq-eqb (f t.0) (f t.0) refl) (eq-eqb (f t.1) (f t.1) refl)))
run_moves f t p (inr (inl e)) =
    subst (λ (y : ℕ × ℕ). runs (f y.0) (f y.1) (on_corners f t) ≡ true) (sym e)
    (or_right (eqb (f t.0) (f t.1) && eqb (f t.1) (f t.2)) _
    (or_left (eqb (f t.1) (f t.1) && eqb (f t.2) (f t.2)) _ (and_from _ _ (eq-eqb (f t.1) (f t.1) refl) (eq-eqb (f t.2) (f t.2) refl))))
run_moves f t p (inr (inr (inl e))) =
    subst (λ (y : ℕ × ℕ). runs (f y.0) (f y.1) (on_corners f t) ≡ true) (sym e)
    (or_right (eqb (f t.0) (f t.2) && eqb (f t.1) (f t.0)) _
    (or_right (eqb (f t.1) (f t.2) && eqb (f t.2) (f t.0)) _ (and_from _ _ (eq-eqb (f t.2) (f t.2) refl) (eq-eqb (f t.0) (f t.0) refl))))
run_moves f t p (inr (inr (inr z))) = absurd z

pub cell_runs : (g : Grid) (s : ℕ → ℤ) (q a b : ℕ) → In q (cells g) → In (a, b) (all_runs (local g s q))
    → 0 < times_run (named_triangles g s) (vertex_name g q a) (vertex_name g q b)
cell_runs g s q a b i j =
    let t : (t : Triangle) × In t (local g s q) × In (a, b) (runs_of t) = In-flat_map runs_of (a, b) (local g s q) j in
    count_some (runs (vertex_name g q a) (vertex_name g q b)) (named_triangles g s) (on_corners (vertex_name g q) t.0)
    (in_flat_map (cell_triangles g s) (on_corners (vertex_name g q) t.0) q (cells g) i (in_map (on_corners (vertex_name g q)) t.0 (local g s q) t.1))
    (run_moves (vertex_name g q) t.0 (a, b) t.2)

-- what the test of runs says
pub run_parts : (g : Grid) (s : ℕ → ℤ) (q : ℕ) →
    ((a b : ℕ) → In (a, b) (all_runs (local g s q)) → (if ltb a 12 && ltb b 12 then has_pair (next_pairs (cell_signs g s q) (cell_joined g s q)) a b else has_pair (all_runs (local g s q)) b a) ≡ true)
    × ((p : ℕ × ℕ) → In p (next_pairs (cell_signs g s q) (cell_joined g s q)) → In (p.0, p.1) (all_runs (local g s q)))
run_parts g s q =
    let rs : List (ℕ × ℕ) = all_runs (local g s q) in
    let pairs : List (ℕ × ℕ) = next_pairs (cell_signs g s q) (cell_joined g s q) in
    let each : ℕ × ℕ → Bool = λ (x : ℕ × ℕ). eqb (count_pair rs x) 1
    && (if ltb x.0 12 && ltb x.1 12 then has_pair pairs x.0 x.1 else has_pair rs x.1 x.0) in
    let h : (list_all each rs && list_all (λ (x : ℕ × ℕ). has_pair rs x.0 x.1) pairs) ≡ true = cell_passes runs_test runs_all g s q in
    let k : (list_all each rs ≡ true) × (list_all (λ (x : ℕ × ℕ). has_pair rs x.0 x.1) pairs ≡ true) = and_parts _ _ h in (
      (λ a b i. (let t : each (a, b) ≡ true = list_all_at each rs (a, b) k.0 i in (and_parts (eqb (count_pair rs (a, b)) 1) _ t).1)),
      (λ p i. pair_in rs p.0 p.1 (list_all_at (λ (x : ℕ × ℕ). has_pair rs x.0 x.1) pairs p k.1 i)),
    )

-- the cell across a face, if it is in the grid
abbrev pub Inside : Grid → ℕ → ℕ → Type 0
Inside g q f = (r : ℕ) × In r (cells g) × ((s : ℕ → ℤ) (p : ℕ × ℕ) → In p (face_pairs (cell_signs g s q) (cell_joined g s q) f) → Across g s q r p.0 p.1)

pub cell_from : (g : Grid) (r : ℕ) → r < point_count g → coordinate g 0 r + 1 < g.nx → coordinate g 1 r + 1 < g.ny → coordinate g 2 r + 1 < g.nz → In r (cells g)
cell_from g r low hx hy hz =
    in_filter (is_cell g) r (below (point_count g)) (range_in 0 (point_count g) r (omega arith) (omega arith))
    (and_from _ _ (and_from _ _ (lt-ltb _ _ hx) (lt-ltb _ _ hy)) (lt-ltb _ _ hz))

module _ (g : Grid) (q : ℕ) (i : In q (cells g)) where
  low : Low g q
  low = low_is g q (cell_in g q i).0

  corner : (c : ℕ) → c < 8 → Corner g q c
  corner c h = corner_is g q c (cell_in g q i).0 h

  inside_1 : coordinate g 0 q + 2 < g.nx → Inside g q 1
  inside_1 h =
      let l : Low g q = low in let k : Corner g q 1 = corner 1 (omega arith) in (
        corner_point g q 1,
        cell_from g (corner_point g q 1) (corner_in g q 1 i (omega arith)) (omega (arith, k.x)) (omega (arith, k.y, l.y)) (omega (arith, k.z, l.z)),
        (λ s p j. across_x_up g s q (corner_point g q 1) (omega arith) p j),
      )

  inside_3 : coordinate g 1 q + 2 < g.ny → Inside g q 3
  inside_3 h =
      let l : Low g q = low in let k : Corner g q 2 = corner 2 (omega arith) in (
        corner_point g q 2,
        cell_from g (corner_point g q 2) (corner_in g q 2 i (omega arith)) (omega (arith, k.x, l.x)) (omega (arith, k.y)) (omega (arith, k.z, l.z)),
        (λ s p j. across_y_up g s q (corner_point g q 2) (omega arith) p j),
      )

  inside_5 : coordinate g 2 q + 2 < g.nz → Inside g q 5
  inside_5 h =
      let l : Low g q = low in let k : Corner g q 4 = corner 4 (omega arith) in (
        corner_point g q 4,
        cell_from g (corner_point g q 4) (corner_in g q 4 i (omega arith)) (omega (arith, k.x, l.x)) (omega (arith, k.y, l.y)) (omega (arith, k.z)),
        (λ s p j. across_z_up g s q (corner_point g q 4) (omega arith) p j),
      )

  module _ (dx dy dz : ℕ) (hx : dx ≤ coordinate g 0 q) (hy : dy ≤ coordinate g 1 q) (hz : dz ≤ coordinate g 2 q) where
    back : (r : ℕ) × In r (cells g) × (q ≡ r + (dx + (dy * g.nx + dz * (g.nx * g.ny))))
    back =
        let l : Low g q = low in
        let X : ℕ = coordinate g 0 q - dx in
        let Y : ℕ = coordinate g 1 q - dy in
        let Z : ℕ = coordinate g 2 q - dz in
        let eX : X + dx ≡ coordinate g 0 q = omega arith in
        let eY : Y + dy ≡ coordinate g 1 q = omega arith in
        let eZ : Z + dz ≡ coordinate g 2 q = omega arith in
        let hX : X < g.nx = omega (arith, l.x) in
        let hY : Y < g.ny = omega (arith, l.y) in
        let hZ : Z < g.nz = omega (arith, l.z) in
        let ex : coordinate g 0 (index g X Y Z) ≡ X = x_index g X Y Z hX hY hZ in
        let ey : coordinate g 1 (index g X Y Z) ≡ Y = y_index g X Y Z hX hY hZ in
        let ez : coordinate g 2 (index g X Y Z) ≡ Z = z_index g X Y Z hX hY hZ in
        let known : In (index g X Y Z) (cells g) = cell_from g (index g X Y Z) (index_in g X Y Z hX hY hZ) (omega (arith, ex, l.x)) (omega (arith, ey, l.y)) (omega (arith, ez, l.z)) in
        let whole : index g (X + dx) (Y + dy) (Z + dz) ≡ q
        = ap (λ a. index g a (Y + dy) (Z + dz)) eX ∙ (ap (λ a. index g (coordinate g 0 q) a (Z + dz)) eY
        ∙ (ap (λ a. index g (coordinate g 0 q) (coordinate g 1 q) a) eZ ∙ index_of_point g q (cell_in g q i).1)) in
        (index g X Y Z, known, sym whole ∙ spread X Y Z dx dy dz g.nx g.ny)
      where
        spread : (x y z a b c m n : ℕ) → (x + a) + m * ((y + b) + n * (z + c)) ≡ x + m * (y + n * z) + (a + (b * m + c * (m * n)))
        spread x y z a b c m n = omega arith

  inside_0 : 0 < coordinate g 0 q → Inside g q 0
  inside_0 h =
      let r : (r : ℕ) × In r (cells g) × (q ≡ r + (1 + (0 * g.nx + 0 * (g.nx * g.ny)))) = back 1 0 0 (omega arith) (omega arith) (omega arith) in
      (r.0, r.1, (λ s p j. across_x_down g s q r.0 (omega (arith, r.2)) p j))

  inside_2 : 0 < coordinate g 1 q → Inside g q 2
  inside_2 h =
      let r : (r : ℕ) × In r (cells g) × (q ≡ r + (0 + (1 * g.nx + 0 * (g.nx * g.ny)))) = back 0 1 0 (omega arith) (omega arith) (omega arith) in
      (r.0, r.1, (λ s p j. across_y_down g s q r.0 (omega (arith, r.2)) p j))

  inside_4 : 0 < coordinate g 2 q → Inside g q 4
  inside_4 h =
      let r : (r : ℕ) × In r (cells g) × (q ≡ r + (0 + (0 * g.nx + 1 * (g.nx * g.ny)))) = back 0 0 1 (omega arith) (omega arith) (omega arith) in
      (r.0, r.1, (λ s p j. across_z_down g s q r.0 (omega (arith, r.2)) p j))

  -- whether the face lies in a border plane
  abbrev pub OnBorder : ℕ → Type 0
  OnBorder f = (coordinate g (f / 2) q + f % 2 ≡ 0) ⊎ (coordinate g (f / 2) q + f % 2 ≡ size g (f / 2) - 1)

  pub inside_or_border : (f : ℕ) → f < 6 → Inside g q f ⊎ OnBorder f
  inside_or_border =
      let l : Low g q = low in
      by_six (λ f. Inside g q f ⊎ OnBorder f)
      (elim (cases_lt 0 (coordinate g 0 q)) [ inl h ↦ inl (inside_0 h) | inr h ↦ inr (inl (omega arith)) ])
      (elim (cases_lt (coordinate g 0 q + 2) g.nx) [ inl h ↦ inl (inside_1 h) | inr h ↦ inr (inr (omega (arith, l.x))) ])
      (elim (cases_lt 0 (coordinate g 1 q)) [ inl h ↦ inl (inside_2 h) | inr h ↦ inr (inl (omega arith)) ])
      (elim (cases_lt (coordinate g 1 q + 2) g.ny) [ inl h ↦ inl (inside_3 h) | inr h ↦ inr (inr (omega (arith, l.y))) ])
      (elim (cases_lt 0 (coordinate g 2 q)) [ inl h ↦ inl (inside_4 h) | inr h ↦ inr (inl (omega arith)) ])
      (elim (cases_lt (coordinate g 2 q + 2) g.nz) [ inl h ↦ inl (inside_5 h) | inr h ↦ inr (inr (omega (arith, l.z))) ])

-- what the tables say of two edges of a face
pub in_face_of : (g : Grid) (s : ℕ → ℤ) (q f : ℕ) (p : ℕ × ℕ) → f < 6 → In p (face_pairs (cell_signs g s q) (cell_joined g s q) f) → in_face f p.0 p.1 ≡ true
in_face_of g s q f p h i =
    list_all_at (λ (p : ℕ × ℕ). in_face f p.0 p.1) (face_pairs (cell_signs g s q) (cell_joined g s q) f) p
    (all_below_at 6 (λ f. list_all (λ (p : ℕ × ℕ). in_face f p.0 p.1) (face_pairs (cell_signs g s q) (cell_joined g s q) f)) f
    (cell_passes two_edges_test two_edges_all g s q) h) i

planes_at : (f x y n : ℕ) → f < 6 → x < 12 → y < 12 → n < 3 → in_face f x y ≡ true →
    ((not (eqb (x / 4) n) && (not (eqb (y / 4) n) && eqb (bit_along n x) (bit_along n y))) ≡ eqb (f / 2) n)
    × (implies (eqb (f / 2) n) (eqb (bit_along n x) (f % 2)) ≡ true)
planes_at f x y n hf hx hy hn h =
    let each : ℕ → Bool = λ n. same (not (eqb (x / 4) n) && (not (eqb (y / 4) n) && eqb (bit_along n x) (bit_along n y))) (eqb (f / 2) n)
    && implies (eqb (f / 2) n) (eqb (bit_along n x) (f % 2)) in
    let t1 : all_below 12 (λ x. all_below 12 (λ y. implies (in_face f x y) (plane_at f x y))) ≡ true
    = all_below_at 6 (λ f. all_below 12 (λ x. all_below 12 (λ y. implies (in_face f x y) (plane_at f x y)))) f planes_all hf in
    let t2 : all_below 12 (λ y. implies (in_face f x y) (plane_at f x y)) ≡ true
    = all_below_at 12 (λ x. all_below 12 (λ y. implies (in_face f x y) (plane_at f x y))) x t1 hx in
    let t3 : implies (in_face f x y) (plane_at f x y) ≡ true = all_below_at 12 (λ y. implies (in_face f x y) (plane_at f x y)) y t2 hy in
    let t4 : all_below 3 each ≡ true = subst (λ b. implies b (plane_at f x y) ≡ true) h t3 in
    let t5 : each n ≡ true = all_below_at 3 each n t4 hn in
    let p : (same (not (eqb (x / 4) n) && (not (eqb (y / 4) n) && eqb (bit_along n x) (bit_along n y))) (eqb (f / 2) n) ≡ true)
    × (implies (eqb (f / 2) n) (eqb (bit_along n x) (f % 2)) ≡ true) = and_parts _ _ t5 in
    (same-true _ _ p.0, p.1)

by_three : (P : ℕ → Type 0) → P 0 → P 1 → P 2 → (i : ℕ) → i < 3 → P i
by_three P a b c zero h = a
by_three P a b c (suc zero) h = b
by_three P a b c (suc (suc zero)) h = c
by_three P a b c (suc (suc (suc i))) h = absurd (omega arith)

-- whether an edge of a cell lies in a plane
pub lies : (g : Grid) (q x n k : ℕ) → In q (cells g) → x < 12 → n < 3 →
    lies_in_plane g n k (cell_edge g q x) ≡ (not (eqb (x / 4) n) && eqb (coordinate g n q + bit_along n x) k)
lies g q x n k i hx hn =
    let p : ℕ = corner_point g q (edge_corner x) in
    let lower : (3 * p + x / 4) / 3 ≡ p = omega arith in
    let axis : (3 * p + x / 4) % 3 ≡ x / 4 = omega arith in
    let c : Corner g q (edge_corner x) = corner_is g q (edge_corner x) (cell_in g q i).0 (corner_below x hx) in
    let e : coordinate g n p ≡ coordinate g n q + bit_along n x
    = by_three (λ n. coordinate g n p ≡ coordinate g n q + bit_along n x) c.x c.y c.z n hn in
    ap (λ a. not (eqb a n) && eqb (coordinate g n ((3 * p + x / 4) / 3)) k) axis
    ∙ (ap (λ r. not (eqb (x / 4) n) && eqb (coordinate g n r) k) lower
    ∙ ap (λ m. not (eqb (x / 4) n) && eqb m k) e)

module _ (g : Grid) (s : ℕ → ℤ) (q f x y : ℕ) (i : In q (cells g)) (hf : f < 6) (hx : x < 12) (hy : y < 12)
    (segment : In (x, y) (face_pairs (cell_signs g s q) (cell_joined g s q) f)) where
  a : ℕ
  a = cell_edge g q x

  half_low : f / 2 < 3
  half_low = omega arith

  abbrev both : ℕ → ℕ → Bool
  both n k = lies_in_plane g n k (cell_edge g q x) && lies_in_plane g n k (cell_edge g q y)

  pub both_to : (n k : ℕ) → n < 3 → both n k ≡ true → (f / 2 ≡ n) × (coordinate g n q + f % 2 ≡ k)
  both_to n k hn h =
      let p : (lies_in_plane g n k (cell_edge g q x) ≡ true) × (lies_in_plane g n k (cell_edge g q y) ≡ true) = and_parts _ _ h in
      let px : (not (eqb (x / 4) n) ≡ true) × (eqb (coordinate g n q + bit_along n x) k ≡ true) = and_parts _ _ (sym (lies g q x n k i hx hn) ∙ p.0) in
      let py : (not (eqb (y / 4) n) ≡ true) × (eqb (coordinate g n q + bit_along n y) k ≡ true) = and_parts _ _ (sym (lies g q y n k i hy hn) ∙ p.1) in
      let ex : coordinate g n q + bit_along n x ≡ k = eqb-true _ _ px.1 in
      let ey : coordinate g n q + bit_along n y ≡ k = eqb-true _ _ py.1 in
      let eb : bit_along n x ≡ bit_along n y = omega arith in
      let pl : ((not (eqb (x / 4) n) && (not (eqb (y / 4) n) && eqb (bit_along n x) (bit_along n y))) ≡ eqb (f / 2) n)
      × (implies (eqb (f / 2) n) (eqb (bit_along n x) (f % 2)) ≡ true) = planes_at f x y n hf hx hy hn (in_face_of g s q f (x, y) hf segment) in
      let fn : eqb (f / 2) n ≡ true = sym pl.0 ∙ and_from _ _ px.0 (and_from _ _ py.0 (eq-eqb _ _ eb)) in
      let fb : eqb (bit_along n x) (f % 2) ≡ true = subst (λ b. implies b (eqb (bit_along n x) (f % 2)) ≡ true) fn pl.1 in
      (eqb-true _ _ fn, ap (λ b. coordinate g n q + b) (sym (eqb-true _ _ fb)) ∙ ex)

  pub both_from : (k : ℕ) → coordinate g (f / 2) q + f % 2 ≡ k → both (f / 2) k ≡ true
  both_from k e =
      let n : ℕ = f / 2 in
      let pl : ((not (eqb (x / 4) n) && (not (eqb (y / 4) n) && eqb (bit_along n x) (bit_along n y))) ≡ eqb (f / 2) n)
      × (implies (eqb (f / 2) n) (eqb (bit_along n x) (f % 2)) ≡ true) = planes_at f x y n hf hx hy half_low (in_face_of g s q f (x, y) hf segment) in
      let fn : eqb (f / 2) n ≡ true = eq-eqb (f / 2) (f / 2) refl in
      let fb : bit_along n x ≡ f % 2 = eqb-true _ _ (subst (λ b. implies b (eqb (bit_along n x) (f % 2)) ≡ true) fn pl.1) in
      let c : (not (eqb (x / 4) n) ≡ true) × ((not (eqb (y / 4) n) && eqb (bit_along n x) (bit_along n y)) ≡ true) = and_parts _ _ (pl.0 ∙ fn) in
      let d : (not (eqb (y / 4) n) ≡ true) × (eqb (bit_along n x) (bit_along n y) ≡ true) = and_parts _ _ c.1 in
      let exy : bit_along n x ≡ bit_along n y = eqb-true _ _ d.1 in
      let ex : coordinate g n q + bit_along n x ≡ k = ap (λ b. coordinate g n q + b) fb ∙ e in
      let ey : coordinate g n q + bit_along n y ≡ k = ap (λ b. coordinate g n q + b) (sym exy) ∙ ex in
      and_from _ _ (lies g q x n k i hx half_low ∙ and_from _ _ c.0 (eq-eqb _ _ ex)) (lies g q y n k i hy half_low ∙ and_from _ _ d.0 (eq-eqb _ _ ey))

  abbrev on_plane : ℕ → Bool
  on_plane n = both n 0 || both n (size g n - 1)

  border_parts : share_outer_plane g (cell_edge g q x) (cell_edge g q y) ≡ true → list_any on_plane (below 3) ≡ true
  border_parts h = (and_parts (ltb (cell_edge g q y) (name_bound g)) (list_any on_plane (below 3)) (and_parts (ltb (cell_edge g q x) (name_bound g)) _ h).1).1

  pub border_to : share_outer_plane g (cell_edge g q x) (cell_edge g q y) ≡ true → OnBorder g q i f
  border_to h =
      let r : (n : ℕ) × In n (below 3) × (on_plane n ≡ true) = in_any on_plane (below 3) (border_parts h) in
      let hn : r.0 < 3 = (range_at_least 0 3 r.0 r.1).1 in
      elim (or_cases (both r.0 0) (both r.0 (size g r.0 - 1)) r.2) [
        | inl e ↦ (let k : (f / 2 ≡ r.0) × (coordinate g r.0 q + f % 2 ≡ 0) = both_to r.0 0 hn e in
            inl (ap (λ n. coordinate g n q + f % 2) k.0 ∙ k.1))
        | inr e ↦ (let k : (f / 2 ≡ r.0) × (coordinate g r.0 q + f % 2 ≡ size g r.0 - 1) = both_to r.0 (size g r.0 - 1) hn e in
            inr (ap (λ n. coordinate g n q + f % 2) k.0 ∙ (k.1 ∙ ap (λ n. size g n - 1) (sym k.0))))
      ]

  pub border_from : OnBorder g q i f → share_outer_plane g (cell_edge g q x) (cell_edge g q y) ≡ true
  border_from h =
      let p : on_plane (f / 2) ≡ true = elim h [
        | inl e ↦ or_left (both (f / 2) 0) (both (f / 2) (size g (f / 2) - 1)) (both_from 0 e)
        | inr e ↦ or_right (both (f / 2) 0) (both (f / 2) (size g (f / 2) - 1)) (both_from (size g (f / 2) - 1) e)
      ] in
      and_from _ _ (lt-ltb _ _ (edge_in g q x i hx)) (and_from _ _ (lt-ltb _ _ (edge_in g q y i hy))
      (any_in on_plane (below 3) (f / 2) (range_in 0 3 (f / 2) (omega arith) (omega arith)) p))

sides_at : (f x y c d : ℕ) → f < 6 → x < 12 → y < 12 → c < 12 → d < 12 → in_face f x y ≡ true
    → x / 4 ≡ c / 4 → y / 4 ≡ d / 4 → shares_face c d ≡ true → alike x y c d ≡ true
    → ((eqb x c && eqb y d) || step_at f x c) ≡ true
sides_at f x y c d hf hx hy hc hd h ex ey sh al =
    let test : ℕ → ℕ → ℕ → ℕ → ℕ → Bool = λ f a b c d. implies (eqb (a / 4) (c / 4) && (eqb (b / 4) (d / 4) && (shares_face c d && alike a b c d)))
    ((eqb a c && eqb b d) || step_at f a c) in
    let inner : Bool → ℕ → ℕ → ℕ → Bool = λ t f a b. elim t as (λ _. Bool) [ false ↦ true | true ↦ all_below 12 (λ c. all_below 12 (λ d. test f a b c d)) ] in
    let t1 : all_below 12 (λ a. all_below 12 (λ b. inner (in_face f a b) f a b)) ≡ true
    = all_below_at 6 (λ f. all_below 12 (λ a. all_below 12 (λ b. inner (in_face f a b) f a b))) f sides_all hf in
    let t2 : all_below 12 (λ b. inner (in_face f x b) f x b) ≡ true = all_below_at 12 (λ a. all_below 12 (λ b. inner (in_face f a b) f a b)) x t1 hx in
    let t3 : inner (in_face f x y) f x y ≡ true = all_below_at 12 (λ b. inner (in_face f x b) f x b) y t2 hy in
    let t4 : all_below 12 (λ c. all_below 12 (λ d. test f x y c d)) ≡ true = subst (λ t. inner t f x y ≡ true) h t3 in
    let t5 : all_below 12 (λ d. test f x y c d) ≡ true = all_below_at 12 (λ c. all_below 12 (λ d. test f x y c d)) c t4 hc in
    let t6 : test f x y c d ≡ true = all_below_at 12 (λ d. test f x y c d) d t5 hd in
    let ante : (eqb (x / 4) (c / 4) && (eqb (y / 4) (d / 4) && (shares_face c d && alike x y c d))) ≡ true
    = and_from _ _ (eq-eqb _ _ ex) (and_from _ _ (eq-eqb _ _ ey) (and_from _ _ sh al)) in
    subst (λ t. implies t ((eqb x c && eqb y d) || step_at f x c) ≡ true) ante t6

-- across a border plane there is no cell
no_step : (g : Grid) (q r f x c : ℕ) (i : In q (cells g)) → Low g q → Low g r → f < 6 → Same g q r x c → Step f x c → OnBorder g q i f → ⊥
no_step g q r f x c i lq lr hf =
    by_six (λ f. Same g q r x c → Step f x c → OnBorder g q i f → ⊥)
    (λ m t b. elim b [ inl e ↦ omega (arith, m.x, t.x_bit, lq.x, lr.x, e) | inr e ↦ omega (arith, m.x, t.x_bit, lq.x, lr.x, e) ])
    (λ m t b. elim b [ inl e ↦ omega (arith, m.x, t.x_bit, lq.x, lr.x, e) | inr e ↦ omega (arith, m.x, t.x_bit, lq.x, lr.x, e) ])
    (λ m t b. elim b [ inl e ↦ omega (arith, m.y, t.y_bit, lq.y, lr.y, e) | inr e ↦ omega (arith, m.y, t.y_bit, lq.y, lr.y, e) ])
    (λ m t b. elim b [ inl e ↦ omega (arith, m.y, t.y_bit, lq.y, lr.y, e) | inr e ↦ omega (arith, m.y, t.y_bit, lq.y, lr.y, e) ])
    (λ m t b. elim b [ inl e ↦ omega (arith, m.z, t.z_bit, lq.z, lr.z, e) | inr e ↦ omega (arith, m.z, t.z_bit, lq.z, lr.z, e) ])
    (λ m t b. elim b [ inl e ↦ omega (arith, m.z, t.z_bit, lq.z, lr.z, e) | inr e ↦ omega (arith, m.z, t.z_bit, lq.z, lr.z, e) ])
    f hf

-- a segment of a border face is run in one direction alone
no_back : (g : Grid) (s : ℕ → ℤ) (q r f x y c d : ℕ) (i : In q (cells g)) → In r (cells g) → f < 6 → x < 12 → y < 12
    → In (x, y) (face_pairs (cell_signs g s q) (cell_joined g s q) f) → OnBorder g q i f
    → In (d, c) (next_pairs (cell_signs g s r) (cell_joined g s r))
    → cell_edge g q x ≡ cell_edge g r c → cell_edge g q y ≡ cell_edge g r d → ⊥
no_back g s q r f x y c d i ir hf hx hy seg border back ex ey =
    let p : Pair (cell_signs g s r) d c = pair_is g s r (d, c) back in
    let k : (k : ℕ) × (k < 6) × In (d, c) (face_pairs (cell_signs g s r) (cell_joined g s r) k) = in_some_face g s r (d, c) back in
    let pl : Placed (cell_signs g s r) k.0 (d, c) = placed g s r k.0 (d, c) k.1 k.2 in
    let pq : Placed (cell_signs g s q) f (x, y) = placed g s q f (x, y) hf seg in
    let m : Same g q r x c = same_is g q r x c (cell_in g q i).0 (cell_in g r ir).0 hx p.second ex in
    let n : Same g q r y d = same_is g q r y d (cell_in g q i).0 (cell_in g r ir).0 hy p.first ey in
    let t : ((eqb x c && eqb y d) || step_at f x c) ≡ true
    = sides_at f x y c d hf hx hy p.second p.first (in_face_of g s q f (x, y) hf seg) m.axis n.axis pl.shared_back (alike_is g q r x y c d m n) in
    elim (or_cases (eqb x c && eqb y d) (step_at f x c) t) [
      | inr h ↦ no_step g q r f x c i (low_is g q (cell_in g q i).0) (low_is g r (cell_in g r ir).0) hf m (step_of f x c h) border
      | inl h ↦ (
          let e : (eqb x c ≡ true) × (eqb y d ≡ true) = and_parts _ _ h in
          let yd : y ≡ d = eqb-true _ _ e.1 in
          let xc : x ≡ c = eqb-true _ _ e.0 in
          let above : Bool = holds_at (cell_signs g s q) (edge_corner y) in
          let sign : holds_at (cell_signs g s r) (edge_corner d) ≡ above = sym (same_sign g s q r y d i ir hy p.first ey) in
          let up : half y x ≡ up_half above y
          = ap (λ u. half u x) yd ∙ (ap (half d) xc ∙ (pl.up ∙ (ap (λ b. up_half b d) sign ∙ ap (up_half above) (sym yd)))) in
          let t : Turns above y = turns_is above y hy in
          let low : Step _ y (follow above y) = step_is above y hy in
          let same_half : up_half above y ≡ up_half above (follow above y) = sym up ∙ (pq.down ∙ t.half_next) in
          eqb-false y (follow above y) t.first (t.injective (follow above y) low.low low.axis same_half))
    ]

-- by cases on one pair that is run
pub matched : (g : Grid) (s : ℕ → ℤ) (m n : ℕ) → 0 < times_run (named_triangles g s) m n →
    (share_outer_plane g m n ≡ true → times_run (named_triangles g s) n m ≡ 0)
    × (share_outer_plane g m n ≡ false → 0 < times_run (named_triangles g s) n m)
matched g s m n h =
    let cell : (q : ℕ) × In q (cells g) × (0 < times_run (cell_triangles g s q) m n) = run_cell (cells g) h in
    let c : Source g s cell.0 m n = source g s cell.0 m n cell.2 in
    let k : Run g s cell.0 c.x c.y = run_is g s cell.0 c.x c.y c.run in
    let goal : ℕ → ℕ → Type 0 = λ m n. (share_outer_plane g m n ≡ true → times_run (named_triangles g s) n m ≡ 0) × (share_outer_plane g m n ≡ false → 0 < times_run (named_triangles g s) n m) in
    let here : goal (vertex_name g cell.0 c.x) (vertex_name g cell.0 c.y) = at_cell cell.0 c.x c.y cell.1 k c.run in
    subst (λ a. goal a n) c.from (subst (λ b. goal (vertex_name g cell.0 c.x) b) c.to here)
  where
    run_cell : (qs : List ℕ) → 0 < times_run (flat_map (cell_triangles g s) qs) m n → (q : ℕ) × In q qs × (0 < times_run (cell_triangles g s q) m n)
    run_cell qs h =
        let t : (t : Triangle) × In t (flat_map (cell_triangles g s) qs) × (runs m n t ≡ true) = count_finds (runs m n) (flat_map (cell_triangles g s) qs) h in
        let q : (q : ℕ) × In q qs × In t.0 (cell_triangles g s q) = In-flat_map (cell_triangles g s) t.0 qs t.1 in
        (q.0, q.1, count_some (runs m n) (cell_triangles g s q.0) t.0 q.2 t.2)

    none : (q x y : ℕ) (i : In q (cells g)) (f : ℕ) → f < 6 → x < 12 → y < 12 → In (x, y) (face_pairs (cell_signs g s q) (cell_joined g s q) f) → OnBorder g q i f
        → times_run (named_triangles g s) (cell_edge g q y) (cell_edge g q x) ≡ 0
    none q x y i f hf hx hy seg border =
        elim (cases_lt 0 (times_run (named_triangles g s) (cell_edge g q y) (cell_edge g q x))) [
          | inr e ↦ omega arith
          | inl l ↦ (
              let t : (t : Triangle) × In t (named_triangles g s) × (runs (cell_edge g q y) (cell_edge g q x) t ≡ true)
              = count_finds (runs (cell_edge g q y) (cell_edge g q x)) (named_triangles g s) l in
              let r : (r : ℕ) × In r (cells g) × In t.0 (cell_triangles g s r) = In-flat_map (cell_triangles g s) t.0 (cells g) t.1 in
              let c : Source g s r.0 (cell_edge g q y) (cell_edge g q x)
              = source g s r.0 (cell_edge g q y) (cell_edge g q x) (count_some (runs (cell_edge g q y) (cell_edge g q x)) (cell_triangles g s r.0) t.0 r.2 t.2) in
              let k : Run g s r.0 c.x c.y = run_is g s r.0 c.x c.y c.run in
              let ey : vertex_name g q y ≡ vertex_name g r.0 c.x = name_of_edge g q y hy ∙ sym c.from in
              let ex : vertex_name g q x ≡ vertex_name g r.0 c.y = name_of_edge g q x hx ∙ sym c.to in
              elim (same_vertex g q r.0 y c.x i r.1 (omega arith) k.low_a ey) [
                | inr w ↦ absurd (omega (arith, w.2))
                | inl w ↦ elim (same_vertex g q r.0 x c.y i r.1 (omega arith) k.low_b ex) [
                  | inr w' ↦ absurd (omega (arith, w'.2))
                  | inl w' ↦ absurd (no_back g s q r.0 f x y c.y c.x i r.1 hf hx hy seg border (k.segment w.1 w'.1) w'.2 w.2)
                ]
              ])
        ]

    at_edges : (q x y : ℕ) → In q (cells g) → x < 12 → y < 12 → In (x, y) (next_pairs (cell_signs g s q) (cell_joined g s q))
        → (share_outer_plane g (cell_edge g q x) (cell_edge g q y) ≡ true → times_run (named_triangles g s) (cell_edge g q y) (cell_edge g q x) ≡ 0)
        × (share_outer_plane g (cell_edge g q x) (cell_edge g q y) ≡ false → 0 < times_run (named_triangles g s) (cell_edge g q y) (cell_edge g q x))
    at_edges q x y i hx hy seg =
        let f : (f : ℕ) × (f < 6) × In (x, y) (face_pairs (cell_signs g s q) (cell_joined g s q) f) = in_some_face g s q (x, y) seg in (
          (λ b. none q x y i f.0 f.1 hx hy f.2 (border_to g s q f.0 x y i f.1 hx hy f.2 b)),
          (λ b. elim (inside_or_border g q i f.0 f.1) [
            | inr on ↦ absurd (clash _ (border_from g s q f.0 x y i f.1 hx hy f.2 on) b)
            | inl in_grid ↦ (
                let a : Across g s q in_grid.0 x y = in_grid.2 s (x, y) f.2 in
                let p : Pair (cell_signs g s in_grid.0) a.first a.second = pair_is g s in_grid.0 (a.first, a.second) a.segment in
                let r : 0 < times_run (named_triangles g s) (vertex_name g in_grid.0 a.first) (vertex_name g in_grid.0 a.second)
                = cell_runs g s in_grid.0 a.first a.second in_grid.1 ((run_parts g s in_grid.0).1 (a.first, a.second) a.segment) in
                let r1 : 0 < times_run (named_triangles g s) (cell_edge g q y) (vertex_name g in_grid.0 a.second)
                = subst (λ u. 0 < times_run (named_triangles g s) u (vertex_name g in_grid.0 a.second)) (name_of_edge g in_grid.0 a.first p.first ∙ a.from) r in
                subst (λ u. 0 < times_run (named_triangles g s) (cell_edge g q y) u) (name_of_edge g in_grid.0 a.second p.second ∙ a.to) r1)
          ]),
        )
      where
        clash : (b : Bool) → b ≡ true → b ≡ false → ⊥
        clash true e h = cc
        clash false e h = cc

    at_cell : (q x y : ℕ) → In q (cells g) → Run g s q x y → In (x, y) (all_runs (local g s q))
        → (share_outer_plane g (vertex_name g q x) (vertex_name g q y) ≡ true → times_run (named_triangles g s) (vertex_name g q y) (vertex_name g q x) ≡ 0)
        × (share_outer_plane g (vertex_name g q x) (vertex_name g q y) ≡ false → 0 < times_run (named_triangles g s) (vertex_name g q y) (vertex_name g q x))
    at_cell q x y i k run =
        let both : (if ltb x 12 && ltb y 12 then has_pair (next_pairs (cell_signs g s q) (cell_joined g s q)) x y else has_pair (all_runs (local g s q)) y x) ≡ true
        = (run_parts g s q).0 x y run in
        let goal : ℕ → ℕ → Type 0 = λ m n. (share_outer_plane g m n ≡ true → times_run (named_triangles g s) n m ≡ 0) × (share_outer_plane g m n ≡ false → 0 < times_run (named_triangles g s) n m) in
        elim (cases_Bool (ltb x 12 && ltb y 12)) [
          | inl e ↦ (
              let l : (ltb x 12 ≡ true) × (ltb y 12 ≡ true) = and_parts _ _ e in
              let hx : x < 12 = ltb-true _ _ l.0 in
              let hy : y < 12 = ltb-true _ _ l.1 in
              subst (λ a. goal a (vertex_name g q y)) (sym (name_of_edge g q x hx))
              (subst (λ b. goal (cell_edge g q x) b) (sym (name_of_edge g q y hy)) (at_edges q x y i hx hy (k.segment hx hy))))
          | inr e ↦ (
              let back : has_pair (all_runs (local g s q)) y x ≡ true
              = subst (λ b. (if b then has_pair (next_pairs (cell_signs g s q) (cell_joined g s q)) x y else has_pair (all_runs (local g s q)) y x) ≡ true) e both in (
                (λ b. absurd (
                    let p : (ltb (vertex_name g q x) (name_bound g) ≡ true) × ((ltb (vertex_name g q y) (name_bound g) && list_any (λ axis.
                    (lies_in_plane g axis 0 (vertex_name g q x) && lies_in_plane g axis 0 (vertex_name g q y))
                    || (lies_in_plane g axis (size g axis - 1) (vertex_name g q x) && lies_in_plane g axis (size g axis - 1) (vertex_name g q y))) (below 3)) ≡ true) = and_parts _ _ b in
                    let r : (ltb (vertex_name g q y) (name_bound g) ≡ true) × (list_any (λ axis.
                    (lies_in_plane g axis 0 (vertex_name g q x) && lies_in_plane g axis 0 (vertex_name g q y))
                    || (lies_in_plane g axis (size g axis - 1) (vertex_name g q x) && lies_in_plane g axis (size g axis - 1) (vertex_name g q y))) (below 3) ≡ true) = and_parts _ _ p.1 in
                    let hx : x < 12 = edge_number q x (ltb-true _ _ p.0) in
                    let hy : y < 12 = edge_number q y (ltb-true _ _ r.0) in
                    not_both (ltb x 12 && ltb y 12) (and_from _ _ (lt-ltb x 12 hx) (lt-ltb y 12 hy)) e)),
                (λ b. cell_runs g s q y x i (pair_in (all_runs (local g s q)) y x back)),
              ))
        ]
      where
        not_both : (b : Bool) → b ≡ true → b ≡ false → ⊥
        not_both true e f = cc
        not_both false e f = cc

        edge_number : (q x : ℕ) → vertex_name g q x < name_bound g → x < 12
        edge_number q x h =
            elim (cases_lt x 12) [
              | inl a ↦ a
              | inr a ↦ absurd (too_high (vertex_name g q x) (name_bound g) (4 * q + (x - 12)) h (name_of_centre g q x a))
            ]
          where
            too_high : (m n k : ℕ) → m < n → m ≡ n + k → ⊥
            too_high m n k h e = omega arith
