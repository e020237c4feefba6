-- The first cell that has an edge.
use Rattle.std.proofs.Common.{◌≡◌, ℕ, zero, suc, ◌+◌, ◌-◌, ◌*◌, ◌/◌, ◌%◌, ◌^◌, ◌<◌, ◌≤◌, ℤ, Bool, true, false, ◌&&◌, ◌||◌, not, List, [], ◌∷◌, map, refl, sym, ◌∙◌, ap, subst, inl, inr, arith, eqb, leb}
use Rattle.std.specs.List.{filter, flat_map, list_any, count_by, enumerate_from}
use Rattle.std.proofs.lemmas.Bool.{cases_Bool, and_parts, eqb-true, eq-eqb, leb-true, or_cases, or_parts, eqb-false}
use Rattle.iso_defs.specs.Lists.{below, is_in}
use Rattle.iso_defs.specs.Grid.{Grid, cells, coordinate, index, is_cell, name_bound, point_count, stride, IsThick, differ, is_above, is_crossing}
use Rattle.iso_defs.specs.Cell.{case_loops, cell_edge, cell_joined, cell_signs, corner_point, crosses, edge_corner}
use Rattle.iso_defs.specs.Scratch.{cell_loops, centre_name, crossing_edges}
use Rattle.iso_defs.proofs.Points.{index_in, index_of_point, x_index, y_index, z_index}
use Rattle.case_laws.proofs.Cases.{all_below, all_cases}
use Rattle.case_laws.proofs.EdgePairs.{implies}
use Rattle.case_laws.proofs.Tests.{all_below_at, cell_passes}
use Rattle.case_laws.proofs.Wedges.{distinct_test, loop_all, loop_at, loop_test}
use Rattle.triangle_laws.proofs.Lists.{In, In-filter, In-flat_map, In-map, in_any, in_filter, in_flat_map, in_map, list_all_at}
use Rattle.triangle_laws.proofs.Counts.{Distinct}
use Rattle.triangle_laws.proofs.Fans.{in_is_in}
use Rattle.mesh_laws.proofs.Apart.{crosses_is}
use Rattle.mesh_laws.proofs.Cells.{Distinct-cells, Distinct-filter, Distinct-range, cell_in, range_at_least, range_in}
use Rattle.mesh_laws.proofs.Mixed.{Low, low_is}
use Rattle.mesh_laws.proofs.Names.{edge_injective}
use Rattle.mesh_laws.proofs.Opposite.{cell_from}
use Rattle.mesh_laws.proofs.TwoCells.{Same, same_is}
use Rattle.mesh_laws.proofs.Used.{cell_of_edge}
use Rattle.part_laws.specs.FirstCells.{first_edges, is_first_at, offset}
use Rattle.part_laws.proofs.FirstMet.{distinct_from, distinct_join, distinct_map, same_counts}
use Rattle.part_laws.proofs.LoopLaws.{cell_loop}
use Rattle.part_laws.proofs.Numbered.{loops_cross}
use Rattle.part_laws.specs.Loops.{Loop, loops_in}

-- an edge begins on the near side along its own axis, and on one side or the other along the others
offsets_all : all_below 12 (λ e. all_below 3 (λ n. leb (offset n e) 1 && implies (eqb (e / 4) n) (eqb (offset n e) 0))) ≡ true
offsets_all = refl

offset_is : (e n : ℕ) → e < 12 → n < 3 → (offset n e ≤ 1) × (e / 4 ≡ n → offset n e ≡ 0)
offset_is e n he hn =
    let t1 : all_below 3 (λ n. leb (offset n e) 1 && implies (eqb (e / 4) n) (eqb (offset n e) 0)) ≡ true
    = all_below_at 12 (λ e. all_below 3 (λ n. leb (offset n e) 1 && implies (eqb (e / 4) n) (eqb (offset n e) 0))) e offsets_all he in
    let t2 : (leb (offset n e) 1 && implies (eqb (e / 4) n) (eqb (offset n e) 0)) ≡ true = all_below_at 3 (λ n. leb (offset n e) 1 && implies (eqb (e / 4) n) (eqb (offset n e) 0)) n t1 hn in
    let p : (leb (offset n e) 1 ≡ true) × (implies (eqb (e / 4) n) (eqb (offset n e) 0) ≡ true) = and_parts _ _ t2 in
    (leb-true (offset n e) 1 p.0, (λ q. eqb-true (offset n e) 0 (subst (λ b. implies b (eqb (offset n e) 0) ≡ true) (eq-eqb (e / 4) n q) p.1)))

-- the edge on the far side, from one on the near side
far_all : all_below 12 (λ e. all_below 3 (λ n. implies (not (eqb (e / 4) n) && eqb (offset n e) 0) (list_any (λ x. eqb (x / 4) (e / 4) && eqb (edge_corner x) (edge_corner e + 2 ^ n)) (below 12)))) ≡ true
far_all = refl

far_edge : (e n : ℕ) → e < 12 → n < 3 → (not (eqb (e / 4) n) && eqb (offset n e) 0) ≡ true → (x : ℕ) × (x < 12) × (x / 4 ≡ e / 4) × (edge_corner x ≡ edge_corner e + 2 ^ n)
far_edge e n he hn h =
    let found : ℕ → ℕ → ℕ → Bool = λ e n x. eqb (x / 4) (e / 4) && eqb (edge_corner x) (edge_corner e + 2 ^ n) in
    let t1 : all_below 3 (λ n. implies (not (eqb (e / 4) n) && eqb (offset n e) 0) (list_any (found e n) (below 12))) ≡ true
    = all_below_at 12 (λ e. all_below 3 (λ n. implies (not (eqb (e / 4) n) && eqb (offset n e) 0) (list_any (found e n) (below 12)))) e far_all he in
    let t2 : implies (not (eqb (e / 4) n) && eqb (offset n e) 0) (list_any (found e n) (below 12)) ≡ true
    = all_below_at 3 (λ n. implies (not (eqb (e / 4) n) && eqb (offset n e) 0) (list_any (found e n) (below 12))) n t1 hn in
    let t3 : list_any (found e n) (below 12) ≡ true = subst (λ b. implies b (list_any (found e n) (below 12)) ≡ true) h t2 in
    let x : (x : ℕ) × In x (below 12) × (found e n x ≡ true) = in_any (found e n) (below 12) t3 in
    let p : (eqb (x.0 / 4) (e / 4) ≡ true) × (eqb (edge_corner x.0) (edge_corner e + 2 ^ n) ≡ true) = and_parts _ _ x.2 in
    let r : (0 ≤ x.0) × (x.0 < 0 + 12) = range_at_least 0 12 x.0 x.1 in
    (x.0, omega (arith, r.1), eqb-true _ _ p.0, eqb-true _ _ p.1)

index_rises : (m n x y z a b c : ℕ) → x ≤ a → y ≤ b → z ≤ c → x + m * (y + n * z) ≤ a + m * (b + n * c)
index_rises m n x y z a b c hx hy hz =
    let i : a ≡ x + (a - x) = omega arith in
    let j : b ≡ y + (b - y) = omega arith in
    let k : c ≡ z + (c - z) = omega arith in
    let all : a + m * (b + n * c) ≡ (x + (a - x)) + m * ((y + (b - y)) + n * (z + (c - z))) = ap (λ t. t + m * (b + n * c)) i ∙ (ap (λ t. (x + (a - x)) + m * (t + n * c)) j ∙ ap (λ t. (x + (a - x)) + m * ((y + (b - y)) + n * t)) k) in
    let more : (x + (a - x)) + m * ((y + (b - y)) + n * (z + (c - z))) ≡ (x + m * (y + n * z)) + ((a - x) + (m * (b - y) + m * n * (c - z))) = spread x (a - x) y (b - y) z (c - z) m n in
    omega (arith, all, more)
  where
    spread : (x a y b z c m n : ℕ) → (x + a) + m * ((y + b) + n * (z + c)) ≡ (x + m * (y + n * z)) + (a + (m * b + m * n * c))
    spread x a y b z c m n = omega arith

module _ (g : Grid) where
  -- no cell before the first has the edge
  pub first_lowest : (q r e x : ℕ) → In q (cells g) → In r (cells g) → e < 12 → x < 12 → cell_edge g q e ≡ cell_edge g r x → is_first_at g q e ≡ true → q ≤ r
  first_lowest q r e x iq ir he hx same first =
      let s : Same g q r e x = same_is g q r e x (cell_in g q iq).0 (cell_in g r ir).0 he hx same in
      let a0 : (eqb (e / 4) 0 || (eqb (offset 0 e) 1 || eqb (coordinate g 0 q) 0)) ≡ true = list_all_at (λ n. eqb (e / 4) n || (eqb (offset n e) 1 || eqb (coordinate g n q) 0)) (below 3) 0 first (inl refl) in
      let a1 : (eqb (e / 4) 1 || (eqb (offset 1 e) 1 || eqb (coordinate g 1 q) 0)) ≡ true = list_all_at (λ n. eqb (e / 4) n || (eqb (offset n e) 1 || eqb (coordinate g n q) 0)) (below 3) 1 first (inr (inl refl)) in
      let a2 : (eqb (e / 4) 2 || (eqb (offset 2 e) 1 || eqb (coordinate g 2 q) 0)) ≡ true = list_all_at (λ n. eqb (e / 4) n || (eqb (offset n e) 1 || eqb (coordinate g n q) 0)) (below 3) 2 first (inr (inr (inl refl))) in
      let x0 : coordinate g 0 q ≤ coordinate g 0 r = along 0 (omega arith) (coordinate g 0 q) (coordinate g 0 r) s.axis s.x a0 in
      let x1 : coordinate g 1 q ≤ coordinate g 1 r = along 1 (omega arith) (coordinate g 1 q) (coordinate g 1 r) s.axis s.y a1 in
      let x2 : coordinate g 2 q ≤ coordinate g 2 r = along 2 (omega arith) (coordinate g 2 q) (coordinate g 2 r) s.axis s.z a2 in
      let eq : index g (coordinate g 0 q) (coordinate g 1 q) (coordinate g 2 q) ≡ q = index_of_point g q (cell_in g q iq).1 in
      let er : index g (coordinate g 0 r) (coordinate g 1 r) (coordinate g 2 r) ≡ r = index_of_point g r (cell_in g r ir).1 in
      let le : index g (coordinate g 0 q) (coordinate g 1 q) (coordinate g 2 q) ≤ index g (coordinate g 0 r) (coordinate g 1 r) (coordinate g 2 r)
      = index_rises g.nx g.ny (coordinate g 0 q) (coordinate g 1 q) (coordinate g 2 q) (coordinate g 0 r) (coordinate g 1 r) (coordinate g 2 r) x0 x1 x2 in
      subst (λ t. t ≤ r) eq (subst (λ t. index g (coordinate g 0 q) (coordinate g 1 q) (coordinate g 2 q) ≤ t) er le)
    where
      along : (n : ℕ) → n < 3 → (c d : ℕ) → e / 4 ≡ x / 4 → c + offset n e ≡ d + offset n x → (eqb (e / 4) n || (eqb (offset n e) 1 || eqb c 0)) ≡ true → c ≤ d
      along n hn c d axis s h =
          let oe : (offset n e ≤ 1) × (e / 4 ≡ n → offset n e ≡ 0) = offset_is e n he hn in
          let ox : (offset n x ≤ 1) × (x / 4 ≡ n → offset n x ≡ 0) = offset_is x n hx hn in
          elim (or_cases (eqb (e / 4) n) _ h) [
            | inl k ↦ (
                let q : e / 4 ≡ n = eqb-true (e / 4) n k in
                let a : offset n e ≡ 0 = oe.1 q in
                let b : offset n x ≡ 0 = ox.1 (sym axis ∙ q) in
                omega (arith, a, b, s))
            | inr k ↦ elim (or_cases (eqb (offset n e) 1) (eqb c 0) k) [
              | inl k ↦ (let a : offset n e ≡ 1 = eqb-true (offset n e) 1 k in omega (arith, a, ox.0, s))
              | inr k ↦ (let a : c ≡ 0 = eqb-true c 0 k in omega (arith, a))
            ]
          ]

  -- the cell before along an axis
  module _ (q : ℕ) (i : In q (cells g)) (dx dy dz : ℕ) (hx : dx ≤ coordinate g 0 q) (hy : dy ≤ coordinate g 1 q) (hz : dz ≤ coordinate g 2 q) where
    back : (r : ℕ) × In r (cells g) × (q ≡ r + (dx + (dy * g.nx + dz * (g.nx * g.ny))))
    back =
        let l : Low g q = low_is g q (cell_in g q i).0 in
        let X : ℕ = coordinate g 0 q - dx in
        let Y : ℕ = coordinate g 1 q - dy in
        let Z : ℕ = coordinate g 2 q - dz in
        let eX : X + dx ≡ coordinate g 0 q = omega arith in
        let eY : Y + dy ≡ coordinate g 1 q = omega arith in
        let eZ : Z + dz ≡ coordinate g 2 q = omega arith in
        let kX : X < g.nx = omega (arith, l.x) in
        let kY : Y < g.ny = omega (arith, l.y) in
        let kZ : Z < g.nz = omega (arith, l.z) in
        let ex : coordinate g 0 (index g X Y Z) ≡ X = x_index g X Y Z kX kY kZ in
        let ey : coordinate g 1 (index g X Y Z) ≡ Y = y_index g X Y Z kX kY kZ in
        let ez : coordinate g 2 (index g X Y Z) ≡ Z = z_index g X Y Z kX kY kZ in
        let known : In (index g X Y Z) (cells g) = cell_from g (index g X Y Z) (index_in g X Y Z kX kY kZ) (omega (arith, ex, l.x)) (omega (arith, ey, l.y)) (omega (arith, ez, l.z)) in
        let whole : index g (X + dx) (Y + dy) (Z + dz) ≡ q
        = ap (λ a. index g a (Y + dy) (Z + dz)) eX ∙ (ap (λ a. index g (coordinate g 0 q) a (Z + dz)) eY
        ∙ (ap (λ a. index g (coordinate g 0 q) (coordinate g 1 q) a) eZ ∙ index_of_point g q (cell_in g q i).1)) in
        (index g X Y Z, known, sym whole ∙ spread X Y Z dx dy dz g.nx g.ny)
      where
        spread : (x y z a b c m n : ℕ) → (x + a) + m * ((y + b) + n * (z + c)) ≡ x + m * (y + n * z) + (a + (b * m + c * (m * n)))
        spread x y z a b c m n = omega arith

  abbrev Before : ℕ → ℕ → Type 0
  Before q e = (r : ℕ) × In r (cells g) × ((x : ℕ) × (x < 12) × (cell_edge g r x ≡ cell_edge g q e) × (r < q))

  name_moves : (q r e x : ℕ) → x / 4 ≡ e / 4 → corner_point g r (edge_corner x) ≡ corner_point g q (edge_corner e) → cell_edge g r x ≡ cell_edge g q e
  name_moves q r e x a p = ap (λ t. 3 * t + x / 4) p ∙ ap (λ t. 3 * corner_point g q (edge_corner e) + t) a

  positive : (q : ℕ) → In q (cells g) → (0 < g.nx) × (0 < g.nx * g.ny)
  positive q i =
      let l : Low g q = low_is g q (cell_in g q i).0 in
      let a : 0 < g.nx = omega (arith, l.x) in
      let b : 0 < g.ny = omega (arith, l.y) in
      (a, both g.nx g.ny a b)
    where
      both : (m n : ℕ) → 0 < m → 0 < n → 0 < m * n
      both m n h k = grind arith

  before_x : (q e : ℕ) → In q (cells g) → e < 12 → (not (eqb (e / 4) 0) && eqb (offset 0 e) 0) ≡ true → (coordinate g 0 q ≡ 0 → ⊥) → Before q e
  before_x q e i he h n =
      let x : (x : ℕ) × (x < 12) × (x / 4 ≡ e / 4) × (edge_corner x ≡ edge_corner e + 2 ^ 0) = far_edge e 0 he (omega arith) h in
      let o : edge_corner e % 2 ≡ 0 = eqb-true (offset 0 e) 0 (and_parts (not (eqb (e / 4) 0)) (eqb (offset 0 e) 0) h).1 in
      let r : (r : ℕ) × In r (cells g) × (q ≡ r + (1 + (0 * g.nx + 0 * (g.nx * g.ny)))) = back q i 1 0 0 (omega arith) (omega arith) (omega arith) in
      let c : ℕ = edge_corner e in
      let d : ℕ = edge_corner x.0 in
      let d0 : d % 2 ≡ c % 2 + 1 = omega (arith, x.3, o) in
      let d1 : d / 2 % 2 ≡ c / 2 % 2 = omega (arith, x.3, o) in
      let d2 : d / 4 ≡ c / 4 = omega (arith, x.3, o) in
      let p : corner_point g r.0 d ≡ corner_point g q c
      = ap (λ t. r.0 + (t * 1 + (d / 2 % 2 * g.nx + d / 4 * (g.nx * g.ny)))) d0
      ∙ (ap (λ t. r.0 + ((c % 2 + 1) * 1 + (t * g.nx + d / 4 * (g.nx * g.ny)))) d1
      ∙ (ap (λ t. r.0 + ((c % 2 + 1) * 1 + (c / 2 % 2 * g.nx + t * (g.nx * g.ny)))) d2
      ∙ (regroup r.0 (c % 2) (c / 2 % 2) (c / 4) g.nx (g.nx * g.ny) ∙ ap (λ t. t + (c % 2 * 1 + (c / 2 % 2 * g.nx + c / 4 * (g.nx * g.ny)))) (sym r.2)))) in
      (r.0, r.1, (x.0, x.1, name_moves q r.0 e x.0 x.2 p, omega (arith, r.2)))
    where
      regroup : (r a b d m k : ℕ) → r + ((a + 1) * 1 + (b * m + d * k)) ≡ (r + (1 + (0 * m + 0 * k))) + (a * 1 + (b * m + d * k))
      regroup r a b d m k = omega arith

  before_y : (q e : ℕ) → In q (cells g) → e < 12 → (not (eqb (e / 4) 1) && eqb (offset 1 e) 0) ≡ true → (coordinate g 1 q ≡ 0 → ⊥) → Before q e
  before_y q e i he h n =
      let x : (x : ℕ) × (x < 12) × (x / 4 ≡ e / 4) × (edge_corner x ≡ edge_corner e + 2 ^ 1) = far_edge e 1 he (omega arith) h in
      let o : edge_corner e / 2 % 2 ≡ 0 = eqb-true (offset 1 e) 0 (and_parts (not (eqb (e / 4) 1)) (eqb (offset 1 e) 0) h).1 in
      let r : (r : ℕ) × In r (cells g) × (q ≡ r + (0 + (1 * g.nx + 0 * (g.nx * g.ny)))) = back q i 0 1 0 (omega arith) (omega arith) (omega arith) in
      let c : ℕ = edge_corner e in
      let d : ℕ = edge_corner x.0 in
      let d0 : d % 2 ≡ c % 2 = omega (arith, x.3, o) in
      let d1 : d / 2 % 2 ≡ c / 2 % 2 + 1 = omega (arith, x.3, o) in
      let d2 : d / 4 ≡ c / 4 = omega (arith, x.3, o) in
      let p : corner_point g r.0 d ≡ corner_point g q c
      = ap (λ t. r.0 + (t * 1 + (d / 2 % 2 * g.nx + d / 4 * (g.nx * g.ny)))) d0
      ∙ (ap (λ t. r.0 + (c % 2 * 1 + (t * g.nx + d / 4 * (g.nx * g.ny)))) d1
      ∙ (ap (λ t. r.0 + (c % 2 * 1 + ((c / 2 % 2 + 1) * g.nx + t * (g.nx * g.ny)))) d2
      ∙ (regroup r.0 (c % 2) (c / 2 % 2) (c / 4) g.nx (g.nx * g.ny) ∙ ap (λ t. t + (c % 2 * 1 + (c / 2 % 2 * g.nx + c / 4 * (g.nx * g.ny)))) (sym r.2)))) in
      let l : 0 < g.nx = (positive q i).0 in
      (r.0, r.1, (x.0, x.1, name_moves q r.0 e x.0 x.2 p, omega (arith, r.2)))
    where
      regroup : (r a b d m k : ℕ) → r + (a * 1 + ((b + 1) * m + d * k)) ≡ (r + (0 + (1 * m + 0 * k))) + (a * 1 + (b * m + d * k))
      regroup r a b d m k = omega arith

  before_z : (q e : ℕ) → In q (cells g) → e < 12 → (not (eqb (e / 4) 2) && eqb (offset 2 e) 0) ≡ true → (coordinate g 2 q ≡ 0 → ⊥) → Before q e
  before_z q e i he h n =
      let x : (x : ℕ) × (x < 12) × (x / 4 ≡ e / 4) × (edge_corner x ≡ edge_corner e + 2 ^ 2) = far_edge e 2 he (omega arith) h in
      let o : edge_corner e / 4 ≡ 0 = eqb-true (offset 2 e) 0 (and_parts (not (eqb (e / 4) 2)) (eqb (offset 2 e) 0) h).1 in
      let r : (r : ℕ) × In r (cells g) × (q ≡ r + (0 + (0 * g.nx + 1 * (g.nx * g.ny)))) = back q i 0 0 1 (omega arith) (omega arith) (omega arith) in
      let c : ℕ = edge_corner e in
      let d : ℕ = edge_corner x.0 in
      let d0 : d % 2 ≡ c % 2 = omega (arith, x.3, o) in
      let d1 : d / 2 % 2 ≡ c / 2 % 2 = omega (arith, x.3, o) in
      let d2 : d / 4 ≡ c / 4 + 1 = omega (arith, x.3, o) in
      let p : corner_point g r.0 d ≡ corner_point g q c
      = ap (λ t. r.0 + (t * 1 + (d / 2 % 2 * g.nx + d / 4 * (g.nx * g.ny)))) d0
      ∙ (ap (λ t. r.0 + (c % 2 * 1 + (t * g.nx + d / 4 * (g.nx * g.ny)))) d1
      ∙ (ap (λ t. r.0 + (c % 2 * 1 + (c / 2 % 2 * g.nx + t * (g.nx * g.ny)))) d2
      ∙ (regroup r.0 (c % 2) (c / 2 % 2) (c / 4) g.nx (g.nx * g.ny) ∙ ap (λ t. t + (c % 2 * 1 + (c / 2 % 2 * g.nx + c / 4 * (g.nx * g.ny)))) (sym r.2)))) in
      let l : 0 < g.nx * g.ny = (positive q i).1 in
      (r.0, r.1, (x.0, x.1, name_moves q r.0 e x.0 x.2 p, omega (arith, r.2)))
    where
      regroup : (r a b d m k : ℕ) → r + (a * 1 + (b * m + (d + 1) * k)) ≡ (r + (0 + (0 * m + 1 * k))) + (a * 1 + (b * m + d * k))
      regroup r a b d m k = omega arith

  -- what is not first has a cell before
  axis_fails : (q e n : ℕ) → e < 12 → n < 3 → (eqb (e / 4) n || (eqb (offset n e) 1 || eqb (coordinate g n q) 0)) ≡ false
      → ((not (eqb (e / 4) n) && eqb (offset n e) 0) ≡ true) × (coordinate g n q ≡ 0 → ⊥)
  axis_fails q e n he hn h =
      let a : (eqb (e / 4) n ≡ false) × ((eqb (offset n e) 1 || eqb (coordinate g n q) 0) ≡ false) = or_parts (eqb (e / 4) n) _ h in
      let b : (eqb (offset n e) 1 ≡ false) × (eqb (coordinate g n q) 0 ≡ false) = or_parts (eqb (offset n e) 1) (eqb (coordinate g n q) 0) a.1 in
      let o : offset n e ≤ 1 = (offset_is e n he hn).0 in
      let m : offset n e ≡ 1 → ⊥ = eqb-false (offset n e) 1 b.0 in
      let z : offset n e ≡ 0 = low (offset n e) o m in
      ((ap (λ t. not t && eqb (offset n e) 0) a.0 ∙ eq-eqb (offset n e) 0 z), eqb-false (coordinate g n q) 0 b.1)
    where
      low : (k : ℕ) → k ≤ 1 → (k ≡ 1 → ⊥) → k ≡ 0
      low zero h n = refl
      low (suc zero) h n = absurd (n refl)
      low (suc (suc k)) h n = absurd (omega arith)

  before : (q e : ℕ) → In q (cells g) → e < 12 → is_first_at g q e ≡ false → Before q e
  before q e i he h =
      let t : ℕ → Bool = λ n. eqb (e / 4) n || (eqb (offset n e) 1 || eqb (coordinate g n q) 0) in
      elim (cases_Bool (t 0)) [
        | inr k ↦ (let f : ((not (eqb (e / 4) 0) && eqb (offset 0 e) 0) ≡ true) × (coordinate g 0 q ≡ 0 → ⊥) = axis_fails q e 0 he (omega arith) k in before_x q e i he f.0 f.1)
        | inl k0 ↦ elim (cases_Bool (t 1)) [
          | inr k ↦ (let f : ((not (eqb (e / 4) 1) && eqb (offset 1 e) 0) ≡ true) × (coordinate g 1 q ≡ 0 → ⊥) = axis_fails q e 1 he (omega arith) k in before_y q e i he f.0 f.1)
          | inl k1 ↦ elim (cases_Bool (t 2)) [
            | inr k ↦ (let f : ((not (eqb (e / 4) 2) && eqb (offset 2 e) 0) ≡ true) × (coordinate g 2 q ≡ 0 → ⊥) = axis_fails q e 2 he (omega arith) k in before_z q e i he f.0 f.1)
            | inl k2 ↦ absurd (clash (t 0) (t 1) (t 2) k0 k1 k2 h)
          ]
        ]
      ]
    where
      clash : (a b c : Bool) → a ≡ true → b ≡ true → c ≡ true → (a && (b && (c && true))) ≡ false → ⊥
      clash true true true x y z h = cc
      clash true true false x y z h = cc
      clash true false c x y z h = cc
      clash false b c x y z h = cc

  known : (q : ℕ) → q < point_count g → is_cell g q ≡ true → In q (cells g)
  known q l c = in_filter (is_cell g) q (below (point_count g)) (range_in 0 (point_count g) q (omega arith) (omega arith)) c

  pub no_earlier : (q r e x : ℕ) → q < point_count g → is_cell g q ≡ true → r < point_count g → is_cell g r ≡ true → e < 12 → x < 12
      → cell_edge g q e ≡ cell_edge g r x → is_first_at g q e ≡ true → q ≤ r
  no_earlier q r e x lq cq lr cr he hx same first = first_lowest q r e x (known q lq cq) (known r lr cr) he hx same first

  pub some_earlier : (q e : ℕ) → q < point_count g → is_cell g q ≡ true → e < 12 → is_first_at g q e ≡ false
      → (r x : ℕ) × (r < q) × (is_cell g r ≡ true) × (x < 12) × (cell_edge g r x ≡ cell_edge g q e)
  some_earlier q e l c he h =
      let b : Before q e = before q e (known q l c) he h in
      (b.0, b.2.0, b.2.3, (cell_in g b.0 b.1).0, b.2.1, b.2.2)

  -- so each edge of a cell has a first cell
  pub first_cell : (n q e : ℕ) → q < n → In q (cells g) → e < 12 → (r : ℕ) × In r (cells g) × ((x : ℕ) × (x < 12) × (cell_edge g r x ≡ cell_edge g q e) × (is_first_at g r x ≡ true))
  first_cell zero q e l i he = absurd (omega arith)
  first_cell (suc n) q e l i he =
      elim (cases_Bool (is_first_at g q e)) [
        | inl h ↦ (q, i, (e, he, refl, h))
        | inr h ↦ (
            let b : Before q e = before q e i he h in
            let r : (r : ℕ) × In r (cells g) × ((x : ℕ) × (x < 12) × (cell_edge g r x ≡ cell_edge g b.0 b.2.0) × (is_first_at g r x ≡ true)) = first_cell n b.0 b.2.0 (omega (arith, b.2.3)) b.1 b.2.1 in
            (r.0, r.1, (r.2.0, r.2.1, r.2.2 ∙ b.2.2, r.2.3)))
      ]

-- the loops of a cell have no edge in common, in every case
abbrev apart_test : List Bool → List Bool → Bool
apart_test signs joined = distinct_test (flat_map (λ (l : ℕ × List ℕ). l.1) (enumerate_from 0 (case_loops signs joined)))

apart_all : all_cases apart_test ≡ true
apart_all = refl

distinct_flat : (f : ℕ → List ℕ) (qs : List ℕ) → Distinct qs → ((q : ℕ) → In q qs → Distinct (f q)) → ((q r v : ℕ) → In q qs → In r qs → In v (f q) → In v (f r) → q ≡ r) → Distinct (flat_map f qs)
distinct_flat f [] d one same = tt
distinct_flat f (q ∷ qs) d one same =
    distinct_join (f q) (flat_map f qs) (one q (inl refl)) (distinct_flat f qs d.1 (λ r i. one r (inr i)) (λ r t v i j. same r t v (inr i) (inr j)))
    (λ v i j. let r : (r : ℕ) × In r qs × In v (f r) = In-flat_map f v qs j in d.0 (subst (λ z. In z qs) (sym (same q r.0 v (inl refl) (inr r.1) i r.2)) r.1))

module _ (g : Grid) (s : ℕ → ℤ) where
  -- the edges of the loops of a cell, which are different
  abbrev pub looped : ℕ → List ℕ
  looped q = flat_map (λ (l : ℕ × List ℕ). l.1) (cell_loops g s q)

  pub looped_apart : (q : ℕ) → Distinct (looped q)
  looped_apart q = distinct_from (looped q) (cell_passes apart_test apart_all g s q)

  pub looped_low : (q e : ℕ) → In e (looped q) → e < 12
  looped_low q e i = let l : (l : ℕ × List ℕ) × In l (cell_loops g s q) × In e l.1 = In-flat_map (λ (l : ℕ × List ℕ). l.1) e (cell_loops g s q) i in (cell_loop g s q l.0 l.1).edges e l.2

  crossing_looped : (q x : ℕ) → x < 12 → crosses (cell_signs g s q) x ≡ true → In x (looped q)
  crossing_looped q x hx c =
      let signs : List Bool = cell_signs g s q in
      let joined : List Bool = cell_joined g s q in
      let t : implies (crosses signs x) (loop_at signs joined x) ≡ true
      = list_all_at (λ e. implies (crosses signs e) (loop_at signs joined e)) (below 12) x (cell_passes loop_test loop_all g s q) (range_in 0 12 x (omega arith) (omega arith)) in
      let w : loop_at signs joined x ≡ true = subst (λ b. implies b (loop_at signs joined x) ≡ true) c t in
      let l : (l : ℕ × List ℕ) × In l (enumerate_from 0 (case_loops signs joined)) × (_ ≡ true) = in_any _ (enumerate_from 0 (case_loops signs joined)) (and_parts _ _ (and_parts (eqb (count_by (is_in x) (case_loops signs joined)) 1) _ w).1).0 in
      in_flat_map (λ (l : ℕ × List ℕ). l.1) x l.0 (cell_loops g s q) l.1 (in_is_in x l.0.1 (and_parts (is_in x l.0.1) _ l.2).0)

  looped_crosses : (q x : ℕ) → In q (cells g) → In x (looped q) → In (cell_edge g q x) (crossing_edges g s)
  looped_crosses q x i j =
      let l : (l : ℕ × List ℕ) × In l (cell_loops g s q) × In x l.1 = In-flat_map (λ (l : ℕ × List ℕ). l.1) x (cell_loops g s q) j in
      let m : Loop = (centre_name g q l.0.0, map (cell_edge g q) l.0.1) in
      loops_cross g s m (cell_edge g q x)
      (in_flat_map (loops_in g s) m q (cells g) i (in_map (λ (l : ℕ × List ℕ). (centre_name g q l.0, map (cell_edge g q) l.1)) l.0 (cell_loops g s q) l.1))
      (in_map (cell_edge g q) x l.0.1 l.2)

  firsts_of : (q v : ℕ) → In v (first_edges g s q) → (x : ℕ) × In x (looped q) × (is_first_at g q x ≡ true) × (v ≡ cell_edge g q x)
  firsts_of q v i =
      let x : (x : ℕ) × In x (filter (is_first_at g q) (looped q)) × (v ≡ cell_edge g q x) = In-map (cell_edge g q) v (filter (is_first_at g q) (looped q)) i in
      let k : In x.0 (looped q) × (is_first_at g q x.0 ≡ true) = In-filter (is_first_at g q) x.0 (looped q) x.1 in
      (x.0, k.0, k.1, x.2)

  firsts_distinct : (q : ℕ) → In q (cells g) → Distinct (first_edges g s q)
  firsts_distinct q i =
      let low : (x : ℕ) → In x (filter (is_first_at g q) (looped q)) → x < 12 = λ x j. looped_low q x (In-filter (is_first_at g q) x (looped q) j).0 in
      distinct_map (cell_edge g q) (filter (is_first_at g q) (looped q)) (λ a b j k e. edge_injective g q a b (cell_in g q i).0 (low a j) (low b k) e)
      (Distinct-filter (is_first_at g q) (looped q) (looped_apart q))

  one_first : (q r v : ℕ) → In q (cells g) → In r (cells g) → In v (first_edges g s q) → In v (first_edges g s r) → q ≡ r
  one_first q r v i j a b =
      let x : (x : ℕ) × In x (looped q) × (is_first_at g q x ≡ true) × (v ≡ cell_edge g q x) = firsts_of q v a in
      let y : (y : ℕ) × In y (looped r) × (is_first_at g r y ≡ true) × (v ≡ cell_edge g r y) = firsts_of r v b in
      let hx : x.0 < 12 = looped_low q x.0 x.1 in
      let hy : y.0 < 12 = looped_low r y.0 y.1 in
      let up : q ≤ r = first_lowest g q r x.0 y.0 i j hx hy (sym x.3 ∙ y.3) x.2 in
      let down : r ≤ q = first_lowest g r q y.0 x.0 j i hy hx (sym y.3 ∙ x.3) y.2 in
      omega arith

  -- each crossing edge is one of the first edges of a cell
  edge_first : (v : ℕ) → IsThick g → In v (crossing_edges g s) → In v (flat_map (first_edges g s) (cells g))
  edge_first v thick i =
      let c : (r : ℕ) × In r (cells g) × ((x : ℕ) × (x < 12) × (cell_edge g r x ≡ v) × (crosses (cell_signs g s r) x ≡ true)) = cell_of_edge g s v thick i in
      let f : (r : ℕ) × In r (cells g) × ((x : ℕ) × (x < 12) × (cell_edge g r x ≡ cell_edge g c.0 c.2.0) × (is_first_at g r x ≡ true)) = first_cell g (suc c.0) c.0 c.2.0 (omega arith) c.1 c.2.1 in
      let same : Same g f.0 c.0 f.2.0 c.2.0 = same_is g f.0 c.0 f.2.0 c.2.0 (cell_in g f.0 f.1).0 (cell_in g c.0 c.1).0 f.2.1 c.2.1 f.2.2 in
      let cross : crosses (cell_signs g s f.0) f.2.0 ≡ true
      = crosses_is g s f.0 f.2.0 f.2.1
      ∙ (ap (λ z. differ (is_above (s z)) (is_above (s (z + stride g (f.2.0 / 4))))) same.point
      ∙ (ap (λ z. differ (is_above (s (corner_point g c.0 (edge_corner c.2.0)))) (is_above (s (corner_point g c.0 (edge_corner c.2.0) + stride g z)))) same.axis
      ∙ (sym (crosses_is g s c.0 c.2.0 c.2.1) ∙ c.2.3))) in
      let k : In f.2.0 (filter (is_first_at g f.0) (looped f.0)) = in_filter (is_first_at g f.0) f.2.0 (looped f.0) (crossing_looped f.0 f.2.0 f.2.1 cross) f.2.3 in
      in_flat_map (first_edges g s) v f.0 (cells g) f.1
      (subst (λ z. In z (first_edges g s f.0)) (f.2.2 ∙ c.2.2) (in_map (cell_edge g f.0) f.2.0 (filter (is_first_at g f.0) (looped f.0)) k))

  -- so a count over the crossing edges goes cell by cell
  pub edges_by_cells : (p : ℕ → Bool) → IsThick g → count_by p (crossing_edges g s) ≡ count_by p (flat_map (first_edges g s) (cells g))
  edges_by_cells p thick =
      same_counts p (crossing_edges g s) (flat_map (first_edges g s) (cells g))
      (Distinct-filter (is_crossing g s) (below (name_bound g)) (Distinct-range 0 (name_bound g)))
      (distinct_flat (first_edges g s) (cells g) (Distinct-cells g) firsts_distinct one_first)
      (λ v i. edge_first v thick i)
      (λ v i.
      let q : (q : ℕ) × In q (cells g) × In v (first_edges g s q) = In-flat_map (first_edges g s) v (cells g) i in
      let x : (x : ℕ) × In x (looped q.0) × (is_first_at g q.0 x ≡ true) × (v ≡ cell_edge g q.0 x) = firsts_of q.0 v q.2 in
      subst (λ z. In z (crossing_edges g s)) (sym x.3) (looped_crosses q.0 x.0 q.1 x.1))
