-- The numbers of edges in the whole, by those in a lower slab and in what is above.
use Rattle.std.proofs.Common.{◌≡◌, ℕ, ◌+◌, ◌-◌, ◌*◌, ◌<◌, ◌≤◌, Bool, true, false, List, ◌++◌, map, sym, ap, ◌∙◌, subst, arith, ltb, ℤ, length, inl, inr, add-zero}
use Rattle.std.specs.List.{filter, flat_map, range_with_len, count_by}
use Rattle.std.proofs.lemmas.Bool.{lt-ltb, le-ltb, cases_lt}
use Rattle.std.proofs.lemmas.List.Elements.{filter-append}
use Rattle.iso_defs.specs.Grid.{Grid, name_bound, cells, is_crossing, IsSolid}
use Rattle.iso_defs.specs.Place.{Position, edge_position}
use Rattle.iso_defs.specs.Scratch.{crossing_edges, cell_centres, number_of, cell_loops, has_centre}
use Rattle.iso_defs.proofs.Ranges.{range_append}
use Rattle.triangle_laws.proofs.Lists.{In, In-map, In-flat_map, In-filter}
use Rattle.triangle_laws.proofs.Counts.{count-append, count_agree, count_none, count-map}
use Rattle.mesh_laws.proofs.Cells.{range_at_least}
use Rattle.mesh_laws.proofs.Rows.{count_all, count_zero}
use Rattle.slab_laws.specs.Slabs.{slices, slice_size}
use Rattle.slab_laws.proofs.Parts.{above}
use Rattle.slab_laws.proofs.Slices.{filter_alike}
use Rattle.slab_laws.proofs.EdgesCut.{own_edges, edges_cut, below_top}

-- the number of an edge counts the crossing edges before it
pub number_of_edge : (g : Grid) (s : ℕ → ℤ) (n : ℕ) → n < name_bound g
    → number_of g s n ≡ count_by (λ u. ltb u n) (crossing_edges g s)
number_of_edge g s n h =
    let test : ℕ → Bool = λ u. ltb u n in
    let name : ℕ × Position → ℕ = λ (v : ℕ × Position). v.0 in
    let us : List (ℕ × Position) = map (λ n. (n, edge_position g s n)) (crossing_edges g s) in
    let vs : List (ℕ × Position) = flat_map (cell_centres g s) (cells g) in
    let none : count_by (λ (v : ℕ × Position). ltb v.0 n) vs ≡ 0
    = count_none (λ (v : ℕ × Position). ltb v.0 n) vs (λ v i e.
    (let q : (q : ℕ) × In q (cells g) × In v (cell_centres g s q) = In-flat_map (cell_centres g s) v (cells g) i in
    let l : (l : ℕ × List ℕ) × In l (filter has_centre (cell_loops g s q.0)) × (v ≡ _)
    = In-map _ v (filter has_centre (cell_loops g s q.0)) q.2 in
    let high : v.0 ≡ name_bound g + (4 * q.0 + l.0.0) = ap (λ (z : ℕ × Position). z.0) l.2 in
    clash (ltb v.0 n) e (le-ltb v.0 n (omega (arith, high))))) in
    count-map test name (us ++ vs)
    ∙ (count-append (λ (v : ℕ × Position). ltb v.0 n) us vs
    ∙ (ap (λ a. count_by (λ (v : ℕ × Position). ltb v.0 n) us + a) none
    ∙ (add-zero (count_by (λ (v : ℕ × Position). ltb v.0 n) us)
    ∙ count-map (λ (v : ℕ × Position). ltb v.0 n) (λ n. (n, edge_position g s n)) (crossing_edges g s))))
  where
    clash : (b : Bool) → b ≡ true → b ≡ false → ⊥
    clash true e f = cc
    clash false e f = cc

-- how many of the numbers below a bound pass a test and are below a lesser bound
count_below : (p : ℕ → Bool) (n r : ℕ) → count_by (λ u. ltb u n) (filter p (range_with_len 0 (n + r)))
    ≡ length (filter p (range_with_len 0 n))
count_below p n r =
    let test : ℕ → Bool = λ u. ltb u n in
    let first : List ℕ = filter p (range_with_len 0 n) in
    let last : List ℕ = filter p (range_with_len (0 + n) r) in
    let c1 : count_by test first ≡ length first = count_all n first (λ x i. (let k : (0 ≤ x) × (x < 0 + n)
    = range_at_least 0 n x (In-filter p x _ i).0 in omega arith)) in
    let c2 : count_by test last ≡ 0 = count_zero n last (λ x i. (let k : (0 + n ≤ x) × (x < 0 + n + r)
    = range_at_least (0 + n) r x (In-filter p x _ i).0 in omega arith)) in
    ap (count_by test) (ap (filter p) (range_append 0 n r)
    ∙ filter-append p (range_with_len 0 n) (range_with_len (0 + n) r))
    ∙ (count-append test first last ∙ (ap (λ a. count_by test first + a) c2 ∙ (add-zero (count_by test first) ∙ c1)))

module _ (g : Grid) (solid : IsSolid g) (s : ℕ → ℤ) (z : ℕ) (fits : z + 2 ≤ g.nz) where
  -- an edge that begins below the last slice of the lower slab has its own number there
  pub number_low : (n : ℕ) → n < 3 * (slice_size g * (z + 1)) → number_of g s n ≡ number_of (slices g (z + 2)) s n
  number_low n low =
      let here : n < name_bound (slices g (z + 2)) = within (g.nx * g.ny) z n low in
      let there : n < name_bound g = wider (g.nx * g.ny) z g.nz n fits low in
      let r : ℕ = name_bound g - n in
      let t : ℕ = name_bound (slices g (z + 2)) - n in
      let whole : name_bound g ≡ n + r = omega arith in
      let lower : name_bound (slices g (z + 2)) ≡ n + t = omega arith in
      number_of_edge g s n there
      ∙ (ap (λ b. count_by (λ u. ltb u n) (filter (is_crossing g s) (range_with_len 0 b))) whole
      ∙ (count_below (is_crossing g s) n r
      ∙ (ap length (sym (filter_alike (is_crossing g s) (is_crossing (slices g (z + 2)) s) 0 n
      (λ m _ l. below_top g solid s z fits m (omega arith))))
      ∙ (sym (count_below (is_crossing (slices g (z + 2)) s) n t)
      ∙ (sym (ap (λ b. count_by (λ u. ltb u n) (filter (is_crossing (slices g (z + 2)) s) (range_with_len 0 b))) lower)
      ∙ sym (number_of_edge (slices g (z + 2)) s n here))))))
    where
      within : (a z n : ℕ) → n < 3 * (a * (z + 1)) → n < 3 * (a * (z + 2))
      within a z n l = let e : a * (z + 2) ≡ a * (z + 1) + a = omega arith in omega arith

      wider : (a z m n : ℕ) → z + 2 ≤ m → n < 3 * (a * (z + 1)) → n < 3 * (a * m)
      wider a z m n f l =
          let k : m ≡ z + 1 + (m - (z + 1)) = omega arith in
          subst (λ m. n < 3 * (a * m)) (sym k) (let e : a * (z + 1 + (m - (z + 1)))
          ≡ a * (z + 1) + a * (m - (z + 1)) = omega arith in omega arith)

  -- an edge of what is above has so many more before it as the lower slab has of its own
  pub number_high : (n : ℕ) → n < name_bound (slices g (g.nz - z))
      → number_of g s (n + 3 * (slice_size g * z)) ≡ length (own_edges g solid s z fits) + number_of
      (slices g (g.nz - z)) (above g z s) n
  unfolding own_edges
  number_high n low =
      let k : ℕ = 3 * (slice_size g * z) in
      let own : List ℕ = own_edges g solid s z fits in
      let upper : List ℕ = crossing_edges (slices g (g.nz - z)) (above g z s) in
      let there : n + k < name_bound g = sum (g.nx * g.ny) z g.nz n fits low in
      let test : ℕ → Bool = λ u. ltb u (n + k) in
      let c1 : count_by test own ≡ length own = count_all (n + k) own (λ x i.
      (let m : (0 ≤ x) × (x < 0 + k) = range_at_least 0 k x (In-filter (is_crossing (slices g (z + 2)) s) x _ i).0 in
      omega arith)) in
      let c2 : count_by test (map (λ m. m + k) upper) ≡ count_by (λ m. ltb (m + k) (n + k)) upper
      = count-map test (λ m. m + k) upper in
      let c3 : (m : ℕ) → ltb (m + k) (n + k) ≡ ltb m n = λ m. elim (cases_lt m n) [
        | inl l ↦ lt-ltb _ _ (omega arith) ∙ sym (lt-ltb _ _ l)
        | inr l ↦ le-ltb _ _ (omega arith) ∙ sym (le-ltb _ _ l)
      ] in
      number_of_edge g s (n + k) there
      ∙ (ap (count_by test) (edges_cut g solid s z fits)
      ∙ (count-append test own (map (λ m. m + k) upper)
      ∙ (ap (λ a. a + count_by test (map (λ m. m + k) upper)) c1
      ∙ ap (λ a. length own + a) (c2 ∙ (count_agree (λ m. ltb (m + k) (n + k)) (λ m. ltb m n) upper (λ m _. c3 m)
      ∙ sym (number_of_edge (slices g (g.nz - z)) (above g z s) n low))))))
    where
      sum : (a z m n : ℕ) → z + 2 ≤ m → n < 3 * (a * (m - z)) → n + 3 * (a * z) < 3 * (a * m)
      sum a z m n f l =
          let e : m ≡ z + (m - z) = omega arith in
          subst (λ b. n + 3 * (a * z) < 3 * (a * b)) (sym e) (let d : a * (z + (m - z))
          ≡ a * z + a * (m - z) = omega arith in omega arith)
