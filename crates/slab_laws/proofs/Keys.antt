-- The numbers of centres in the whole, by those in a lower slab and in what is above.
use Rattle.std.proofs.Common.{◌≡◌, ℕ, ◌+◌, ◌-◌, ◌*◌, ◌/◌, ◌%◌, ◌<◌, ◌≤◌, Bool, List, [], ◌∷◌, ◌++◌, map, refl, sym, ap, ap₂, ◌∙◌, inl, inr, arith, ltb, ℤ, length}
use Rattle.std.specs.List.{filter, flat_map, count_by, enumerate_from}
use Rattle.std.proofs.lemmas.Bool.{lt-ltb, le-ltb, cases_lt}
use Rattle.std.proofs.lemmas.List.Concat.{flat_map-append}
use Rattle.iso_defs.specs.Lists.{below}
use Rattle.iso_defs.specs.Grid.{Grid, name_bound, cells, stride, is_crossing, IsSolid}
use Rattle.iso_defs.specs.Cell.{cell_values, signs_of, joined_of, case_loops, corner_point}
use Rattle.iso_defs.specs.Place.{Position, edge_position}
use Rattle.iso_defs.specs.Scratch.{crossing_edges, cell_centres, number_of, cell_loops, has_centre, centre_name}
use Rattle.triangle_laws.proofs.Lists.{In-filter}
use Rattle.triangle_laws.proofs.Counts.{count-append, count_agree, count-map}
use Rattle.mesh_laws.proofs.Cells.{range_at_least}
use Rattle.mesh_laws.proofs.Rows.{count_all}
use Rattle.window_laws.proofs.Ascents.{map_agree_in, flat_map_agree_in, map-map, map-flat_map, flat_map-map}
use Rattle.slab_laws.specs.Slabs.{slices, slice_size}
use Rattle.slab_laws.proofs.Parts.{above, cell_keys, keys}
use Rattle.slab_laws.proofs.CellsCut.{own_cells, cells_cut}

-- sums with the same first part are in the order of their second ones
pub ltb_more : (k m n : ℕ) → ltb (k + m) (k + n) ≡ ltb m n
ltb_more k m n = elim (cases_lt m n) [
  | inl l ↦ lt-ltb _ _ (omega arith) ∙ sym (lt-ltb _ _ l)
  | inr l ↦ le-ltb _ _ (omega arith) ∙ sym (le-ltb _ _ l)
]

count_flat : {A B : Type 0} (p : A → Bool) (q : B → Bool) (f : ℕ → List A) (h : ℕ → List B) (xs : List ℕ)
    → ((x : ℕ) → count_by p (f x) ≡ count_by q (h x)) → count_by p (flat_map f xs) ≡ count_by q (flat_map h xs)
count_flat p q f h [] e = refl
count_flat p q f h (x ∷ xs) e =
    count-append p (f x) (flat_map f xs) ∙ (ap₂ (λ a b. a + b) (e x) (count_flat p q f h xs e)
    ∙ sym (count-append q (h x) (flat_map h xs)))

-- the number of a centre counts all edges, and the centres before it
pub number_of_key : (g : Grid) (s : ℕ → ℤ) (k : ℕ) → number_of g s (name_bound g + k)
    ≡ length (crossing_edges g s) + count_by (λ u. ltb u k) (keys g s)
number_of_key g s k =
    let n : ℕ = name_bound g + k in
    let test : ℕ → Bool = λ u. ltb u n in
    let name : ℕ × Position → ℕ = λ (v : ℕ × Position). v.0 in
    let us : List (ℕ × Position) = map (λ m. (m, edge_position g s m)) (crossing_edges g s) in
    let vs : List (ℕ × Position) = flat_map (cell_centres g s) (cells g) in
    let edges : count_by (λ (v : ℕ × Position). ltb v.0 n) us ≡ length (crossing_edges g s)
    = count-map (λ (v : ℕ × Position). ltb v.0 n) (λ m. (m, edge_position g s m)) (crossing_edges g s)
    ∙ count_all n (crossing_edges g s) (λ x i. (let b : (0 ≤ x) × (x < 0 + name_bound g) = range_at_least 0
    (name_bound g) x (In-filter (is_crossing g s) x _ i).0 in omega arith)) in
    count-map test name (us ++ vs)
    ∙ (count-append (λ (v : ℕ × Position). ltb v.0 n) us vs
    ∙ (ap (λ a. a + count_by (λ (v : ℕ × Position). ltb v.0 n) vs) edges
    ∙ ap (λ a. length (crossing_edges g s) + a)
    (count_flat (λ (v : ℕ × Position). ltb v.0 n) (λ u. ltb u k) (cell_centres g s) (cell_keys g s) (cells g) each)))
  where
    each : (q : ℕ) → count_by (λ (v : ℕ × Position). ltb v.0 (name_bound g + k)) (cell_centres g s q)
        ≡ count_by (λ u. ltb u k) (cell_keys g s q)
    each q =
        let ls : List (ℕ × List ℕ) = filter has_centre (cell_loops g s q) in
        count-map (λ (v : ℕ × Position). ltb v.0 (name_bound g + k)) _ ls
        ∙ (count_agree (λ (l : ℕ × List ℕ). ltb (centre_name g q l.0) (name_bound g + k))
        (λ (l : ℕ × List ℕ). ltb (4 * q + l.0) k) ls
        (λ l _. ltb_more (name_bound g) (4 * q + l.0) k)
        ∙ sym (count-map (λ u. ltb u k) (λ (l : ℕ × List ℕ). 4 * q + l.0) ls))

module _ (g : Grid) (solid : IsSolid g) (s : ℕ → ℤ) (z : ℕ) (fits : z + 2 ≤ g.nz) where
  -- the keys of the lower slab's own centres
  unfoldable pub own_keys : List ℕ
  own_keys = flat_map (cell_keys (slices g (z + 2)) s) (own_cells g solid z fits)

  -- a cell further up has the loops of the one that it is there
  pub same_values : (q : ℕ) → cell_values g s (q + slice_size g * z) ≡ cell_values (slices g (g.nz - z)) (above g z s) q
  same_values q =
      map_agree_in (λ c. s (corner_point g (q + slice_size g * z) c))
      (λ c. above g z s (corner_point (slices g (g.nz - z)) q c)) (below 8)
      (λ c _. ap s (turn q (slice_size g * z) (c % 2 * stride g 0 + (c / 2 % 2 * stride g 1 + c / 4 * stride g 2))))
    where
      turn : (q k r : ℕ) → q + k + r ≡ q + r + k
      turn q k r = omega arith

  higher_keys : (q : ℕ) → cell_keys g s (q + slice_size g * z)
      ≡ map (λ x. x + 4 * (slice_size g * z)) (cell_keys (slices g (g.nz - z)) (above g z s) q)
  higher_keys q =
      let k : ℕ = slice_size g * z in
      let from : List ℤ → List (ℕ × List ℕ) = λ values. filter has_centre
      (enumerate_from 0 (case_loops (signs_of values) (joined_of values))) in
      ap (λ values. map (λ (l : ℕ × List ℕ). 4 * (q + k) + l.0) (from values)) (same_values q)
      ∙ (map_agree_in (λ (l : ℕ × List ℕ). 4 * (q + k) + l.0) (λ (l : ℕ × List ℕ). 4 * q + l.0 + 4 * k) _
      (λ l _. more q k l.0)
      ∙ sym (map-map (λ x. x + 4 * k) (λ (l : ℕ × List ℕ). 4 * q + l.0)
      (from (cell_values (slices g (g.nz - z)) (above g z s) q))))
    where
      more : (q k t : ℕ) → 4 * (q + k) + t ≡ 4 * q + t + 4 * k
      more q k t = omega arith

  pub keys_cut : keys g s ≡ own_keys ++ map (λ x. x + 4 * (slice_size g * z)) (keys (slices g (g.nz - z)) (above g z s))
  unfolding own_keys
  keys_cut =
      let k : ℕ = slice_size g * z in
      let up : List ℕ = cells (slices g (g.nz - z)) in
      ap (flat_map (cell_keys g s)) (cells_cut g solid z fits)
      ∙ (flat_map-append (cell_keys g s) (own_cells g solid z fits) (map (λ q. q + k) up)
      ∙ ap (λ l. flat_map (cell_keys (slices g (z + 2)) s) (own_cells g solid z fits) ++ l)
      (flat_map-map (cell_keys g s) (λ q. q + k) up
      ∙ (flat_map_agree_in (λ q. cell_keys g s (q + k))
      (λ q. map (λ x. x + 4 * k) (cell_keys (slices g (g.nz - z)) (above g z s) q)) up (λ q _. higher_keys q)
      ∙ sym (map-flat_map (λ x. x + 4 * k) (cell_keys (slices g (g.nz - z)) (above g z s)) up))))
