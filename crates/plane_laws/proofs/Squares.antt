-- The squares of a plane and their segments: each lattice edge begins one at most and ends one at most.
use Rattle.std.proofs.Common.{◌≡◌, ℕ, ◌+◌, ◌*◌, ◌%◌, ◌<◌, ◌≤◌, Bool, true, false, ◌&&◌, not, List, [], ◌∷◌, refl, sym, ◌∙◌, ap, subst, inl, inr, arith, eqb, ltb, leb, ℤ, slice_index}
use Rattle.std.specs.List.{list_all, count_by}
use Rattle.std.proofs.lemmas.Bool.{cases_lt, and_parts, and_from, ltb-true, lt-ltb, leb-true, eqb-true, eq-eqb}
use Rattle.iso_defs.specs.Lists.{below, begins, ends}
use Rattle.iso_defs.specs.Grid.{Grid, point_count, name_bound, coordinate, has_next, index, stride, edge_lower, edge_upper, edge_name, is_above}
use Rattle.iso_defs.specs.Face.{holds_at, is_up, is_down, segments, is_ambiguous, is_joined, value_segments}
use Rattle.iso_defs.specs.Contours.{squares, square_edges, square_pairs, plane_pairs}
use Rattle.iso_defs.proofs.Points.{x_index, y_index, z_index, index_in, index_of_point}
use Rattle.case_laws.proofs.Cases.{all_lists, all_below, same}
use Rattle.case_laws.proofs.Tests.{all_lists_at, all_below_at}
use Rattle.triangle_laws.proofs.Lists.{In, In-map, in_map, In-flat_map, in_flat_map, In-filter, in_filter, list_all_at, any_in}
use Rattle.triangle_laws.proofs.Counts.{count_once, count_finds, count_agree, count-map}
use Rattle.triangle_laws.proofs.FanWalk.{IsSingle}
use Rattle.mesh_laws.proofs.Cells.{Distinct-range, Distinct-filter}
use Rattle.mesh_laws.proofs.Neighbours.{by_four}
use Rattle.mesh_laws.proofs.TwoCells.{same-true}
use Rattle.plane_laws.proofs.Scan.{below_in, in_below}

-- what the segments of a square do, by signs
abbrev row_test : List Bool → Bool
row_test l =
    let signs : List Bool = holds_at l 0 ∷ holds_at l 1 ∷ holds_at l 2 ∷ holds_at l 3 ∷ [] in
    let pairs : List (ℕ × ℕ) = segments signs (holds_at l 4) in
    list_all (λ (p : ℕ × ℕ). ltb p.0 4 && ltb p.1 4) pairs
    && all_below 4 (λ i.
    (leb (count_by (λ (p : ℕ × ℕ). eqb p.0 i) pairs) 1 && leb (count_by (λ (p : ℕ × ℕ). eqb p.1 i) pairs) 1)
    && (same (begins pairs i) (is_up signs i) && same (ends pairs i) (is_down signs i)))

row_all : all_lists 5 row_test ≡ true
row_all = refl

-- the same of four shifted values
pub record Row (a b c d : ℤ) (i : ℕ) : Type 0 where
  pub begun : count_by (λ (p : ℕ × ℕ). eqb p.0 i) (value_segments a b c d) ≤ 1
  pub ended : count_by (λ (p : ℕ × ℕ). eqb p.1 i) (value_segments a b c d) ≤ 1
  pub up : begins (value_segments a b c d) i ≡ is_up (is_above a ∷ is_above b ∷ is_above c ∷ is_above d ∷ []) i
  pub down : ends (value_segments a b c d) i ≡ is_down (is_above a ∷ is_above b ∷ is_above c ∷ is_above d ∷ []) i

module _ (a b c d : ℤ) where
  abbrev signs : List Bool
  signs = is_above a ∷ is_above b ∷ is_above c ∷ is_above d ∷ []

  abbrev joined : Bool
  joined = is_ambiguous signs && is_joined a b c d

  tested : row_test (is_above a ∷ is_above b ∷ is_above c ∷ is_above d ∷ joined ∷ []) ≡ true
  tested = all_lists_at 5 row_test (is_above a ∷ is_above b ∷ is_above c ∷ is_above d ∷ joined ∷ []) refl row_all

  pub small : (o : ℕ × ℕ) → In o (value_segments a b c d) → (o.0 < 4) × (o.1 < 4)
  small o i =
      let t : (ltb o.0 4 && ltb o.1 4) ≡ true = list_all_at (λ (p : ℕ × ℕ). ltb p.0 4 && ltb p.1 4) (value_segments a b c d) o (and_parts _ _ tested).0 i in
      (ltb-true _ _ (and_parts _ _ t).0, ltb-true _ _ (and_parts _ _ t).1)

  pub row : (i : ℕ) → i < 4 → Row a b c d i
  row i h =
      let pairs : List (ℕ × ℕ) = value_segments a b c d in
      let test : ℕ → Bool = λ i.
      (leb (count_by (λ (p : ℕ × ℕ). eqb p.0 i) pairs) 1 && leb (count_by (λ (p : ℕ × ℕ). eqb p.1 i) pairs) 1)
      && (same (begins pairs i) (is_up signs i) && same (ends pairs i) (is_down signs i)) in
      let t : test i ≡ true = all_below_at 4 test i (and_parts _ _ tested).1 h in
      let u : (leb (count_by (λ (p : ℕ × ℕ). eqb p.0 i) pairs) 1 && leb (count_by (λ (p : ℕ × ℕ). eqb p.1 i) pairs) 1) ≡ true = (and_parts _ _ t).0 in
      let v : (same (begins pairs i) (is_up signs i) && same (ends pairs i) (is_down signs i)) ≡ true = (and_parts _ _ t).1 in
      record {
        begun = leb-true _ _ (and_parts _ _ u).0;
        ended = leb-true _ _ (and_parts _ _ u).1;
        up = same-true _ _ (and_parts _ _ v).0;
        down = same-true _ _ (and_parts _ _ v).1;
      }

module _ (g : Grid) (s : ℕ → ℤ) (k : ℕ) where
  -- the name of edge i of the square at p, and its segments and signs
  abbrev pub side : ℕ → ℕ → ℕ
  side p i = slice_index (square_edges g p) i

  abbrev pub segs : ℕ → List (ℕ × ℕ)
  segs p = value_segments (s p) (s (p + 1)) (s (p + g.nx + 1)) (s (p + g.nx))

  abbrev pub corner_signs : ℕ → List Bool
  corner_signs p = is_above (s p) ∷ is_above (s (p + 1)) ∷ is_above (s (p + g.nx + 1)) ∷ is_above (s (p + g.nx)) ∷ []

  abbrev pub ps : List (ℕ × ℕ)
  ps = plane_pairs g s k

  pub pair_at : (p : ℕ) (o : ℕ × ℕ) → In p (squares g k) → In o (segs p) → In (side p o.0, side p o.1) ps
  pair_at p o i j =
      in_flat_map (square_pairs g s) (side p o.0, side p o.1) p (squares g k) i
      (in_map (λ (o : ℕ × ℕ). (slice_index (square_edges g p) o.0, slice_index (square_edges g p) o.1)) o (segs p) j)

  pub record Source (a b : ℕ) : Type 0 where
    pub square : ℕ
    pub in_plane : In square (squares g k)
    pub at : ℕ × ℕ
    pub segment : In at (segs square)
    pub from : a ≡ side square at.0
    pub to : b ≡ side square at.1

  pub source : (a b : ℕ) → In (a, b) ps → Source a b
  source a b i =
      let r : (p : ℕ) × In p (squares g k) × In (a, b) (square_pairs g s p) = In-flat_map (square_pairs g s) (a, b) (squares g k) i in
      let o : (o : ℕ × ℕ) × In o (segs r.0) × ((a, b) ≡ (side r.0 o.0, side r.0 o.1))
      = In-map (λ (o : ℕ × ℕ). (slice_index (square_edges g r.0) o.0, slice_index (square_edges g r.0) o.1)) (a, b) (segs r.0) r.2 in
      record {
        square = r.0;
        in_plane = r.1;
        at = o.0;
        segment = o.1;
        from = ap (λ (z : ℕ × ℕ). z.0) o.2;
        to = ap (λ (z : ℕ × ℕ). z.1) o.2;
      }

  -- edge i of a square runs from the lower to the upper end of its lattice edge where i is 0 or 1, and else back
  abbrev pub along : ℕ → Bool
  along i = ltb i 2

  pub lower_is : (p a : ℕ) → a < 3 → edge_lower (edge_name p a) ≡ p
  lower_is p a h = omega arith

  pub upper_is : (p a : ℕ) → a < 3 → edge_upper g (edge_name p a) ≡ p + stride g a
  upper_is p a h =
      let e : edge_name p a % 3 ≡ a = omega arith in
      ap (λ z. z + stride g (edge_name p a % 3)) (lower_is p a h) ∙ ap (λ z. p + stride g z) e

  not_false : (b : Bool) → not b ≡ true → b ≡ false
  not_false true h = sym h
  not_false false h = refl

  -- the signs at the ends of the lattice edge of an up-crossing, and of a down-crossing
  abbrev pub Rises : ℕ → Bool → Type 0
  Rises e b = (is_above (s (edge_upper g e)) ≡ b) × (is_above (s (edge_lower e)) ≡ not b)

  sign_at : (p q : ℕ) (b : Bool) → p ≡ q → is_above (s q) ≡ b → is_above (s p) ≡ b
  sign_at p q b e h = ap (λ z. is_above (s z)) e ∙ h

  pub up_signs : (p i : ℕ) → i < 4 → is_up (corner_signs p) i ≡ true → Rises (side p i) (along i)
  up_signs p = by_four (λ i. is_up (corner_signs p) i ≡ true → Rises (side p i) (along i))
      (λ h. let t = and_parts _ _ h in
      (sign_at (edge_upper g (edge_name p 0)) (p + 1) true (upper_is p 0 (omega arith)) t.1, sign_at (edge_lower (edge_name p 0)) p false (lower_is p 0 (omega arith)) (not_false _ t.0)))
      (λ h. let t = and_parts _ _ h in (
        sign_at (edge_upper g (edge_name (p + 1) 1)) (p + g.nx + 1) true (upper_is (p + 1) 1 (omega arith) ∙ omega arith) t.1,
        sign_at (edge_lower (edge_name (p + 1) 1)) (p + 1) false (lower_is (p + 1) 1 (omega arith)) (not_false _ t.0),
      ))
      (λ h. let t = and_parts _ _ h in (
        sign_at (edge_upper g (edge_name (p + g.nx) 0)) (p + g.nx + 1) false (upper_is (p + g.nx) 0 (omega arith)) (not_false _ t.0),
        sign_at (edge_lower (edge_name (p + g.nx) 0)) (p + g.nx) true (lower_is (p + g.nx) 0 (omega arith)) t.1,
      ))
      (λ h. let t = and_parts _ _ h in
      (sign_at (edge_upper g (edge_name p 1)) (p + g.nx) false (upper_is p 1 (omega arith)) (not_false _ t.0), sign_at (edge_lower (edge_name p 1)) p true (lower_is p 1 (omega arith)) t.1))

  pub down_signs : (p i : ℕ) → i < 4 → is_down (corner_signs p) i ≡ true → Rises (side p i) (not (along i))
  down_signs p = by_four (λ i. is_down (corner_signs p) i ≡ true → Rises (side p i) (not (along i)))
      (λ h. let t = and_parts _ _ h in
      (sign_at (edge_upper g (edge_name p 0)) (p + 1) false (upper_is p 0 (omega arith)) (not_false _ t.1), sign_at (edge_lower (edge_name p 0)) p true (lower_is p 0 (omega arith)) t.0))
      (λ h. let t = and_parts _ _ h in (
        sign_at (edge_upper g (edge_name (p + 1) 1)) (p + g.nx + 1) false (upper_is (p + 1) 1 (omega arith) ∙ omega arith) (not_false _ t.1),
        sign_at (edge_lower (edge_name (p + 1) 1)) (p + 1) true (lower_is (p + 1) 1 (omega arith)) t.0,
      ))
      (λ h. let t = and_parts _ _ h in (
        sign_at (edge_upper g (edge_name (p + g.nx) 0)) (p + g.nx + 1) true (upper_is (p + g.nx) 0 (omega arith)) t.0,
        sign_at (edge_lower (edge_name (p + g.nx) 0)) (p + g.nx) false (lower_is (p + g.nx) 0 (omega arith)) (not_false _ t.1),
      ))
      (λ h. let t = and_parts _ _ h in
      (sign_at (edge_upper g (edge_name p 1)) (p + g.nx) true (upper_is p 1 (omega arith)) t.0, sign_at (edge_lower (edge_name p 1)) p false (lower_is p 1 (omega arith)) (not_false _ t.1)))

  pub side_axis : (p i : ℕ) → i < 4 → side p i % 3 ≡ i % 2
  side_axis p = by_four (λ i. side p i % 3 ≡ i % 2) (omega arith) (omega arith) (omega arith) (omega arith)

  same_square : (p q i : ℕ) → i < 4 → side p i ≡ side q i → p ≡ q
  same_square p q = by_four (λ i. side p i ≡ side q i → p ≡ q) (λ e. omega arith) (λ e. omega arith) (λ e. omega arith) (λ e. omega arith)

  -- one edge of one square alone runs a lattice edge in one direction
  one_side : (p i q j : ℕ) → i < 4 → j < 4 → side p i ≡ side q j → along i ≡ along j → (p ≡ q) × (i ≡ j)
  one_side p i q j hi hj e f =
      let x : i % 2 ≡ j % 2 = sym (side_axis p i hi) ∙ (ap (λ z. z % 3) e ∙ side_axis q j hj) in
      let same : i ≡ j = elim (cases_lt i 2) [
        | inl a ↦ (let b : j < 2 = ltb-true j 2 (sym f ∙ lt-ltb i 2 a) in omega arith)
        | inr a ↦ elim (cases_lt j 2) [
          | inl b ↦ (let c : i < 2 = ltb-true i 2 (f ∙ lt-ltb j 2 b) in omega arith)
          | inr b ↦ omega arith
        ]
      ] in
      (same_square p q i hi (e ∙ ap (side q) (sym same)), same)

  pub one_up : (p i q j : ℕ) → i < 4 → j < 4 → side p i ≡ side q j → is_up (corner_signs p) i ≡ true → is_up (corner_signs q) j ≡ true → (p ≡ q) × (i ≡ j)
  one_up p i q j hi hj e u v =
      one_side p i q j hi hj e (sym (up_signs p i hi u).0 ∙ (ap (λ z. is_above (s (edge_upper g z))) e ∙ (up_signs q j hj v).0))

  pub one_down : (p i q j : ℕ) → i < 4 → j < 4 → side p i ≡ side q j → is_down (corner_signs p) i ≡ true → is_down (corner_signs q) j ≡ true → (p ≡ q) × (i ≡ j)
  one_down p i q j hi hj e u v =
      one_side p i q j hi hj e
      (turn (along i) (along j) (sym (down_signs p i hi u).0 ∙ (ap (λ z. is_above (s (edge_upper g z))) e ∙ (down_signs q j hj v).0)))
    where
      turn : (a b : Bool) → not a ≡ not b → a ≡ b
      turn true true h = refl
      turn true false h = sym h
      turn false true h = sym h
      turn false false h = refl

  -- what a segment of a square joins
  pub first_up : (p : ℕ) (o : ℕ × ℕ) → In o (segs p) → (o.0 < 4) × (is_up (corner_signs p) o.0 ≡ true)
  first_up p o i =
      let l : o.0 < 4 = (small (s p) (s (p + 1)) (s (p + g.nx + 1)) (s (p + g.nx)) o i).0 in
      (l, sym (row (s p) (s (p + 1)) (s (p + g.nx + 1)) (s (p + g.nx)) o.0 l).up ∙ any_in (λ (q : ℕ × ℕ). eqb q.0 o.0) (segs p) o i (eq-eqb o.0 o.0 refl))

  pub second_down : (p : ℕ) (o : ℕ × ℕ) → In o (segs p) → (o.1 < 4) × (is_down (corner_signs p) o.1 ≡ true)
  second_down p o i =
      let l : o.1 < 4 = (small (s p) (s (p + 1)) (s (p + g.nx + 1)) (s (p + g.nx)) o i).1 in
      (l, sym (row (s p) (s (p + 1)) (s (p + g.nx + 1)) (s (p + g.nx)) o.1 l).down ∙ any_in (λ (q : ℕ × ℕ). eqb q.1 o.1) (segs p) o i (eq-eqb o.1 o.1 refl))

  same_bool : (a b : Bool) → (a ≡ true → b ≡ true) → (b ≡ true → a ≡ true) → a ≡ b
  same_bool true b h k = sym (h refl)
  same_bool false true h k = k refl
  same_bool false false h k = refl

  abbrev name : ℕ → ℕ × ℕ → ℕ × ℕ
  name p o = (side p o.0, side p o.1)

  found_begin : (p e : ℕ) → 0 < count_by (λ (q : ℕ × ℕ). eqb q.0 e) (square_pairs g s p) → (o : ℕ × ℕ) × In o (segs p) × (side p o.0 ≡ e)
  found_begin p e h =
      let r : (o : ℕ × ℕ) × In o (segs p) × (eqb (side p o.0) e ≡ true)
      = count_finds (λ (o : ℕ × ℕ). eqb (side p o.0) e) (segs p) (subst (λ n. 0 < n) (count-map (λ (q : ℕ × ℕ). eqb q.0 e) (name p) (segs p)) h) in
      (r.0, r.1, eqb-true _ _ r.2)

  found_end : (p e : ℕ) → 0 < count_by (λ (q : ℕ × ℕ). eqb q.1 e) (square_pairs g s p) → (o : ℕ × ℕ) × In o (segs p) × (side p o.1 ≡ e)
  found_end p e h =
      let r : (o : ℕ × ℕ) × In o (segs p) × (eqb (side p o.1) e ≡ true)
      = count_finds (λ (o : ℕ × ℕ). eqb (side p o.1) e) (segs p) (subst (λ n. 0 < n) (count-map (λ (q : ℕ × ℕ). eqb q.1 e) (name p) (segs p)) h) in
      (r.0, r.1, eqb-true _ _ r.2)

  square_begun : (p e : ℕ) → count_by (λ (q : ℕ × ℕ). eqb q.0 e) (square_pairs g s p) ≤ 1
  square_begun p e =
      elim (cases_lt 0 (count_by (λ (q : ℕ × ℕ). eqb q.0 e) (square_pairs g s p))) [
        | inr z ↦ omega arith
        | inl h ↦ (
            let f : (o : ℕ × ℕ) × In o (segs p) × (side p o.0 ≡ e) = found_begin p e h in
            let u : (f.0.0 < 4) × (is_up (corner_signs p) f.0.0 ≡ true) = first_up p f.0 f.1 in
            let m : count_by (λ (q : ℕ × ℕ). eqb q.0 e) (square_pairs g s p) ≡ count_by (λ (o : ℕ × ℕ). eqb (side p o.0) e) (segs p) = count-map (λ (q : ℕ × ℕ). eqb q.0 e) (name p) (segs p) in
            let a : count_by (λ (o : ℕ × ℕ). eqb (side p o.0) e) (segs p) ≡ count_by (λ (o : ℕ × ℕ). eqb o.0 f.0.0) (segs p)
            = count_agree (λ (o : ℕ × ℕ). eqb (side p o.0) e) (λ (o : ℕ × ℕ). eqb o.0 f.0.0) (segs p) (λ o i.
            same_bool _ _
            (λ t. let v : (o.0 < 4) × (is_up (corner_signs p) o.0 ≡ true) = first_up p o i in
            eq-eqb _ _ (one_up p o.0 p f.0.0 v.0 u.0 (eqb-true _ _ t ∙ sym f.2) v.1 u.1).1)
            (λ t. eq-eqb _ _ (ap (side p) (eqb-true _ _ t) ∙ f.2))) in
            let r : count_by (λ (o : ℕ × ℕ). eqb o.0 f.0.0) (segs p) ≤ 1 = (row (s p) (s (p + 1)) (s (p + g.nx + 1)) (s (p + g.nx)) f.0.0 u.0).begun in
            omega arith)
      ]

  square_ended : (p e : ℕ) → count_by (λ (q : ℕ × ℕ). eqb q.1 e) (square_pairs g s p) ≤ 1
  square_ended p e =
      elim (cases_lt 0 (count_by (λ (q : ℕ × ℕ). eqb q.1 e) (square_pairs g s p))) [
        | inr z ↦ omega arith
        | inl h ↦ (
            let f : (o : ℕ × ℕ) × In o (segs p) × (side p o.1 ≡ e) = found_end p e h in
            let u : (f.0.1 < 4) × (is_down (corner_signs p) f.0.1 ≡ true) = second_down p f.0 f.1 in
            let m : count_by (λ (q : ℕ × ℕ). eqb q.1 e) (square_pairs g s p) ≡ count_by (λ (o : ℕ × ℕ). eqb (side p o.1) e) (segs p) = count-map (λ (q : ℕ × ℕ). eqb q.1 e) (name p) (segs p) in
            let a : count_by (λ (o : ℕ × ℕ). eqb (side p o.1) e) (segs p) ≡ count_by (λ (o : ℕ × ℕ). eqb o.1 f.0.1) (segs p)
            = count_agree (λ (o : ℕ × ℕ). eqb (side p o.1) e) (λ (o : ℕ × ℕ). eqb o.1 f.0.1) (segs p) (λ o i.
            same_bool _ _
            (λ t. let v : (o.1 < 4) × (is_down (corner_signs p) o.1 ≡ true) = second_down p o i in
            eq-eqb _ _ (one_down p o.1 p f.0.1 v.0 u.0 (eqb-true _ _ t ∙ sym f.2) v.1 u.1).1)
            (λ t. eq-eqb _ _ (ap (side p) (eqb-true _ _ t) ∙ f.2))) in
            let r : count_by (λ (o : ℕ × ℕ). eqb o.1 f.0.1) (segs p) ≤ 1 = (row (s p) (s (p + 1)) (s (p + g.nx + 1)) (s (p + g.nx)) f.0.1 u.0).ended in
            omega arith)
      ]

  abbrev is_square : ℕ → Bool
  is_square p = eqb (coordinate g 2 p) k && (has_next g 0 p && has_next g 1 p)

  pub single : IsSingle ps
  single = record {
    begun = λ e. count_once (λ (q : ℕ × ℕ). eqb q.0 e) (square_pairs g s) (squares g k)
        (Distinct-filter is_square (below (point_count g)) (Distinct-range 0 (point_count g)))
        (λ p i. square_begun p e)
        (λ p q i j h l.
        (let f : (o : ℕ × ℕ) × In o (segs p) × (side p o.0 ≡ e) = found_begin p e h in
        let d : (o : ℕ × ℕ) × In o (segs q) × (side q o.0 ≡ e) = found_begin q e l in
        let u : (f.0.0 < 4) × (is_up (corner_signs p) f.0.0 ≡ true) = first_up p f.0 f.1 in
        let v : (d.0.0 < 4) × (is_up (corner_signs q) d.0.0 ≡ true) = first_up q d.0 d.1 in
        (one_up p f.0.0 q d.0.0 u.0 v.0 (f.2 ∙ sym d.2) u.1 v.1).0));
    ended = λ e. count_once (λ (q : ℕ × ℕ). eqb q.1 e) (square_pairs g s) (squares g k)
        (Distinct-filter is_square (below (point_count g)) (Distinct-range 0 (point_count g)))
        (λ p i. square_ended p e)
        (λ p q i j h l.
        (let f : (o : ℕ × ℕ) × In o (segs p) × (side p o.1 ≡ e) = found_end p e h in
        let d : (o : ℕ × ℕ) × In o (segs q) × (side q o.1 ≡ e) = found_end q e l in
        let u : (f.0.1 < 4) × (is_down (corner_signs p) f.0.1 ≡ true) = second_down p f.0 f.1 in
        let v : (d.0.1 < 4) × (is_down (corner_signs q) d.0.1 ≡ true) = second_down q d.0 d.1 in
        (one_down p f.0.1 q d.0.1 u.0 v.0 (f.2 ∙ sym d.2) u.1 v.1).0));
  }

  -- where a square of the plane is
  pub record Spot (p : ℕ) : Type 0 where
    pub x : ℕ
    pub y : ℕ
    pub hx : x + 1 < g.nx
    pub hy : y + 1 < g.ny
    pub hz : k < g.nz
    pub is : p ≡ index g x y k

  pub spot : (p : ℕ) → 0 < g.nz → In p (squares g k) → Spot p
  spot p deep i =
      let r : In p (below (point_count g)) × (is_square p ≡ true) = In-filter is_square p (below (point_count g)) i in
      let t : (eqb (coordinate g 2 p) k ≡ true) × ((has_next g 0 p && has_next g 1 p) ≡ true) = and_parts _ _ r.1 in
      let u : (has_next g 0 p ≡ true) × (has_next g 1 p ≡ true) = and_parts _ _ t.1 in
      let z : coordinate g 2 p ≡ k = eqb-true _ _ t.0 in
      let hz : coordinate g 2 p < g.nz = omega arith in
      record {
        x = coordinate g 0 p;
        y = coordinate g 1 p;
        hx = ltb-true _ _ u.0;
        hy = ltb-true _ _ u.1;
        hz = subst (λ n. n < g.nz) z hz;
        is = sym (index_of_point g p (in_below (point_count g) p r.0)) ∙ ap (index g (coordinate g 0 p) (coordinate g 1 p)) z;
      }

  pub square_at : (x y : ℕ) → x + 1 < g.nx → y + 1 < g.ny → k < g.nz → In (index g x y k) (squares g k)
  square_at x y hx hy hz =
      let lx : x < g.nx = omega arith in
      let ly : y < g.ny = omega arith in
      let p : ℕ = index g x y k in
      in_filter is_square p (below (point_count g)) (below_in (point_count g) p (index_in g x y k lx ly hz))
      (and_from _ _ (eq-eqb _ _ (z_index g x y k lx ly hz)) (and_from _ _
      (lt-ltb _ _ (subst (λ n. n + 1 < g.nx) (sym (x_index g x y k lx ly hz)) hx))
      (lt-ltb _ _ (subst (λ n. n + 1 < g.ny) (sym (y_index g x y k lx ly hz)) hy))))

  -- each edge of a square is a lattice edge of the grid
  pub side_low : (p i : ℕ) → 0 < g.nz → In p (squares g k) → i < 4 → side p i < name_bound g
  side_low p i deep j =
      let m : Spot p = spot p deep j in
      let lx : m.x < g.nx = let h = m.hx in omega arith in
      let ly : m.y < g.ny = let h = m.hy in omega arith in
      let a : p < point_count g = subst (λ n. n < point_count g) (sym m.is) (index_in g m.x m.y k lx ly m.hz) in
      let b : p + 1 < point_count g
      = subst (λ n. n < point_count g) (right m.x m.y g.nx g.ny ∙ ap (λ n. n + 1) (sym m.is)) (index_in g (m.x + 1) m.y k m.hx ly m.hz) in
      let c : p + g.nx < point_count g
      = subst (λ n. n < point_count g) (up m.x m.y g.nx g.ny ∙ ap (λ n. n + g.nx) (sym m.is)) (index_in g m.x (m.y + 1) k lx m.hy m.hz) in
      by_four (λ i. side p i < name_bound g) (times p 0 a (omega arith)) (times (p + 1) 1 b (omega arith)) (times (p + g.nx) 0 c (omega arith)) (times p 1 a (omega arith)) i
    where
      right : (x y m n : ℕ) → x + 1 + m * (y + n * k) ≡ x + m * (y + n * k) + 1
      right x y m n = omega arith

      up : (x y m n : ℕ) → x + m * (y + 1 + n * k) ≡ x + m * (y + n * k) + m
      up x y m n = omega arith

      times : (q a : ℕ) → q < point_count g → a < 3 → edge_name q a < name_bound g
      times q a h l = omega arith

  pub low : 0 < g.nz → (a b : ℕ) → In (a, b) ps → (a < name_bound g) × (b < name_bound g)
  low deep a b i =
      let o : Source a b = source a b i in (
        subst (λ n. n < name_bound g) (sym o.from) (side_low o.square o.at.0 deep o.in_plane (first_up o.square o.at o.segment).0),
        subst (λ n. n < name_bound g) (sym o.to) (side_low o.square o.at.1 deep o.in_plane (second_down o.square o.at o.segment).0),
      )
