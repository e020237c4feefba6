-- Where the squares of a plane are that have a lattice edge, and what follows it and comes before it there.
use Rattle.std.proofs.Common.{◌≡◌, ℕ, ◌+◌, ◌*◌, ◌%◌, ◌<◌, Bool, List, true, false, not, refl, sym, ◌∙◌, ap, subst, inl, inr, ◌⊎◌, arith, ℤ, ltb}
use Rattle.std.proofs.lemmas.Bool.{cases_Bool, cases_lt, and_from, both_ways, ltb-true, lt-ltb}
use Rattle.iso_defs.specs.Lists.{begins, ends, has_pair}
use Rattle.iso_defs.specs.Grid.{Grid, index, coordinate, edge_lower, edge_upper, edge_name, is_above}
use Rattle.iso_defs.specs.Face.{is_up, is_down}
use Rattle.iso_defs.specs.Cell.{next_of}
use Rattle.iso_defs.specs.Contours.{squares, plane_pairs}
use Rattle.iso_defs.proofs.Points.{x_index, y_index}
use Rattle.triangle_laws.proofs.Lists.{In}
use Rattle.triangle_laws.proofs.Counts.{pair_in, in_pair}
use Rattle.triangle_laws.proofs.FanWalk.{next_in, ends_in}
use Rattle.mesh_laws.proofs.Neighbours.{by_four}
use Rattle.plane_laws.proofs.Squares.{side, segs, corner_signs, along, Rises, up_signs, down_signs, lower_is, upper_is, side_axis, pair_at, Source, source, first_up, second_down, Spot, spot, small, row}

module _ (g : Grid) (s : ℕ → ℤ) (k : ℕ) where
  abbrev ps : List (ℕ × ℕ)
  ps = plane_pairs g s k

  at_sign : (p q : ℕ) (b : Bool) → p ≡ q → is_above (s p) ≡ b → is_above (s q) ≡ b
  at_sign p q b e h = ap (λ z. is_above (s z)) (sym e) ∙ h

  -- where the signs at its ends are so, an edge of a square is an up-crossing there, or a down-crossing
  pub up_from : (p i : ℕ) → i < 4 → Rises g s k (side g s k p i) (along g s k i) → is_up (corner_signs g s k p) i ≡ true
  up_from p = by_four (λ i. Rises g s k (side g s k p i) (along g s k i) → is_up (corner_signs g s k p) i ≡ true)
      (λ h. and_from _ _ (ap not (at_sign (edge_lower (edge_name p 0)) p false (lower_is g s k p 0 (omega arith)) h.1))
      (at_sign (edge_upper g (edge_name p 0)) (p + 1) true (upper_is g s k p 0 (omega arith)) h.0))
      (λ h. and_from _ _ (ap not (at_sign (edge_lower (edge_name (p + 1) 1)) (p + 1) false (lower_is g s k (p + 1) 1 (omega arith)) h.1))
      (at_sign (edge_upper g (edge_name (p + 1) 1)) (p + g.nx + 1) true (upper_is g s k (p + 1) 1 (omega arith) ∙ omega arith) h.0))
      (λ h. and_from _ _ (ap not (at_sign (edge_upper g (edge_name (p + g.nx) 0)) (p + g.nx + 1) false (upper_is g s k (p + g.nx) 0 (omega arith)) h.0))
      (at_sign (edge_lower (edge_name (p + g.nx) 0)) (p + g.nx) true (lower_is g s k (p + g.nx) 0 (omega arith)) h.1))
      (λ h. and_from _ _ (ap not (at_sign (edge_upper g (edge_name p 1)) (p + g.nx) false (upper_is g s k p 1 (omega arith)) h.0))
      (at_sign (edge_lower (edge_name p 1)) p true (lower_is g s k p 1 (omega arith)) h.1))

  pub down_from : (p i : ℕ) → i < 4 → Rises g s k (side g s k p i) (not (along g s k i)) → is_down (corner_signs g s k p) i ≡ true
  down_from p = by_four (λ i. Rises g s k (side g s k p i) (not (along g s k i)) → is_down (corner_signs g s k p) i ≡ true)
      (λ h. and_from _ _ (at_sign (edge_lower (edge_name p 0)) p true (lower_is g s k p 0 (omega arith)) h.1)
      (ap not (at_sign (edge_upper g (edge_name p 0)) (p + 1) false (upper_is g s k p 0 (omega arith)) h.0)))
      (λ h. and_from _ _ (at_sign (edge_lower (edge_name (p + 1) 1)) (p + 1) true (lower_is g s k (p + 1) 1 (omega arith)) h.1)
      (ap not (at_sign (edge_upper g (edge_name (p + 1) 1)) (p + g.nx + 1) false (upper_is g s k (p + 1) 1 (omega arith) ∙ omega arith) h.0)))
      (λ h. and_from _ _ (at_sign (edge_upper g (edge_name (p + g.nx) 0)) (p + g.nx + 1) true (upper_is g s k (p + g.nx) 0 (omega arith)) h.0)
      (ap not (at_sign (edge_lower (edge_name (p + g.nx) 0)) (p + g.nx) false (lower_is g s k (p + g.nx) 0 (omega arith)) h.1)))
      (λ h. and_from _ _ (at_sign (edge_upper g (edge_name p 1)) (p + g.nx) true (upper_is g s k p 1 (omega arith)) h.0)
      (ap not (at_sign (edge_lower (edge_name p 1)) p false (lower_is g s k p 1 (omega arith)) h.1)))

  -- a square of the plane that runs the lattice edge from its lower to its upper end, or back
  abbrev pub HasSquare : ℕ → Bool → Type 0
  HasSquare e b = (p : ℕ) × (i : ℕ) × In p (squares g k) × (i < 4) × (side g s k p i ≡ e) × (along g s k i ≡ b)

  begins_in : (e : ℕ) → begins ps e ≡ true → HasSquare e (is_above (s (edge_upper g e))) × (is_above (s (edge_lower e)) ≡ not (is_above (s (edge_upper g e))))
  begins_in e h =
      let o : Source g s k e (next_of ps e) = source g s k e (next_of ps e) (next_in ps e h) in
      let u : (o.at.0 < 4) × (is_up (corner_signs g s k o.square) o.at.0 ≡ true) = first_up g s k o.square o.at o.segment in
      let r : Rises g s k (side g s k o.square o.at.0) (along g s k o.at.0) = up_signs g s k o.square o.at.0 u.0 u.1 in
      let t : Rises g s k e (along g s k o.at.0) = subst (λ z. Rises g s k z (along g s k o.at.0)) (sym o.from) r in (
        (o.square, o.at.0, o.in_plane, u.0, sym o.from, sym t.0),
        t.1 ∙ ap not (sym t.0),
      )

  ends_at : (e : ℕ) → ends ps e ≡ true → HasSquare e (is_above (s (edge_lower e))) × (is_above (s (edge_upper g e)) ≡ not (is_above (s (edge_lower e))))
  ends_at e h =
      let d : (d : ℕ) × In (d, e) ps = ends_in ps e h in
      let o : Source g s k d.0 e = source g s k d.0 e d.1 in
      let u : (o.at.1 < 4) × (is_down (corner_signs g s k o.square) o.at.1 ≡ true) = second_down g s k o.square o.at o.segment in
      let r : Rises g s k (side g s k o.square o.at.1) (not (along g s k o.at.1)) = down_signs g s k o.square o.at.1 u.0 u.1 in
      let t : Rises g s k e (not (along g s k o.at.1)) = subst (λ z. Rises g s k z (not (along g s k o.at.1))) (sym o.to) r in
      let low : is_above (s (edge_lower e)) ≡ along g s k o.at.1 = t.1 ∙ twice (along g s k o.at.1) in (
        (o.square, o.at.1, o.in_plane, u.0, sym o.to, sym low),
        t.0 ∙ ap not (sym low),
      )
    where
      twice : (b : Bool) → not (not b) ≡ b
      twice true = refl
      twice false = refl

  unlike : (a b : Bool) → a ≡ b → b ≡ not a → ⊥
  unlike true b e h = both_ways b h (sym e)
  unlike false b e h = both_ways b (sym e) h

  -- an edge whose ends are alike neither begins nor ends a segment
  pub alike_begins : (e : ℕ) → is_above (s (edge_lower e)) ≡ is_above (s (edge_upper g e)) → begins ps e ≡ false
  alike_begins e h =
      elim (cases_Bool (begins ps e)) [
        | inr n ↦ n
        | inl b ↦ absurd (unlike (is_above (s (edge_upper g e))) (is_above (s (edge_lower e))) (sym h) (begins_in e b).1)
      ]

  pub alike_ends : (e : ℕ) → is_above (s (edge_lower e)) ≡ is_above (s (edge_upper g e)) → ends ps e ≡ false
  alike_ends e h =
      elim (cases_Bool (ends ps e)) [
        | inr n ↦ n
        | inl b ↦ absurd (unlike (is_above (s (edge_lower e))) (is_above (s (edge_upper g e))) h (ends_at e b).1)
      ]

  -- nor does one that has no square on that side
  pub begins_none : (e : ℕ) → (HasSquare e (is_above (s (edge_upper g e))) → ⊥) → begins ps e ≡ false
  begins_none e out = elim (cases_Bool (begins ps e)) [ inr n ↦ n | inl b ↦ absurd (out (begins_in e b).0) ]

  pub ends_none : (e : ℕ) → (HasSquare e (is_above (s (edge_lower e))) → ⊥) → ends ps e ≡ false
  ends_none e out = elim (cases_Bool (ends ps e)) [ inr n ↦ n | inl b ↦ absurd (out (ends_at e b).0) ]

  -- an edge at which a segment begins or ends is an edge of a square
  pub active_square : (e : ℕ) → (begins ps e ≡ true) ⊎ (ends ps e ≡ true) → (b : Bool) × HasSquare e b
  active_square e (inl h) = (is_above (s (edge_upper g e)), (begins_in e h).0)
  active_square e (inr h) = (is_above (s (edge_lower e)), (ends_at e h).0)

  -- a segment of a square of the plane
  pub square_pair : (p i j : ℕ) → In p (squares g k) → has_pair (segs g s k p) i j ≡ true → has_pair ps (side g s k p i) (side g s k p j) ≡ true
  square_pair p i j l h = in_pair ps (side g s k p i) (side g s k p j) (pair_at g s k p (i, j) l (pair_in (segs g s k p) i j h))

  -- an up-crossing begins a segment of its square, and a down-crossing ends one
  pub up_begins : (p i : ℕ) → i < 4 → is_up (corner_signs g s k p) i ≡ true → (j : ℕ) × (j < 4) × (has_pair (segs g s k p) i j ≡ true)
  up_begins p i h u =
      let b : begins (segs g s k p) i ≡ true = (row (s p) (s (p + 1)) (s (p + g.nx + 1)) (s (p + g.nx)) i h).up ∙ u in
      let n : In (i, next_of (segs g s k p) i) (segs g s k p) = next_in (segs g s k p) i b in
      (next_of (segs g s k p) i, (small (s p) (s (p + 1)) (s (p + g.nx + 1)) (s (p + g.nx)) (i, next_of (segs g s k p) i) n).1, in_pair (segs g s k p) i (next_of (segs g s k p) i) n)

  pub down_ends : (p i : ℕ) → i < 4 → is_down (corner_signs g s k p) i ≡ true → (j : ℕ) × (j < 4) × (has_pair (segs g s k p) j i ≡ true)
  down_ends p i h u =
      let b : ends (segs g s k p) i ≡ true = (row (s p) (s (p + 1)) (s (p + g.nx + 1)) (s (p + g.nx)) i h).down ∙ u in
      let n : (j : ℕ) × In (j, i) (segs g s k p) = ends_in (segs g s k p) i b in
      (n.0, (small (s p) (s (p + 1)) (s (p + g.nx + 1)) (s (p + g.nx)) (n.0, i) n.1).0, in_pair (segs g s k p) n.0 i n.1)

  -- points of the plane by their coordinates
  module _ (x y : ℕ) (hx : x < g.nx) (hy : y < g.ny) (hz : k < g.nz) where
    same_point : (u v : ℕ) → u < g.nx → v < g.ny → index g u v k ≡ index g x y k → (u ≡ x) × (v ≡ y)
    same_point u v hu hv e = (
      sym (x_index g u v k hu hv hz) ∙ (ap (coordinate g 0) e ∙ x_index g x y k hx hy hz),
      sym (y_index g u v k hu hv hz) ∙ (ap (coordinate g 1) e ∙ y_index g x y k hx hy hz),
    )

    deep : 0 < g.nz
    deep = omega arith

    -- the squares on the two sides of an edge along x, and of an edge along y
    pub needs_after : HasSquare (edge_name (index g x y k) 0) true → y + 1 < g.ny
    needs_after (p, i, l, h, e, a) =
        let m : Spot g s k p = spot g s k p deep l in
        let z : i ≡ 0 = let q : i % 2 ≡ 0 = sym (side_axis g s k p i h) ∙ (ap (λ n. n % 3) e ∙ omega arith) in let b : i < 2 = ltb-true i 2 a in omega arith in
        let f : p ≡ index g x y k = let r : side g s k p 0 ≡ edge_name (index g x y k) 0 = ap (side g s k p) (sym z) ∙ e in omega arith in
        let t : (m.x ≡ x) × (m.y ≡ y) = same_point m.x m.y (let w = m.hx in omega arith) (let w = m.hy in omega arith) (sym m.is ∙ f) in
        subst (λ n. n + 1 < g.ny) t.1 m.hy

    pub needs_before : HasSquare (edge_name (index g x y k) 0) false → 0 < y
    needs_before (p, i, l, h, e, a) =
        let m : Spot g s k p = spot g s k p deep l in
        let z : i ≡ 2
        = let q : i % 2 ≡ 0 = sym (side_axis g s k p i h) ∙ (ap (λ n. n % 3) e ∙ omega arith) in
        elim (cases_lt i 2) [ inl b ↦ absurd (both_ways (ltb i 2) a (lt-ltb i 2 b)) | inr b ↦ omega arith ] in
        let f : p + g.nx ≡ index g x y k = let r : side g s k p 2 ≡ edge_name (index g x y k) 0 = ap (side g s k p) (sym z) ∙ e in omega arith in
        let t : (m.x ≡ x) × (m.y + 1 ≡ y) = same_point m.x (m.y + 1) (let w = m.hx in omega arith) m.hy (up m.x m.y g.nx g.ny ∙ (ap (λ n. n + g.nx) (sym m.is) ∙ f)) in
        omega arith
      where
        up : (x y m n : ℕ) → x + m * (y + 1 + n * k) ≡ x + m * (y + n * k) + m
        up x y m n = omega arith

    pub needs_left : HasSquare (edge_name (index g x y k) 1) true → 0 < x
    needs_left (p, i, l, h, e, a) =
        let m : Spot g s k p = spot g s k p deep l in
        let z : i ≡ 1 = let q : i % 2 ≡ 1 = sym (side_axis g s k p i h) ∙ (ap (λ n. n % 3) e ∙ omega arith) in let b : i < 2 = ltb-true i 2 a in omega arith in
        let f : p + 1 ≡ index g x y k = let r : side g s k p 1 ≡ edge_name (index g x y k) 1 = ap (side g s k p) (sym z) ∙ e in omega arith in
        let t : (m.x + 1 ≡ x) × (m.y ≡ y) = same_point (m.x + 1) m.y m.hx (let w = m.hy in omega arith) (right m.x m.y g.nx g.ny ∙ (ap (λ n. n + 1) (sym m.is) ∙ f)) in
        omega arith
      where
        right : (x y m n : ℕ) → x + 1 + m * (y + n * k) ≡ x + m * (y + n * k) + 1
        right x y m n = omega arith

    pub needs_right : HasSquare (edge_name (index g x y k) 1) false → x + 1 < g.nx
    needs_right (p, i, l, h, e, a) =
        let m : Spot g s k p = spot g s k p deep l in
        let z : i ≡ 3
        = let q : i % 2 ≡ 1 = sym (side_axis g s k p i h) ∙ (ap (λ n. n % 3) e ∙ omega arith) in
        elim (cases_lt i 2) [ inl b ↦ absurd (both_ways (ltb i 2) a (lt-ltb i 2 b)) | inr b ↦ omega arith ] in
        let f : p ≡ index g x y k = let r : side g s k p 3 ≡ edge_name (index g x y k) 1 = ap (side g s k p) (sym z) ∙ e in omega arith in
        let t : (m.x ≡ x) × (m.y ≡ y) = same_point m.x m.y (let w = m.hx in omega arith) (let w = m.hy in omega arith) (sym m.is ∙ f) in
        subst (λ n. n + 1 < g.nx) t.0 m.hx

    -- an edge of a square is an edge of the grid
    pub needs_width : (b : Bool) → HasSquare (edge_name (index g x y k) 0) b → x + 1 < g.nx
    needs_width b (p, i, l, h, e, a) =
        let m : Spot g s k p = spot g s k p deep l in
        let q : i % 2 ≡ 0 = sym (side_axis g s k p i h) ∙ (ap (λ n. n % 3) e ∙ omega arith) in
        elim (cases_lt i 1) [
          | inl low ↦ (
              let z : i ≡ 0 = omega arith in
              let f : p ≡ index g x y k = let r : side g s k p 0 ≡ edge_name (index g x y k) 0 = ap (side g s k p) (sym z) ∙ e in omega arith in
              let t : (m.x ≡ x) × (m.y ≡ y) = same_point m.x m.y (let w = m.hx in omega arith) (let w = m.hy in omega arith) (sym m.is ∙ f) in
              subst (λ n. n + 1 < g.nx) t.0 m.hx)
          | inr high ↦ (
              let z : i ≡ 2 = omega arith in
              let f : p + g.nx ≡ index g x y k = let r : side g s k p 2 ≡ edge_name (index g x y k) 0 = ap (side g s k p) (sym z) ∙ e in omega arith in
              let t : (m.x ≡ x) × (m.y + 1 ≡ y) = same_point m.x (m.y + 1) (let w = m.hx in omega arith) m.hy (up m.x m.y g.nx g.ny ∙ (ap (λ n. n + g.nx) (sym m.is) ∙ f)) in
              subst (λ n. n + 1 < g.nx) t.0 m.hx)
        ]
      where
        up : (x y m n : ℕ) → x + m * (y + 1 + n * k) ≡ x + m * (y + n * k) + m
        up x y m n = omega arith

    pub needs_height : (b : Bool) → HasSquare (edge_name (index g x y k) 1) b → y + 1 < g.ny
    needs_height b (p, i, l, h, e, a) =
        let m : Spot g s k p = spot g s k p deep l in
        let q : i % 2 ≡ 1 = sym (side_axis g s k p i h) ∙ (ap (λ n. n % 3) e ∙ omega arith) in
        elim (cases_lt i 2) [
          | inl low ↦ (
              let z : i ≡ 1 = omega arith in
              let f : p + 1 ≡ index g x y k = let r : side g s k p 1 ≡ edge_name (index g x y k) 1 = ap (side g s k p) (sym z) ∙ e in omega arith in
              let t : (m.x + 1 ≡ x) × (m.y ≡ y) = same_point (m.x + 1) m.y m.hx (let w = m.hy in omega arith) (right m.x m.y g.nx g.ny ∙ (ap (λ n. n + 1) (sym m.is) ∙ f)) in
              subst (λ n. n + 1 < g.ny) t.1 m.hy)
          | inr high ↦ (
              let z : i ≡ 3 = omega arith in
              let f : p ≡ index g x y k = let r : side g s k p 3 ≡ edge_name (index g x y k) 1 = ap (side g s k p) (sym z) ∙ e in omega arith in
              let t : (m.x ≡ x) × (m.y ≡ y) = same_point m.x m.y (let w = m.hx in omega arith) (let w = m.hy in omega arith) (sym m.is ∙ f) in
              subst (λ n. n + 1 < g.ny) t.1 m.hy)
        ]
      where
        right : (x y m n : ℕ) → x + 1 + m * (y + n * k) ≡ x + m * (y + n * k) + 1
        right x y m n = omega arith
