-- What the code of a plane knows, by coordinates.
use Rattle.std.proofs.Common.{◌≡◌, ℕ, ◌+◌, ◌*◌, ◌<◌, Bool, true, false, not, ◌==◌, Some, None, slice_index, get_or, length, List, [], ◌∷◌, refl, sym, inl, inr, cond, ◌∙◌, ap, subst, arith, eqb, ℤ, ◌^◌, unsigned_abs, to_z, of_z, w64}
use Rattle.std.proofs.lemmas.Int.{to_z-of_z, fits_signed_from_abs}
use Rattle.iso_defs.specs.Grid.{is_above, Grid, index, edge_name, edge_lower, edge_upper}
use Rattle.iso_defs.specs.Lists.{has_pair}
use Rattle.iso_defs.specs.Face.{value_segments, is_joined}
use Rattle.triangle_laws.proofs.Fans.{in_is_in}
use Rattle.plane_laws.specs.Sides.{side, side_pairs, runs_along, HasSide}
use Rattle.plane_laws.proofs.Squares.{Rises, square_at}
use Rattle.plane_laws.proofs.Places.{HasSquare, up_from, down_from, up_begins, down_ends, square_pair}
use Rattle.mesh_laws.proofs.Neighbours.{by_four}
use Rattle.triangle_laws.proofs.Lists.{In, any_in}
use Rattle.std.proofs.lemmas.Bool.{both_ways, eqb-true, eq-eqb, cases_lt, lt-ltb}
use Rattle.std.specs.List.{position, position_or_len}
use Rattle.std.proofs.lemmas.List.Sums.{fails_before_first}
use Rattle.std.proofs.Math.Bool.{beq}
use Rattle.iso_defs.specs.Contours.{squares}
use Rattle.plane_contour.specs.declared.plane.Plane.{Plane}
use Rattle.plane_contour.specs.declared.plane.Edge.{Edge}
use Rattle.plane_contour.specs.declared.plane.Side.{Side}
use Rattle.plane_contour.specs.Planes.{IsPlane, IsEdge, IsSideOf, IsNext, IsPrevious, field_of, pairs_of, name_at, square_side}

pub four_same : {a b c d e f g h : Bool} → a ≡ e → b ≡ f → c ≡ g → d ≡ h → (a ∷ b ∷ c ∷ d ∷ []) ≡ (e ∷ f ∷ g ∷ h ∷ [])
four_same {a} {b} {c} {d} {e} {f} {g} {h} p q r s =
    ap (λ z. z ∷ b ∷ c ∷ d ∷ []) p ∙ (ap (λ z. e ∷ z ∷ c ∷ d ∷ []) q ∙ (ap (λ z. e ∷ f ∷ z ∷ d ∷ []) r ∙ ap (λ z. e ∷ f ∷ g ∷ z ∷ []) s))

-- a small number as the code hands it on
pub exact : (z : ℤ) → unsigned_abs z < 2 ^ 44 → to_z w64 (of_z w64 z) ≡ z
exact z h = to_z-of_z w64 z (fits_signed_from_abs w64 z (omega arith))

pub exact_above : (z : ℤ) → unsigned_abs z < 2 ^ 44 → is_above (to_z w64 (of_z w64 z)) ≡ is_above z
exact_above z h = ap is_above (exact z h)

pub exact_joined : (a b c d : ℤ) → unsigned_abs a < 2 ^ 44 → unsigned_abs b < 2 ^ 44 → unsigned_abs c < 2 ^ 44 → unsigned_abs d < 2 ^ 44
    → is_joined (to_z w64 (of_z w64 a)) (to_z w64 (of_z w64 b)) (to_z w64 (of_z w64 c)) (to_z w64 (of_z w64 d)) ≡ is_joined a b c d
exact_joined a b c d p q r s =
    ap (λ z. is_joined z (to_z w64 (of_z w64 b)) (to_z w64 (of_z w64 c)) (to_z w64 (of_z w64 d))) (exact a p)
    ∙ (ap (λ z. is_joined a z (to_z w64 (of_z w64 c)) (to_z w64 (of_z w64 d))) (exact b q)
    ∙ (ap (λ z. is_joined a b z (to_z w64 (of_z w64 d))) (exact c r) ∙ ap (is_joined a b c) (exact d s)))

module _ (g : Grid) (s : ℕ → ℤ) (k x y : ℕ) where
  -- the corners of a square
  right : index g (x + 1) y k ≡ index g x y k + 1
  right = go x y g.nx g.ny
    where
      go : (x y m n : ℕ) → x + 1 + m * (y + n * k) ≡ x + m * (y + n * k) + 1
      go x y m n = omega arith

  ahead : index g x (y + 1) k ≡ index g x y k + g.nx
  ahead = go x y g.nx g.ny
    where
      go : (x y m n : ℕ) → x + m * (y + 1 + n * k) ≡ x + m * (y + n * k) + m
      go x y m n = omega arith

  over : index g (x + 1) (y + 1) k ≡ index g x y k + g.nx + 1
  over = go x y g.nx g.ny
    where
      go : (x y m n : ℕ) → x + 1 + m * (y + 1 + n * k) ≡ x + m * (y + n * k) + m + 1
      go x y m n = omega arith

  -- the segments of a square, from the values at its corners
  pub corners_same : (a b c d : ℤ) → a ≡ s (index g x y k) → b ≡ s (index g (x + 1) y k) → c ≡ s (index g (x + 1) (y + 1) k) → d ≡ s (index g x (y + 1) k)
      → value_segments a b c d ≡ side_pairs g s (index g x y k)
  corners_same a b c d p q r t =
      let p0 : ℕ = index g x y k in
      ap (λ z. value_segments z b c d) p
      ∙ (ap (λ z. value_segments (s p0) z c d) (q ∙ ap s right)
      ∙ (ap (λ z. value_segments (s p0) (s (p0 + 1)) z d) (r ∙ ap s over)
      ∙ ap (λ z. value_segments (s p0) (s (p0 + 1)) (s (p0 + g.nx + 1)) z) (t ∙ ap s ahead)))

  -- the names of the four sides of a square
  pub side_first : side g (index g x y k) 0 ≡ edge_name (index g x y k) 0
  side_first = refl

  pub side_second : side g (index g x y k) 1 ≡ edge_name (index g (x + 1) y k) 1
  side_second = ap (λ p. edge_name p 1) (sym right)

  pub side_third : side g (index g x y k) 2 ≡ edge_name (index g x (y + 1) k) 0
  side_third = ap (λ p. edge_name p 0) (sym ahead)

  pub side_fourth : side g (index g x y k) 3 ≡ edge_name (index g x y k) 1
  side_fourth = refl

-- a square that has an edge, as laws say it
pub as_square : (g : Grid) (s : ℕ → ℤ) (k e : ℕ) (b : Bool) → HasSide g k e b → HasSquare g s k e b
as_square g s k e b h = (h.point, h.at, in_is_in h.point _ h.square, h.known, h.edge, h.direction)

pub no_side : (g : Grid) (s : ℕ → ℤ) (k e : ℕ) (b : Bool) → HasSquare g s k e b → HasSide g k e b
no_side g s k e b (p, i, l, h, n, d) = record { point = p; at = i; square = any_in (λ y. eqb y p) (squares g k) p l (eq-eqb p p refl); known = h; edge = n; direction = d }

pub beq_same : (x y : Bool) → beq x y ≡ true → x ≡ y
beq_same true true h = refl
beq_same true false h = absurd (both_ways true (sym h) refl)
beq_same false true h = absurd (both_ways true (sym h) refl)
beq_same false false h = refl

-- what passes is found
pub never : (p : ℕ → Bool) (xs : List ℕ) (i : ℕ) → position p xs ≡ None → i < length xs → p (get_or xs i 0) ≡ true → ⊥
never p xs i e l h =
    elim (cases_lt (position_or_len p xs) (length xs)) [
      | inl low ↦ (let k : Some (position_or_len p xs) ≡ None = sym (ap (λ b. cond b (Some (position_or_len p xs)) None) (lt-ltb _ _ low)) ∙ e in cc)
      | inr high ↦ both_ways (p (get_or xs i 0)) (fails_before_first p xs i 0 (omega arith)) h
    ]

side_name : (g : Grid) (s : ℕ → ℤ) (k x y j : ℕ) → j < 4 → side g (index g x y k) j ≡ name_at g k (square_side x y j)
side_name g s k x y = by_four (λ j. side g (index g x y k) j ≡ name_at g k (square_side x y j)) refl (side_second g s k x y) (side_third g s k x y) refl

side_is : (g : Grid) (x y j : ℕ) → x + 1 < g.nx → y + 1 < g.ny → j < 4 → IsEdge g (square_side x y j)
side_is g x y j hx hy =
    by_four (λ j. IsEdge g (square_side x y j))
    (record { x = omega arith; y = omega arith; known = omega arith; right = λ _. hx; ahead = λ h. absurd (omega arith) })
    (record { x = hx; y = omega arith; known = omega arith; right = λ h. absurd (omega arith); ahead = λ _. hy })
    (record { x = omega arith; y = hy; known = omega arith; right = λ _. hx; ahead = λ h. absurd (omega arith) })
    (record { x = omega arith; y = omega arith; known = omega arith; right = λ h. absurd (omega arith); ahead = λ _. hy }) j

-- the ends of the segments of a square, as the code has them
abbrev pub AreEnds : Plane → Side → List ℕ → Type 0
AreEnds p q ends = (i k : ℕ) → i < 4 → k < 4 → (slice_index ends i == k) ≡ has_pair (side_pairs p.sizes (field_of p) (index p.sizes q.x q.y p.k)) i k

module _ (p : Plane) (is : IsPlane p) (e : Edge) (q : Side) (b lower upper : Bool) (at : IsSideOf p e b q)
    (low : lower ≡ is_above (field_of p (edge_lower (name_at p.sizes p.k e)))) (up : upper ≡ is_above (field_of p (edge_upper p.sizes (name_at p.sizes p.k e))))
    (differ : beq lower upper ≡ false) (ends : List ℕ) (are : AreEnds p q ends) where
  point : ℕ
  point = index p.sizes q.x q.y p.k

  inside : In (index p.sizes q.x q.y p.k) (squares p.sizes p.k)
  inside = square_at p.sizes (field_of p) p.k q.x q.y at.x at.y is.within

  other : (x y : Bool) → beq x y ≡ false → x ≡ not y
  other true true h = absurd (both_ways true h refl)
  other true false h = refl
  other false true h = refl
  other false false h = absurd (both_ways true h refl)

  flip : (x y : Bool) → x ≡ not y → y ≡ not x
  flip true true h = h
  flip true false h = refl
  flip false true h = refl
  flip false false h = h

  -- an edge at which a segment begins, and where that ends
  pub next_found : b ≡ upper → IsNext p (name_at p.sizes p.k e) (Some (square_side q.x q.y (slice_index ends q.number)))
  next_found d =
      let g : Grid = p.sizes in
      let s : ℕ → ℤ = field_of p in
      let pt : ℕ = index p.sizes q.x q.y p.k in
      let a : upper ≡ runs_along q.number = sym d ∙ sym at.direction in
      let rises : Rises g s p.k (name_at g p.k e) (runs_along q.number)
      = (sym up ∙ a, sym low ∙ (other lower upper differ ∙ ap not a)) in
      let there : Rises g s p.k (side g pt q.number) (runs_along q.number) = subst (λ n. Rises g s p.k n (runs_along q.number)) (sym at.edge) rises in
      let j : (j : ℕ) × (j < 4) × (has_pair (side_pairs g s pt) q.number j ≡ true) = up_begins g s p.k pt q.number at.known (up_from g s p.k pt q.number at.known there) in
      let m : slice_index ends q.number ≡ j.0 = eqb-true _ _ (are q.number j.0 at.known j.1 ∙ j.2) in
      let pair : has_pair (pairs_of p) (side g pt q.number) (side g pt j.0) ≡ true = square_pair g s p.k pt q.number j.0 inside j.2 in
      subst (λ n. IsNext p (name_at g p.k e) (Some (square_side q.x q.y n))) (sym m) (
        side_is g q.x q.y j.0 at.x at.y j.1,
        ap (λ n. has_pair (pairs_of p) n (name_at g p.k (square_side q.x q.y j.0))) (sym at.edge)
            ∙ (ap (has_pair (pairs_of p) (side g pt q.number)) (sym (side_name g s p.k q.x q.y j.0 j.1)) ∙ pair),
      )

  -- an edge at which a segment ends, and where that begins
  pub previous_found : (start : ℕ) → start < 4 → slice_index ends start ≡ q.number → IsPrevious p (name_at p.sizes p.k e) (Some (square_side q.x q.y start))
  previous_found start h f =
      let g : Grid = p.sizes in
      let s : ℕ → ℤ = field_of p in
      let pt : ℕ = index p.sizes q.x q.y p.k in
      let has : has_pair (side_pairs g s pt) start q.number ≡ true = sym (are start q.number h at.known) ∙ eq-eqb _ _ f in
      let pair : has_pair (pairs_of p) (side g pt start) (side g pt q.number) ≡ true = square_pair g s p.k pt start q.number inside has in (
        side_is g q.x q.y start at.x at.y h,
        ap (λ n. has_pair (pairs_of p) n (name_at g p.k e)) (sym (side_name g s p.k q.x q.y start h))
            ∙ (ap (has_pair (pairs_of p) (side g pt start)) (sym at.edge) ∙ pair),
      )

  pub some_previous : b ≡ lower → ((start : ℕ) → start < 4 → slice_index ends start ≡ q.number → ⊥) → ⊥
  some_previous d none =
      let g : Grid = p.sizes in
      let s : ℕ → ℤ = field_of p in
      let pt : ℕ = index p.sizes q.x q.y p.k in
      let a : lower ≡ runs_along q.number = sym d ∙ sym at.direction in
      let falls : Rises g s p.k (name_at g p.k e) (not (runs_along q.number))
      = (sym up ∙ (flip lower upper (other lower upper differ) ∙ ap not a), sym low ∙ (a ∙ sym (twice (runs_along q.number)))) in
      let there : Rises g s p.k (side g pt q.number) (not (runs_along q.number)) = subst (λ n. Rises g s p.k n (not (runs_along q.number))) (sym at.edge) falls in
      let j : (j : ℕ) × (j < 4) × (has_pair (side_pairs g s pt) j q.number ≡ true) = down_ends g s p.k pt q.number at.known (down_from g s p.k pt q.number at.known there) in
      none j.0 j.1 (eqb-true _ _ (are j.0 q.number j.1 at.known ∙ j.2))
    where
      twice : (x : Bool) → not (not x) ≡ x
      twice true = refl
      twice false = refl
