-- Points of lines, and lines followed, as the code has them.
use Rattle.std.proofs.Common.{◌≡◌, ℕ, zero, suc, ◌+◌, ◌*◌, ◌/◌, ◌%◌, ◌<◌, Bool, true, false, cond, ◌||◌, List, [], ◌∷◌, ◌++◌, map, length, get_or, set, refl, sym, inl, inr, ◌∙◌, ap, arith, eqb, Option, Some, None, append_assoc, append-nil, get_or-set_same, get_or-set_other}
use Rattle.std.specs.Option.{is_some}
use Rattle.std.proofs.lemmas.Bool.{both_ways, cases_Bool, cases_eq, eq-eqb, ne_eqb}
use Rattle.iso_defs.specs.Lists.{begins, ends, has_pair, is_in}
use Rattle.iso_defs.specs.Contours.{trace, line_from}
use Rattle.iso_defs.specs.Grid.{Grid, index, coordinate, edge_lower, edge_upper, edge_axis, is_above, differ}
use Rattle.iso_defs.specs.Place.{place, edge_coordinate}
use Rattle.iso_defs.proofs.Points.{x_index, y_index}
use Rattle.triangle_laws.proofs.Lists.{In}
use Rattle.triangle_laws.proofs.Counts.{pair_in}
use Rattle.triangle_laws.proofs.FanWalk.{begins_from, ends_from, next_in}
use Rattle.plane_laws.specs.Lines.{backwards, last_of, start_of}
use Rattle.plane_laws.specs.Sides.{slot_name}
use Rattle.plane_laws.proofs.Homes.{back_in, in_back, single_back}
use Rattle.plane_laws.proofs.Steps.{Going, going_start, going_on, goes, stops_back, stops_end}
use Rattle.plane_laws.proofs.Squares.{single, lower_is}
use Rattle.plane_laws.proofs.Slots.{slot_apart}
use Rattle.plane_laws.proofs.Places.{alike_begins, alike_ends}
use Rattle.plane_contour.specs.declared.plane.Plane.{Plane}
use Rattle.plane_contour.specs.declared.plane.Edge.{Edge}
use Rattle.plane_contour.specs.Planes.{IsPlane, IsEdge, IsActive, IsNext, IsPrevious, field_of, pairs_of, name_at, slot_of}
use Rattle.plane_contour.specs.Texts.{Point}

-- where a segment begins or ends, the signs differ
pub active_differs : (p : Plane) (e : ℕ) → IsActive (pairs_of p) e → differ (is_above (field_of p (edge_lower e))) (is_above (field_of p (edge_upper p.sizes e))) ≡ true
active_differs p e a =
    go (is_above (field_of p (edge_lower e))) (is_above (field_of p (edge_upper p.sizes e)))
    (λ h. elim a [
      | inl b ↦ both_ways (begins (pairs_of p) e) (alike_begins p.sizes (field_of p) p.k e h) b
      | inr b ↦ both_ways (ends (pairs_of p) e) (alike_ends p.sizes (field_of p) p.k e h) b
    ])
  where
    go : (x y : Bool) → (x ≡ y → ⊥) → differ x y ≡ true
    go true true h = absurd (h refl)
    go true false h = refl
    go false true h = refl
    go false false h = absurd (h refl)

module _ (p : Plane) (e : Edge) (is : IsPlane p) (ed : IsEdge p.sizes e) where
  abbrev n : ℕ
  n = name_at p.sizes p.k e

  at_lower : edge_lower (name_at p.sizes p.k e) ≡ index p.sizes e.x e.y p.k
  at_lower = lower_is p.sizes (field_of p) p.k (index p.sizes e.x e.y p.k) e.axis (let h = ed.known in omega arith)

  axis_is : edge_axis (name_at p.sizes p.k e) ≡ e.axis
  axis_is = let h = ed.known in omega arith

  x_is : coordinate p.sizes 0 (edge_lower (name_at p.sizes p.k e)) ≡ e.x
  x_is = ap (coordinate p.sizes 0) at_lower ∙ x_index p.sizes e.x e.y p.k ed.x ed.y is.within

  y_is : coordinate p.sizes 1 (edge_lower (name_at p.sizes p.k e)) ≡ e.y
  y_is = ap (coordinate p.sizes 1) at_lower ∙ y_index p.sizes e.x e.y p.k ed.x ed.y is.within

  pub coordinates : (a b : ℕ) → (e.axis ≡ 0 → (a ≡ place (field_of p (edge_lower n)) (field_of p (edge_upper p.sizes n))) × (b ≡ 0))
      → ((e.axis ≡ 0 → ⊥) → (a ≡ 0) × (b ≡ place (field_of p (edge_lower n)) (field_of p (edge_upper p.sizes n))))
      → (edge_coordinate p.sizes (field_of p) n 0 ≡ 1000 * e.x + a) × (edge_coordinate p.sizes (field_of p) n 1 ≡ 1000 * e.y + b)
  coordinates a b h k =
      let at : ℕ = place (field_of p (edge_lower n)) (field_of p (edge_upper p.sizes n)) in
      elim (cases_eq e.axis 0) [
        | inl z ↦ (
            let t : eqb 0 (edge_axis n) ≡ true = eq-eqb 0 (edge_axis n) (sym (axis_is ∙ z)) in
            let f : eqb 1 (edge_axis n) ≡ false = ne_eqb 1 (edge_axis n) (λ q. absurd (let w : edge_axis n ≡ 0 = axis_is ∙ z in omega arith)) in (
              ap (λ m. 1000 * m + cond (eqb 0 (edge_axis n)) at 0) x_is ∙ (ap (λ c. 1000 * e.x + cond c at 0) t ∙ ap (λ m. 1000 * e.x + m) (sym (h z).0)),
              ap (λ m. 1000 * m + cond (eqb 1 (edge_axis n)) at 0) y_is ∙ (ap (λ c. 1000 * e.y + cond c at 0) f ∙ ap (λ m. 1000 * e.y + m) (sym (h z).1)),
            ))
        | inr z ↦ (
            let one : e.axis ≡ 1 = let l = ed.known in omega arith in
            let f : eqb 0 (edge_axis n) ≡ false = ne_eqb 0 (edge_axis n) (λ q. absurd (let w : edge_axis n ≡ 1 = axis_is ∙ one in omega arith)) in
            let t : eqb 1 (edge_axis n) ≡ true = eq-eqb 1 (edge_axis n) (sym (axis_is ∙ one)) in (
              ap (λ m. 1000 * m + cond (eqb 0 (edge_axis n)) at 0) x_is ∙ (ap (λ c. 1000 * e.x + cond c at 0) f ∙ ap (λ m. 1000 * e.x + m) (sym (k z).0)),
              ap (λ m. 1000 * m + cond (eqb 1 (edge_axis n)) at 0) y_is ∙ (ap (λ c. 1000 * e.y + cond c at 0) t ∙ ap (λ m. 1000 * e.y + m) (sym (k z).1)),
            ))
      ]

module _ (p : Plane) (e : ℕ) where
  abbrev ps : List (ℕ × ℕ)
  ps = pairs_of p

  -- the way back from an edge, as far as it has come
  pub record Returning (at : ℕ) : Type 0 where
    pub going : Going (backwards (pairs_of p)) e at
    pub last : last_of e (trace (backwards (pairs_of p)) (length (backwards (pairs_of p))) e at) ≡ last_of e (line_from (backwards (pairs_of p)) e)

  abbrev way : ℕ → List ℕ
  way at = trace (backwards (pairs_of p)) (length (backwards (pairs_of p))) e at

  last_cons : (x : ℕ) (xs : List ℕ) → (rest : List ℕ) × (y : ℕ) × (xs ≡ y ∷ rest) → last_of e (x ∷ xs) ≡ last_of e xs
  last_cons x [] (rest, y, k) = cc
  last_cons x (z ∷ zs) h = refl

  pub returning_start : Returning e
  returning_start = record { going = going_start (backwards (pairs_of p)) e; last = refl }

  way_cons : (at : ℕ) → (rest : List ℕ) × (y : ℕ) × (way at ≡ y ∷ rest)
  way_cons at = by_fuel (length (backwards (pairs_of p)))
    where
      by_fuel : (n : ℕ) → (rest : List ℕ) × (y : ℕ) × (trace (backwards (pairs_of p)) n e at ≡ y ∷ rest)
      by_fuel zero = ([], at, refl)
      by_fuel (suc n) = (_, at, refl)

  -- one step back
  pub returning_on : (at n : ℕ) → Returning at → has_pair (pairs_of p) n at ≡ true → (n ≡ e → ⊥) → Returning n × (length (way at) ≡ suc (length (way n)))
  returning_on at n r h ne =
      let one = single_back (pairs_of p) (single p.sizes (field_of p) p.k) in
      let i : In (at, n) (backwards (pairs_of p)) = back_in (pairs_of p) n at (pair_in (pairs_of p) n at h) in
      let k : way at ≡ at ∷ way n = goes (backwards (pairs_of p)) one e at n r.going i ne in (
        record {
          going = going_on (backwards (pairs_of p)) one e at n r.going i ne;
          last = sym (ap (last_of e) k ∙ last_cons at (way n) (way_cons n)) ∙ r.last;
        },
        ap (λ (l : List ℕ). length l) k,
      )

  -- the way ends at the first edge of a path
  pub returned_first : (at : ℕ) → Returning at → ends (pairs_of p) at ≡ false → start_of (pairs_of p) e ≡ at
  returned_first at r h =
      let one = single_back (pairs_of p) (single p.sizes (field_of p) p.k) in
      let b : begins (backwards (pairs_of p)) at ≡ false = elim (cases_Bool (begins (backwards (pairs_of p)) at)) [
        | inr n ↦ n
        | inl y ↦ absurd (both_ways (ends (pairs_of p) at) h (ends_from (pairs_of p) _ at (in_back (pairs_of p) at _ (next_in (backwards (pairs_of p)) at y))))
      ] in
      let w : way at ≡ at ∷ [] = stops_end (backwards (pairs_of p)) one e at b in
      let last : last_of e (line_from (backwards (pairs_of p)) e) ≡ at = sym r.last ∙ ap (last_of e) w in
      ap (λ z. cond (ends (pairs_of p) z) e z) last ∙ ap (λ c. cond c e at) h

  -- or it is back
  pub returned_round : (at : ℕ) → Returning at → has_pair (pairs_of p) e at ≡ true → start_of (pairs_of p) e ≡ e
  returned_round at r h =
      let one = single_back (pairs_of p) (single p.sizes (field_of p) p.k) in
      let i : In (e, at) (pairs_of p) = pair_in (pairs_of p) e at h in
      let w : way at ≡ at ∷ [] = stops_back (backwards (pairs_of p)) one e at (back_in (pairs_of p) e at i) in
      let last : last_of e (line_from (backwards (pairs_of p)) e) ≡ at = sym r.last ∙ ap (last_of e) w in
      ap (λ z. cond (ends (pairs_of p) z) e z) last ∙ ap (λ c. cond c e at) (ends_from (pairs_of p) e at i)

-- whether an edge is found that follows, or that comes before
pub begun_is : (p : Plane) (e : ℕ) (o : Option Edge) → IsNext p e o → is_some o ≡ begins (pairs_of p) e
begun_is p e None h = sym h
begun_is p e (Some n) h = sym (begins_from (pairs_of p) e (name_at p.sizes p.k n) (pair_in (pairs_of p) e (name_at p.sizes p.k n) h.1))

pub ended_is : (p : Plane) (e : ℕ) (o : Option Edge) → IsPrevious p e o → is_some o ≡ ends (pairs_of p) e
ended_is p e None h = sym h
ended_is p e (Some n) h = sym (ends_from (pairs_of p) (name_at p.sizes p.k n) e (pair_in (pairs_of p) (name_at p.sizes p.k n) e h.1))

-- the number of an edge gives its name
pub slot_is : (g : Grid) (k : ℕ) (e : Edge) → e.axis < 2 → slot_name g k (slot_of g e) ≡ name_at g k e
slot_is g k e h = go e.x e.y g.nx g.ny e.axis h
  where
    go : (x y m n a : ℕ) → a < 2 → 3 * (k * (m * n) + (2 * (x + m * y) + a) / 2) + (2 * (x + m * y) + a) % 2 ≡ 3 * (x + m * (y + n * k)) + a
    go x y m n a h =
        let q : (2 * (x + m * y) + a) / 2 ≡ x + m * y = omega arith in
        let r : (2 * (x + m * y) + a) % 2 ≡ a = omega arith in
        let f : 3 * (k * (m * n) + (2 * (x + m * y) + a) / 2) + (2 * (x + m * y) + a) % 2 ≡ 3 * (k * (m * n) + (x + m * y)) + a = omega arith in
        f ∙ omega arith

-- one edge is marked and put down
module _ (p : Plane) (deep : 0 < p.sizes.nz) (st : ℕ) where
  abbrev pub line : ℕ → List ℕ
  line at = trace (pairs_of p) (length (pairs_of p)) st at

  pub points_step : (f : ℕ → Point) (old points new whole : List Point) (at : ℕ) (rest : List ℕ) (x : Point) → new ≡ points ++ x ∷ [] → x ≡ f at → line at ≡ at ∷ rest
      → points ++ map f (line at) ≡ old ++ whole → new ++ map f rest ≡ old ++ whole
  points_step f old points new whole at rest x n e l h =
      ap (λ z. z ++ map f rest) (n ∙ ap (λ y. points ++ y ∷ []) e)
      ∙ (append_assoc points (f at ∷ []) (map f rest) ∙ (ap (λ z. points ++ map f z) (sym l) ∙ h))

  pub marks_step : (seen : List Bool) (u at t : ℕ) (rest : List ℕ) → u < length seen → slot_name p.sizes p.k u ≡ at → line at ≡ at ∷ rest
      → (get_or (set seen u true) t false || is_in (slot_name p.sizes p.k t) rest) ≡ (get_or seen t false || is_in (slot_name p.sizes p.k t) (line at))
  marks_step seen u at t rest low name l =
      let n : ℕ = slot_name p.sizes p.k t in
      elim (cases_eq t u) [
        | inl e ↦ (
            let here : get_or (set seen u true) t false ≡ true = ap (λ k. get_or (set seen u true) k false) e ∙ get_or-set_same seen u true false low in
            let same : eqb at n ≡ true = eq-eqb at n (sym name ∙ ap (slot_name p.sizes p.k) (sym e)) in
            let left : (get_or (set seen u true) t false || is_in n rest) ≡ true = ap (λ b. b || is_in n rest) here in
            let right : (get_or seen t false || is_in n (line at)) ≡ true
            = ap (λ z. get_or seen t false || is_in n z) l ∙ (ap (λ b. get_or seen t false || (b || is_in n rest)) same ∙ always (get_or seen t false)) in
            left ∙ sym right)
        | inr ne ↦ (
            let there : get_or (set seen u true) t false ≡ get_or seen t false = get_or-set_other seen u t true false ne in
            let other : eqb at n ≡ false = ne_eqb at n (λ e. ne (slot_apart p.sizes (field_of p) p.k deep t u (sym (name ∙ e)))) in
            ap (λ b. b || is_in n rest) there
            ∙ (ap (λ b. get_or seen t false || (b || is_in n rest)) (sym other) ∙ ap (λ z. get_or seen t false || is_in n z) (sym l)))
      ]
    where
      always : (b : Bool) → (b || true) ≡ true
      always true = refl
      always false = refl

  -- the last edge
  pub points_end : (f : ℕ → Point) (old points new whole : List Point) (at : ℕ) (x : Point) → new ≡ points ++ x ∷ [] → x ≡ f at → line at ≡ at ∷ []
      → points ++ map f (line at) ≡ old ++ whole → new ≡ old ++ whole
  points_end f old points new whole at x n e l h = sym (append-nil new) ∙ points_step f old points new whole at [] x n e l h

  pub marks_end : (seen : List Bool) (u at t : ℕ) → u < length seen → slot_name p.sizes p.k u ≡ at → line at ≡ at ∷ []
      → get_or (set seen u true) t false ≡ (get_or seen t false || is_in (slot_name p.sizes p.k t) (line at))
  marks_end seen u at t low name l = sym (or_false (get_or (set seen u true) t false)) ∙ marks_step seen u at t [] low name l
    where
      or_false : (b : Bool) → (b || false) ≡ b
      or_false true = refl
      or_false false = refl
