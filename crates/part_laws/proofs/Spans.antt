-- What the triangles of a loop span is what the loop spans, whatever its centre is.
use Rattle.std.proofs.Common.{◌≡◌, ℕ, ◌≤◌, ℤ, pos, ◌+ℤ◌, ◌-ℤ◌, ◌*ℤ◌, cond, List, [], ◌∷◌, map, length, refl, sym, ◌∙◌, ap, inl, inr, arith, slice_index}
use Rattle.std.proofs.lemmas.Bool.{cases_Bool}
use Rattle.std.proofs.lemmas.Int.{ints}
use Rattle.iso_defs.specs.Lists.{around, closing}
use Rattle.iso_defs.specs.Cell.{Triangle}
use Rattle.iso_defs.specs.Scratch.{has_centre}
use Rattle.measure_laws.specs.Vectors.{Vector, minor, cross, dot, det, det_of, normal_of, total}
use Rattle.measure_laws.proofs.Gaps.{gap_self, gap_same, gap_add, gap_sub, gap_mul}
use Rattle.measure_laws.proofs.Vectors.{minor_sides, minor_turned, det_is}
use Rattle.measure_laws.proofs.Totals.{total_agree, total-map, total_add, total_times}
use Rattle.part_laws.specs.Loops.{Loop, triangles_round}
use Rattle.part_laws.specs.Swept.{swept, six_of}
use Rattle.part_laws.proofs.Rounds.{of_three, of_more, three_are, centred, uncentred}

-- differences along the steps round a loop have no sum
pub differences : (u : ℕ → ℤ) (vs : List ℕ) → total (λ (p : ℕ × ℕ). u p.1 -ℤ u p.0) (around vs) ≡ pos 0
differences u [] = refl
differences u (v ∷ vs) = go v v vs ∙ (let e : u v -ℤ u v ≡ pos 0 = omega (arith, ints) in e)
  where
    go : (first v : ℕ) (vs : List ℕ) → total (λ (p : ℕ × ℕ). u p.1 -ℤ u p.0) (closing first v vs) ≡ u first -ℤ u v
    go first v [] = omega (arith, ints)
    go first v (w ∷ vs) = ap (λ z. (u w -ℤ u v) +ℤ z) (go first w vs) ∙ (let e : (u w -ℤ u v) +ℤ (u first -ℤ u w) ≡ u first -ℤ u v = omega (arith, ints) in e)

-- along one axis, by the two other coordinates of each vertex
module _ (h k : ℕ → ℤ) where
  abbrev along : Triangle → ℤ
  along t = minor (h t.1 -ℤ h t.0) (k t.1 -ℤ k t.0) (h t.2 -ℤ h t.0) (k t.2 -ℤ k t.0)

  abbrev side : ℕ × ℕ → ℤ
  side e = minor (h e.0) (k e.0) (h e.1) (k e.1)

  fan_along : (c : ℕ) (vs : List ℕ) → total along (map (λ (p : ℕ × ℕ). (p.0, p.1, c)) (around vs)) ≡ total side (around vs)
  fan_along c vs =
      let u : ℕ → ℤ = λ v. side (v, c) in
      total-map along (λ (p : ℕ × ℕ). (p.0, p.1, c)) (around vs)
      ∙ (total_agree (λ (p : ℕ × ℕ). along (p.0, p.1, c)) (λ (p : ℕ × ℕ). side p +ℤ (u p.1 -ℤ u p.0)) (λ p. one p.0 p.1) (around vs)
      ∙ (total_add side (λ (p : ℕ × ℕ). u p.1 -ℤ u p.0) (around vs)
      ∙ (ap (λ z. total side (around vs) +ℤ z) (differences u vs) ∙ (let e : total side (around vs) +ℤ pos 0 ≡ total side (around vs) = omega (arith, ints) in e))))
    where
      regroup : (x y z w : ℤ) → w +ℤ z ≡ pos 0 → (x +ℤ y) +ℤ z ≡ x +ℤ (y -ℤ w)
      regroup x y z w e = omega (arith, ints, e)

      one : (a b : ℕ) → along (a, b, c) ≡ side (a, b) +ℤ (side (b, c) -ℤ side (a, c))
      one a b =
          minor_sides (h a) (k a) (h b) (k b) (h c) (k c)
          ∙ regroup (side (a, b)) (side (b, c)) (side (c, a)) (side (a, c)) (minor_turned (h a) (k a) (h c) (k c))

  pub round_along : (l : Loop) → 3 ≤ length l.1 → total along (triangles_round l) ≡ total side (around l.1)
  round_along l m =
      elim (cases_Bool (has_centre l)) [
        | inl e ↦ ap (total along) (of_more l.1 l.0 (centred l e)) ∙ fan_along l.0 l.1
        | inr e ↦ (let q : length l.1 ≡ 3 = uncentred l m e in
            ap (total along) (of_three l.1 l.0 q) ∙ (three (slice_index l.1 0) (slice_index l.1 1) (slice_index l.1 2) ∙ sym (ap (λ vs. total side (around vs)) (three_are l.1 q))))
      ]
    where
      three : (a b c : ℕ) → along (a, b, c) +ℤ pos 0 ≡ side (a, b) +ℤ (side (b, c) +ℤ (side (c, a) +ℤ pos 0))
      three a b c = ap (λ z. z +ℤ pos 0) (minor_sides (h a) (k a) (h b) (k b) (h c) (k c)) ∙ regroup (side (a, b)) (side (b, c)) (side (c, a))
        where
          regroup : (x y z : ℤ) → ((x +ℤ y) +ℤ z) +ℤ pos 0 ≡ x +ℤ (y +ℤ (z +ℤ pos 0))
          regroup x y z = omega (arith, ints)

det_turned : (a b c : Vector) → det a b c ≡ dot c (cross a b)
det_turned a b c =
    let x = gap_self a.0 in
    let y = gap_self a.1 in
    let z = gap_self a.2 in
    let p = gap_self b.0 in
    let q = gap_self b.1 in
    let r = gap_self b.2 in
    let u = gap_self c.0 in
    let v = gap_self c.1 in
    let w = gap_self c.2 in
    gap_same _ _ _ _ _ _
    (gap_add
    (gap_add (gap_mul x (gap_sub (gap_mul q w) (gap_mul r v))) (gap_mul y (gap_sub (gap_mul r u) (gap_mul p w))))
    (gap_mul z (gap_sub (gap_mul p v) (gap_mul q u))))
    (gap_add
    (gap_add (gap_mul u (gap_sub (gap_mul y r) (gap_mul z q))) (gap_mul v (gap_sub (gap_mul z p) (gap_mul x r))))
    (gap_mul w (gap_sub (gap_mul x q) (gap_mul y p))))
    (omega arith)

module _ (at : ℕ → Vector) where
  abbrev x : ℕ → ℤ
  x v = (at v).0

  abbrev y : ℕ → ℤ
  y v = (at v).1

  abbrev z : ℕ → ℤ
  z v = (at v).2

  -- the sum of the normals of the triangles of a loop
  pub round_area : (l : Loop) → 3 ≤ length l.1 →
      ◌≡◌ {A = Vector} (total (λ t. (normal_of at t).0) (triangles_round l), total (λ t. (normal_of at t).1) (triangles_round l), total (λ t. (normal_of at t).2) (triangles_round l)) (swept at l.1)
  round_area l m =
      let a = round_along y z l m in
      let b = round_along z x l m in
      let c = round_along x y l m in
      λ i. (a i, b i, c i)

  dots : (o : Vector) (ps : List (ℕ × ℕ)) → total (λ (p : ℕ × ℕ). dot o (cross (at p.0) (at p.1))) ps
      ≡ dot o (total (λ (p : ℕ × ℕ). (cross (at p.0) (at p.1)).0) ps, total (λ (p : ℕ × ℕ). (cross (at p.0) (at p.1)).1) ps, total (λ (p : ℕ × ℕ). (cross (at p.0) (at p.1)).2) ps)
  dots o ps =
      let n0 : ℕ × ℕ → ℤ = λ (p : ℕ × ℕ). (cross (at p.0) (at p.1)).0 in
      let n1 : ℕ × ℕ → ℤ = λ (p : ℕ × ℕ). (cross (at p.0) (at p.1)).1 in
      let n2 : ℕ × ℕ → ℤ = λ (p : ℕ × ℕ). (cross (at p.0) (at p.1)).2 in
      total_add (λ p. o.0 *ℤ n0 p +ℤ o.1 *ℤ n1 p) (λ p. o.2 *ℤ n2 p) ps
      ∙ (ap (λ z. z +ℤ total (λ p. o.2 *ℤ n2 p) ps) (total_add (λ p. o.0 *ℤ n0 p) (λ p. o.1 *ℤ n1 p) ps)
      ∙ (let a = total_times o.0 n0 ps in
      let b = total_times o.1 n1 ps in
      let c = total_times o.2 n2 ps in
      λ i. (a i +ℤ b i) +ℤ c i))

  -- the sum of their determinants
  pub round_six : (l : Loop) → 3 ≤ length l.1 → total (det_of at) (triangles_round l) ≡ six_of at l
  round_six l m =
      elim (cases_Bool (has_centre l)) [
        | inl e ↦ ap (total (det_of at)) (of_more l.1 l.0 (centred l e))
            ∙ (total-map (det_of at) (λ (p : ℕ × ℕ). (p.0, p.1, l.0)) (around l.1)
            ∙ (total_agree (λ (p : ℕ × ℕ). det (at p.0) (at p.1) (at l.0)) (λ (p : ℕ × ℕ). dot (at l.0) (cross (at p.0) (at p.1))) (λ p. det_turned (at p.0) (at p.1) (at l.0)) (around l.1)
            ∙ (dots (at l.0) (around l.1) ∙ sym (ap (λ b. dot (at (cond b l.0 (slice_index l.1 0))) (swept at l.1)) e))))
        | inr e ↦ (let q : length l.1 ≡ 3 = uncentred l m e in
            let a : ℕ = slice_index l.1 0 in
            let t : Triangle = (slice_index l.1 0, slice_index l.1 1, slice_index l.1 2) in
            let one : normal_of at t ≡ swept at l.1 = alone t (round_area l m) (of_three l.1 l.0 q) in
            ap (total (det_of at)) (of_three l.1 l.0 q)
            ∙ (last (det_of at t) ∙ (det_is (at t.0) (at t.1) (at t.2) ∙ (ap (dot (at a)) one ∙ sym (ap (λ b. dot (at (cond b l.0 (slice_index l.1 0))) (swept at l.1)) e)))))
      ]
    where
      last : (z : ℤ) → z +ℤ pos 0 ≡ z
      last z = omega (arith, ints)

      alone : (t : Triangle) →
          ◌≡◌ {A = Vector} (total (λ t. (normal_of at t).0) (triangles_round l), total (λ t. (normal_of at t).1) (triangles_round l), total (λ t. (normal_of at t).2) (triangles_round l)) (swept at l.1)
          → triangles_round l ≡ t ∷ [] → normal_of at t ≡ swept at l.1
      alone t e f =
          let n : Vector = normal_of at t in
          let a = last n.0 in
          let b = last n.1 in
          let c = last n.2 in
          let g : ◌≡◌ {A = Vector} (n.0 +ℤ pos 0, n.1 +ℤ pos 0, n.2 +ℤ pos 0) n = λ i. (a i, b i, c i) in
          sym g
          ∙ (sym (ap (λ (ts : List Triangle). (total (λ t. (normal_of at t).0) ts, total (λ t. (normal_of at t).1) ts, total (λ t. (normal_of at t).2) ts)) f) ∙ e)
