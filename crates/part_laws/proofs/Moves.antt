-- Loops that are moved span the same.
use Rattle.std.proofs.Common.{◌≡◌, ℕ, ℤ, pos, ◌+ℤ◌, ◌-ℤ◌, ◌*ℤ◌, List, ◌∙◌, ap, arith}
use Rattle.std.proofs.lemmas.Int.{ints}
use Rattle.iso_defs.specs.Lists.{around}
use Rattle.measure_laws.specs.Vectors.{Vector, minus, minor, dot, total}
use Rattle.measure_laws.proofs.Gaps.{gap_self, gap_same, gap_add, gap_sub, gap_mul}
use Rattle.measure_laws.proofs.Totals.{total_agree, total_add}
use Rattle.part_laws.specs.Loops.{Loop}
use Rattle.part_laws.specs.Swept.{swept, six_of, tip}
use Rattle.part_laws.proofs.Spans.{differences}

minor_moved : (x y u v a b : ℤ) → minor (x -ℤ a) (y -ℤ b) (u -ℤ a) (v -ℤ b) ≡ minor x y u v +ℤ ((b *ℤ u -ℤ a *ℤ v) -ℤ (b *ℤ x -ℤ a *ℤ y))
minor_moved x y u v a b =
    let X = gap_self x in
    let Y = gap_self y in
    let U = gap_self u in
    let V = gap_self v in
    let A = gap_self a in
    let B = gap_self b in
    gap_same _ _ _ _ _ _
    (gap_sub (gap_mul (gap_sub X A) (gap_sub V B)) (gap_mul (gap_sub Y B) (gap_sub U A)))
    (gap_add (gap_sub (gap_mul X V) (gap_mul Y U)) (gap_sub (gap_sub (gap_mul B U) (gap_mul A V)) (gap_sub (gap_mul B X) (gap_mul A Y))))
    (omega arith)

-- along one axis
module _ (h k : ℕ → ℤ) (a b : ℤ) where
  moved_along : (vs : List ℕ) → total (λ (p : ℕ × ℕ). minor (h p.0 -ℤ a) (k p.0 -ℤ b) (h p.1 -ℤ a) (k p.1 -ℤ b)) (around vs)
      ≡ total (λ (p : ℕ × ℕ). minor (h p.0) (k p.0) (h p.1) (k p.1)) (around vs)
  moved_along vs =
      let w : ℕ → ℤ = λ v. b *ℤ h v -ℤ a *ℤ k v in
      let side : ℕ × ℕ → ℤ = λ (p : ℕ × ℕ). minor (h p.0) (k p.0) (h p.1) (k p.1) in
      total_agree (λ (p : ℕ × ℕ). minor (h p.0 -ℤ a) (k p.0 -ℤ b) (h p.1 -ℤ a) (k p.1 -ℤ b)) (λ (p : ℕ × ℕ). side p +ℤ (w p.1 -ℤ w p.0))
      (λ p. minor_moved (h p.0) (k p.0) (h p.1) (k p.1) a b) (around vs)
      ∙ (total_add side (λ (p : ℕ × ℕ). w p.1 -ℤ w p.0) (around vs)
      ∙ (ap (λ z. total side (around vs) +ℤ z) (differences w vs) ∙ (let e : total side (around vs) +ℤ pos 0 ≡ total side (around vs) = omega (arith, ints) in e)))

dot_less : (u o n : Vector) → dot (minus u o) n ≡ dot u n -ℤ dot o n
dot_less u o n =
    let x = gap_self u.0 in
    let y = gap_self u.1 in
    let z = gap_self u.2 in
    let p = gap_self o.0 in
    let q = gap_self o.1 in
    let r = gap_self o.2 in
    let a = gap_self n.0 in
    let b = gap_self n.1 in
    let c = gap_self n.2 in
    gap_same _ _ _ _ _ _
    (gap_add (gap_add (gap_mul (gap_sub x p) a) (gap_mul (gap_sub y q) b)) (gap_mul (gap_sub z r) c))
    (gap_sub (gap_add (gap_add (gap_mul x a) (gap_mul y b)) (gap_mul z c)) (gap_add (gap_add (gap_mul p a) (gap_mul q b)) (gap_mul r c)))
    (omega arith)

module _ (at : ℕ → Vector) (o : Vector) where
  pub swept_moved : (vs : List ℕ) → swept (λ v. minus (at v) o) vs ≡ swept at vs
  swept_moved vs =
      let x = moved_along (λ v. (at v).1) (λ v. (at v).2) o.1 o.2 vs in
      let y = moved_along (λ v. (at v).2) (λ v. (at v).0) o.2 o.0 vs in
      let z = moved_along (λ v. (at v).0) (λ v. (at v).1) o.0 o.1 vs in
      λ i. (x i, y i, z i)

  pub six_moved : (l : Loop) → six_of (λ v. minus (at v) o) l ≡ six_of at l -ℤ dot o (swept at l.1)
  six_moved l = ap (dot (minus (at (tip l)) o)) (swept_moved l.1) ∙ dot_less (at (tip l)) o (swept at l.1)
