-- What is measured of loops at their printed positions.
use Rattle.std.proofs.Common.{◌≡◌, ℕ, ℤ, pos, ◌+ℤ◌, ◌-ℤ◌, ◌*ℤ◌, Bool, true, false, cond, List, [], ◌∷◌, refl, sym, ◌∙◌, ap, ap₂, arith}
use Rattle.std.specs.List.{sum_by}
use Rattle.std.proofs.lemmas.Int.{ints}
use Rattle.std.proofs.lemmas.List.Sums.{sum_by-cons}
use Rattle.iso_defs.specs.Lists.{around}
use Rattle.triangle_laws.proofs.Lists.{In}
use Rattle.flat_mesh.specs.Lattice.{Leveled, heights}
use Rattle.measure_laws.specs.Vectors.{total, Vector, cross, dot}
use Rattle.measure_laws.proofs.Totals.{total_add, total_less, total_times}
use Rattle.part_laws.specs.Loops.{Loop, mesh_loops}
use Rattle.part_laws.specs.Swept.{area_round, six_of, swept}
use Rattle.part_laws.proofs.Measured.{total_in}
use Rattle.part_laws.proofs.Moves.{six_moved, swept_moved}
use Rattle.part_laws.proofs.Rounds.{step_ends}
use Rattle.component_walk.specs.Shares.{off_layer}
use Rattle.component_walk.specs.Sweep.{named_position}
use Rattle.component_walk.proofs.PlaceLaws.{corner, placed, round_placed, stored_less, tip_placed}

-- a loop spans the same where its vertices lie the same
swept_same : (f h : ℕ → Vector) (vs : List ℕ) → ((n : ℕ) → In n vs → f n ≡ h n) → swept f vs ≡ swept h vs
swept_same f h vs e =
    let one : (i : Vector → ℤ) → total (λ (p : ℕ × ℕ). i (cross (f p.0) (f p.1))) (around vs) ≡ total (λ (p : ℕ × ℕ). i (cross (h p.0) (h p.1))) (around vs)
    = λ i. total_in (λ (p : ℕ × ℕ). i (cross (f p.0) (f p.1))) (λ (p : ℕ × ℕ). i (cross (h p.0) (h p.1))) (around vs)
    (λ p j. let ends = step_ends vs p j in ap₂ (λ a b. i (cross a b)) (e p.0 ends.0) (e p.1 ends.1)) in
    let a = one (λ (u : Vector). u.0) in
    let b = one (λ (u : Vector). u.1) in
    let c = one (λ (u : Vector). u.2) in
    λ i. (a i, b i, c i)

-- the sum of products with one vector
total_dot : {A : Type 0} (o : Vector) (f : A → Vector) (xs : List A) → total (λ x. dot o (f x)) xs ≡ dot o (total (λ x. (f x).0) xs, total (λ x. (f x).1) xs, total (λ x. (f x).2) xs)
total_dot {A} o f xs =
    let a = total_times o.0 (λ x. (f x).0) xs in
    let b = total_times o.1 (λ x. (f x).1) xs in
    let c = total_times o.2 (λ x. (f x).2) xs in
    total_add (λ x. o.0 *ℤ (f x).0 +ℤ o.1 *ℤ (f x).1) (λ x. o.2 *ℤ (f x).2) xs
    ∙ (ap (λ z. z +ℤ total (λ x. o.2 *ℤ (f x).2) xs) (total_add (λ x. o.0 *ℤ (f x).0) (λ x. o.1 *ℤ (f x).1) xs) ∙ (λ i. (a i +ℤ b i) +ℤ c i))

-- with a pad, a volume is moved by the layer
pub moved_by : (padded : Bool) (six : ℤ) (area : Vector) → six -ℤ dot (corner padded) area ≡ cond padded (off_layer six area) six
moved_by true six area = omega (arith, ints)
moved_by false six area =
    let a = times_none area.0 in
    let b = times_none area.1 in
    let c = times_none area.2 in
    (λ i. six -ℤ ((a i +ℤ b i) +ℤ c i)) ∙ (let e : six -ℤ ((pos 0 +ℤ pos 0) +ℤ pos 0) ≡ six = omega (arith, ints) in e)
  where
    times_none : (z : ℤ) → pos 0 *ℤ z ≡ pos 0
    times_none z = omega (arith, ints)

-- a sum of natural numbers
pub total_natural : {A : Type 0} (f : A → ℕ) (xs : List A) → total (λ x. pos (f x)) xs ≡ pos (sum_by f xs)
total_natural f [] = refl
total_natural f (x ∷ xs) = ap (λ z. pos (f x) +ℤ z) (total_natural f xs) ∙ ap pos (sym (sum_by-cons f x xs))

module _ (v : Leveled) (padded : Bool) where
  swept_placed : (l : Loop) → In l (mesh_loops v.grid (heights v)) → swept (placed v padded) l.1 ≡ swept (named_position v) l.1
  swept_placed l i = swept_same (placed v padded) (stored_less v padded) l.1 (round_placed v padded l i) ∙ swept_moved (named_position v) (corner padded) l.1

  six_placed : (l : Loop) → In l (mesh_loops v.grid (heights v)) → six_of (placed v padded) l ≡ six_of (named_position v) l -ℤ dot (corner padded) (swept (named_position v) l.1)
  six_placed l i =
      ap₂ dot (tip_placed v padded l i) (swept_same (placed v padded) (stored_less v padded) l.1 (round_placed v padded l i)) ∙ six_moved (named_position v) (corner padded) l

  module _ (ls : List Loop) (known : (l : Loop) → In l ls → In l (mesh_loops v.grid (heights v))) where
    pub area_placed : area_round (placed v padded) ls ≡ area_round (named_position v) ls
    area_placed =
        let one : (i : Vector → ℤ) → total (λ (l : Loop). i (swept (placed v padded) l.1)) ls ≡ total (λ (l : Loop). i (swept (named_position v) l.1)) ls
        = λ i. total_in (λ (l : Loop). i (swept (placed v padded) l.1)) (λ (l : Loop). i (swept (named_position v) l.1)) ls (λ l j. ap i (swept_placed l (known l j))) in
        let a = one (λ (u : Vector). u.0) in
        let b = one (λ (u : Vector). u.1) in
        let c = one (λ (u : Vector). u.2) in
        λ i. (a i, b i, c i)

    pub sixes_placed : total (six_of (placed v padded)) ls ≡ cond padded (off_layer (total (six_of (named_position v)) ls) (area_round (named_position v) ls)) (total (six_of (named_position v)) ls)
    sixes_placed =
        let np : ℕ → Vector = named_position v in
        total_in (six_of (placed v padded)) (λ l. six_of np l -ℤ dot (corner padded) (swept np l.1)) ls (λ l j. six_placed l (known l j))
        ∙ (total_less (six_of np) (λ l. dot (corner padded) (swept np l.1)) ls
        ∙ (ap (λ z. total (six_of np) ls -ℤ z) (total_dot (corner padded) (λ (l : Loop). swept np l.1) ls)
        ∙ moved_by padded (total (six_of np) ls) (area_round np ls)))
