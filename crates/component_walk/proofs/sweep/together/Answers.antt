use Rattle.std.proofs.Common.{◌≡◌, ℕ, suc, zero, ◌+◌, ◌*◌, ◌<◌, ◌≤◌, ◌^◌, ℤ, pos, ◌+ℤ◌, ◌∷◌, [], sym, subst, arith, slice_index_or, unsigned_abs}
use Rattle.std.proofs.lemmas.Int.{ints}
use Rattle.measure.proofs.Exact.{abs_sum, kept, stored}
use Rattle.component_walk.specs.Sweep.{AreSmall, measure_at}
use Rattle.component_walk.specs.declared.sweep.Swept.{Swept}
use Rattle.component_walk.proofs.sweep.together.Goals as goal

-- what the code computes of two numbers, in the wider type
abbrev added : ℤ → ℤ → ℤ
added x y = kept (kept x +ℤ kept y)

-- and in the other
abbrev narrow : ℤ → ℤ → ℤ
narrow x y = stored (stored x +ℤ stored y)

-- it is exact
six_is : (n m : ℕ) (x y : ℤ) → n + m < 2 ^ 31 → unsigned_abs x ≤ 2 ^ 60 * n → unsigned_abs y ≤ 2 ^ 60 * m → added x y ≡ x +ℤ y
six_is n m x y room f g = omega (arith, ints)

area_is : (n m : ℕ) (x y : ℤ) → n + m < 2 ^ 31 → unsigned_abs x ≤ 2 ^ 24 * n → unsigned_abs y ≤ 2 ^ 24 * m → narrow x y ≡ x +ℤ y
area_is n m x y room f g = omega (arith, ints)

-- and small
sum_small : (unit n m : ℕ) (x y z : ℤ) → z ≡ x +ℤ y → unsigned_abs x ≤ unit * n → unsigned_abs y ≤ unit * m → unsigned_abs z ≤ unit * (n + m)
sum_small unit n m x y z e f g =
    let sum : unsigned_abs (x +ℤ y) ≤ unit * n + unit * m = abs_sum x y (unit * n) (unit * m) f g in
    subst (λ z. unsigned_abs z ≤ unit * (n + m)) (sym e) (omega (arith, sum))

module _ (n m : ℕ) (room : n + m < 2 ^ 31) (a b : Swept) (f : AreSmall n a) (h : AreSmall m b) where
  abbrev along : Swept → ℕ → ℤ
  along s k = slice_index_or s.area k (pos 0)

  abbrev sum : Swept
  sum = record {
    six = added a.six b.six;
    area = narrow (along a 0) (along b 0) ∷ narrow (along a 1) (along b 1) ∷ narrow (along a 2) (along b 2) ∷ [];
    border = a.border + b.border;
  }

  six_exact : sum.six ≡ a.six +ℤ b.six
  six_exact = six_is n m a.six b.six room f.six h.six

  x_exact : along sum 0 ≡ along a 0 +ℤ along b 0
  x_exact = area_is n m (along a 0) (along b 0) room f.x h.x

  y_exact : along sum 1 ≡ along a 1 +ℤ along b 1
  y_exact = area_is n m (along a 1) (along b 1) room f.y h.y

  z_exact : along sum 2 ≡ along a 2 +ℤ along b 2
  z_exact = area_is n m (along a 2) (along b 2) room f.z h.z

  values_are : (i : ℕ) → measure_at sum i ≡ measure_at a i +ℤ measure_at b i
  values_are zero = six_exact
  values_are (suc zero) = x_exact
  values_are (suc (suc zero)) = y_exact
  values_are (suc (suc (suc zero))) = z_exact
  values_are (suc (suc (suc (suc zero)))) = omega (arith, ints)
  values_are (suc (suc (suc (suc (suc i))))) = omega (arith, ints)

  sum_fits : (k l : ℕ) → AreSmall k a → AreSmall l b → AreSmall (k + l) sum
  sum_fits k l p q = record {
    six = sum_small (2 ^ 60) k l a.six b.six sum.six six_exact p.six q.six;
    x = sum_small (2 ^ 24) k l (along a 0) (along b 0) (along sum 0) x_exact p.x q.x;
    y = sum_small (2 ^ 24) k l (along a 1) (along b 1) (along sum 1) y_exact p.y q.y;
    z = sum_small (2 ^ 24) k l (along a 2) (along b 2) (along sum 2) z_exact p.z q.z;
    border = omega (arith, p.border, q.border);
  }

pub returns-clause-values : goal.returns-clause-values
returns-clause-values c = let r = c.requires.room in values_are r.0 r.1 r.2 c.args.a.now c.args.b.now r.3 r.4

pub returns-clause-fits : goal.returns-clause-fits
returns-clause-fits c = let r = c.requires.room in sum_fits r.0 r.1 r.2 c.args.a.now c.args.b.now r.3 r.4
