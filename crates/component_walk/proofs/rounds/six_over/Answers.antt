use Rattle.std.proofs.Common.{◌≡◌, ◌∙◌, ℕ, ℤ, pos, ◌<◌, ◌≤◌, ◌^◌, ◌+ℤ◌, ◌*ℤ◌, ap, arith, slice_index, slice_index_or, unsigned_abs, w64, FitsSigned}
use Rattle.std.proofs.lemmas.Int.{ints}
use Rattle.measure.proofs.Exact.{stored, stored_is}
use Rattle.component_walk.proofs.rounds.six_over.Goals as goal

-- the code's sum of three products is exact and small
pub record IsSum (x y z : ℤ) : Type 0 where
  pub fits : FitsSigned w64 (stored (stored x +ℤ stored y) +ℤ stored z)
  pub value : stored (stored (stored x +ℤ stored y) +ℤ stored z) ≡ (x +ℤ y) +ℤ z
  pub within : unsigned_abs (stored (stored (stored x +ℤ stored y) +ℤ stored z)) < 2 ^ 46

sum_is : (x y z : ℤ) → unsigned_abs x < 2 ^ 44 → unsigned_abs y < 2 ^ 44 → unsigned_abs z < 2 ^ 44 → IsSum x y z
sum_is x y z f g h =
    let one : stored (stored x +ℤ stored y) ≡ x +ℤ y = omega (arith, ints) in
    let sum : stored (stored x +ℤ stored y) +ℤ stored z ≡ (x +ℤ y) +ℤ z = omega (arith, ints, one) in
    let value : stored (stored (stored x +ℤ stored y) +ℤ stored z) ≡ (x +ℤ y) +ℤ z = ap stored sum ∙ omega (arith, ints) in
    record { fits = omega (arith, ints, sum); value = value; within = omega (arith, ints, value) }

pub overflow_add-result-2 : goal.overflow_add-result-2
overflow_add-result-2 c = (sum_is c.product.result c.product-2.result c.product-3.result c.product.ensures.within c.product-2.ensures.within c.product-3.ensures.within).fits

pub returns-clause-value : goal.returns-clause-value
returns-clause-value c =
    let t = c.args.tip.now in
    let s = c.args.swept.now in
    let times : (n : ℕ) (b : ℤ) → unsigned_abs b ≤ 12000000 → (r : ℤ) → r ≡ pos n *ℤ stored b → r ≡ pos n *ℤ b
    = λ n b h r e. e ∙ ap (λ k. pos n *ℤ k) (stored_is b (omega arith)) in
    let x = times (slice_index t 0) (slice_index_or s 0 (pos 0)) c.requires.swept.0 c.product.result c.product.ensures.value in
    let y = times (slice_index t 1) (slice_index_or s 1 (pos 0)) c.requires.swept.1 c.product-2.result c.product-2.ensures.value in
    let z = times (slice_index t 2) (slice_index_or s 2 (pos 0)) c.requires.swept.2 c.product-3.result c.product-3.ensures.value in
    (sum_is c.product.result c.product-2.result c.product-3.result c.product.ensures.within c.product-2.ensures.within c.product-3.ensures.within).value
    ∙ (λ i. (x i +ℤ y i) +ℤ z i)

pub returns-clause-within : goal.returns-clause-within
returns-clause-within c = (sum_is c.product.result c.product-2.result c.product-3.result c.product.ensures.within c.product-2.ensures.within c.product-3.ensures.within).within
