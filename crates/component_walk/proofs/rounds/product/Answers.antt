use Rattle.std.proofs.Common.{◌≡◌, ◌∙◌, ℕ, ◌*◌, ◌<◌, ◌≤◌, ◌^◌, ℤ, pos, ◌*ℤ◌, ap, subst, sym, arith, unsigned_abs}
use Rattle.measure.proofs.Exact.{abs_times, stored, stored_is}
use Rattle.component_walk.proofs.rounds.product.Goals as goal

-- the code's product is exact and small
pub record IsProduct (x b : ℤ) (a : ℕ) : Type 0 where
  pub value : stored (stored x *ℤ stored b) ≡ pos a *ℤ b
  pub within : unsigned_abs (stored (stored x *ℤ stored b)) < 2 ^ 44

product_is : (x b : ℤ) (a : ℕ) → x ≡ pos a → a < 2 ^ 20 → unsigned_abs b < 2 ^ 24 → IsProduct x b a
product_is x b a e h g =
    let small : unsigned_abs (pos a *ℤ b) ≤ 1048575 * 16777215 = abs_times (pos a) b 1048575 16777215 (omega arith) (omega arith) in
    let left : stored x ≡ pos a = ap stored e ∙ stored_is (pos a) (omega arith) in
    let right : stored b ≡ b = stored_is b (omega arith) in
    let value : stored (stored x *ℤ stored b) ≡ pos a *ℤ b = ap stored (λ i. left i *ℤ right i) ∙ stored_is (pos a *ℤ b) (omega (arith, small)) in
    record { value = value; within = subst (λ z. unsigned_abs z < 2 ^ 44) (sym value) (omega (arith, small)) }

pub returns-clause-value : goal.returns-clause-value
returns-clause-value c = (product_is c.from.result c.args.b c.args.a c.from.ensures c.requires.a c.requires.b).value

pub returns-clause-within : goal.returns-clause-within
returns-clause-within c = (product_is c.from.result c.args.b c.args.a c.from.ensures c.requires.a c.requires.b).within
