use Rattle.std.proofs.Common.{◌^◌, ◌≤◌, arith}
use Rattle.std.proofs.Math.Nat.{pow-le-pow_right}
use Rattle.text_lines.proofs.numbers.digits.Goals as goal

pub overflow_mul-value : goal.overflow_mul-value
overflow_mul-value c =
    let top : 10 ^ c.loop-b.b-index ≤ 10 ^ 17 = pow-le-pow_right {n = 10} (omega arith) {i = c.loop-b.b-index} {j = 17} (omega arith) in
    omega (arith, top)

pub overflow_add-value : goal.overflow_add-value
overflow_add-value c =
    let top : 10 ^ c.loop-b.b-index ≤ 10 ^ 17 = pow-le-pow_right {n = 10} (omega arith) {i = c.loop-b.b-index} {j = 17} (omega arith) in
    omega (arith, top)

pub returns-clause-bound : goal.returns-clause-bound
returns-clause-bound c =
    let top : 10 ^ c.loop-b.b-index ≤ 10 ^ 18 = pow-le-pow_right {n = 10} (omega arith) {i = c.loop-b.b-index} {j = 18} (omega arith) in
    omega (arith, top)
