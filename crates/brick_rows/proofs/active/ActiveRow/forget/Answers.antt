use Rattle.std.proofs.Common.{arith}
use Rattle.brick_rows.proofs.Places.{few_bricks}
use Rattle.brick_rows.proofs.active.ActiveRow.forget.Goals as goal

pub returns : goal.returns
returns c = λ v is. record {
  slice = record { each = λ x low known. absurd (let few = few_bricks v.grid is in omega arith) };
  next = λ x low known. absurd (let few = few_bricks v.grid is in omega arith);
  start = omega arith;
  rows = λ y z hy hz ey ez. absurd (let most = is.y.most in omega arith);
}
