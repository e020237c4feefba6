use Rattle.std.proofs.Common.{◌/◌, ◌≤◌, length, decimal, arith}
use Rattle.std.proofs.lemmas.Fmt.{length-decimal-le}
use Rattle.number_digits.proofs.digit_counts.count_digits.Goals as goal

pub returns-else-n-lt100000000-clause-bound : goal.returns-else-n-lt100000000-clause-bound
returns-else-n-lt100000000-clause-bound c =
    let short : length (decimal (c.args.n / 100000000)) ≤ 3 = length-decimal-le 3 (c.args.n / 100000000) (omega arith) (omega (arith, c.requires)) (omega (arith, c.requires)) in
    omega (arith, short, c.count_short-else-n-lt100000000.ensures.value)
