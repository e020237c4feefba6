use Rattle.std.proofs.Common.{sym}
use Rattle.number_digits.proofs.Counts.{four_digits_of, one_digit, three_digits_of, two_digits}
use Rattle.number_digits.proofs.digit_counts.count_short.Goals as goal

pub returns-then-n-lt10-clause-value : goal.returns-then-n-lt10-clause-value
returns-then-n-lt10-clause-value c = sym (one_digit c.args.n c.if-n-lt10.true)

pub returns-else-n-lt10-clause-value : goal.returns-else-n-lt10-clause-value
returns-else-n-lt10-clause-value c = sym (two_digits c.args.n c.if-n-lt10.false c.if-n-lt100.true)

pub returns-then-n-lt1000-clause-value : goal.returns-then-n-lt1000-clause-value
returns-then-n-lt1000-clause-value c = sym (three_digits_of c.args.n c.if-n-lt100.false c.if-n-lt1000.true)

pub returns-else-n-lt1000-clause-value : goal.returns-else-n-lt1000-clause-value
returns-else-n-lt1000-clause-value c = sym (four_digits_of c.args.n c.if-n-lt1000.false c.requires)
