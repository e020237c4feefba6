use Rattle.std.proofs.Common.{refl}
use Rattle.nrrd_read.specs.Checks.{kind_named}
use Rattle.nrrd_read.proofs.checks.kind_of.Goals as goal

pub returns-then-is_one_of : goal.returns-then-is_one_of
unfolding kind_named
returns-then-is_one_of c = rw (← c.if-is_one_of.ensures) refl

pub returns-then-is_one_of-2 : goal.returns-then-is_one_of-2
unfolding kind_named
returns-then-is_one_of-2 c =
    rw (← c.if-is_one_of.ensures, ← c.if-is_one_of-2.ensures) refl

pub returns-then-is_one_of-3 : goal.returns-then-is_one_of-3
unfolding kind_named
returns-then-is_one_of-3 c =
    rw (← c.if-is_one_of.ensures, ← c.if-is_one_of-2.ensures, ← c.if-is_one_of-3.ensures) refl

pub returns-then-is_one_of-4 : goal.returns-then-is_one_of-4
unfolding kind_named
returns-then-is_one_of-4 c =
    rw (← c.if-is_one_of.ensures, ← c.if-is_one_of-2.ensures, ← c.if-is_one_of-3.ensures, ← c.if-is_one_of-4.ensures) refl

pub returns-then-is_one_of-5 : goal.returns-then-is_one_of-5
unfolding kind_named
returns-then-is_one_of-5 c =
    rw (← c.if-is_one_of.ensures, ← c.if-is_one_of-2.ensures, ← c.if-is_one_of-3.ensures, ← c.if-is_one_of-4.ensures, ← c.if-is_one_of-5.ensures) refl

pub returns-then-is_one_of-6 : goal.returns-then-is_one_of-6
unfolding kind_named
returns-then-is_one_of-6 c =
    rw (← c.if-is_one_of.ensures, ← c.if-is_one_of-2.ensures, ← c.if-is_one_of-3.ensures, ← c.if-is_one_of-4.ensures, ← c.if-is_one_of-5.ensures, ← c.if-is_one_of-6.ensures) refl

pub returns : goal.returns
unfolding kind_named
returns c =
    rw (← c.if-is_one_of.ensures, ← c.if-is_one_of-2.ensures, ← c.if-is_one_of-3.ensures, ← c.if-is_one_of-4.ensures, ← c.if-is_one_of-5.ensures, ← c.if-is_one_of-6.ensures) refl
