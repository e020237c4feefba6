use Rattle.std.proofs.Common.{refl}
use Rattle.arguments.specs.Words.{extract_of}
use Rattle.arguments.proofs.read.extract.Goals as goal

pub returns-then-not-are_options-clause-value : goal.returns-then-not-are_options-clause-value
unfolding extract_of
returns-then-not-are_options-clause-value c = rw (← c.if-not-are_options.ensures) refl

pub returns-clause-value : goal.returns-clause-value
unfolding extract_of
returns-clause-value c =
    rw (← c.if-not-are_options.ensures, ← c.in_ok-level.ensures, ← c.in_ok-pad.ensures.value, ← c.in_ok-format.ensures) refl
