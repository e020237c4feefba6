use Rattle.std.proofs.Common.{refl}
use Rattle.slab_command.specs.Words.{write_of}
use Rattle.slab_command.proofs.words.write.Goals as goal

pub returns-then-not-only_options-clause-value : goal.returns-then-not-only_options-clause-value
unfolding write_of
returns-then-not-only_options-clause-value c = rw (← c.if-not-only_options.ensures) refl

pub returns-clause-value : goal.returns-clause-value
unfolding write_of
returns-clause-value c =
    rw (← c.if-not-only_options.ensures, ← c.in_ok-slab.ensures.value, ← c.in_ok-files.ensures.value) refl
