use Rattle.std.proofs.Common.{◌≡◌, map, drop}
use Rattle.nrrd_read.specs.Checks.{is_one_of}
use Rattle.nrrd_read.proofs.checks.is_one_of.Given as goal

abbrev pub invariant-loop-word : goal.invariant-loop-word
invariant-loop-word l = is_one_of l.text (map (λ w. w.now) (drop l.word-index l.words)) ≡ is_one_of l.text (map (λ w. w.now) l.words)
