use Rattle.std.proofs.Common.{◌≡◌, map, drop, string_bytes}
use Rattle.arguments.specs.Words.{only_options}
use Rattle.arguments.proofs.options.only_options.Given as goal

abbrev pub invariant-loop-word : goal.invariant-loop-word
invariant-loop-word l =
    only_options (map (λ h. h.now) l.heads) (map string_bytes (drop l.word-index l.words)) ≡ only_options (map (λ h. h.now) l.heads) (map string_bytes l.words)
