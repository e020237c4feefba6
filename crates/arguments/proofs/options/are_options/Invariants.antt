use Rattle.std.proofs.Common.{◌≡◌, map, drop, string_bytes}
use Rattle.std.specs.List.{list_all}
use Rattle.arguments.specs.Words.{has_head}
use Rattle.arguments.proofs.options.are_options.Given as goal

abbrev pub invariant-loop-word : goal.invariant-loop-word
invariant-loop-word l =
    list_all (has_head (map (λ h. h.now) l.heads)) (map string_bytes (drop l.word-index l.words)) ≡ list_all (has_head (map (λ h. h.now) l.heads)) (map string_bytes l.words)
