use Rattle.std.proofs.Common.{◌≡◌, map, drop}
use Rattle.arguments.specs.Words.{has_head}
use Rattle.arguments.proofs.options.has_head.Given as goal

abbrev pub invariant-loop-head : goal.invariant-loop-head
invariant-loop-head l = has_head (map (λ h. h.now) (drop l.head-index l.heads)) l.word ≡ has_head (map (λ h. h.now) l.heads) l.word
