use Rattle.std.proofs.Common.{◌≡◌, map, take}
use Rattle.component_walk.specs.Shares.{share_at}
use Rattle.component_walk.proofs.shares.shares_of.Given as goal

abbrev pub invariant-loop-component : goal.invariant-loop-component
invariant-loop-component l = l.shares.items ≡ map (share_at l.padded) (take l.component-index l.components)
