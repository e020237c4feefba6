use Rattle.std.proofs.Common.{◌≡◌, ℕ, ◌<◌, ◌≤◌, All, length, map, slice_index_or, take}
use Rattle.indexmap.specs.IndexMap.{keys, values}
use Rattle.component_walk.specs.Counts.{part_with}
use Rattle.component_walk.specs.declared.components.Component.{Component}
use Rattle.component_walk.specs.declared.tally.LoopCounts.{LoopCounts}
use Rattle.component_walk.proofs.numbers.parts_of.Given as goal

abbrev pub invariant-loop-component : goal.invariant-loop-component
invariant-loop-component l = record {
  parts : values l.parts ≡ map (λ (c : Component LoopCounts). part_with c.least c.crossings c.tally) (take l.component-index l.components);
  below : All (λ n. (j : ℕ) (d : Component LoopCounts) → l.component-index ≤ j → j < length l.components → n < (slice_index_or l.components j d).least) (keys l.parts);
}
