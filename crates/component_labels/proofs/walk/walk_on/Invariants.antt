use Rattle.std.proofs.Common.{◌+◌, ◌-◌, length}
use Rattle.component_labels.specs.Walks.{AreClosed, IsSpread, Keeps, unseen}
use Rattle.component_labels.proofs.walk.walk_on.Given as goal

abbrev pub invariant-loop-walked : goal.invariant-loop-walked
invariant-loop-walked l = record {
  spread : IsSpread l.pairs l.start l.least l.queue.items;
  kept : Keeps l.start l.initial.least l.initial.queue.items l.least l.queue.items;
  closed : AreClosed l.pairs l.start l.least l.queue.items l.walked;
}

abbrev pub decreases-loop-walked : goal.decreases-loop-walked
decreases-loop-walked l = unseen l.least + length l.queue.items - l.walked
