use Rattle.std.proofs.Common.{◌≡◌, length}
use Rattle.component_labels.specs.Walks.{AreClosed, IsSpread}
use Rattle.component_labels.proofs.walk.walk_all.Given as goal

abbrev pub invariant-loop-start : goal.invariant-loop-start
invariant-loop-start l = record {
  size : length l.least ≡ length l.initial.least;
  spread : IsSpread l.pairs l.start l.least l.queue.items;
  closed : AreClosed l.pairs l.start l.least l.queue.items l.walked;
  all : l.walked ≡ length l.queue.items;
}
