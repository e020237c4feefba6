use Rattle.std.proofs.Common.{◌≡◌, ℕ, length}
use Rattle.mesh_report.specs.Walks.{AreAlike, AreClosed, IsSameAlong, IsSpread}
use Rattle.mesh_report.proofs.walk.walk_all.Given as goal

abbrev pub invariant-loop-start : goal.invariant-loop-start
invariant-loop-start l = record {
  size : length l.names ≡ length l.initial.names;
  spread : IsSpread l.start l.names l.queue.items;
  closed : AreClosed l.rings l.start l.names l.queue.items l.walked;
  all : l.walked ≡ length l.queue.items;
  alike : (f : ℕ → ℕ) → IsSameAlong l.rings f → AreAlike f l.names;
}
