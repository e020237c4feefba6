use Rattle.std.proofs.Common.{◌≡◌, ℕ, List, ◌++◌, length}
use Rattle.session.specs.Worlds.{world}
use Rattle.commands.specs.Soaking.{Soaks}
use Rattle.commands.proofs.soaking.run_lines.Given as goal

-- the lines so far were run, and these are left
abbrev pub invariant-loop-lines : goal.invariant-loop-lines
invariant-loop-lines g l = (before : List (List ℕ)) × (l.fn.lines ≡ before ++ l.lines)
    × Soaks (world l.fn.bench l.fn.steps (g.H.Shelf.seen l.fn.shelf) (g.K.Sink.seen l.fn.output)) (world l.bench l.steps (g.H.Shelf.seen l.shelf) (g.K.Sink.seen l.output)) before

abbrev pub decreases-loop-lines : goal.decreases-loop-lines
decreases-loop-lines g l = length l.lines
