use Rattle.std.proofs.Common.{◌≡◌, map, take}
use Rattle.cell_loops.specs.Loops.{row_loops}
use Rattle.cell_loops.proofs.loops.loops_of.Given as goal

-- the loops up to here are taken
abbrev pub invariant-loop-turn : goal.invariant-loop-turn
invariant-loop-turn l = map (λ edges. edges.now) l.loops.items ≡ take l.turn (row_loops l.row)
