use Rattle.std.proofs.Common.{◌≡◌, ◌*◌, take, map}
use Rattle.corner_signs.specs.Rows.{bit_from}
use Rattle.corner_signs.proofs.rows.fill_eights.Given as goal

-- the bits up to here are written
abbrev pub invariant-loop-i : goal.invariant-loop-i
invariant-loop-i l = take (8 * l.i) l.out ≡ map (bit_from l.least) (take (8 * l.i) l.samples)
