use Rattle.std.proofs.Common.{take}
use Rattle.iso_io.specs.Places.{IsLacking, entries_of}
use Rattle.iso_io.proofs.places.place_of.Given as goal

abbrev pub invariant-loop-i : goal.invariant-loop-i
invariant-loop-i l = IsLacking (take l.i (entries_of l.places)) l.name
