use Rattle.std.proofs.Common.{◌≡◌, length}
use Rattle.iso_io.specs.Places.{AllOfRoom}
use Rattle.iso_io.proofs.places.reserve_places.Given as goal

abbrev pub invariant-loop : goal.invariant-loop
invariant-loop l = record { count : length l.all.items ≡ l.counter; rooms : AllOfRoom l.room l.all.items }
