-- A text that is written where it can be.
use Rattle.std.specs.Prelude.{◌≡◌, ◌⊎◌, ℕ, ◌≤◌, List}
use Rattle.std.specs.Io.KnownBytes.{Appends}
use Rattle.byte_streams.specs.Causes.{Rose}
use Rattle.byte_streams.specs.Seen.{Tape, AppendsFront}

-- the text was appended, or the count rose and a front of it was
pub record Tries (old new : Tape) (text : List ℕ) : Type 0 where
  pub gained : Appends old.taken new.taken text ⊎ (Rose old.faults new.faults × AppendsFront old.taken new.taken text)
  pub beside : new.beside ≡ old.beside
  pub later : old.faults ≤ new.faults
