-- The points of the volume in an input.
use Rattle.std.specs.Prelude.{ℕ, List, ℤ, Result}
use Rattle.byte_streams.specs.Seen.{Feed, Tape}
use Rattle.point_command.specs.Texts.{PutsPointsOf}
use Rattle.command_terms.specs.Outcome.{HasRead}
use Rattle.command_terms.specs.Volumes.{volume_limit}

-- the whole input was read, and the text of the points of its volume was put, or a front of it
pub record HoldsPoints {T E : Type 0} (level : ℤ) (old new : Feed) (before after : Tape) (written : Result T E)
    : Type 0 where
  pub bytes : List ℕ
  pub read : HasRead volume_limit old new bytes
  pub puts : PutsPointsOf bytes level before after written
