-- What the program that knows `points` alone promises.
use Rattle.std.specs.Prelude.{◌≡◌, ◌↔◌, ℕ, List, None, Some}
use Rattle.byte_streams.specs.Causes.{Rose}
use Rattle.byte_streams.specs.Seen.{ReadsWithin, Tape}
use Rattle.program.specs.Notes.{note_of}
use Rattle.program.specs.Status.{status_of}
use Rattle.program.specs.Tries.{Tries}
use Rattle.program.specs.declared.answer.Answer.{Answer}
use Rattle.program.specs.declared.answer.Status.{Status}
use Rattle.program.specs.declared.answer.Status.TheVariants as statuses
use Rattle.command_terms.specs.Outcome.{Streams}
use Rattle.point_command.specs.Running.{CanGive, GivesPoints, HasNoVolume, HasTooMany, IsGiven}
use Rattle.command_terms.specs.Volumes.{volume_limit}
use Rattle.point_command.specs.Words.{asked_of}
use Rattle.point_command.specs.declared.words.Asked.{Asked}

-- A call on these words ends by this status; the last two are its notes before it and after it.
pub record RunsPoints (words : List (List ℕ)) (call : Streams) (status : Status) (before after : Tape) : Type 0 where
  -- What was read and written, and what the note says.
  pub outcome : (answer : Answer) × (status ≡ status_of answer) × GivesPoints words call answer
      × Tries before after (note_of answer)
  -- The input was read no further than the limit and one piece, and each read but the last took at least one byte.
  pub reading : ReadsWithin volume_limit call.input call.input_after
  -- The cause of each status but done and want of memory.
  pub bad_words : (status ≡ statuses.BadWords) ↔ (asked_of words ≡ None)
  pub input_fault : status ≡ statuses.InputFault → Rose call.input.faults call.input_after.faults
  pub output_fault : status ≡ statuses.OutputFault → Rose call.output.faults call.output_after.faults
  pub too_long : status ≡ statuses.InputTooLong → HasTooMany (asked_of words) call
  pub bad_volume : status ≡ statuses.BadVolume → HasNoVolume (asked_of words) call
  -- Nothing else stands in the way.
  pub complete : (asked : Asked) → asked_of words ≡ Some asked
      → CanGive asked call
      → (Rose call.input.faults call.input_after.faults → ⊥)
      → (Rose call.output.faults call.output_after.faults → ⊥)
      → IsGiven asked status

-- A status by which the program may end on these words: that of some call on them, over some streams.
abbrev pub MayEnd : List (List ℕ) → Status → Type 0
MayEnd words status = (call : Streams) × (before : Tape) × (after : Tape) × RunsPoints words call status before after
