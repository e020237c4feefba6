-- What the program promises.
use Rattle.std.specs.Prelude.{◌≡◌, ◌≢◌, ◌↔◌, ℕ, List, None, Some}
use Rattle.byte_streams.specs.Causes.{Rose}
use Rattle.byte_streams.specs.Seen.{ReadsWithin, Tape}
use Rattle.program.specs.Tries.{Tries}
use Rattle.program.specs.declared.answer.Status.{Status}
use Rattle.program.specs.declared.answer.Status.TheVariants as statuses
use Rattle.command_terms.specs.Volumes.{volume_limit}
use Rattle.slab_command.specs.Answers.{slab_note, slab_status}
use Rattle.slab_command.specs.Outcome.{Call, NothingMade}
use Rattle.slab_command.specs.Running.{CanGive, GivesAsked, HasNoSlab, HasShelfFault, HasTooMany, IsGiven}
use Rattle.slab_command.specs.Words.{asked_of}
use Rattle.slab_command.specs.declared.answer.SlabAnswer.{SlabAnswer}
use Rattle.slab_command.specs.declared.asked.Asked.{Asked}

-- A call on these words ends by this status; the last two are its notes before it and after it.
pub record RunsSlab (words : List (List ℕ)) (call : Call) (status : Status) (before after : Tape) : Type 0 where
  -- What was read and written, and what the note says.
  pub outcome : (answer : SlabAnswer) × (status ≡ slab_status answer) × GivesAsked words call answer
      × Tries before after (slab_note answer)
  -- The input was read no further than the limit and one piece, and each read but the last took at least one byte.
  pub reading : ReadsWithin volume_limit call.streams.input call.streams.input_after
  -- The cause of each status but done and want of memory.
  pub bad_words : (status ≡ statuses.BadWords) ↔ (asked_of words ≡ None)
  pub input_fault : status ≡ statuses.InputFault → Rose call.streams.input.faults call.streams.input_after.faults
  pub output_fault : status ≡ statuses.OutputFault → Rose call.streams.output.faults call.streams.output_after.faults
  pub too_long : status ≡ statuses.InputTooLong → HasTooMany (asked_of words) call
  pub bad_volume : status ≡ statuses.BadVolume → HasNoSlab (asked_of words) call
  pub shelf_fault : status ≡ statuses.ShelfFault → HasShelfFault (asked_of words) call
  -- By all but these three nothing was written, so also where memory is wanting.
  pub untouched : status ≢ statuses.Done → status ≢ statuses.OutputFault → status ≢ statuses.ShelfFault → NothingMade call
  -- Nothing else stands in the way.
  pub complete : (asked : Asked) → asked_of words ≡ Some asked
      → CanGive asked call
      → (Rose call.streams.input.faults call.streams.input_after.faults → ⊥)
      → (Rose call.streams.output.faults call.streams.output_after.faults → ⊥)
      → (Rose call.store.faults call.store_after.faults → ⊥)
      → IsGiven asked status

-- A status by which the program may end on these words: that of some call on them, over some streams and files.
abbrev pub MayEnd : List (List ℕ) → Status → Type 0
MayEnd words status = (call : Call) × (before : Tape) × (after : Tape) × RunsSlab words call status before after
