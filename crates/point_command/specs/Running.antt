-- What the program that knows `points` alone does.
use Rattle.std.specs.Prelude.{◌≡◌, ℕ, ◌<◌, ◌≤◌, List, length, MatchOption, Option, Some, None, Ok, Err, IfSome, ℤ}
use Rattle.point_command.specs.Meaning.{points_given}
use Rattle.command_terms.specs.Outcome.{Converts, IsDoneOrWanting, NothingWritten, Streams, Tells}
use Rattle.command_terms.specs.Volumes.{volume_limit, volume_of}
use Rattle.point_command.specs.Words.{asked_of}
use Rattle.point_command.specs.Help.{help_text, version_text}
use Rattle.point_command.specs.declared.words.Asked.{Asked}
use Rattle.point_command.specs.declared.words.Asked.TheVariants.{Points, Help, Version}
use Rattle.program.specs.declared.answer.VolumeFault.{VolumeFault}
use Rattle.program.specs.declared.answer.Answer.{Answer}
use Rattle.program.specs.declared.answer.Answer.TheVariants as answers
use Rattle.program.specs.declared.answer.Status.{Status}
use Rattle.program.specs.declared.answer.Status.TheVariants as statuses

-- other words are refused, and nothing is read or written
pub record RefusesWords (call : Streams) (answer : Answer) : Type 0 where
  pub answer_is : answer ≡ answers.BadWords
  pub nothing_read : call.input_after ≡ call.input
  pub nothing_written : NothingWritten call

-- what is asked for is done
abbrev pub Gives : Asked → Streams → Answer → Type 0
Gives (Points level) call answer = Converts (points_given level) call answer
Gives Help call answer = Tells help_text call answer
Gives Version call answer = Tells version_text call answer

-- what the words do
abbrev pub GivesPoints : List (List ℕ) → Streams → Answer → Type 0
GivesPoints words call answer = MatchOption (asked_of words) (RefusesWords call answer)
    (λ asked. Gives asked call answer)

-- ---- causes

-- the words ask for points, and there are more bytes than are read
abbrev pub HasTooMany : Option Asked → Streams → Type 0
HasTooMany asked call = (level : ℤ) × (asked ≡ Some (Points level))
    × IfSome call.input.left (λ bytes. volume_limit < length bytes)

-- the words ask for points, and the bytes that were read are no volume
abbrev pub HasNoVolume : Option Asked → Streams → Type 0
HasNoVolume asked call =
    (level : ℤ) × (asked ≡ Some (Points level))
    × IfSome call.input.left (λ bytes. (fault : VolumeFault) × (volume_of None level bytes ≡ Err fault))

-- ---- nothing else stands in the way

-- the input is told, within the limit, and a volume
pub record CanConvert (level : ℤ) (call : Streams) : Type 0 where
  pub bytes : List ℕ
  pub told : call.input.left ≡ Some bytes
  pub within : length bytes ≤ volume_limit
  pub text : List ℕ
  pub gives : points_given level bytes ≡ Ok text

-- what is needed is there
abbrev pub CanGive : Asked → Streams → Type 0
CanGive (Points level) call = CanConvert level call
CanGive Help call = Unit {0}
CanGive Version call = Unit {0}

-- it is given, or memory is wanting
abbrev pub IsGiven : Asked → Status → Type 0
IsGiven (Points level) status = IsDoneOrWanting status
IsGiven Help status = status ≡ statuses.Done
IsGiven Version status = status ≡ statuses.Done
