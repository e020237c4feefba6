-- What the program does, and why.
use Rattle.std.specs.Prelude.{◌≡◌, ◌≤◌, ◌<◌, ℕ, List, length, MatchOption, Option, Some, Ok, Err, IfSome, is_some, true}
use Rattle.byte_streams.specs.Causes.{Rose}
use Rattle.mesh_text.specs.Lines.{ply_head}
use Rattle.command_terms.specs.Outcome.{IsDoneOrWanting, Tells}
use Rattle.command_terms.specs.Volumes.{volume_limit}
use Rattle.program.specs.declared.answer.Answer.{Answer}
use Rattle.program.specs.declared.answer.Answer.TheVariants.{BadWords}
use Rattle.program.specs.declared.answer.Status.{Status}
use Rattle.program.specs.declared.answer.Status.TheVariants as statuses
use Rattle.slab_command.specs.Help.{help_text, version_text}
use Rattle.slab_command.specs.Outcome.{Call, LeavesShelf, NothingMade, ServesSlab}
use Rattle.slab_command.specs.Parts.{Output, slab_given}
use Rattle.slab_command.specs.Words.{asked_of}
use Rattle.slab_command.specs.declared.answer.SlabAnswer.{SlabAnswer}
use Rattle.slab_command.specs.declared.answer.SlabAnswer.TheVariants.{Common}
use Rattle.slab_command.specs.declared.asked.Asked.{Asked}
use Rattle.slab_command.specs.declared.asked.Asked.TheVariants.{Slab, Head, Help, Version}
use Rattle.slab_command.specs.declared.asked.SlabJob.{SlabJob}

-- other words are refused, and nothing is read or written
pub record RefusesWords (call : Call) (answer : SlabAnswer) : Type 0 where
  pub answer_is : answer ≡ Common BadWords
  pub nothing_read : call.streams.input_after ≡ call.streams.input
  pub nothing_made : NothingMade call

-- a text is told, and nothing is read
pub record TellsText (text : List ℕ) (call : Call) (answer : SlabAnswer) : Type 0 where
  pub told : Answer
  pub answer_is : answer ≡ Common told
  pub text_is : Tells text call.streams told
  pub shelf : LeavesShelf call

-- what is asked for is done
abbrev pub Gives : Asked → Call → SlabAnswer → Type 0
Gives (Slab job) call answer = ServesSlab job call answer
Gives (Head vertices triangles) call answer = TellsText (ply_head vertices triangles) call answer
Gives Help call answer = TellsText help_text call answer
Gives Version call answer = TellsText version_text call answer

-- what the words do
abbrev pub GivesAsked : List (List ℕ) → Call → SlabAnswer → Type 0
GivesAsked words call answer = MatchOption (asked_of words) (RefusesWords call answer)
    (λ asked. Gives asked call answer)

-- ---- causes

-- the words ask for a slab, by which this is true
abbrev pub AsksSlab : Option Asked → (SlabJob → Type 0) → Type 0
AsksSlab asked P = (job : SlabJob) × (asked ≡ Some (Slab job)) × P job

-- there are more bytes than are read
abbrev pub HasTooMany : Option Asked → Call → Type 0
HasTooMany asked call = AsksSlab asked (λ job.
    IfSome call.streams.input.left (λ bytes. volume_limit < length bytes))

-- the bytes that were read give nothing
abbrev pub HasNoSlab : Option Asked → Call → Type 0
HasNoSlab asked call = AsksSlab asked (λ job.
    IfSome call.streams.input.left (λ bytes. (reason : SlabAnswer) × (slab_given job bytes ≡ Err reason)))

-- there were to be files, and the shelf failed
abbrev pub HasShelfFault : Option Asked → Call → Type 0
HasShelfFault asked call = AsksSlab asked (λ job. (is_some job.files ≡ true)
    × Rose call.store.faults call.store_after.faults)

-- ---- nothing else stands in the way

-- the input is told, within the limit, and gives files and a line
pub record CanServe (job : SlabJob) (call : Call) : Type 0 where
  pub bytes : List ℕ
  pub told : call.streams.input.left ≡ Some bytes
  pub within : length bytes ≤ volume_limit
  pub output : Output
  pub gives : slab_given job bytes ≡ Ok output

-- what is needed is there
abbrev pub CanGive : Asked → Call → Type 0
CanGive (Slab job) call = CanServe job call
CanGive (Head vertices triangles) call = Unit {0}
CanGive Help call = Unit {0}
CanGive Version call = Unit {0}

-- it is given, or memory is wanting
abbrev pub IsGiven : Asked → Status → Type 0
IsGiven (Slab job) status = IsDoneOrWanting status
IsGiven (Head vertices triangles) status = status ≡ statuses.Done
IsGiven Help status = status ≡ statuses.Done
IsGiven Version status = status ≡ statuses.Done
