-- What a command does to its input and its output, and by which answer it ends.
use Rattle.std.specs.Prelude.{ℕ, ◌≤◌, List, length, ◌≡◌, ◌⊎◌, ◌<◌, Result, Ok, Err, IfSome}
use Rattle.byte_streams.specs.Seen.{Feed, ReadsAll, Tape, AppendsFront}
use Rattle.std.specs.Io.KnownBytes.{Appends, IsAtEnd}
use Rattle.byte_streams.specs.Causes.{Rose}
use Rattle.command_terms.specs.Volumes.{volume_limit}
use Rattle.program.specs.declared.answer.VolumeFault.{VolumeFault}
use Rattle.program.specs.declared.answer.Answer.{Answer}
use Rattle.program.specs.declared.answer.Status.{Status}
use Rattle.program.specs.declared.answer.Answer.TheVariants as answers
use Rattle.program.specs.declared.answer.Status.TheVariants as statuses

-- these are its bytes, no more than this many
pub record HasRead (limit : ℕ) (old new : Feed) (bytes : List ℕ) : Type 0 where
  pub all : ReadsAll old new bytes
  pub within : length bytes ≤ limit

-- what the input and the output are seen as before a call and after it
pub record Streams : Type 0 where
  pub input : Feed
  pub input_after : Feed
  pub output : Tape
  pub output_after : Tape

-- the input and the output of a call, by how they are seen and what they are before it and after it
abbrev pub streams_between : {S K : Type 0} → (S → Feed) → (K → Tape) → S → S → K → K → Streams
streams_between feed tape input input_after output output_after =
    record {
      input = feed input;
      input_after = feed input_after;
      output = tape output;
      output_after = tape output_after;
    }

-- those of a call that reads nothing
abbrev pub unread_between : {K : Type 0} → Feed → (K → Tape) → K → K → Streams
unread_between input tape output output_after =
    record { input = input; input_after = input; output = tape output; output_after = tape output_after }

-- the input was read to its end, and has no more than this many bytes
pub record ReadWhole (limit : ℕ) (call : Streams) : Type 0 where
  pub ended : IsAtEnd call.input_after.left
  pub within : IfSome call.input.left (λ bytes. length bytes ≤ limit)

-- the output was not touched
abbrev pub NothingWritten : Streams → Type 0
NothingWritten call = call.output_after ≡ call.output

-- a text was appended to the output, and what lies beside it stays
pub record Writes (call : Streams) (text : List ℕ) : Type 0 where
  pub gained : Appends call.output.taken call.output_after.taken text
  pub beside : call.output_after.beside ≡ call.output.beside

-- the output failed, a front of a text was appended to it, and what lies beside it stays
pub record WritesFront (call : Streams) (text : List ℕ) : Type 0 where
  pub cause : Rose call.output.faults call.output_after.faults
  pub gained : AppendsFront call.output.taken call.output_after.taken text
  pub beside : call.output_after.beside ≡ call.output.beside

-- a text was written, or a front of it where the output failed
abbrev pub WritesText : List ℕ → Streams → Answer → Type 0
WritesText text call answers.Done = Writes call text
WritesText text call answers.OutputFault = WritesFront call text
WritesText text call answer = ⊥

-- so it is where a program tells of itself, and nothing is read
abbrev pub Tells : List ℕ → Streams → Answer → Type 0
Tells text call answer = WritesText text call answer × (call.input_after ≡ call.input)

-- A command that reads a volume from its input and then writes. `given` is the text that the bytes of an input give, or why they
-- give none. Where the input does not tell its bytes, what is written is still the text that some bytes give.
abbrev pub Converts : (List ℕ → Result (List ℕ) VolumeFault) → Streams → Answer → Type 0
Converts given call answers.Done =
    (bytes : List ℕ) × (text : List ℕ) × HasRead volume_limit call.input call.input_after bytes
    × (given bytes ≡ Ok text) × Writes call text
Converts given call answers.OutputFault =
    (bytes : List ℕ) × (text : List ℕ) × HasRead volume_limit call.input call.input_after bytes
    × (given bytes ≡ Ok text) × WritesFront call text
Converts given call answers.InputFault = Rose call.input.faults call.input_after.faults × NothingWritten call
Converts given call answers.InputTooLong = IfSome call.input.left (λ bytes. volume_limit < length bytes)
    × NothingWritten call
Converts given call (answers.BadVolume fault) =
    ReadWhole volume_limit call × IfSome call.input.left (λ bytes. given bytes ≡ Err fault) × NothingWritten call
Converts given call answers.Memory = NothingWritten call
Converts given call answer = ⊥

-- what becomes of the output where the input gives a text, or why it gives none, by the answer
abbrev pub WritesGiven : Result (List ℕ) VolumeFault → Tape → Tape → Answer → Type 0
WritesGiven given old new answers.Done = (text : List ℕ) × (given ≡ Ok text) × Appends old.taken new.taken text
    × (new.beside ≡ old.beside)
WritesGiven given old new answers.OutputFault =
    (text : List ℕ) × (given ≡ Ok text) × Rose old.faults new.faults × AppendsFront old.taken new.taken text
    × (new.beside ≡ old.beside)
WritesGiven given old new (answers.BadVolume fault) = (given ≡ Err fault) × (new ≡ old)
WritesGiven given old new answers.Memory = new ≡ old
WritesGiven given old new answer = ⊥

-- it is done, or memory is wanting
abbrev pub IsDoneOrWanting : Status → Type 0
IsDoneOrWanting status = (status ≡ statuses.Done) ⊎ (status ≡ statuses.Memory)
