-- What a call does to its input, its output and its shelf.
use Rattle.std.specs.Prelude.{◌≡◌, ◌⊎◌, ◌<◌, ◌≤◌, ℕ, List, [], ◌∷◌, length, Option, Result, Ok, Err, IfSome, MatchResult}
use Rattle.byte_streams.specs.Causes.{HasCause, Rose}
use Rattle.std.specs.Io.KnownBytes.{Appends}
use Rattle.byte_streams.specs.Seen.{AppendsFront, Feed, Files, Tape}
use Rattle.iso_io.specs.Shelves.{FilesCut, Store, with_file}
use Rattle.command_terms.specs.Outcome.{HasRead, NothingWritten, ReadWhole, Streams, Writes, WritesFront, streams_between, unread_between}
use Rattle.command_terms.specs.Volumes.{volume_limit}
use Rattle.program.specs.declared.answer.Answer.TheVariants as answers
use Rattle.slab_command.specs.Parts.{Output, slab_given}
use Rattle.slab_command.specs.declared.answer.SlabAnswer.{SlabAnswer}
use Rattle.slab_command.specs.declared.answer.SlabAnswer.TheVariants.{Common, Thin, Numbers}
use Rattle.slab_command.specs.declared.asked.SlabJob.{SlabJob}

-- the input and the output of a call, and its shelf
pub record Call : Type 0 where
  pub streams : Streams
  pub store : Store
  pub store_after : Store

-- by how they are seen, and what they are before it and after it
abbrev pub call_between : {S K H : Type 0} → (S → Feed) → (K → Tape) → (H → Store) → S → S → K → K → H → H → Call
call_between feed tape store input input_after output output_after shelf shelf_after = record {
  streams = streams_between feed tape input input_after output output_after;
  store = store shelf;
  store_after = store shelf_after;
}

-- one that reads nothing and leaves its shelf
abbrev pub unread_call : {K : Type 0} → Feed → Store → (K → Tape) → K → K → Call
unread_call input store tape output output_after = record {
  streams = unread_between input tape output output_after;
  store = store;
  store_after = store;
}

-- where files are told, these are now these texts
abbrev pub with_files : List (List ℕ × List ℕ) → Option Files → Option Files
with_files [] told = told
with_files (file ∷ files) told = with_files files (with_file file.0 file.1 told)

-- so are the first of them; the next one is as before or a front of its text, and those behind it are as before
abbrev pub AreCutAmong : List (List ℕ × List ℕ) → Option Files → Option Files → Type 0
AreCutAmong [] old new = ⊥
AreCutAmong (file ∷ files) old new = FilesCut file.0 file.1 old new
    ⊎ AreCutAmong files (with_file file.0 file.1 old) new

-- files were made, or the shelf failed at one of them
pub record StoresAll {T E : Type 0} (old new : Store) (result : Result T E) (files : List (List ℕ × List ℕ)) : Type 0 where
  pub changed : MatchResult result (λ _. new.files ≡ with_files files old.files)
      (λ _. AreCutAmong files old.files new.files)
  pub cause : HasCause old.faults new.faults result

-- ---- what becomes of the shelf and of the output

-- a slab is refused for this reason; want of memory says nothing
abbrev pub IsReason : {A : Type 0} → Result A SlabAnswer → SlabAnswer → Type 0
IsReason given (Common answers.Memory) = Unit {0}
IsReason given answer = given ≡ Err answer

-- an answer that refuses a slab
abbrev pub IsRefusal : SlabAnswer → Type 0
IsRefusal (Common (answers.BadVolume fault)) = Unit {0}
IsRefusal (Common answer) = ⊥
IsRefusal (Thin slices) = Unit {0}
IsRefusal (Numbers largest) = Unit {0}

-- a line was appended, or a front of it where the output failed
abbrev pub PutsLine : List ℕ → Tape → Tape → SlabAnswer → Type 0
PutsLine line old new (Common answers.Done) = Appends old.taken new.taken line × (new.beside ≡ old.beside)
PutsLine line old new (Common answers.OutputFault) =
    Rose old.faults new.faults × AppendsFront old.taken new.taken line × (new.beside ≡ old.beside)
PutsLine line old new answer = ⊥

-- the files of what is given were made, or it gives none, or the shelf failed at one of them
abbrev pub MakesFiles : {T : Type 0} → Result Output SlabAnswer → Store → Store → Result T SlabAnswer → Type 0
MakesFiles given old new (Ok made) = (output : Output) × (given ≡ Ok output)
    × (new.files ≡ with_files output.files old.files) × (old.faults ≤ new.faults)
MakesFiles given old new (Err (Common answers.ShelfFault)) = (output : Output) × (given ≡ Ok output)
    × AreCutAmong output.files old.files new.files × Rose old.faults new.faults
MakesFiles given old new (Err (Numbers largest)) = (given ≡ Err (Numbers largest)) × (new ≡ old)
MakesFiles given old new (Err answer) = ⊥

-- so is what becomes of shelf and output by the answer
abbrev pub GivesOutput : Result Output SlabAnswer → Store → Store → Tape → Tape → SlabAnswer → Type 0
GivesOutput given store store_after old new (Common answers.Done) = (output : Output) × (given ≡ Ok output)
    × (store_after.files ≡ with_files output.files store.files) × PutsLine output.line old new (Common answers.Done)
GivesOutput given store store_after old new (Common answers.OutputFault) = (output : Output) × (given ≡ Ok output)
    × (store_after.files ≡ with_files output.files store.files) × PutsLine output.line old new (Common answers.OutputFault)
GivesOutput given store store_after old new (Common answers.ShelfFault) = (output : Output) × (given ≡ Ok output)
    × AreCutAmong output.files store.files store_after.files × Rose store.faults store_after.faults × (new ≡ old)
GivesOutput given store store_after old new (Common (answers.BadVolume fault)) =
    (given ≡ Err (Common (answers.BadVolume fault))) × (store_after ≡ store) × (new ≡ old)
GivesOutput given store store_after old new (Common answers.Memory) = (store_after ≡ store) × (new ≡ old)
GivesOutput given store store_after old new (Common answer) = ⊥
GivesOutput given store store_after old new (Thin slices) =
    (given ≡ Err (Thin slices)) × (store_after ≡ store) × (new ≡ old)
GivesOutput given store store_after old new (Numbers largest) =
    (given ≡ Err (Numbers largest)) × (store_after ≡ store) × (new ≡ old)

-- ---- a whole call

-- the shelf was not touched
abbrev pub LeavesShelf : Call → Type 0
LeavesShelf call = call.store_after ≡ call.store

-- neither was the output
pub record NothingMade (call : Call) : Type 0 where
  pub output : NothingWritten call.streams
  pub shelf : LeavesShelf call

-- The input gives files and a line: the files were made, and this became of the line. Where the input does not tell its bytes,
-- they are those that some bytes give.
pub record Makes (given : List ℕ → Result Output SlabAnswer) (call : Call) (Line : List ℕ → Type 0) : Type 0 where
  pub bytes : List ℕ
  pub output : Output
  pub read : HasRead volume_limit call.streams.input call.streams.input_after bytes
  pub gives : given bytes ≡ Ok output
  pub files : call.store_after.files ≡ with_files output.files call.store.files
  pub line : Line output.line

-- the shelf failed at one of the files, and no line was written
pub record CutsFiles (given : List ℕ → Result Output SlabAnswer) (call : Call) : Type 0 where
  pub bytes : List ℕ
  pub output : Output
  pub read : HasRead volume_limit call.streams.input call.streams.input_after bytes
  pub gives : given bytes ≡ Ok output
  pub cut : AreCutAmong output.files call.store.files call.store_after.files
  pub cause : Rose call.store.faults call.store_after.faults
  pub nothing : NothingWritten call.streams

-- the input was read, and its slab is refused for this reason
pub record Refuses (given : List ℕ → Result Output SlabAnswer) (call : Call) (answer : SlabAnswer) : Type 0 where
  pub read : ReadWhole volume_limit call.streams
  pub reason : IfSome call.streams.input.left (λ bytes. given bytes ≡ Err answer)
  pub nothing : NothingMade call

-- what becomes of all by the answer
abbrev pub Serves : (List ℕ → Result Output SlabAnswer) → Call → SlabAnswer → Type 0
Serves given call (Common answers.Done) = Makes given call (Writes call.streams)
Serves given call (Common answers.OutputFault) = Makes given call (WritesFront call.streams)
Serves given call (Common answers.ShelfFault) = CutsFiles given call
Serves given call (Common answers.InputFault) =
    Rose call.streams.input.faults call.streams.input_after.faults × NothingMade call
Serves given call (Common answers.InputTooLong) =
    IfSome call.streams.input.left (λ bytes. volume_limit < length bytes) × NothingMade call
Serves given call (Common (answers.BadVolume fault)) = Refuses given call (Common (answers.BadVolume fault))
Serves given call (Common answers.Memory) = NothingMade call
Serves given call (Common answer) = ⊥
Serves given call (Thin slices) = Refuses given call (Thin slices)
Serves given call (Numbers largest) = Refuses given call (Numbers largest)

abbrev pub ServesSlab : SlabJob → Call → SlabAnswer → Type 0
ServesSlab job call answer = Serves (slab_given job) call answer
