-- What `run` promises.
use Rattle.std.specs.Prelude.{◌≡◌, ◌↔◌, ℕ, List, ◌∷◌, codes, IfSome, None, Option, Some, ℤ}
use Rattle.byte_streams.specs.Causes.{Rose}
use Rattle.byte_streams.specs.Seen.{Tape}
use Rattle.arguments.specs.Words.{extract_of, request_of, session_of}
use Rattle.arguments.specs.declared.request.Request.{Request}
use Rattle.arguments.specs.declared.request.Request.TheVariants.{Extract, Session, Soak}
use Rattle.program.specs.Notes.{note_of}
use Rattle.program.specs.Status.{status_of}
use Rattle.program.specs.Tries.{Tries}
use Rattle.program.specs.declared.answer.Answer.{Answer}
use Rattle.program.specs.declared.answer.Status.{Status}
use Rattle.program.specs.declared.answer.Status.TheVariants as statuses
use Rattle.mesh_text.specs.declared.format.TwoWayFormat.{TwoWayFormat}
use Rattle.commands.specs.Causes.{Asks, HasBadMesh, HasBadVolume, HasBrokenMesh, HasNoFile, HasTooMany}
use Rattle.commands.specs.Economy.{LeavesBench}
use Rattle.commands.specs.Headline.{WritesWatertight}
use Rattle.commands.specs.Outcome.{Call}
use Rattle.commands.specs.Reading.{ReadsInput}
use Rattle.commands.specs.Serving.{CanServe, Ends, IsCarriedOut, asked_for}
use Rattle.commands.specs.SessionMeshes.{SessionMeshes}
use Rattle.commands.specs.Soaking.{SoakLeaves, SoakMeshes}

-- A call on these words ends by this status; the last two are its notes before it and after it.
pub record RunsAs (words : List (List ℕ)) (call : Call) (status : Status) (before after : Tape) : Type 0 where
  -- What was read, written and left, and what the note says.
  pub outcome : (answer : Answer) × (status ≡ status_of answer) × Ends words call answer
      × Tries before after (note_of answer)
  -- The input was read no further than the command's limit and one piece, and each read but the last took at least one
  -- byte.
  pub reading : ReadsInput words call.streams.input call.streams.input_after
  -- The cause of each status but done and want of memory.
  pub bad_words : (status ≡ statuses.BadWords) ↔ (request_of words ≡ None)
  pub input_fault : status ≡ statuses.InputFault → Rose call.streams.input.faults call.streams.input_after.faults
  pub output_fault : status ≡ statuses.OutputFault → Rose call.streams.output.faults call.streams.output_after.faults
  pub too_long : status ≡ statuses.InputTooLong → Asks (request_of words) HasTooMany call
  pub bad_volume : status ≡ statuses.BadVolume → Asks (request_of words) HasBadVolume call
  pub shelf_fault : status ≡ statuses.ShelfFault → Asks (request_of words) HasNoFile call
  pub bad_mesh : status ≡ statuses.BadMesh → Asks (request_of words) HasBadMesh call
  pub mesh_refused : status ≡ statuses.MeshRefused → Asks (request_of words) HasBrokenMesh call
  -- The headline, where a mesh is extracted: what was written is the text of the mesh of the volume in the input, and
  -- that mesh is watertight.
  pub headline : (options : List (List ℕ)) (level : ℤ) (pad : Option ℤ) (format : TwoWayFormat)
      → words ≡ codes "extract" ∷ options
      → extract_of options ≡ Some (Extract level pad format)
      → status ≡ statuses.Done
      → WritesWatertight level pad format call.streams
  -- The headline, in a session that was opened, which is one that leaves a bench, however it ended: each line `ply` or
  -- `obj` that was run wrote the mesh of the state that the lines before it led to, and that mesh is watertight; or it was
  -- answered that the shelf failed.
  pub session_headline : (options : List (List ℕ)) (level : ℤ) (pad : Option ℤ) (name : List ℕ) (bricks pages : ℕ)
      → words ≡ codes "session" ∷ options
      → session_of options ≡ Some (Session level pad name bricks pages)
      → IfSome call.left (SessionMeshes (asked_for level pad name bricks pages) call status)
  -- So it is in a soak, at the lines that were run, whose replies to its lines `ply` were written.
  pub soak_headline : (seed : ℕ) → request_of words ≡ Some (Soak seed) → IfSome call.left (SoakMeshes seed call status)
  -- A bench that a session leaves is the one to which the lines run led with their replies, with what they keep of the
  -- mesh, and the counter rose by no more than they allow; where none is left, no cell was classified.
  pub economy : (level : ℤ) (pad : Option ℤ) (name : List ℕ) (bricks pages : ℕ)
      → request_of words ≡ Some (Session level pad name bricks pages)
      → LeavesBench (asked_for level pad name bricks pages) call
  -- So it is with the bench that a soak leaves.
  pub soak_economy : (seed : ℕ) → request_of words ≡ Some (Soak seed) → SoakLeaves seed call status
  -- Nothing else stands in the way of a command.
  pub complete : (request : Request) → request_of words ≡ Some request
      → CanServe request call
      → (Rose call.streams.input.faults call.streams.input_after.faults → ⊥)
      → (Rose call.streams.output.faults call.streams.output_after.faults → ⊥)
      → IsCarriedOut request call status

-- A status by which `run` may end on these words: that of some call on them, over some streams and files.
abbrev pub MayEnd : List (List ℕ) → Status → Type 0
MayEnd words status = (call : Call) × (before : Tape) × (after : Tape) × RunsAs words call status before after
