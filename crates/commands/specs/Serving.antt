-- Each command by its own meaning, and when it is carried out.
use Rattle.std.specs.Prelude.{◌≡◌, ◌⊎◌, ℕ, ◌≤◌, List, length, MatchOption, Option, Some, Ok, ℤ}
use Rattle.iso_base.specs.Volume.{Volume}
use Rattle.iso_base.specs.Triangles.{Mesh}
use Rattle.byte_streams.specs.Causes.{Rose}
use Rattle.byte_streams.specs.Seen.{Files}
use Rattle.std.specs.FinMap.{get}
use Rattle.session.specs.Sessions.{script_limit}
use Rattle.commands.specs.Checks.{Checks, mesh_in, mesh_limit}
use Rattle.commands.specs.Generating.{Generates}
use Rattle.commands.specs.Headline.{WritesWatertight, mesh_given}
use Rattle.point_command.specs.Meaning.{points_given}
use Rattle.command_terms.specs.Outcome.{Converts, Tells}
use Rattle.commands.specs.Outcome.{Call, LeavesShelf, Rejects}
use Rattle.commands.specs.Sessions.{Asked, RunsSession}
use Rattle.commands.specs.Soaking.{DoesSoak}
use Rattle.commands.specs.Sure.{HasSureReplies, HasSureSoak}
use Rattle.command_terms.specs.Volumes.{volume_limit, volume_of}
use Rattle.arguments.specs.Help.{help_text, version_text}
use Rattle.arguments.specs.Words.{request_of}
use Rattle.arguments.specs.declared.request.Request.{Request}
use Rattle.arguments.specs.declared.request.Request.TheVariants as requests
use Rattle.program.specs.declared.answer.Answer.{Answer}
use Rattle.program.specs.declared.answer.Answer.TheVariants as answers
use Rattle.program.specs.declared.answer.Status.{Status}
use Rattle.program.specs.declared.answer.Status.TheVariants as statuses

-- what a session is asked for
abbrev pub asked_for : ℤ → Option ℤ → List ℕ → ℕ → ℕ → Asked
asked_for level pad name bricks pages = record {
  level = level;
  pad = pad;
  name = name;
  limits = record { bricks = bricks; pages = pages };
}

-- what a command does
abbrev pub Serves : Request → Call → Answer → Type 0
Serves (requests.Points level) call answer = Converts (points_given level) call.streams answer × LeavesShelf call
Serves (requests.Extract level pad format) call answer =
    Converts (mesh_given level pad format) call.streams answer × LeavesShelf call
    × (answer ≡ answers.Done → WritesWatertight level pad format call.streams)
Serves (requests.Session level pad name bricks pages) call answer = RunsSession
    (asked_for level pad name bricks pages) call answer
Serves (requests.Check format) call answer = Checks format call.streams answer × LeavesShelf call
Serves (requests.Gen seed sizes) call answer = Generates seed sizes call.streams answer × LeavesShelf call
Serves (requests.Soak seed) call answer = DoesSoak seed call answer
Serves requests.Help call answer = Tells help_text call.streams answer × LeavesShelf call
Serves requests.Version call answer = Tells version_text call.streams answer × LeavesShelf call

-- what a command line does
abbrev pub Ends : List (List ℕ) → Call → Answer → Type 0
Ends words call answer = MatchOption (request_of words) (Rejects call answer) (λ request. Serves request call answer)

-- the input is told, and within this limit these bytes
pub record Brings (call : Call) (limit : ℕ) (bytes : List ℕ) : Type 0 where
  pub told : call.streams.input.left ≡ Some bytes
  pub within : length bytes ≤ limit

-- what a command needs is there
abbrev pub CanServe : Request → Call → Type 0
CanServe (requests.Points level) call =
    (bytes : List ℕ) × (text : List ℕ) × Brings call volume_limit bytes × (points_given level bytes ≡ Ok text)
CanServe (requests.Extract level pad format) call =
    (bytes : List ℕ) × (text : List ℕ) × Brings call volume_limit bytes × (mesh_given level pad format bytes ≡ Ok text)
CanServe (requests.Session level pad name bricks pages) call =
    (script : List ℕ) × (files : Files) × (bytes : List ℕ) × (v : Volume) × Brings call script_limit script
    × (call.store.files ≡ Some files) × (get files name ≡ Some bytes) × (length bytes ≤ volume_limit)
    × (volume_of pad level bytes ≡ Ok v)
CanServe (requests.Gen seed sizes) call = Unit {0}
CanServe (requests.Soak seed) call = Unit {0}
CanServe requests.Help call = Unit {0}
CanServe requests.Version call = Unit {0}
CanServe (requests.Check format) call = (bytes : List ℕ) × (m : Mesh) × Brings call mesh_limit bytes
    × (mesh_in format bytes ≡ Ok m)

-- It is carried out, or memory is wanting, of which help and the version take none; a session's volume may have failed to be
-- read, where the shelf's count rose. Where it did not rise, each reply is the machine's, or says that memory was wanting.
abbrev pub IsCarriedOut : Request → Call → Status → Type 0
IsCarriedOut (requests.Points level) call status = (status ≡ statuses.Done) ⊎ (status ≡ statuses.Memory)
IsCarriedOut (requests.Extract level pad format) call status = (status ≡ statuses.Done) ⊎ (status ≡ statuses.Memory)
IsCarriedOut (requests.Session level pad name bricks pages) call status =
    ((status ≡ statuses.Done) ⊎ (status ≡ statuses.Memory)
    ⊎ ((status ≡ statuses.ShelfFault) × Rose call.store.faults call.store_after.faults))
    × HasSureReplies (asked_for level pad name bricks pages) call
IsCarriedOut (requests.Gen seed sizes) call status = (status ≡ statuses.Done) ⊎ (status ≡ statuses.Memory)
IsCarriedOut (requests.Soak seed) call status = ((status ≡ statuses.Done) ⊎ (status ≡ statuses.Memory))
    × HasSureSoak seed call status
IsCarriedOut requests.Help call status = status ≡ statuses.Done
IsCarriedOut requests.Version call status = status ≡ statuses.Done
IsCarriedOut (requests.Check format) call status = (status ≡ statuses.Done) ⊎ (status ≡ statuses.MeshRefused)
    ⊎ (status ≡ statuses.Memory)
