-- When each status may come, by what was asked for.
use Rattle.std.specs.Prelude.{◌≡◌, ◌⊎◌, ◌<◌, length, true, Option, None, Some, Err, IfSome, MatchOption}
use Rattle.iso_base.specs.declared.verdict.Verdict.{Verdict}
use Rattle.byte_streams.specs.Causes.{Rose}
use Rattle.iso_io.specs.Shelves.{Lacks, content}
use Rattle.refusals.specs.declared.mesh.MeshFault.{MeshFault}
use Rattle.session.specs.Sessions.{script_limit}
use Rattle.arguments.specs.declared.request.Request.{Request}
use Rattle.arguments.specs.declared.request.Request.TheVariants.{Points, Extract, Session, Check}
use Rattle.program.specs.declared.answer.VolumeFault.{VolumeFault}
use Rattle.commands.specs.Checks.{HasVerdict, is_broken, mesh_in, mesh_limit}
use Rattle.commands.specs.Outcome.{Call}
use Rattle.command_terms.specs.Volumes.{volume_limit, volume_of}
use Rattle.commands.specs.Volumes.{FileIs}

-- the bytes that were read are no volume, or its pad is refused
abbrev pub HasBadVolume : Request → Call → Type 0
HasBadVolume (Points level) call = IfSome call.streams.input.left (λ bytes. (fault : VolumeFault)
    × (volume_of None level bytes ≡ Err fault))
HasBadVolume (Extract level pad format) call = IfSome call.streams.input.left (λ bytes. (fault : VolumeFault)
    × (volume_of pad level bytes ≡ Err fault))
HasBadVolume (Session level pad name bricks pages) call = FileIs call.store name (λ bytes. (fault : VolumeFault)
    × (volume_of pad level bytes ≡ Err fault))
HasBadVolume request call = ⊥

-- the bytes that were read are no mesh text
abbrev pub HasBadMesh : Request → Call → Type 0
HasBadMesh (Check format) call = IfSome call.streams.input.left (λ bytes. (fault : MeshFault)
    × (mesh_in format bytes ≡ Err fault))
HasBadMesh request call = ⊥

-- the mesh that was read is no surface
abbrev pub HasBrokenMesh : Request → Call → Type 0
HasBrokenMesh (Check format) call = IfSome call.streams.input.left (λ bytes. (v : Verdict) × (is_broken v ≡ true)
    × HasVerdict format v bytes)
HasBrokenMesh request call = ⊥

-- There are more bytes than the command reads: of the input, or where a session was not opened, of its volume's file.
abbrev pub HasTooMany : Request → Call → Type 0
HasTooMany (Points level) call = IfSome call.streams.input.left (λ bytes. volume_limit < length bytes)
HasTooMany (Extract level pad format) call = IfSome call.streams.input.left (λ bytes. volume_limit < length bytes)
HasTooMany (Session level pad name bricks pages) call = MatchOption call.left
    (IfSome call.store.files (λ files. volume_limit < length (content files name)))
    (λ _. IfSome call.streams.input.left (λ script. script_limit < length script))
HasTooMany (Check format) call = IfSome call.streams.input.left (λ bytes. mesh_limit < length bytes)
HasTooMany request call = ⊥

-- the shelf failed, or it tells its files and has none of the session's name
abbrev pub HasNoFile : Request → Call → Type 0
HasNoFile (Session level pad name bricks pages) call = Rose call.store.faults call.store_after.faults
    ⊎ Lacks name call.store.files
HasNoFile request call = ⊥

-- the words ask for something of which this is true
abbrev pub Asks : Option Request → (Request → Call → Type 0) → Call → Type 0
Asks asked P call = (request : Request) × (asked ≡ Some request) × P request call
