-- What `check` says of a mesh text.
use Rattle.std.specs.Prelude.{◌≡◌, ℕ, ◌<◌, ◌≤◌, Bool, true, false, List, length, Result, Ok, Err, IfSome}
use Rattle.std.specs.Io.KnownBytes.{IsAtEnd}
use Rattle.iso_defs.specs.Verdict.{IsVerdict}
use Rattle.iso_base.specs.Triangles.{Mesh, triangles_of}
use Rattle.iso_base.specs.declared.verdict.Verdict.{Verdict}
use Rattle.iso_base.specs.declared.verdict.Verdict.TheVariants as verdicts
use Rattle.byte_streams.specs.Causes.{Rose}
use Rattle.byte_streams.specs.Seen.{Feed}
use Rattle.mesh_read.specs.Ply.{ply_of}
use Rattle.mesh_read.specs.Obj.{obj_of}
use Rattle.refusals.specs.declared.mesh.MeshFault.{MeshFault}
use Rattle.mesh_check.specs.Said.{said}
use Rattle.program.specs.Verdicts.{verdict_text}
use Rattle.command_terms.specs.Outcome.{HasRead, NothingWritten, ReadWhole, Streams, Writes, WritesFront}
use Rattle.mesh_text.specs.declared.format.TwoWayFormat.{TwoWayFormat}
use Rattle.mesh_text.specs.declared.format.TwoWayFormat.TheVariants.{Ply, Obj}
use Rattle.program.specs.declared.answer.Answer.{Answer}
use Rattle.program.specs.declared.answer.Answer.TheVariants as answers
use Rattle.refusals.specs.declared.mesh.MeshFault.TheVariants as faults
use Rattle.commands.specs.declared.checking.NoMesh.{NoMesh}
use Rattle.commands.specs.declared.checking.NoMesh.TheVariants as reasons

-- the most bytes of a mesh text
abbrev pub mesh_limit : ℕ
mesh_limit = 1073741824

-- the mesh of a text, or the first reason why there is none
abbrev pub mesh_in : TwoWayFormat → List ℕ → Result Mesh MeshFault
mesh_in Ply bytes = ply_of bytes
mesh_in Obj bytes = obj_of bytes

-- the text holds a mesh, and this is the verdict on it
abbrev pub HasVerdict : TwoWayFormat → Verdict → List ℕ → Type 0
HasVerdict format v bytes = (m : Mesh) × (mesh_in format bytes ≡ Ok m) × IsVerdict (triangles_of m.triangles) (said v)

-- The whole input was read, and it has this verdict. Where the input does not tell its bytes, the verdict is still that on some
-- mesh text.
pub record HasMesh (format : TwoWayFormat) (old new : Feed) (v : Verdict) : Type 0 where
  pub bytes : List ℕ
  pub read : HasRead mesh_limit old new bytes
  pub verdict : HasVerdict format v bytes

-- whether a verdict refuses a mesh
abbrev pub is_broken : Verdict → Bool
is_broken verdicts.Closed = false
is_broken (verdicts.Border edges) = false
is_broken (verdicts.RepeatedCorner t) = true
is_broken (verdicts.EdgeTwice a b) = true
is_broken (verdicts.SplitVertex v) = true

-- the whole input was read, its verdict refuses the mesh or not, and the verdict's line was written
abbrev pub TellsVerdict : TwoWayFormat → Bool → Streams → Type 0
TellsVerdict format broken call = (v : Verdict) × (is_broken v ≡ broken)
    × HasMesh format call.input call.input_after v × Writes call (verdict_text v)

-- A command that reads a mesh text from its input and says its verdict.
abbrev pub Checks : TwoWayFormat → Streams → Answer → Type 0
Checks format call answers.Done = TellsVerdict format false call
Checks format call answers.MeshRefused = TellsVerdict format true call
Checks format call answers.OutputFault = (v : Verdict) × HasMesh format call.input call.input_after v
    × WritesFront call (verdict_text v)
Checks format call answers.InputFault = Rose call.input.faults call.input_after.faults × NothingWritten call
Checks format call answers.InputTooLong = IfSome call.input.left (λ bytes. mesh_limit < length bytes)
    × NothingWritten call
Checks format call (answers.BadMesh fault) =
    ReadWhole mesh_limit call × IfSome call.input.left (λ bytes. mesh_in format bytes ≡ Err fault) × NothingWritten call
Checks format call answers.Memory = NothingWritten call
Checks format call answer = ⊥

-- what a verdict is answered, where its line was written
abbrev pub answer_to : Bool → Answer
answer_to false = answers.Done
answer_to true = answers.MeshRefused

-- a refusal of the reader, as the reason why there is no mesh
abbrev pub mesh_refusal : MeshFault → NoMesh
mesh_refusal faults.Memory = reasons.Memory
mesh_refusal fault = reasons.Refused fault

-- what is answered for that reason
abbrev pub mesh_answer : NoMesh → Answer
mesh_answer (reasons.Refused fault) = answers.BadMesh fault
mesh_answer reasons.Memory = answers.Memory

-- why the text is no mesh; want of memory says nothing
abbrev pub IsNoMesh : TwoWayFormat → List ℕ → NoMesh → Type 0
IsNoMesh format bytes (reasons.Refused fault) = mesh_in format bytes ≡ Err fault
IsNoMesh format bytes reasons.Memory = Unit {0}

-- why there is no verdict
abbrev pub HasNoMesh : TwoWayFormat → Feed → Feed → Answer → Type 0
HasNoMesh format old new answers.InputFault = Rose old.faults new.faults
HasNoMesh format old new answers.InputTooLong = IfSome old.left (λ bytes. mesh_limit < length bytes)
HasNoMesh format old new (answers.BadMesh fault) =
    IsAtEnd new.left × IfSome old.left (λ bytes. (length bytes ≤ mesh_limit) × (mesh_in format bytes ≡ Err fault))
HasNoMesh format old new answers.Memory = Unit {0}
HasNoMesh format old new answer = ⊥
