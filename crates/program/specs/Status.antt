-- How the program ends.
use Rattle.std.specs.Prelude.{ℕ}
use Rattle.refusals.specs.declared.nrrd.NrrdFault.{NrrdFault}
use Rattle.refusals.specs.declared.nrrd.NrrdFault.TheVariants as nrrds
use Rattle.refusals.specs.declared.mesh.MeshFault.{MeshFault}
use Rattle.refusals.specs.declared.mesh.MeshFault.TheVariants as meshes
use Rattle.program.specs.declared.answer.VolumeFault.{VolumeFault}
use Rattle.program.specs.declared.answer.VolumeFault.TheVariants as volumes
use Rattle.program.specs.declared.answer.Answer.{Answer}
use Rattle.program.specs.declared.answer.Answer.TheVariants as answers
use Rattle.program.specs.declared.answer.Status.{Status}
use Rattle.program.specs.declared.answer.Status.TheVariants as statuses

-- the number of a status
abbrev pub number_of : Status → ℕ
number_of statuses.Done = 0
number_of statuses.MeshRefused = 1
number_of statuses.BadWords = 2
number_of statuses.BadVolume = 3
number_of statuses.InputFault = 4
number_of statuses.InputTooLong = 5
number_of statuses.OutputFault = 6
number_of statuses.Memory = 7
number_of statuses.ShelfFault = 8
number_of statuses.BadMesh = 9

-- want of memory is a status of its own
abbrev pub nrrd_status : NrrdFault → Status
nrrd_status nrrds.Memory = statuses.Memory
nrrd_status _ = statuses.BadVolume

abbrev pub volume_status : VolumeFault → Status
volume_status (volumes.Nrrd fault) = nrrd_status fault
volume_status _ = statuses.BadVolume

abbrev pub mesh_status : MeshFault → Status
mesh_status meshes.Memory = statuses.Memory
mesh_status _ = statuses.BadMesh

-- the status of an answer
abbrev pub status_of : Answer → Status
status_of answers.Done = statuses.Done
status_of answers.MeshRefused = statuses.MeshRefused
status_of answers.BadWords = statuses.BadWords
status_of (answers.BadVolume fault) = volume_status fault
status_of answers.InputFault = statuses.InputFault
status_of answers.InputTooLong = statuses.InputTooLong
status_of answers.OutputFault = statuses.OutputFault
status_of answers.Memory = statuses.Memory
status_of answers.ShelfFault = statuses.ShelfFault
status_of (answers.BadMesh fault) = mesh_status fault
