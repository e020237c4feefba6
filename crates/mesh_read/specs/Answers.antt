-- What the readers of meshes answer.
pub use Rattle.text_lines.specs.Lines.{◌>>=◌, all_or_first, unless_fault}
use Rattle.std.specs.Prelude.{Bool, true, false, Result}
use Rattle.text_lines.specs.Lines.{AnswersBut, FailsBut}
use Rattle.refusals.specs.declared.mesh.MeshFault.{MeshFault}
use Rattle.refusals.specs.declared.mesh.MeshFault.TheVariants.{Memory}

-- whether memory was wanting
abbrev pub is_memory : MeshFault → Bool
is_memory Memory = true
is_memory _ = false

-- a refusal is the one that is read; want of memory says nothing
abbrev pub Fails : {A : Type 0} → MeshFault → Result A MeshFault → Type 0
Fails fault read = FailsBut is_memory fault read

-- the answer is the one that is read, but that memory may be wanting
abbrev pub Answers : {A : Type 0} → Result A MeshFault → Result A MeshFault → Type 0
Answers result read = AnswersBut is_memory result read
