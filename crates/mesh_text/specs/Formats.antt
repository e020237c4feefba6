-- The formats that are both read and written, among all in which meshes are written.
use Rattle.iso_base.specs.declared.format.MeshFormat.{MeshFormat}
use Rattle.iso_base.specs.declared.format.MeshFormat.TheVariants as meshes
use Rattle.mesh_text.specs.declared.format.TwoWayFormat.{TwoWayFormat}
use Rattle.mesh_text.specs.declared.format.TwoWayFormat.TheVariants.{Ply, Obj}

abbrev pub mesh_format : TwoWayFormat → MeshFormat
mesh_format Ply = meshes.Ply
mesh_format Obj = meshes.Obj
