use Rattle.std.proofs.Common.{◌≡◌, IfOk, subst}
use Rattle.byte_streams.specs.Seen.{Puts}
use Rattle.flat_mesh.specs.Lattice.{Leveled, heights}
use Rattle.flat_mesh.specs.Mesh.{mesh_of}
use Rattle.mesh_lines.specs.Lines.{text_of, written_of}
use Rattle.list_mesh.proofs.mesh.ListMesh.write.Goals as goal

pub returns-clause-text : goal.returns-clause-text
returns-clause-text g c =
    subst (λ (v : Leveled). Puts (g.K.Sink.seen c.args.sink.now) (g.K.Sink.seen c.write_mesh.new.sink) c.write_mesh.result (text_of c.args.style (mesh_of v.grid (heights v)))) c.self.view_is c.write_mesh.ensures.text

pub returns-clause-written : goal.returns-clause-written
returns-clause-written g c =
    subst (λ (v : Leveled). IfOk c.write_mesh.result (λ w. w ≡ written_of c.args.style (mesh_of v.grid (heights v)))) c.self.view_is c.write_mesh.ensures.written
