use Rattle.std.proofs.Common.{ap, subst, is_some}
use Rattle.byte_streams.specs.Seen.{Puts}
use Rattle.flat_mesh.specs.Lattice.{Leveled, heights}
use Rattle.flat_mesh.specs.Mesh.{mesh_of}
use Rattle.mesh_lines.specs.Lines.{text_of}
use Rattle.mesh_lines.specs.declared.style.Style.{Style}
use Rattle.commands.proofs.Texts.{text_put}
use Rattle.commands.proofs.extracting.put_text.Goals as goal

pub returns : goal.returns
returns g c = λ v level p e.
    let m = mesh_of c.args.mesh.now.grid (heights c.args.mesh.now) in
    let put = subst (λ (style : Style). Puts (g.K.Sink.seen c.args.sink.now) (g.K.Sink.seen c.write.new.sink) c.write.result (text_of style m)) c.style.ensures c.write.ensures.text in
    text_put _ _ _ c.args.asked.format v level (is_some c.args.asked.pad) m p (ap (λ (m : Leveled). mesh_of m.grid (heights m)) e) put
