use Rattle.std.proofs.Common.{◌≡◌, subst, Ok}
use Rattle.commands.specs.Checks.{mesh_in}
use Rattle.commands.proofs.Few.{few_in_mesh}
use Rattle.commands.proofs.checking.mesh_of_text.Goals as goal

pub returns-clause-mesh : goal.returns-clause-mesh
returns-clause-mesh c =
    let mesh = c.in_ok-read_mesh.field-0 in
    let e : mesh_in c.args.format c.args.bytes.items ≡ Ok mesh = subst (λ bytes. mesh_in c.args.format bytes ≡ Ok mesh) c.deref.ensures.value c.in_ok-read_mesh.ensures in
    (e, few_in_mesh c.args.format c.args.bytes.items mesh e c.requires)
