use Rattle.std.proofs.Common.{rules, ◌≡◌, ℕ, List, length, sym, subst, ◌∙◌}
use Rattle.std.specs.List.{AllByRecursion}
use Rattle.iso_defs.specs.Cell.{Triangle}
use Rattle.iso_defs.specs.Manifold.{HasThreeCorners}
use Rattle.iso_base.specs.Triangles.{IsBelow, triangles_of}
use Rattle.arc_rings.proofs.ArcLaws.{all_of}
use Rattle.arc_rings.proofs.RingLaws.{written_back}
use Rattle.mesh_report.specs.Walks.{AreMutual}
use Rattle.mesh_report.proofs.NameLaws.{are_mutual, named_by_components}
use Rattle.mesh_report.proofs.walk.components_of.Goals as goal

pub walk_all-requires-clause-rings : goal.walk_all-requires-clause-rings
walk_all-requires-clause-rings c =
    let n : ℕ = c.args.mesh.now.vertex_count in
    let ts : List Triangle = triangles_of c.args.mesh.now.triangles in
    let d : AllByRecursion HasThreeCorners ts = all_of HasThreeCorners c.args.mesh.now.triangles c.requires.different in
    let b : AllByRecursion (IsBelow n) ts = all_of (IsBelow n) c.args.mesh.now.triangles c.vertex_count-vertices.ensures.mesh in
    let size : length c.as_mut_slice.result.now ≡ n = search rules in
    subst (λ k. AreMutual k c.args.rings.now) (sym size) (are_mutual n ts d b c.args.rings.now c.requires.rings)

pub returns : goal.returns
returns c =
    let n : ℕ = c.args.mesh.now.vertex_count in
    let ts : List Triangle = triangles_of c.args.mesh.now.triangles in
    let d : AllByRecursion HasThreeCorners ts = all_of HasThreeCorners c.args.mesh.now.triangles c.requires.different in
    let b : AllByRecursion (IsBelow n) ts = all_of (IsBelow n) c.args.mesh.now.triangles c.vertex_count-vertices.ensures.mesh in
    let long : c.in_ok-components.components.len ≡ length c.walk_all.new.names = search rules in
    written_back c.in_ok-components.components.len c.walk_all.new.names c.in_ok-components.components.items long
    ∙ named_by_components n ts d b c.args.rings.now c.requires.rings c.walk_all.new.names c.in_ok-walk_all.ensures
