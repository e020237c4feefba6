use Rattle.std.proofs.Common.{◌≡◌, ℕ, ◌&&◌, List, length, sym, ap, ◌∙◌, arith, not, eqb}
use Rattle.std.specs.List.{list_any}
use Rattle.iso_defs.specs.Cell.{Triangle}
use Rattle.iso_defs.specs.Manifold.{uses}
use Rattle.iso_base.specs.Triangles.{triangles_of}
use Rattle.mesh_report.specs.Report.{component}
use Rattle.mesh_report.proofs.BegunLaws.{name_is, ring_is, rings_size, used_is}
use Rattle.mesh_report.proofs.count.is_smallest.Goals as goal

pub arcs_round-requires : goal.arcs_round-requires
arcs_round-requires c =
    let size : length c.args.rings.now ≡ c.args.mesh.now.vertex_count = rings_size c.args.mesh.now.vertex_count (triangles_of c.args.mesh.now.triangles) c.args.rings.now c.requires.rings in
    omega (arith, c.requires.vertex)

pub returns-then-not-is_empty : goal.returns-then-not-is_empty
returns-then-not-is_empty c =
    let n : ℕ = c.args.mesh.now.vertex_count in
    let ts : List Triangle = triangles_of c.args.mesh.now.triangles in
    let v : ℕ = c.args.v in
    let used : list_any (uses v) ts ≡ not c.is_empty.result
    = used_is ts v c.arcs_round.result.now (c.arcs_round.ensures ∙ ring_is n ts c.args.rings.now c.requires.rings v c.requires.vertex) c.is_empty.result c.is_empty.ensures in
    ap (λ k. eqb k v) (name_is n ts c.args.names.now c.requires.names v c.requires.vertex) ∙ sym (ap (λ b. b && eqb (component n ts v) v) (used ∙ ap not c.if-not-is_empty.true))

pub returns-else-not-is_empty : goal.returns-else-not-is_empty
returns-else-not-is_empty c =
    let n : ℕ = c.args.mesh.now.vertex_count in
    let ts : List Triangle = triangles_of c.args.mesh.now.triangles in
    let v : ℕ = c.args.v in
    let used : list_any (uses v) ts ≡ not c.is_empty.result
    = used_is ts v c.arcs_round.result.now (c.arcs_round.ensures ∙ ring_is n ts c.args.rings.now c.requires.rings v c.requires.vertex) c.is_empty.result c.is_empty.ensures in
    ap not c.if-not-is_empty.false ∙ sym (ap (λ b. b && eqb (component n ts v) v) (used ∙ ap not c.if-not-is_empty.false))
