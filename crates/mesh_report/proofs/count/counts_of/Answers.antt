use Rattle.std.proofs.Common.{rules, ◌≡◌, ℕ, ◌<◌, ◌^◌, List, length, map, arith, sym, subst, ap, ◌∙◌, refl}
use Rattle.std.specs.List.{All, AllByRecursion}
use Rattle.std.proofs.lemmas.List.Elements.{All-from_recursion}
use Rattle.iso_defs.specs.Cell.{Triangle}
use Rattle.iso_defs.specs.Manifold.{HasThreeCorners}
use Rattle.iso_base.specs.Triangles.{IsBelow, triangles_of}
use Rattle.arc_rings.proofs.ArcLaws.{all_of, length_is}
use Rattle.arc_rings.proofs.RingLaws.{written_back}
use Rattle.mesh_report.specs.declared.part.Part.{Part}
use Rattle.mesh_report.specs.declared.tally.VertexTally.{VertexTally}
use Rattle.mesh_report.specs.Report.{components, Summary, total_of}
use Rattle.mesh_report.specs.Tallies.{IsSmall, part_with, tally_of}
use Rattle.mesh_report.proofs.BegunLaws.{ascending}
use Rattle.mesh_report.proofs.TallyLaws.{each_small, parts_are, total_is, total_small}
use Rattle.mesh_report.proofs.count.counts_of.Goals as goal

pub returns-clause-summary : goal.returns-clause-summary
returns-clause-summary c =
    let n : ℕ = c.args.mesh.now.vertex_count in
    let ts : List Triangle = triangles_of c.args.mesh.now.triangles in
    let d : AllByRecursion HasThreeCorners ts = all_of HasThreeCorners c.args.mesh.now.triangles c.requires.different in
    let b : AllByRecursion (IsBelow n) ts = all_of (IsBelow n) c.args.mesh.now.triangles c.vertex_count-vertices.ensures.mesh in
    let long : c.in_ok-each.each.len ≡ length c.count_all-total.new.tallies = search rules in
    let each = written_back c.in_ok-each.each.len c.count_all-total.new.tallies c.in_ok-each.each.items long ∙ c.count_all-total.ensures.each in
    ap (λ (l : List VertexTally). summary (part_with c.count_all-total.result) (map part_with l)) each
    ∙ (ap (λ p. summary p (map part_with (map (tally_of n ts n) (components n ts)))) (ap part_with c.count_all-total.ensures.total ∙ total_is n ts d b)
    ∙ ap (summary (total_of n ts)) (parts_are n ts d b (components n ts)))
  where
    summary : Part → List Part → Summary
    summary total parts = record { total = total; parts = parts }

pub returns-clause-total : goal.returns-clause-total
returns-clause-total c =
    let n : ℕ = c.args.mesh.now.vertex_count in
    let ts : List Triangle = triangles_of c.args.mesh.now.triangles in
    let d : AllByRecursion HasThreeCorners ts = all_of HasThreeCorners c.args.mesh.now.triangles c.requires.different in
    let b : AllByRecursion (IsBelow n) ts = all_of (IsBelow n) c.args.mesh.now.triangles c.vertex_count-vertices.ensures.mesh in
    let k : length ts ≡ length c.args.mesh.now.triangles = length_is c.args.mesh.now.triangles in
    let short : length ts < 2 ^ 31 = omega (arith, c.requires.count) in
    subst IsSmall (sym c.count_all-total.ensures.total) (total_small n ts d b short)

pub returns-clause-each : goal.returns-clause-each
returns-clause-each c =
    let n : ℕ = c.args.mesh.now.vertex_count in
    let ts : List Triangle = triangles_of c.args.mesh.now.triangles in
    let d : AllByRecursion HasThreeCorners ts = all_of HasThreeCorners c.args.mesh.now.triangles c.requires.different in
    let b : AllByRecursion (IsBelow n) ts = all_of (IsBelow n) c.args.mesh.now.triangles c.vertex_count-vertices.ensures.mesh in
    let k : length ts ≡ length c.args.mesh.now.triangles = length_is c.args.mesh.now.triangles in
    let short : length ts < 2 ^ 31 = omega (arith, c.requires.count) in
    let long : c.in_ok-each.each.len ≡ length c.count_all-total.new.tallies = search rules in
    let each = written_back c.in_ok-each.each.len c.count_all-total.new.tallies c.in_ok-each.each.items long ∙ c.count_all-total.ensures.each in
    subst (All IsSmall) (sym each) (All-from_recursion IsSmall (map (tally_of n ts n) (components n ts)) (each_small n ts d b short (components n ts)))

pub returns-clause-ascending : goal.returns-clause-ascending
returns-clause-ascending c =
    let n : ℕ = c.args.mesh.now.vertex_count in
    let ts : List Triangle = triangles_of c.args.mesh.now.triangles in
    let long : c.in_ok-each.each.len ≡ length c.count_all-total.new.tallies = search rules in
    let each = written_back c.in_ok-each.each.len c.count_all-total.new.tallies c.in_ok-each.each.items long ∙ c.count_all-total.ensures.each in
    ascending n ts (tally_of n ts n) (λ k. refl) _ each
