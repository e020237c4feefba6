use Rattle.std.proofs.Common.{◌≡◌, ◌≤◌, ap, refl, subst, sym, ◌∙◌, arith}
use Rattle.mesh_read.specs.Answers.{Answers}
use Rattle.mesh_read.specs.Ply.{lines_mesh, ply_words, ply_heads, total, count_of, is_vertex, with_words, numbered}
use Rattle.mesh_read.specs.SeenElements.{seen_elements}
use Rattle.mesh_read.specs.SeenPly.{told}
use Rattle.mesh_read.proofs.AnswerLaws.{fails_with}
use Rattle.mesh_read.proofs.PlyCounts.{refused_header, late_known, vertices_fit, total_fits, faces_within, mesh_known, as_mesh}
use Rattle.mesh_read.proofs.ply.read_lines.Goals as goal

pub returns-in-Some : goal.returns-in-Some
returns-in-Some c =
    let heads = ply_heads c.args.bytes.now in
    let known = late_known (told c.in_ok-header.header) heads c.in_ok-header.ensures.told refl c.in_ok-header.ensures.ended in
    fails_with c.in-Some.fault (lines_mesh (ply_words c.args.bytes.now) heads) (refused_header (ply_words c.args.bytes.now) heads c.in-Some.fault (sym (c.in-Some.ensures ∙ known)))

pub overflow_cast-vertex_lines : goal.overflow_cast-vertex_lines
overflow_cast-vertex_lines c =
    let few : count_of is_vertex c.in_ok-header.header.elements ≤ 1073741824 = vertices_fit (told c.in_ok-header.header) c.in_default.ensures in
    let e : c.vertex_lines.result ≡ count_of is_vertex c.in_ok-header.header.elements = c.vertex_lines.ensures ∙ ap (λ x. count_of is_vertex x) c.list-elements.ensures in
    omega (arith, few, e)

pub lines_before-requires : goal.lines_before-requires
lines_before-requires c =
    let fits = total_fits (told c.in_ok-header.header) (ply_heads c.args.bytes.now) c.in_ok-header.ensures.told c.in_default.ensures (omega (arith, c.in_ok-header.ensures.number, c.requires)) in
    let e : total (seen_elements c.list-elements.result.now) ≡ total c.in_ok-header.header.elements = ap (λ x. total x) c.list-elements.ensures in
    omega (arith, fits, e)

pub all_lines-requires : goal.all_lines-requires
all_lines-requires c =
    let fits = total_fits (told c.in_ok-header.header) (ply_heads c.args.bytes.now) c.in_ok-header.ensures.told c.in_default.ensures (omega (arith, c.in_ok-header.ensures.number, c.requires)) in
    let e : total (seen_elements c.list-elements.result.now) ≡ total c.in_ok-header.header.elements = ap (λ x. total x) c.list-elements.ensures in
    omega (arith, fits, e)

pub read_body-requires-clause-parts : goal.read_body-requires-clause-parts
read_body-requires-clause-parts c = omega (arith, c.lines_before.ensures, c.face_lines.ensures, c.all_lines.ensures, faces_within (seen_elements c.list-elements.result.now))

pub returns : goal.returns
returns c =
    let read = mesh_known (told c.in_ok-header.header) (ply_heads c.args.bytes.now) (ply_words c.args.bytes.now) (ply_words c.in_ok-header.body.now) c.in_ok-header.ensures.told refl c.in_ok-header.ensures.ended c.in_default.ensures c.in_ok-header.ensures.body in
    let mesh = as_mesh c.in_ok-header.header.elements (seen_elements c.list-elements.result.now) c.vertex_lines.result c.lines_before.result c.face_lines.result c.all_lines.result (with_words (numbered c.in_ok-header.header.number (ply_words c.in_ok-header.body.now))) c.list-elements.ensures c.vertex_lines.ensures c.lines_before.ensures c.face_lines.ensures c.all_lines.ensures in
    subst (λ r. Answers c.read_body.result r) (mesh ∙ read) c.read_body.ensures
