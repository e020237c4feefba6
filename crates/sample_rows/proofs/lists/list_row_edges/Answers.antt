use Rattle.std.proofs.Common.{◌≡◌, ◌≤◌, ◌*◌, ◌∙◌, ap, arith, drop, length, subst, sym, take}
use Rattle.std.proofs.lemmas.List.{length-drop, length-take-le}
use Rattle.iso_defs.specs.Grid.{Grid}
use Rattle.sample_rows.specs.Parts.{AreNumbers, part_edges}
use Rattle.sample_rows.proofs.RowPlaces.{edges_low}
use Rattle.sample_rows.proofs.Views.{whole_edges}
use Rattle.sample_rows.proofs.lists.list_row_edges.Goals as goal

pub returns-then-part-clause-edges : goal.returns-then-part-clause-edges
returns-then-part-clause-edges g c =
    let v = g.H.Heights.leveled c.args.field.now in
    let nx : c.nx-nx.result ≡ v.grid.nx = c.nx-nx.ensures.value ∙ ap (λ (g : Grid). g.nx) c.sizes.ensures.value in
    let row = c.numbers_from.result.now in
    let are : AreNumbers v c.args.y c.args.z row
    = subst (AreNumbers v c.args.y c.args.z) (sym (c.numbers_from.ensures ∙ ap (λ n. take n (drop c.part_of-part.result.start c.args.rows.now.list.items)) nx))
    (c.part_of-part.ensures.numbers c.if-part.true) in
    whole_edges v c.args.y c.args.z row c.sizes.ensures.leveled are (take c.list_whole_edges.result c.list_whole_edges.new.edges) c.list_whole_edges.ensures.put

pub copy_front-requires : goal.copy_front-requires
copy_front-requires g c =
    let v = g.H.Heights.leveled c.args.field.now in
    let list = c.args.rows.now.list.items in
    let part = c.part_of-part.result in
    let low : length (part_edges list part) ≤ 3 * v.grid.nx = edges_low v c.args.y c.args.z (part_edges list part) (c.part_of-part.ensures.edges c.if-part.false) in
    let same : c.numbers_from-2.result.now ≡ part_edges list part = c.numbers_from-2.ensures ∙ ap (λ n. take n (drop part.start list)) c.from-count.ensures in
    omega (arith, ap length same, low, c.sizes.ensures.leveled.grid.x.most, c.told-edges)

pub returns-clause-few : goal.returns-clause-few
returns-clause-few g c =
    let v = g.H.Heights.leveled c.args.field.now in
    let list = c.args.rows.now.list.items in
    let part = c.part_of-part.result in
    let low : length (part_edges list part) ≤ 3 * v.grid.nx = edges_low v c.args.y c.args.z (part_edges list part) (c.part_of-part.ensures.edges c.if-part.false) in
    let fit = c.part_of-part.ensures.few_fit c.if-part.false in
    let count : length (part_edges list part) ≡ part.edges = length-take-le part.edges (drop part.start list) (omega (arith, length-drop part.start list, fit)) in
    omega (arith, count, low, c.from-count.ensures)
