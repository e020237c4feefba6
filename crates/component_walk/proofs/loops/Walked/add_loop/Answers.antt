use Rattle.std.proofs.Common.{◌≡◌, ◌∙◌, ℕ, ◌++◌, ◌∷◌, [], ◌+ℤ◌, set, ◌+◌, ◌*◌, ◌<◌, ap, sym, subst, get_or, length, arith}
use Rattle.iso_defs.specs.Cell.{cell_edge}
use Rattle.component_labels.specs.Chains.{ArePaired}
use Rattle.component_labels.specs.Fronts.{none, room}
use Rattle.component_labels.specs.Labelling.{Known}
use Rattle.std.proofs.lemmas.List.{get_or_default}
use Rattle.component_walk.specs.Walks.{IsWalked}
use Rattle.component_walk.proofs.WalkLaws.{place_low, room_for, walked_more}
use Rattle.component_walk.proofs.loops.Walked.add_loop.Goals as goal

pub overflow_mul-cell : goal.overflow_mul-cell
overflow_mul-cell g c = omega (arith, c.sizes.ensures.leveled.grid.x.most, c.requires.cell.x)

pub add_loop-requires-clause-inside : goal.add_loop-requires-clause-inside
add_loop-requires-clause-inside g c = λ e low.
    (let v = g.H.Heights.leveled c.args.field.now in
    let r : room c.args.self.now.labels.marks.grid ≡ room v.grid = ap room c.requires.state.walked.labelled_are.grid in
    let p = c.requires.places.each e c.args.cell.low.x low c.requires.cell.x in
    omega (arith, r, p, (place_low v.grid (cell_edge v.grid (v.grid.nx * (c.args.cell.low.y + v.grid.ny * c.args.cell.low.z) + c.args.cell.low.x) e) c.sizes.ensures.leveled.grid).0))

pub add_loop-requires-clause-fits : goal.add_loop-requires-clause-fits
add_loop-requires-clause-fits g c = λ e low.
    (let v = g.H.Heights.leveled c.args.field.now in
    let p = c.requires.places.each e c.args.cell.low.x low c.requires.cell.x in
    let b = place_low v.grid (cell_edge v.grid (v.grid.nx * (c.args.cell.low.y + v.grid.ny * c.args.cell.low.z) + c.args.cell.low.x) e) c.sizes.ensures.leveled.grid in
    omega (arith, p, b.0, b.1))

pub add_loop-requires-2-clause-room : goal.add_loop-requires-2-clause-room
add_loop-requires-2-clause-room g c =
    let v = g.H.Heights.leveled c.args.field.now in
    let k = c.in_ok-know.ensures in
    subst (λ t. (x : ℕ) × (x + length c.args.edges.now < 2147483648) × g.T.Tally.fits x t) (sym c.index_mut.ensures.value)
    (room_for g.T.Tally.value g.T.Tally.fits g.T.Tally.of_loop v (c.args.cell.low.y + v.grid.ny * c.args.cell.low.z) c.args.self.now.labels c.add_loop.new.self c.args.self.now.tallies.items c.know.new.self.tallies.items
    c.args.self.now.edges c.know.new.self.edges c.in_ok-label.label c.index_mut.result.now c.requires.state k.longer c.in_ok-label.ensures.low (length c.args.edges.now) c.requires.edges.most)

pub returns : goal.returns
returns g c = λ loops l is h.
    (let v = g.H.Heights.leveled c.args.field.now in
    let k = c.in_ok-know.ensures in
    let e : c.know.new.self.labels ≡ c.add_loop.new.self = k.labels in
    let paired : ArePaired c.add_loop.new.self.count c.add_loop.new.self.pairs
    = subst (λ (n : Known). ArePaired n.count n.pairs) e (subst (ArePaired c.know.new.self.labels.count) c.pairs.ensures.value c.pairs.ensures.paired) in
    let few : c.add_loop.new.self.count < none = (let q : c.know.new.self.labels.count ≡ c.add_loop.new.self.count = ap (λ (n : Known). n.count) e in omega (arith, c.count.ensures.few, c.count.ensures.value, q)) in
    let ts = c.know.new.self.tallies.items in
    let a = c.in_ok-label.label in
    let at : (d : g.row.T.Denot) → c.index_mut.result.now ≡ get_or ts a d
    = λ d. c.index_mut.ensures.value ∙ get_or_default ts a c.index_mut.result.now d (omega (arith, k.longer.size, c.in_ok-label.ensures.low)) in
    subst (λ (n : Known). IsWalked g.T.Tally.value g.T.Tally.fits g.T.Tally.of_loop v (c.args.cell.low.y + v.grid.ny * c.args.cell.low.z) (loops ++ l ∷ []) n (set ts a c.add_loop-2.new.self) c.know.new.self.edges) (sym e)
    (walked_more v c.args.cell c.requires.cell c.args.edges.now c.requires.edges l is g.T.Tally.value g.T.Tally.fits g.T.Tally.of_loop loops c.args.self.now.labels c.add_loop.new.self c.args.self.now.tallies.items ts
    c.add_loop-2.new.self c.args.self.now.edges c.know.new.self.edges c.args.places.now a h c.requires.places c.in_ok-label.ensures few paired k.longer k.order k.passed
    (λ d i. c.add_loop-2.ensures.values l is i ∙ ap (λ t. g.T.Tally.value t i +ℤ g.T.Tally.of_loop v i l) (at d))
    (λ d m f. c.add_loop-2.ensures.fits m (subst (g.T.Tally.fits m) (sym (at d)) f))))
