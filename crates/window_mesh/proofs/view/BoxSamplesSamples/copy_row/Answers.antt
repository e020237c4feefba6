use Rattle.std.proofs.Common.{arith, ◌≡◌, ◌∙◌, ◌+◌, ◌≤◌, All, ap, drop, length, subst, sym, take}
use Rattle.iso_defs.specs.Grid.{Grid}
use Rattle.iso_base.specs.Points.{IsPoint, index_of}
use Rattle.samples.proofs.Rows.{row_in}
use Rattle.window_mesh.specs.Views.{InBox, boxed_list}
use Rattle.window_mesh.proofs.Viewing.{boxed_length, row_is}
use Rattle.window_mesh.proofs.view.BoxSamplesSamples.copy_row.Goals as goal

pub copy_part-requires-clause-fits : goal.copy_part-requires-clause-fits
copy_part-requires-clause-fits g c =
    let b : InBox = c.args.self.now in
    let q = c.args.point in
    let n = length c.args.into.now in
    let same : c.args.sizes.now ≡ b.window.grid = c.are_same.ensures c.if-are_same.true ∙ ap (λ (r : InBox). r.window.grid) c.self.view_is in
    let at : IsPoint b.window.grid q = subst (λ (h : Grid). IsPoint h q) same c.requires.point in
    let fits : q.x + n ≤ b.window.grid.nx = subst (λ (h : Grid). q.x + n ≤ h.nx) same c.requires.row in
    let row : All g.T.Packed.Fits (take n (drop (index_of b.window.grid q) (boxed_list b)))
    = subst (λ (h : Grid). All g.T.Packed.Fits (take n (drop (index_of h q) (boxed_list b)))) same c.requires.fits in
    subst (All g.T.Packed.Fits) (sym (row_is b q n at fits)) row

pub copy_each-requires-clause-room : goal.copy_each-requires-clause-room
copy_each-requires-clause-room g c =
    let n = length c.args.into.now in
    omega (arith, row_in c.args.sizes.now c.args.point c.requires.point n c.requires.row, c.index.ensures.value, c.requires.count, boxed_length c.args.self.now)

pub returns-then-are_same : goal.returns-then-are_same
returns-then-are_same g c =
    let b : InBox = c.args.self.now in
    let q = c.args.point in
    let n = length c.args.into.now in
    let same : c.args.sizes.now ≡ b.window.grid = c.are_same.ensures c.if-are_same.true ∙ ap (λ (r : InBox). r.window.grid) c.self.view_is in
    let at : IsPoint b.window.grid q = subst (λ (h : Grid). IsPoint h q) same c.requires.point in
    let fits : q.x + n ≤ b.window.grid.nx = subst (λ (h : Grid). q.x + n ≤ h.nx) same c.requires.row in
    c.copy_part.ensures ∙ row_is b q n at fits ∙ ap (λ (h : Grid). take n (drop (index_of h q) (boxed_list b))) (sym same)
