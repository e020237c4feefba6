use Rattle.std.proofs.Common.{◌≡◌, ◌∙◌, ◌||◌, sym, ap}
use Rattle.component_walk.specs.Sums.{share_side}
use Rattle.component_walk.proofs.BorderSteps.{border_is}
use Rattle.component_walk.proofs.borders.is_outer.Goals as goal

pub returns : goal.returns
returns c =
    let g = c.args.sizes.now in
    let low = c.args.cell.low in
    let a = c.args.a in
    let b = c.args.b in
    let x : c.are_outside-along_x.result ≡ share_side 0 g.nx low.x a b = c.are_outside-along_x.ensures ∙ ap (λ n. share_side 0 n low.x a b) c.nx.ensures.value in
    let y : c.are_outside-along_y.result ≡ share_side 1 g.ny low.y a b = c.are_outside-along_y.ensures ∙ ap (λ n. share_side 1 n low.y a b) c.ny.ensures.value in
    let z : c.are_outside-along_z.result ≡ share_side 2 g.nz low.z a b = c.are_outside-along_z.ensures ∙ ap (λ n. share_side 2 n low.z a b) c.nz.ensures.value in
    ap (λ t. t || (c.are_outside-along_y.result || c.are_outside-along_z.result)) x
    ∙ (ap (λ t. share_side 0 g.nx low.x a b || (t || c.are_outside-along_z.result)) y
    ∙ (ap (λ t. share_side 0 g.nx low.x a b || (share_side 1 g.ny low.y a b || t)) z
    ∙ sym (border_is g c.args.cell c.requires.cell a b c.requires.a c.requires.b)))
