use Rattle.std.proofs.Common.{◌∙◌, sym}
use Rattle.component_walk.proofs.BorderSteps.{inner_is}
use Rattle.component_walk.proofs.borders.is_inside.Goals as goal

pub returns : goal.returns
returns c = λ t a b ha hb.
    inner_is c.args.sizes.now c.args.cell c.requires.cell a b ha hb (λ e. c.if-low-eq0.false e) (λ e. c.if-low-eq0-2.false e) (λ e. c.if-low-eq0-3.false e)
    (λ e. c.if-low-nx.false (e ∙ sym c.nx.ensures.value)) (λ e. c.if-low-ny.false (e ∙ sym c.ny.ensures.value)) (λ e. c.if-low-nz.false (e ∙ sym c.nz.ensures.value))
