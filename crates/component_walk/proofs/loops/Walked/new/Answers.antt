use Rattle.std.proofs.Common.{◌∙◌, ◌<◌, sym, subst}
use Rattle.iso_defs.specs.Grid.{Grid}
use Rattle.component_labels.specs.Fronts.{room}
use Rattle.component_walk.proofs.StartLaws.{walked_none}
use Rattle.component_walk.proofs.loops.Walked.new.Goals as goal

pub returns : goal.returns
returns g c = λ v e.
    (let l = c.in_ok-labels.ensures in
    walked_none v g.T.Tally.value g.T.Tally.fits g.T.Tally.of_loop c.in_ok-labels.labels c.new-2.result.items c.new-3.result (l.grid ∙ sym e) (λ k low. l.none k (subst (λ (s : Grid). k < room s) e low)) l.count l.pairs
    c.new-2.ensures.items c.new-3.ensures.crossings c.new-3.ensures.order c.new-3.ensures.count)
