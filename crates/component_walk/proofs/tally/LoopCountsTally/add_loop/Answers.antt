use Rattle.std.proofs.Common.{◌≡◌, ◌∙◌, ◌+◌, ap, length, true, false, arith}
use Rattle.std.proofs.lemmas.Bool.{le-ltb, lt-ltb}
use Rattle.component_walk.proofs.CountLaws.{counts_more, plus_none}
use Rattle.iso_defs.specs.Grid.{Grid}
use Rattle.component_walk.specs.declared.tally.LoopCounts.{LoopCounts}
use Rattle.component_walk.specs.Sums.{steps_on}
use Rattle.component_walk.proofs.tally.LoopCountsTally.add_loop.Goals as goal
use Rattle.component_walk.proofs.tally.LoopCountsTally.add_loop.Goals.{then-edges-gt3, else-edges-gt3}

pub returns-clause-values : goal.returns-clause-values
returns-clause-values g c = λ l h.
    let borders : c.if-edges-gt3.self.border ≡ c.args.self.now.border → c.if-edges-gt3.self.border + c.border_steps.result ≡ c.args.self.now.border + steps_on (g.H.Heights.leveled c.args.field.now).grid c.args.cell.index c.args.edges.now
    = λ e. ap (λ n. n + c.border_steps.result) e ∙ ap (λ n. c.args.self.now.border + n) (c.border_steps.ensures.value ∙ ap (λ (s : Grid). steps_on s c.args.cell.index c.args.edges.now) c.sizes.ensures.value) in
    (elim c.if-edges-gt3.branch [
      | then-edges-gt3 w ↦ counts_more (g.H.Heights.leveled c.args.field.now) c.args.cell.index c.args.edges.now l h c.args.self.now
          record { threes = c.if-edges-gt3.self.threes; centres = c.if-edges-gt3.self.centres; spokes = c.if-edges-gt3.self.spokes; border = c.if-edges-gt3.self.border + c.border_steps.result } true (lt-ltb 3 (length c.args.edges.now) w.if-edges-gt3.true) (ap (λ (k : LoopCounts). k.threes) w.self-is ∙ plus_none c.args.self.now.threes) (ap (λ (k : LoopCounts). k.centres) w.self-is) (ap (λ (k : LoopCounts). k.spokes) w.self-is) (borders (ap (λ (k : LoopCounts). k.border) w.self-is))
      | else-edges-gt3 w ↦ counts_more (g.H.Heights.leveled c.args.field.now) c.args.cell.index c.args.edges.now l h c.args.self.now
          record { threes = c.if-edges-gt3.self.threes; centres = c.if-edges-gt3.self.centres; spokes = c.if-edges-gt3.self.spokes; border = c.if-edges-gt3.self.border + c.border_steps.result } false (le-ltb 3 (length c.args.edges.now) (omega (arith, w.if-edges-gt3.false))) (ap (λ (k : LoopCounts). k.threes) w.self-is) (ap (λ (k : LoopCounts). k.centres) w.self-is ∙ plus_none c.args.self.now.centres) (ap (λ (k : LoopCounts). k.spokes) w.self-is ∙ plus_none c.args.self.now.spokes) (borders (ap (λ (k : LoopCounts). k.border) w.self-is))
    ])
