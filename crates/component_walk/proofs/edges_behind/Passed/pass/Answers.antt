use Rattle.std.proofs.Common.{◌≡◌, ◌∙◌, ◌+◌, ◌++◌, ◌∷◌, [], ap, sym, subst, set, get_or, cond, eqb}
use Rattle.std.proofs.lemmas.List.{get_or_default}
use Rattle.component_walk.specs.Passed.{AreEdges}
use Rattle.component_walk.proofs.PassedLaws.{edges_more}
use Rattle.component_walk.proofs.edges_behind.Passed.pass.Goals as goal

pub returns-clause-edges : goal.returns-clause-edges
returns-clause-edges c = λ f number es e h is num.
    (let cs = c.args.self.now.crossings.items in
    let order = c.args.self.now.order.items in
    let at : get_or cs c.args.label 0 ≡ c.index-before.result.now
    = get_or_default cs c.args.label 0 c.index-before.result.now c.requires.label ∙ sym c.index-before.ensures in
    subst (λ b. AreEdges f number (es ++ e ∷ []) (set cs c.args.label (b + 1)) c.note_first.new.order.items) at
    (edges_more f number es e c.args.label c.args.self.now.count cs order c.note_first.new.order.items h is num c.requires.label
    (c.in_ok-note_first.ensures ∙ ap (λ b. cond (eqb b 0) (order ++ (c.args.label, c.args.self.now.count) ∷ []) order) (sym at))))
