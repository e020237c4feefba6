use Rattle.std.proofs.Common.{◌≡◌, ℕ, ◌+◌, ◌<◌, refl, get_or, arith}
use Rattle.component_labels.specs.Fronts.{none}
use Rattle.component_walk.specs.Passed.{HasLeft}
use Rattle.component_walk.proofs.LeftLaws.{has_still}
use Rattle.component_walk.proofs.leaving.leave_some.Goals as goal

pub returns-then-are_unlabelled : goal.returns-then-are_unlabelled
returns-then-are_unlabelled c =
    let all : c.args.count ≡ 24 = omega (arith, c.if-count-eq24.true) in
    let each : (k : ℕ) → k < c.args.count → get_or c.args.labels.now.marks.labels (c.args.place + k) 0 ≡ none
    = λ k low. c.if-are_unlabelled.ensures refl k (omega (arith, low, all)) in
    has_still c.args.place c.args.count c.args.labels.now c.args.edges.now c.requires.place (omega (arith, c.requires.place, c.requires.some)) each
