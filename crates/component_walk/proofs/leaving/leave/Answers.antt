use Rattle.std.proofs.Common.{◌≡◌, ◌∙◌, ◌<◌, ◌%◌, ap, sym, get_or, length, set, arith}
use Rattle.component_labels.specs.Fronts.{none, room}
use Rattle.component_walk.proofs.LeftLaws.{count_low, edges_next, edges_same, label_here, left_next, passed_low}
use Rattle.component_walk.proofs.leaving.leave.Goals as goal

pub returns-then-label : goal.returns-then-label
returns-then-label c = λ k n inside at h.
    (let e = c.leave-label.ensures in
    let some : 0 < room k.volume.grid = omega (arith, c.requires.place, ap room h.grid) in
    let same : set c.args.labels.now.marks.labels c.args.place none ≡ set c.args.labels.now.marks.labels (n % room k.volume.grid) none = ap (λ p. set c.args.labels.now.marks.labels p none) at in
    let here : k.label n ≡ none
    = sym (label_here k n c.args.labels.now c.args.edges.now h (omega (arith, inside)) some) ∙ (ap (λ p. get_or c.args.labels.now.marks.labels p 0) (sym at) ∙ (sym e.label ∙ c.if-label.true)) in
    left_next k n c.args.labels.now c.args.edges.now h (omega (arith, inside)) some c.leave-label.new.self c.args.edges.now e.grid (e.labels ∙ same) (ap (λ p. get_or c.leave-label.new.self.marks.labels p 0) (sym at) ∙ e.gone)
    e.count e.pairs (ap length (let z : c.args.edges.now.crossings.items ≡ c.args.edges.now.crossings.items = λ i. c.args.edges.now.crossings.items in z))
    (edges_same k n c.args.labels.now c.args.edges.now h (omega (arith, inside)) some here))

pub pass-requires-clause-few : goal.pass-requires-clause-few
pass-requires-clause-few c =
    let s = c.requires.state in
    let some : 0 < room s.leaving.volume.grid = omega (arith, c.requires.place, ap room s.left.grid) in
    passed_low s.leaving s.name c.args.labels.now c.args.edges.now s.left (omega (arith, s.inside)) some

pub pass-requires-clause-small : goal.pass-requires-clause-small
pass-requires-clause-small c =
    let s = c.requires.state in
    let some : 0 < room s.leaving.volume.grid = omega (arith, c.requires.place, ap room s.left.grid) in
    count_low s.leaving s.name c.args.labels.now c.args.edges.now s.left (omega (arith, s.inside)) some c.leave-label.result (omega (arith, s.left.size, c.leave-label.ensures.low (λ e. c.if-label.false e)))

pub returns : goal.returns
returns c = λ k n inside at h.
    (let e = c.leave-label.ensures in
    let p = c.in_ok-pass.ensures in
    let some : 0 < room k.volume.grid = omega (arith, c.requires.place, ap room h.grid) in
    let same : set c.args.labels.now.marks.labels c.args.place none ≡ set c.args.labels.now.marks.labels (n % room k.volume.grid) none = ap (λ p. set c.args.labels.now.marks.labels p none) at in
    let here : c.leave-label.result ≡ k.label n
    = e.label ∙ (ap (λ p. get_or c.args.labels.now.marks.labels p 0) at ∙ label_here k n c.args.labels.now c.args.edges.now h (omega (arith, inside)) some) in
    left_next k n c.args.labels.now c.args.edges.now h (omega (arith, inside)) some c.leave-label.new.self c.pass.new.self e.grid (e.labels ∙ same) (ap (λ p. get_or c.leave-label.new.self.marks.labels p 0) (sym at) ∙ e.gone)
    e.count e.pairs p.size
    (edges_next k n c.args.labels.now c.args.edges.now h (omega (arith, inside)) some c.pass.new.self (λ z. c.if-label.false (here ∙ z)) p.count
    (λ f number es d a is num. p.edges f number es d a (is ∙ sym here) num)))
