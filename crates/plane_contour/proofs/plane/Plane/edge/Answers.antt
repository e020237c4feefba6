use Rattle.std.proofs.Common.{◌≡◌, ◌+◌, ◌/◌, ◌%◌, ◌<◌, ◌≤◌, sym, ◌∙◌, subst, arith, inl, inr}
use Rattle.std.proofs.lemmas.Bool.{ltb-true, lt-ltb, both_ways, cases_lt}
use Rattle.plane_contour.proofs.Scanned.{beyond_right, beyond_top, numbered_edge}
use Rattle.plane_contour.proofs.plane.Plane.edge.Goals as goal
use Rattle.plane_contour.proofs.plane.Plane.edge.Goals.{then-axis-eq0, else-axis-eq0}

pub returns-then-inside : goal.returns-then-inside
returns-then-inside c =
    numbered_edge c.args.self.now c.requires.plane c.args.number c.requires.number c.nx.result c.nx-2.result c.nx.ensures.value c.nx-2.ensures.value
    (elim c.if-axis-eq0.branch [
      | then-axis-eq0 w ↦ (λ e.
          let l : c.args.number / 2 % c.nx.result + 1 < w.nx-then-axis-eq0.result = ltb-true _ _ (sym w.inside-is ∙ c.if-inside.true) in
          subst (λ m. c.args.number / 2 % c.nx.result + 1 < m) w.nx-then-axis-eq0.ensures.value l)
      | else-axis-eq0 w ↦ (λ e. absurd (w.if-axis-eq0.false e))
    ])
    (elim c.if-axis-eq0.branch [
      | then-axis-eq0 w ↦ (λ e. absurd (let h = w.if-axis-eq0.true in omega arith))
      | else-axis-eq0 w ↦ (λ e.
          let l : c.args.number / 2 / c.nx-2.result + 1 < w.ny.result = ltb-true _ _ (sym w.inside-is ∙ c.if-inside.true) in
          subst (λ m. c.args.number / 2 / c.nx-2.result + 1 < m) w.ny.ensures.value l)
    ])

pub returns-else-inside : goal.returns-else-inside
returns-else-inside c = λ h.
    elim c.if-axis-eq0.branch [
      | then-axis-eq0 w ↦ (
          let out : c.args.self.now.sizes.nx ≤ c.args.number / 2 % c.args.self.now.sizes.nx + 1 = elim (cases_lt (c.args.number / 2 % c.nx.result + 1) w.nx-then-axis-eq0.result) [
            | inl l ↦ absurd (both_ways c.if-axis-eq0.inside c.if-inside.false (w.inside-is ∙ lt-ltb _ _ l))
            | inr l ↦ subst (λ m. c.args.self.now.sizes.nx ≤ c.args.number / 2 % m + 1) c.nx.ensures.value (subst (λ m. m ≤ c.args.number / 2 % c.nx.result + 1) w.nx-then-axis-eq0.ensures.value l)
          ] in
          beyond_right c.args.self.now c.requires.plane c.args.number c.requires.number w.if-axis-eq0.true out h)
      | else-axis-eq0 w ↦ (
          let odd : c.args.number % 2 ≡ 1 = let n = w.if-axis-eq0.false in omega arith in
          let out : c.args.self.now.sizes.ny ≤ c.args.number / 2 / c.args.self.now.sizes.nx + 1 = elim (cases_lt (c.args.number / 2 / c.nx-2.result + 1) w.ny.result) [
            | inl l ↦ absurd (both_ways c.if-axis-eq0.inside c.if-inside.false (w.inside-is ∙ lt-ltb _ _ l))
            | inr l ↦ subst (λ m. c.args.self.now.sizes.ny ≤ c.args.number / 2 / m + 1) c.nx-2.ensures.value (subst (λ m. m ≤ c.args.number / 2 / c.nx-2.result + 1) w.ny.ensures.value l)
          ] in
          beyond_top c.args.self.now c.requires.plane c.args.number c.requires.number odd out h)
    ]
