use Rattle.std.proofs.Common.{◌≡◌, ◌+◌, ◌-◌, ◌*◌, false, eqb, get_or, subst, inl, inr, arith}
use Rattle.std.proofs.lemmas.Bool.{cases_lt}
use Rattle.text_lines.proofs.lines.without_feed.Goals as goal

pub loop-step-preserved : goal.loop-step-preserved
loop-step-preserved c = λ k low. elim (cases_lt k (16 * c.loop-step.step)) [
  | inl earlier ↦ c.loop-step.invariant k earlier
  | inr late ↦ (
      let place : 16 * c.loop-step.step + (k - 16 * c.loop-step.step) ≡ k = omega arith in
      subst (λ n. eqb (get_or c.args.bytes.now n 0) 10 ≡ false) place (c.has_feed.ensures c.if-has_feed.false (k - 16 * c.loop-step.step) (omega arith)))
]
