use Rattle.std.proofs.Common.{◌≡◌, ◌≢◌, ◌∙◌, ◌+◌, ◌-◌, ◌<◌, ℕ, ap, get_or, length, set, inl, inr, arith}
use Rattle.std.proofs.lemmas.Bool.{cases_eq, cases_lt}
use Rattle.std.proofs.lemmas.List.{get_or-set_other, get_or-set_same, length-set}
use Rattle.std.proofs.lemmas.Nat.Bits.{bit_at_above}
use Rattle.component_walk.proofs.cells.looped_among.Goals as goal

pub returns-then-end-from-clause-above : goal.returns-then-end-from-clause-above
returns-then-end-from-clause-above c k behind =
    bit_at_above c.looped_of.result 8 k c.looped_of.ensures.bound (omega (arith, behind, c.if-end-from.true))

pub loop-at-preserved : goal.loop-at-preserved
loop-at-preserved c =
    let eight = c.loop-at.eight in
    let j : ℕ = c.loop-at.at - c.args.from in
    let long : length eight ≡ 8 = c.loop-at.invariant.long in
    let start = c.loop-at.auto.at in
    let case = get_or c.args.cases.now c.loop-at.at 0 in
    let low : j < 8 = omega (arith, c.requires.few, c.loop-at-test.true) in
    record {
      long = length-set eight j case ∙ long;
      same = λ k l.
          elim (cases_eq k j) [
            | inl e ↦ ap (λ n. get_or (set eight j case) n 0) e ∙ (get_or-set_same eight j case 0 (omega (arith, low, long)) ∙ ap (λ n. get_or c.args.cases.now n 0) (let z : c.loop-at.at ≡ c.args.from + k = omega (arith, e, start) in z))
            | inr d ↦ get_or-set_other eight j k case 0 d ∙ c.loop-at.invariant.same k (other k l d)
          ];
      rest = λ k l. get_or-set_other eight j k case 0 (λ e. omega (arith, e, l, start)) ∙ c.loop-at.invariant.rest k (omega (arith, l));
    }
  where
    other : (k : ℕ) → k < c.loop-at.at + 1 - c.args.from → (k ≢ c.loop-at.at - c.args.from) → k < c.loop-at.at - c.args.from
    other k l d = elim (cases_lt k (c.loop-at.at - c.args.from)) [ inl low ↦ low | inr high ↦ absurd (d (omega (arith, l, high))) ]

pub returns-clause-above : goal.returns-clause-above
returns-clause-above c k behind =
    elim (cases_lt k 8) [
      | inl low ↦ c.looped_of-2.ensures.none k low
          (ap (λ n. get_or c.loop-at.eight n 0) (let z : 0 + k ≡ k = omega arith in z) ∙ c.loop-at.invariant.rest k (omega (arith, behind, c.loop-at-test.false, c.loop-at.auto.at-end)))
      | inr high ↦ bit_at_above c.looped_of-2.result 8 k c.looped_of-2.ensures.bound high
    ]
