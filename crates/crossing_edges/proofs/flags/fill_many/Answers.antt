use Rattle.std.proofs.Common.{◌≡◌, ℕ, ◌+◌, ◌-◌, ◌*◌, ◌<◌, ◌∙◌, List, arith, get_or, inl, inr, length, subst}
use Rattle.std.proofs.lemmas.Bool.{cases_lt}
use Rattle.crossing_edges.specs.Signs.{inner_flag}
use Rattle.crossing_edges.proofs.flags.fill_many.Goals as goal

-- the numbers before a place and sixteen more
sixteen_more : (number : ℕ → ℕ) (old new part : List ℕ) (start : ℕ) → length part ≡ 16 → ((i : ℕ) → i < start → get_or old i 0 ≡ number i)
    → ((i : ℕ) → i < length part → get_or new (start + i) 0 ≡ get_or part i 0) → ((p : ℕ) → p < start → get_or new p 0 ≡ get_or old p 0)
    → ((i : ℕ) → i < 16 → get_or part i 0 ≡ number (start + i)) → (i : ℕ) → i < start + 16 → get_or new i 0 ≡ number i
sixteen_more number old new part start long done inside before are i low = elim (cases_lt i start) [
  | inl earlier ↦ before i earlier ∙ done i earlier
  | inr late ↦ (
      let place : start + (i - start) ≡ i = omega arith in
      subst (λ p. get_or new p 0 ≡ number p) place (inside (i - start) (omega (arith, long)) ∙ are (i - start) (omega arith)))
]

pub loop-k-preserved : goal.loop-k-preserved
loop-k-preserved c = λ i low.
    sixteen_more (inner_flag c.args.here.now c.args.up.now c.args.far.now) c.loop-k.out c.fill_part.new.list c.flags_at.result (16 * c.loop-k.k) (omega arith)
    c.loop-k.invariant c.fill_part.ensures.inside c.fill_part.ensures.before c.flags_at.ensures i (omega arith)

pub returns : goal.returns
returns c = λ i low.
    sixteen_more (inner_flag c.args.here.now c.args.up.now c.args.far.now) c.loop-k.out c.fill_part-2.new.list c.flags_at-2.result (c.args.count - 16) (omega arith)
    (λ p early. c.loop-k.invariant p (omega arith)) c.fill_part-2.ensures.inside c.fill_part-2.ensures.before c.flags_at-2.ensures i (omega arith)
