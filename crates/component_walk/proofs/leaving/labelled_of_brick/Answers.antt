use Rattle.std.proofs.Common.{◌≡◌, ◌∙◌, ℕ, ◌+◌, ◌-◌, ◌*◌, ◌^◌, ◌<◌, ap, sym, subst, get_or, inl, inr, arith}
use Rattle.std.specs.Int.{bit_at}
use Rattle.std.proofs.lemmas.Bool.{cases_lt}
use Rattle.std.proofs.lemmas.Nat.Bits.{bit_at_cat_high, bit_at_cat_low}
use Rattle.component_labels.specs.Fronts.{none}
use Rattle.component_walk.proofs.leaving.labelled_of_brick.Goals as goal

-- what the bits of three bytes say is what those of the bytes say
three_bytes : (P : ℕ → Type 0) (a b c n : ℕ) → a < 256 → b < 256 → n ≡ a + 256 * b + 65536 * c
    → ((k : ℕ) → k < 8 → bit_at a k ≡ 0 → P k) → ((k : ℕ) → k < 8 → bit_at b k ≡ 0 → P (8 + k)) → ((k : ℕ) → k < 8 → bit_at c k ≡ 0 → P (16 + k))
    → (k : ℕ) → k < 24 → bit_at n k ≡ 0 → P k
three_bytes P a b c n small mid is first second third k low unset =
    let whole : n ≡ (c * 2 ^ 8 + b) * 2 ^ 8 + a = omega (arith, is) in
    elim (cases_lt k 8) [
      | inl l ↦ first k l (sym (ap (λ m. bit_at m k) whole ∙ bit_at_cat_low (c * 2 ^ 8 + b) 8 a k l) ∙ unset)
      | inr h ↦ (
          let rest : bit_at (c * 2 ^ 8 + b) (k - 8) ≡ 0 = sym (ap (λ m. bit_at m k) whole ∙ bit_at_cat_high (c * 2 ^ 8 + b) 8 a k (omega (arith, small)) h) ∙ unset in
          elim (cases_lt k 16) [
            | inl l ↦ subst P (let e : 8 + (k - 8) ≡ k = omega (arith, h) in e)
                (second (k - 8) (omega (arith, h, l)) (sym (bit_at_cat_low c 8 b (k - 8) (omega (arith, h, l))) ∙ rest))
            | inr g ↦ subst P (let e : 16 + (k - 8 - 8) ≡ k = omega (arith, g) in e)
                (third (k - 8 - 8) (omega (arith, g, low)) (sym (bit_at_cat_high c 8 b (k - 8) (omega (arith, mid)) (omega (arith, g))) ∙ rest))
          ])
    ]

pub returns-clause-bits : goal.returns-clause-bits
returns-clause-bits c =
    let xs = c.args.labels.now.marks.labels in
    let place = c.args.place in
    let P : ℕ → Type 0 = λ k. get_or xs (place + k) 0 ≡ none in
    let moved : (k n : ℕ) → get_or xs (place + n + k) 0 ≡ none → P (n + k)
    = λ k n e. ap (λ p. get_or xs p 0) (let z : place + (n + k) ≡ place + n + k = omega arith in z) ∙ e in
    three_bytes P c.eight_with_labels.result c.eight_with_labels-2.result c.eight_with_labels-3.result _
    c.eight_with_labels.ensures.bound c.eight_with_labels-2.ensures.bound (omega arith)
    c.eight_with_labels.ensures.bits
    (λ k l e. moved k 8 (c.eight_with_labels-2.ensures.bits k l e))
    (λ k l e. moved k 16 (c.eight_with_labels-3.ensures.bits k l e))
