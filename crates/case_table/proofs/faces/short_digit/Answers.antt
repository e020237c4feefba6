use Rattle.std.proofs.Common.{◌≡◌, ◌∙◌, cond, length, lit<, ap, rules, inl, inr}
use Rattle.std.proofs.lemmas.Bool.{cases_Bool}
use Rattle.case_table.proofs.Short.{decided, decided_is, fits_at}
use Rattle.case_table.proofs.faces.short_digit.Goals as goal

pub overflow_mul-even : goal.overflow_mul-even
overflow_mul-even c =
    let four : length c.args.cycle ≡ 4 = search rules in
    fits_at c.args.cycle four c.requires 0 2 (lit< tt) (lit< tt)

pub overflow_mul-odd : goal.overflow_mul-odd
overflow_mul-odd c =
    let four : length c.args.cycle ≡ 4 = search rules in
    fits_at c.args.cycle four c.requires 1 3 (lit< tt) (lit< tt)

pub returns-clause-bound : goal.returns-clause-bound
returns-clause-bound c = search rules

pub returns-clause-value : goal.returns-clause-value
returns-clause-value c =
    let four : length c.args.cycle ≡ 4 = search rules in
    let digit : c.from.result ≡ cond (decided c.args.cycle) 1 0 = elim (cases_Bool (decided c.args.cycle)) [
      | inl h ↦ rw h (rw (c.turn_round.ensures, h) at c.from.ensures)
      | inr h ↦ rw h (rw (c.turn_round.ensures, h) at c.from.ensures)
    ] in
    digit ∙ ap (λ b. cond b 1 0) (decided_is c.args.cycle four c.requires)
