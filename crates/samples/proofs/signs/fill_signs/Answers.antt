use Rattle.std.proofs.Common.{◌≡◌, ◌∙◌, ap, int_le, map, of_z, rules, to_z, w64}
use Rattle.std.proofs.lemmas.Int.{to_z-of_z}
use Rattle.samples.proofs.LeastAbove.{by_least}
use Rattle.samples.proofs.signs.fill_signs.Goals as goal

pub returns-in-Some : goal.returns-in-Some
returns-in-Some g c =
    let least : to_z w64 (of_z w64 c.least_above.result) ≡ c.least_above.result = search (rules, to_z-of_z) in
    c.fill_by_bound.ensures (to_z w64 (of_z w64 c.least_above.result)) c.in-Some.ensures
    ∙ by_least (λ s. s) c.args.level _ (λ s. ap (λ n. int_le n s) least ∙ c.least_above.ensures s) (map g.T.Packed.value c.args.numbers.now)

pub returns-in-None : goal.returns-in-None
returns-in-None g c =
    let least : to_z w64 (of_z w64 c.least_above.result) ≡ c.least_above.result = search (rules, to_z-of_z) in
    c.fill_by_bound-in-None.ensures (to_z w64 (of_z w64 c.least_above.result)) c.in-None.ensures
    ∙ by_least (λ s. s) c.args.level _ (λ s. ap (λ n. int_le n s) least ∙ c.least_above.ensures s) (map g.T.Packed.value c.args.numbers.now)
