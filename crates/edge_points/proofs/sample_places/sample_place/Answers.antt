use Rattle.std.proofs.Common.{◌≡◌, ◌∙◌, ◌+◌, ◌*◌, ◌/◌, ◌-ℤ◌, ℤ, nat_abs, w64, to_z, of_z, ap, ap₂, arith}
use Rattle.std.proofs.lemmas.Int.{to_z-of_z}
use Rattle.iso_base.specs.Volume.{shifted}
use Rattle.edge_points.proofs.BetweenSamples.{by_samples}
use Rattle.edge_points.proofs.sample_places.sample_place.Goals as goal

pub returns-clause-value : goal.returns-clause-value
returns-clause-value c =
    let low : ℤ = c.args.low in
    let high : ℤ = c.args.high in
    let level : ℤ = c.args.level in
    let el : to_z w64 (of_z w64 low) ≡ low = to_z-of_z w64 low c.ranges.low in
    let eh : to_z w64 (of_z w64 high) ≡ high = to_z-of_z w64 high c.ranges.high in
    let er : to_z w64 (of_z w64 c.shifted.result) ≡ c.shifted.result = to_z-of_z w64 c.shifted.result (record { sfits = omega (arith, c.shifted.ensures.bound) }) in
    let part : c.unsigned_abs.result ≡ nat_abs (shifted low level)
    = c.unsigned_abs.ensures.value ∙ ap nat_abs (er ∙ (c.shifted.ensures.value ∙ ap (λ (s : ℤ). shifted s level) el)) in
    let whole : c.abs_diff.result ≡ nat_abs (low -ℤ high) = c.abs_diff.ensures ∙ ap₂ (λ a b. nat_abs (a -ℤ b)) el eh in
    c.rounded_quotient.ensures.value ∙ (ap₂ (λ p d. (2 * p + d) / (2 * d)) part whole ∙ by_samples low high level c.requires.apart)
