use Rattle.std.proofs.Common.{◌≡◌, ◌∙◌, ℤ, pos, ◌≤◌, ◌^◌, ◌+ℤ◌, ◌∷◌, [], ap, arith, slice_index_or, unsigned_abs}
use Rattle.std.proofs.lemmas.Int.{ints}
use Rattle.measure.proofs.Exact.{stored}
use Rattle.component_walk.proofs.rounds.with_cross.Goals as goal

pub returns-clause-value : goal.returns-clause-value
returns-clause-value c =
    let along : (x y : ℤ) → unsigned_abs x ≤ 2 ^ 40 → unsigned_abs y ≤ 1000000 → stored (stored x +ℤ stored y) ≡ x +ℤ y = λ x y h g. omega (arith, ints) in
    let s = c.args.swept.now in
    let x = along (slice_index_or s 0 (pos 0)) c.minor.result c.requires.room.0 c.minor.ensures.within ∙ ap (λ m. slice_index_or s 0 (pos 0) +ℤ m) c.minor.ensures.value in
    let y = along (slice_index_or s 1 (pos 0)) c.minor-2.result c.requires.room.1 c.minor-2.ensures.within ∙ ap (λ m. slice_index_or s 1 (pos 0) +ℤ m) c.minor-2.ensures.value in
    let z = along (slice_index_or s 2 (pos 0)) c.minor-3.result c.requires.room.2 c.minor-3.ensures.within ∙ ap (λ m. slice_index_or s 2 (pos 0) +ℤ m) c.minor-3.ensures.value in
    λ i. x i ∷ y i ∷ z i ∷ []
