use Rattle.std.proofs.Common.{◌≡◌, ◌∙◌, ◌≤◌, ◌^◌, ℤ, pos, ◌∷◌, [], arith, slice_index_or, subst, sym, unsigned_abs}
use Rattle.std.proofs.lemmas.Int.{ints}
use Rattle.measure.proofs.Exact.{kept, stored}
use Rattle.component_walk.proofs.shares.widen.Goals as goal

-- a small number is the same in the wider type
same : (x y : ℤ) → unsigned_abs x ≤ 2 ^ 60 → y ≡ stored x → kept y ≡ x
same x y h e = let z : stored x ≡ x = omega (arith, ints) in let near : unsigned_abs y ≤ 2 ^ 60 = subst (λ z. unsigned_abs z ≤ 2 ^ 60) (sym (e ∙ z)) h in omega (arith, ints, e, z)

pub returns-clause-value : goal.returns-clause-value
returns-clause-value c =
    let a = c.args.area.now in
    let x = same (slice_index_or a 0 (pos 0)) c.from.result c.requires.0 c.from.ensures in
    let y = same (slice_index_or a 1 (pos 0)) c.from-2.result c.requires.1 c.from-2.ensures in
    let z = same (slice_index_or a 2 (pos 0)) c.from-3.result c.requires.2 c.from-3.ensures in
    λ i. x i ∷ y i ∷ z i ∷ []

pub returns-clause-within : goal.returns-clause-within
returns-clause-within c =
    let a = c.args.area.now in
    let x = same (slice_index_or a 0 (pos 0)) c.from.result c.requires.0 c.from.ensures in
    let y = same (slice_index_or a 1 (pos 0)) c.from-2.result c.requires.1 c.from-2.ensures in
    let z = same (slice_index_or a 2 (pos 0)) c.from-3.result c.requires.2 c.from-3.ensures in
    (subst (λ n. unsigned_abs n ≤ 2 ^ 80) (sym x) (omega (arith, c.requires.0)), subst (λ n. unsigned_abs n ≤ 2 ^ 80) (sym y) (omega (arith, c.requires.1)), subst (λ n. unsigned_abs n ≤ 2 ^ 80) (sym z) (omega (arith, c.requires.2)))
