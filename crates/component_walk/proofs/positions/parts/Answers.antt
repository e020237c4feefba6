use Rattle.std.proofs.Common.{◌≡◌, ◌/◌, ◌%◌, ◌∷◌, [], arith}
use Rattle.component_walk.proofs.positions.parts.Goals as goal

pub returns : goal.returns
returns c = λ p near is.
    (let x : c.args.lanes % 65536 ≡ p.0 = omega (arith, near.x, near.y, near.z, is) in
    let y : c.args.lanes / 65536 % 65536 ≡ p.1 = omega (arith, near.x, near.y, near.z, is) in
    let z : c.args.lanes / 65536 / 65536 ≡ p.2 = omega (arith, near.x, near.y, near.z, is) in
    λ i. x i ∷ y i ∷ z i ∷ [])
