use Rattle.std.proofs.Common.{◌∙◌, ◌-◌, ap, arith}
use Rattle.std.specs.Int.{bit_at}
use Rattle.std.proofs.lemmas.Nat.{one_shl}
use Rattle.std.proofs.lemmas.Nat.Bits.{bit_at_ones}
use Rattle.component_walk.proofs.leaving.labelled_among.Goals as goal

pub returns-clause-bits : goal.returns-clause-bits
returns-clause-bits c k low unset =
    let set = ap (λ m. bit_at (m - 1) k) (one_shl c.args.count 64 (omega (arith, c.requires.few))) ∙ bit_at_ones c.args.count k low in
    absurd (omega (arith, set, unset))
