use Rattle.std.proofs.Common.{arith, length, map, ◌≡◌, ◌+◌, ◌-◌, ◌∙◌, ap, ℕ}
use Rattle.samples.specs.Signs.{sign_of}
use Rattle.samples.proofs.Lists.{part}
use Rattle.samples.proofs.list.NumbersSamples.fill_signs.Goals as goal

size : (a n : ℕ) → a + n - a ≡ n
size a n = omega arith

pub returns : goal.returns
returns g c =
    let n = length c.args.into.now in
    c.fill_signs.ensures ∙ ap (map (sign_of c.args.level)) (part g.T.Packed.value c.args.self.now.numbers.now c.args.start n (c.args.start + n - c.args.start) (size c.args.start n))
