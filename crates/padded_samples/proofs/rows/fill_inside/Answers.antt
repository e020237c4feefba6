use Rattle.std.proofs.Common.{arith, ◌≡◌, ◌+◌, ◌-◌, length, take, drop}
use Rattle.std.proofs.lemmas.List.{length-drop, length-take-le}
use Rattle.samples.specs.Signs.{sign_of}
use Rattle.samples.proofs.Lists.{written}
use Rattle.padded_samples.proofs.rows.fill_inside.Goals as goal

pub returns-clause-inside : goal.returns-clause-inside
returns-clause-inside g c = λ i low.
    let m = c.args.from + c.args.count - c.args.from in
    let e : m ≡ c.args.count = omega arith in
    let n = length (take m (drop c.args.from c.args.into.now)) in
    let is : n ≡ m = length-take-le m (drop c.args.from c.args.into.now) (omega (arith, c.requires.room, e, length-drop c.args.from c.args.into.now)) in
    written (sign_of c.args.level) (g.S.Samples.list c.args.samples.now) (take c.args.from c.args.into.now) c.fill_signs.new.into _ 0 c.args.from c.args.start n i
    (length-take-le c.args.from c.args.into.now (omega (arith, c.requires.room))) c.fill_signs.ensures (omega (arith, low, is, e)) (omega (arith, c.requires.there, is, e))
