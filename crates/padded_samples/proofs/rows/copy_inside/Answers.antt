use Rattle.std.proofs.Common.{arith, ◌+◌, ◌-◌, ◌≡◌, drop}
use Rattle.std.proofs.lemmas.List.{length-drop, length-take-le}
use Rattle.padded_samples.proofs.Parts.{part_others}
use Rattle.padded_samples.proofs.rows.copy_inside.Goals as goal

pub returns-clause-others : goal.returns-clause-others
returns-clause-others g c = λ i where_is.
    let old = c.args.into.now in
    let m = c.args.from + c.args.count - c.args.from in
    let e : m ≡ c.args.count = omega arith in
    let size = length-take-le m (drop c.args.from old) (omega (arith, c.requires.room, e, length-drop c.args.from old)) in
    part_others g.T.Packed.value old c.copy_row.new.into c.args.from c.args.count m i e c.requires.room
    (omega (arith, c.copy_row.auto.into, size, e)) where_is
