use Rattle.std.proofs.Common.{◌≡◌, ◌+◌, ◌-◌, ◌∙◌, sym, ap, ap₂, arith, map, length, take, drop}
use Rattle.std.specs.List.{drop-map, take-map}
use Rattle.packed_samples.proofs.list.VecPackedList.copy_to.Goals as goal

pub returns : goal.returns
returns g c =
    let value = g.T.Packed.value in
    let count = length c.args.into.now in
    let numbers = c.args.self.now.items in
    let same : c.args.start + count - c.args.start ≡ count = omega arith in
    c.unpack.ensures
    ∙ ap₂ (λ n l. map value (take n (drop c.args.start l))) same c.deref.ensures.value
    ∙ sym (ap (take count) (drop-map value c.args.start numbers) ∙ take-map value count (drop c.args.start numbers))
