use Rattle.std.proofs.Common.{rules, ◌≡◌, ◌∙◌, ap, map, slice_set}
use Rattle.std.proofs.lemmas.List.{map-set}
use Rattle.packed_samples.proofs.list.VecPackedList.set.Goals as goal

pub returns : goal.returns
returns g c =
    let value = g.T.Packed.value in
    let number : value c.of.result ≡ c.args.value = search rules in
    map-set value c.args.self.now.items c.args.place c.of.result ∙ ap (slice_set (map value c.args.self.now.items) c.args.place) number
