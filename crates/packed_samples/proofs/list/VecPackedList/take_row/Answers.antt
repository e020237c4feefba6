use Rattle.std.proofs.Common.{rules, arith, ◌≡◌, ◌+◌, ◌-◌, ◌∙◌, ap, map, take, drop}
use Rattle.std.proofs.lemmas.List.{length-map}
use Rattle.iso_base.specs.Points.{index_of}
use Rattle.packed_samples.specs.Runs.{row_set}
use Rattle.packed_samples.proofs.PackedLists.{map-written}
use Rattle.packed_samples.proofs.list.VecPackedList.take_row.Goals as goal

pub returns-in-9 : goal.returns-in-9
returns-in-9 g c =
    let value = g.T.Packed.value in
    let before = c.args.self.now.items in
    let new = c.copy_row.new.into in
    let room = length-map before value in
    let values : map value new ≡ take c.args.count (drop (index_of c.args.sizes.now c.args.point) (g.S.Samples.list c.args.samples.now)) = search rules in
    map-written value c.args.place (c.args.place + 9 - c.args.place) c.args.self.now.len new before c.deref_mut.result.now c.deref_mut.ensures.value (search rules) (omega arith) (search rules)
    ∙ ap (λ l. row_set c.args.place l (map value before)) values

pub returns-in-8 : goal.returns-in-8
returns-in-8 g c =
    let value = g.T.Packed.value in
    let before = c.args.self.now.items in
    let new = c.copy_row-in-8.new.into in
    let room = length-map before value in
    let values : map value new ≡ take c.args.count (drop (index_of c.args.sizes.now c.args.point) (g.S.Samples.list c.args.samples.now)) = search rules in
    map-written value c.args.place (c.args.place + 8 - c.args.place) c.args.self.now.len new before c.deref_mut-in-8.result.now c.deref_mut-in-8.ensures.value (search rules) (omega arith) (search rules)
    ∙ ap (λ l. row_set c.args.place l (map value before)) values

pub returns-in_default : goal.returns-in_default
returns-in_default g c =
    let value = g.T.Packed.value in
    let before = c.args.self.now.items in
    let new = c.copy_row-in_default.new.into in
    let room = length-map before value in
    let values : map value new ≡ take c.args.count (drop (index_of c.args.sizes.now c.args.point) (g.S.Samples.list c.args.samples.now)) = search rules in
    map-written value c.args.place (c.args.place + c.args.count - c.args.place) c.args.self.now.len new before c.deref_mut-in_default.result.now c.deref_mut-in_default.ensures.value (search rules) (omega arith) (search rules)
    ∙ ap (λ l. row_set c.args.place l (map value before)) values
