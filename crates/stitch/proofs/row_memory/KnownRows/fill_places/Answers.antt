use Rattle.std.proofs.Common.{◌+◌, ◌∙◌, length, ap, sym, arith}
use Rattle.stitch.proofs.KnownLists.{edges_long, known_places, names_few, places_kept, places_long}
use Rattle.stitch.proofs.row_memory.KnownRows.fill_places.Goals as goal

pub copy_from_slice-requires : goal.copy_from_slice-requires
copy_from_slice-requires c =
    let v = c.args.field.now in
    let key = c.edges_key-key in
    let are = places_kept v c.args.self.now.recent c.args.y c.args.z (key.result + 1) c.list.result.now c.requires.known.recent c.requires.y c.requires.z c.list.ensures (ap (λ k. k + 1) key.ensures.value) in
    c.requires.count ∙ (edges_long v c.args.y c.args.z c.args.edges.now c.requires.edges ∙ (sym (places_long v c.args.y c.args.z) ∙ sym (ap length are)))

pub returns-then-has-clause-places : goal.returns-then-has-clause-places
returns-then-has-clause-places c =
    let key = c.edges_key-key in
    c.copy_from_slice.ensures.after
    ∙ places_kept c.args.field.now c.args.self.now.recent c.args.y c.args.z (key.result + 1) c.list.result.now c.requires.known.recent c.requires.y c.requires.z c.list.ensures (ap (λ k. k + 1) key.ensures.value)

pub put-requires-clause-few : goal.put-requires-clause-few
put-requires-clause-few c =
    let v = c.args.field.now in
    let count = ap length c.place_row.ensures ∙ places_long v c.args.y c.args.z in
    omega (arith, count, names_few v c.args.y c.args.z, c.sizes.ensures.leveled.grid.x.most)

pub returns-clause-known : goal.returns-clause-known
returns-clause-known c = record {
  even = c.requires.known.even;
  odd = c.requires.known.odd;
  recent = known_places c.args.field.now c.args.self.now.recent c.put.new.self c.args.y c.args.z (c.edges_key-key.result + 1) _ c.requires.y (ap (λ k. k + 1) c.edges_key-key.ensures.value)
      c.requires.known.recent c.put.ensures.within c.put.ensures.each c.place_row.ensures;
}
