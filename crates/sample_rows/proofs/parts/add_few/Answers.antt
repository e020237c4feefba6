use Rattle.std.proofs.Common.{◌≡◌, ◌∙◌, ◌++◌, length, refl, rules, subst, sym, ap, arith, false}
use Rattle.std.proofs.lemmas.List.{length-append}
use Rattle.sample_rows.specs.declared.parts.RowPart.{RowPart}
use Rattle.sample_rows.specs.Parts.{IsKeptRow}
use Rattle.sample_rows.proofs.KeptParts.{few_kept, kept_longer, rows_more}
use Rattle.sample_rows.proofs.RowPlaces.{edges_low}
use Rattle.sample_rows.proofs.parts.add_few.Goals as goal

pub overflow_cast-few : goal.overflow_cast-few
overflow_cast-few g c =
    omega (arith, edges_low (g.H.Heights.leveled c.args.field.now) c.args.y c.args.z c.args.few.edges.now c.requires.edges, c.sizes.ensures.leveled.grid.x.most)

pub returns : goal.returns
returns g c =
    let v = g.H.Heights.leveled c.args.field.now in
    let old = c.args.rows.now in
    let list = old.list.items in
    let edges = c.args.few.edges.now in
    let places = c.args.few.places.now in
    let cases = c.args.few.cases.now in
    let part : RowPart = record { start = c.len-start.result; edges = length edges; cells = length places; is_whole = false } in
    let items : c.extend_from_slice-3.new.self.items ≡ ((list ++ edges) ++ places) ++ cases
    = c.in_ok-extend_from_slice-3.ensures.items ∙ ap (λ l. l ++ cases) (c.in_ok-extend_from_slice-2.ensures.items ∙ ap (λ l. l ++ places) c.in_ok-extend_from_slice.ensures.items) in
    let held : old.list.len ≡ length list = search rules in
    rows_more v c.args.y c.args.z old (record { list = c.extend_from_slice-3.new.self; parts = c.push.new.self }) part c.requires.y c.requires.rows c.in_ok-push.ensures.items
    (omega (
      arith,
      ap length items,
      length-append ((list ++ edges) ++ places) cases,
      length-append (list ++ edges) places,
      length-append list edges,
      edges_low v c.args.y c.args.z edges c.requires.edges,
      c.requires.cells.same,
      c.requires.cells.few,
    ))
    (λ y z p kept. subst (λ l. IsKeptRow v y z l p) (sym items)
    (kept_longer v y z ((list ++ edges) ++ places) cases p (kept_longer v y z (list ++ edges) places p (kept_longer v y z list edges p kept))))
    (subst (λ l. IsKeptRow v c.args.y c.args.z l part) (sym items)
    (few_kept v c.args.y c.args.z list edges places cases part refl (c.len-start.ensures ∙ held) refl refl c.requires.edges c.requires.cells))
