use Rattle.std.proofs.Common.{◌≡◌, ◌∙◌, ◌++◌, length, refl, rules, subst, sym, ap, arith, true}
use Rattle.std.proofs.lemmas.List.{length-append}
use Rattle.sample_rows.specs.declared.parts.RowPart.{RowPart}
use Rattle.sample_rows.specs.Parts.{IsKeptRow}
use Rattle.sample_rows.proofs.KeptParts.{kept_longer, rows_more, whole_kept}
use Rattle.sample_rows.proofs.parts.add_whole.Goals as goal

pub returns : goal.returns
returns g c =
    let v = g.H.Heights.leveled c.args.field.now in
    let old = c.args.rows.now in
    let numbers = c.args.numbers.now in
    let part : RowPart = record { start = c.len-start.result; edges = 0; cells = 0; is_whole = true } in
    let items : c.extend_from_slice.new.self.items ≡ old.list.items ++ numbers = c.in_ok-extend_from_slice.ensures.items in
    let held : old.list.len ≡ length old.list.items = search rules in
    rows_more v c.args.y c.args.z old (record { list = c.extend_from_slice.new.self; parts = c.push.new.self }) part c.requires.y c.requires.rows c.in_ok-push.ensures.items
    (omega (arith, ap length items, length-append old.list.items numbers, c.requires.numbers.count))
    (λ y z p kept. subst (λ l. IsKeptRow v y z l p) (sym items) (kept_longer v y z old.list.items numbers p kept))
    (subst (λ l. IsKeptRow v c.args.y c.args.z l part) (sym items) (whole_kept v c.args.y c.args.z old.list.items numbers part refl (c.len-start.ensures ∙ held) c.requires.numbers))
