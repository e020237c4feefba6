use Rattle.std.proofs.Common.{◌≡◌, ◌∙◌, length, refl, rules, arith, false}
use Rattle.sample_rows.specs.declared.parts.RowPart.{RowPart}
use Rattle.sample_rows.proofs.KeptParts.{rows_more, still_part}
use Rattle.sample_rows.proofs.parts.add_still.Goals as goal

pub returns : goal.returns
returns g c =
    let v = g.H.Heights.leveled c.args.field.now in
    let old = c.args.rows.now in
    let part : RowPart = record { start = c.len.result; edges = 0; cells = 0; is_whole = false } in
    let held : old.list.len ≡ length old.list.items = search rules in
    rows_more v c.args.y c.args.z old (record { list = old.list; parts = c.push.new.self }) part c.requires.y c.requires.rows c.in_ok-push.ensures.items
    (omega arith) (λ y z p kept. kept)
    (still_part v c.args.y c.args.z old.list.items part (omega (arith, c.sizes.ensures.leveled.grid.x.least)) refl (c.len.ensures ∙ held) refl refl c.requires.still c.requires.none)
