use Rattle.std.proofs.Common.{◌≡◌, ◌∙◌, ◌<◌, ◌==◌, ◌||◌, ap, sym, rules, arith, map, get_or}
use Rattle.std.specs.Prelude.{nat_lt}
use Rattle.std.proofs.lemmas.List.{ext_get_or}
use Rattle.std.proofs.lemmas.List.FromFn.{get_or-map-range_with_len, length-map-range_with_len}
use Rattle.iso_defs.specs.Lists.{below}
use Rattle.iso_defs.specs.Cell.{next_of}
use Rattle.case_table.specs.Cases.{case_pairs}
use Rattle.case_table.specs.declared.rows.TheConstants.{ROWS}
use Rattle.case_table.proofs.Table.{end_at, field, next_at, none_at}
use Rattle.case_table.proofs.case.successors.Goals as goal

pub returns-clause-value : goal.returns-clause-value
returns-clause-value c =
    let small : c.args.row < 656 = search rules in
    let ends = map (next_of (case_pairs c.args.row)) (below 12) in
    ext_get_or 0 c.loop-edge.ends (map (next_of (case_pairs c.args.row)) (below 12)) (c.loop-edge.invariant.size ∙ sym (length-map-range_with_len (next_of (case_pairs c.args.row)) 0 12))
    (λ a h. let edge : a < 12 = omega (arith, c.loop-edge.invariant.size) in
    c.loop-edge.invariant.done a (omega arith) ∙ ap (λ r. field r a) (c.packed_row-fields.ensures.value ∙ ap (λ n. get_or ROWS n 0) c.row.view_is)
    ∙ end_at c.args.row a small edge
    ∙ sym (get_or-map-range_with_len (next_of (case_pairs c.args.row)) 0 12 a a 0 edge (omega arith)))

pub returns-clause-next : goal.returns-clause-next
returns-clause-next c = λ a b h g.
    let small : c.args.row < 656 = search rules in
    let e : get_or c.loop-edge.ends a 0 ≡ field (get_or ROWS c.args.row 0) a =
    c.loop-edge.invariant.done a (omega arith) ∙ ap (λ r. field r a) (c.packed_row-fields.ensures.value ∙ ap (λ n. get_or ROWS n 0) c.row.view_is) in
    ap (λ x. x == b) e ∙ next_at c.args.row a b small h g

pub returns-clause-none : goal.returns-clause-none
returns-clause-none c = λ a h.
    let small : c.args.row < 656 = search rules in
    let e : get_or c.loop-edge.ends a 0 ≡ field (get_or ROWS c.args.row 0) a =
    c.loop-edge.invariant.done a (omega arith) ∙ ap (λ r. field r a) (c.packed_row-fields.ensures.value ∙ ap (λ n. get_or ROWS n 0) c.row.view_is) in
    ap (λ x. nat_lt x 12 || (x == 15)) e ∙ none_at c.args.row a small h
