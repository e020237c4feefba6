use Rattle.std.proofs.Common.{rules, ◌≡◌, ◌+◌, ◌*◌, ◌≤◌, ◌++◌, length, get_or, take, ap, ◌∙◌, arith}
use Rattle.std.proofs.lemmas.Bool.{leb-true}
use Rattle.row_bits.specs.declared.edges.TheConstants.{COUNTS}
use Rattle.row_bits.proofs.EdgeLists.{front_written}
use Rattle.row_bits.proofs.PairEdges.{is_pair, moved_both, pair_front}
use Rattle.row_bits.proofs.edges.fill_pair.Goals as goal

pub returns-clause-put : goal.returns-clause-put
returns-clause-put c =
    let flags = c.args.flags.now in
    let x = c.args.from + c.args.k in
    let a = get_or flags x 0 in
    let b = get_or flags (x + 1) 0 in
    let is = is_pair a (c.requires.flags x 0 (omega (arith, c.requires.pair))) b (c.requires.flags (x + 1) 0 (omega (arith, c.requires.pair))) in
    let count : c.from.result ≡ get_or COUNTS (a + 8 * b) 0 = c.from.ensures ∙ ap (λ n. get_or COUNTS n 0) c.pair_at-pair.ensures.value in
    let few : c.from.result ≤ 8 = omega (arith, count, leb-true _ _ is.few) in
    let long : length c.moved_on-offsets.result ≡ 8 = search rules in
    front_written c.args.edges.now c.fill_numbers.new.edges c.moved_on-offsets.result c.args.at c.from.result 8 (omega (arith, c.requires.at, c.requires.low, c.told-edges)) few long c.fill_numbers.ensures
    ∙ ap (λ l. take c.args.at c.args.edges.now ++ l) (pair_front flags x c.pair_at-pair.result c.from.result c.moved_on-offsets.result c.requires.low c.pair_at-pair.ensures.value count is (c.moved_on-offsets.ensures ∙ moved_both c.args.from c.args.k _))

pub returns-clause-end : goal.returns-clause-end
returns-clause-end c =
    let flags = c.args.flags.now in
    let x = c.args.from + c.args.k in
    let a = get_or flags x 0 in
    let b = get_or flags (x + 1) 0 in
    let is = is_pair a (c.requires.flags x 0 (omega (arith, c.requires.pair))) b (c.requires.flags (x + 1) 0 (omega (arith, c.requires.pair))) in
    let count : c.from.result ≡ get_or COUNTS (a + 8 * b) 0 = c.from.ensures ∙ ap (λ n. get_or COUNTS n 0) c.pair_at-pair.ensures.value in
    omega (arith, count, leb-true _ _ is.few, c.requires.at)
