use Rattle.std.proofs.Common.{◌≡◌, ◌+◌, ◌*◌, ◌++◌, arith, get_or, take, ◌∙◌, ap}
use Rattle.row_bits.specs.Edges.{edges_among}
use Rattle.row_bits.proofs.EdgeLists.{among_zeros, nothing_put, put_on}
use Rattle.row_bits.proofs.PairEdges.{none_of_eight}
use Rattle.row_bits.proofs.edges.fill_eight.Goals as goal

pub returns-then-eight_at-eq0-clause-put : goal.returns-then-eight_at-eq0-clause-put
returns-then-eight_at-eq0-clause-put c =
    nothing_put (take c.args.at c.args.edges.now) _ (among_zeros c.args.flags.now (8 * c.args.eight) 8 (none_of_eight (λ k. get_or c.args.flags.now (8 * c.args.eight + k) 0) (omega (arith, c.eight_at.ensures, c.if-eight_at-eq0.true))))

pub returns-clause-put : goal.returns-clause-put
returns-clause-put c =
    let flags = c.args.flags.now in
    let from = 8 * c.args.eight in
    let here : from + 0 ≡ from = omega arith in
    let one = c.fill_pair-at.ensures.put ∙ ap (λ n. take c.args.at c.args.edges.now ++ edges_among flags n 2) here in
    let two = put_on flags from _ _ _ 2 (from + 2) 2 4 (omega arith) (omega arith) one c.fill_pair-at-2.ensures.put in
    let three = put_on flags from _ _ _ 4 (from + 4) 2 6 (omega arith) (omega arith) two c.fill_pair-at-3.ensures.put in
    put_on flags from _ _ _ 6 (from + 6) 2 8 (omega arith) (omega arith) three c.fill_pair.ensures.put
