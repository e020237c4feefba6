use Rattle.std.proofs.Common.{◌+◌, ◌-◌, ◌<◌, ◌++◌, length, map, take, sym, ◌∙◌, ap, arith, append-nil, append_assoc, bit_and}
use Rattle.std.proofs.lemmas.List.{length-map, take_more_set}
use Rattle.row_bits.proofs.ActiveLists.{active_few, group_cells}
use Rattle.row_bits.proofs.SetBits.{bits_none, bits_set, lowest}
use Rattle.row_bits.proofs.active.fill_group.Goals as goal

pub loop-bits-init : goal.loop-bits-init
loop-bits-init c =
    let from = c.args.from in
    let n = c.group_bits-bits.result in
    let same = group_cells c.args.cases.now from n c.args.count (omega (arith, c.requires.few)) c.group_bits-bits.ensures.inside c.group_bits-bits.ensures.behind in
    record {
      put = ap (λ l. take c.args.at c.args.cells.now ++ l) same;
      end = omega (arith, length-map (bits_set n) (λ k. from + k), ap length same);
    }

pub bounds-cells-at : goal.bounds-cells-at
bounds-cells-at c =
    omega (arith, c.loop-bits.invariant.end, ap length (lowest c.loop-bits.bits (omega (arith, c.loop-bits-test.true)) (omega (arith, c.loop-bits.auto.bits-fits))), c.requires.at, c.requires.end, active_few c.args.cases.now c.args.from c.args.count)

pub offset_bounds-cells-at : goal.offset_bounds-cells-at
offset_bounds-cells-at c =
    omega (arith, c.loop-bits.invariant.end, ap length (lowest c.loop-bits.bits (omega (arith, c.loop-bits-test.true)) (omega (arith, c.loop-bits.auto.bits-fits))), c.requires.at, c.requires.end, active_few c.args.cases.now c.args.from c.args.count)

pub overflow_add-at : goal.overflow_add-at
overflow_add-at c =
    omega (arith, c.loop-bits.invariant.end, ap length (lowest c.loop-bits.bits (omega (arith, c.loop-bits-test.true)) (omega (arith, c.loop-bits.auto.bits-fits))), c.requires.at, c.requires.end, active_few c.args.cases.now c.args.from c.args.count)

pub loop-bits-preserved : goal.loop-bits-preserved
loop-bits-preserved c =
    let n = c.loop-bits.bits in
    let at = c.loop-bits.at in
    let from = c.args.from in
    let rest = map (λ k. from + k) (bits_set (bit_and n (n - 1))) in
    let cut = lowest n (omega (arith, c.loop-bits-test.true)) (omega (arith, c.loop-bits.auto.bits-fits)) in
    let low : at < 1026 = omega (arith, c.loop-bits.invariant.end, ap length cut, c.requires.at, c.requires.end, active_few c.args.cases.now from c.args.count) in
    record {
      put = ap (λ l. l ++ rest) (take_more_set c.loop-bits.cells at _ (omega (arith, low)))
          ∙ (append_assoc (take at c.loop-bits.cells) _ rest
          ∙ (ap (λ l. take at c.loop-bits.cells ++ map (λ k. from + k) l) (sym cut) ∙ c.loop-bits.invariant.put));
      end = omega (arith, c.loop-bits.invariant.end, ap length cut);
    }

pub returns-clause-put : goal.returns-clause-put
returns-clause-put c =
    sym (ap (λ n. take c.loop-bits.at c.loop-bits.cells ++ map (λ k. c.args.from + k) (bits_set n)) c.loop-bits-test.false
    ∙ (ap (λ l. take c.loop-bits.at c.loop-bits.cells ++ map (λ k. c.args.from + k) l) bits_none ∙ append-nil (take c.loop-bits.at c.loop-bits.cells)))
    ∙ c.loop-bits.invariant.put

pub returns-clause-end : goal.returns-clause-end
returns-clause-end c = omega (arith, c.loop-bits.invariant.end, ap (λ n. length (bits_set n)) c.loop-bits-test.false, ap length bits_none)
