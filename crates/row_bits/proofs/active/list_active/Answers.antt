use Rattle.std.proofs.Common.{◌≡◌, ◌+◌, ◌*◌, length, min, sym, ◌∙◌, ap, arith}
use Rattle.row_bits.specs.Active.{active_among}
use Rattle.row_bits.proofs.ActiveLists.{active_few, active_none, active_on, length_on}
use Rattle.row_bits.proofs.active.list_active.Goals as goal

pub loop-group-init : goal.loop-group-init
loop-group-init c =
    let none : min (32 * 0) c.args.count ≡ 0 = omega arith in
    record { put = sym (ap (active_among c.args.cases.now 0) none ∙ active_none c.args.cases.now 0); end = sym (ap length (ap (active_among c.args.cases.now 0) none ∙ active_none c.args.cases.now 0)) }

pub loop-group-preserved : goal.loop-group-preserved
loop-group-preserved c =
    let n = c.loop-group.group in
    let low = c.loop-group-test.true in
    record {
      put = active_on c.args.cases.now _ _ (min (32 * n) c.args.count) (32 * n) c.min-some.result (min (32 * (n + 1)) c.args.count) (omega (arith, low)) (omega (arith, low, c.min-some.ensures)) c.loop-group.invariant.put c.fill_group-at.ensures.put;
      end = length_on c.args.cases.now (min (32 * n) c.args.count) (32 * n) c.min-some.result (min (32 * (n + 1)) c.args.count) _ _ (omega (arith, low)) (omega (arith, low, c.min-some.ensures)) c.loop-group.invariant.end c.fill_group-at.ensures.end;
    }

pub returns-clause-put : goal.returns-clause-put
returns-clause-put c =
    let all : min (32 * c.loop-group.group) c.args.count ≡ c.args.count = omega (arith, c.loop-group-test.false) in
    c.loop-group.invariant.put ∙ ap (active_among c.args.cases.now 0) all

pub fill_group-at-requires-clause-at : goal.fill_group-at-requires-clause-at
fill_group-at-requires-clause-at c = omega (arith, c.loop-group.invariant.end, active_few c.args.cases.now 0 (min (32 * c.loop-group.group) c.args.count))

pub returns-clause-count : goal.returns-clause-count
returns-clause-count c =
    let all : min (32 * c.loop-group.group) c.args.count ≡ c.args.count = omega (arith, c.loop-group-test.false) in
    c.loop-group.invariant.end ∙ ap (λ n. length (active_among c.args.cases.now 0 n)) all
