use Rattle.std.proofs.Common.{◌+◌, ◌^◌, ◌<◌, ◌++◌, ◌∙◌, length, map, take, sym, ap, arith, append-nil}
use Rattle.std.proofs.lemmas.List.{length-map}
use Rattle.row_bits.proofs.SetBits.{bits_none, bits_set, lowest}
use Rattle.sample_rows.proofs.MixedLists.{bits_inside, bits_listed, case_too, lowest_inside, others_inside, place_put}
use Rattle.sample_rows.proofs.lists.list_many.Goals as goal

pub loop-rest-init : goal.loop-rest-init
loop-rest-init c =
    let from = c.args.from in
    let n = c.mixed_at-rest.result in
    let same = bits_listed c.args.bytes.now from n c.requires.many c.mixed_at-rest.ensures.bits c.mixed_at-rest.ensures.bound in
    record {
      places = ap (λ l. take c.args.at c.args.lists.now.places ++ l) same;
      end = omega (arith, length-map (bits_set n) (λ k. from + k), ap length same);
      cases = c.requires.before;
      inside = bits_inside c.args.bytes.now from n c.requires.many c.mixed_at-rest.ensures.bits (length c.args.cases.now) c.requires.rest;
    }

pub overflow_cast-lists : goal.overflow_cast-lists
overflow_cast-lists c =
    let n = c.loop-rest.rest in
    omega (
      arith,
      c.requires.few,
      lowest_inside n (omega (arith, c.loop-rest-test.true)) (omega (arith, c.loop-rest.auto.rest-fits)) c.args.from (length c.args.cases.now) c.loop-rest.invariant.inside,
    )

pub bounds-lists-at : goal.bounds-lists-at
bounds-lists-at c =
    omega (arith, c.loop-rest.invariant.end, c.requires.room, ap length (lowest c.loop-rest.rest (omega (arith, c.loop-rest-test.true)) (omega (arith, c.loop-rest.auto.rest-fits))))

pub bounds-cases-x : goal.bounds-cases-x
bounds-cases-x c =
    let n = c.loop-rest.rest in
    omega (
      arith,
      lowest_inside n (omega (arith, c.loop-rest-test.true)) (omega (arith, c.loop-rest.auto.rest-fits)) c.args.from (length c.args.cases.now) c.loop-rest.invariant.inside,
    )

pub bounds-lists-at-in-loop-rest : goal.bounds-lists-at-in-loop-rest
bounds-lists-at-in-loop-rest c =
    omega (arith, c.loop-rest.invariant.end, c.requires.room, ap length (lowest c.loop-rest.rest (omega (arith, c.loop-rest-test.true)) (omega (arith, c.loop-rest.auto.rest-fits))))

pub loop-rest-preserved : goal.loop-rest-preserved
loop-rest-preserved c =
    let n = c.loop-rest.rest in
    let at = c.loop-rest.at in
    let some : 0 < n = omega (arith, c.loop-rest-test.true) in
    let fits : n < 2 ^ 64 = omega (arith, c.loop-rest.auto.rest-fits) in
    let low : at < 1026 = omega (arith, c.loop-rest.invariant.end, c.requires.room, ap length (lowest n some fits)) in
    record {
      places = place_put n some fits c.args.from at c.loop-rest.lists.places _ (omega (arith, low)) c.loop-rest.invariant.places;
      end = omega (arith, c.loop-rest.invariant.end, ap length (lowest n some fits));
      cases = case_too c.args.cases.now c.loop-rest.lists.places c.loop-rest.lists.cases at _ (omega (arith, low)) (omega (arith, low)) c.loop-rest.invariant.cases;
      inside = λ k few one. c.loop-rest.invariant.inside k few (others_inside n some fits k one);
    }

pub returns-clause-places : goal.returns-clause-places
returns-clause-places c =
    sym (ap (λ n. take c.loop-rest.at c.loop-rest.lists.places ++ map (λ k. c.args.from + k) (bits_set n)) c.loop-rest-test.false
    ∙ (ap (λ l. take c.loop-rest.at c.loop-rest.lists.places ++ map (λ k. c.args.from + k) l) bits_none ∙ append-nil (take c.loop-rest.at c.loop-rest.lists.places)))
    ∙ c.loop-rest.invariant.places

pub returns-clause-end : goal.returns-clause-end
returns-clause-end c = omega (arith, c.loop-rest.invariant.end, ap (λ n. length (bits_set n)) c.loop-rest-test.false, ap length bits_none)
