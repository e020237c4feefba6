use Rattle.std.proofs.Common.{◌≡◌, ◌+◌, ◌∷◌, ◌++◌, [], sym, ap, ◌∙◌, arith, rules, w64, to_z, of_z, length-append}
use Rattle.std.proofs.lemmas.Int.{to_z-of_z}
use Rattle.std.proofs.lemmas.List.Elements.{All-push}
use Rattle.iso_base.specs.Volume.{IsOfKind}
use Rattle.text_samples.proofs.TextLaws.{begins, ends_here, ends_short, ends_bad, goes_on}
use Rattle.text_samples.proofs.text.gather.Goals as goal

pub loop-place-init : goal.loop-place-init
loop-place-init g c = ([], begins c.args.kind c.args.count c.args.bytes.now, c.in_ok-samples.ensures)

pub returns-in_default-clause-err : goal.returns-in_default-clause-err
returns-in_default-clause-err g c =
    c.loop-place.invariant.1.read
    ∙ ends_short c.args.kind c.loop-place.invariant.0 c.loop-place.place c.args.count c.loop-place.rest.now (omega arith) c.in_default.ensures

pub returns-in_default-sample-clause-err : goal.returns-in_default-sample-clause-err
returns-in_default-sample-clause-err g c =
    c.loop-place.invariant.1.read
    ∙ ends_bad c.args.kind c.loop-place.invariant.0 c.loop-place.place c.args.count c.loop-place.rest.now _ _ (omega arith) c.in-Some.ensures
    (sym c.in_default-sample.ensures.value)

pub loop-place-preserved : goal.loop-place-preserved
loop-place-preserved g c =
    let done = c.loop-place.invariant.0 in
    let e : to_z w64 (of_z w64 c.in-Some-sample.value) ≡ c.in-Some-sample.value = search (rules, to_z-of_z) in (
      done ++ c.in-Some-sample.value ∷ [],
      record {
        read = c.loop-place.invariant.1.read
            ∙ goes_on c.args.kind done c.loop-place.place c.args.count c.loop-place.rest.now _ c.in-Some-sample.value
            (omega arith) c.in-Some.ensures (sym c.in-Some-sample.ensures.value);
        each = All-push (IsOfKind c.args.kind) done c.in-Some-sample.value c.loop-place.invariant.1.each c.in-Some-sample.ensures.range;
        number = length-append done (c.in-Some-sample.value ∷ []) ∙ ap (λ n. n + 1) c.loop-place.invariant.1.number;
      },
      rw e at c.in_ok-add.ensures done c.loop-place.invariant.2,
    )

pub returns-clause-ok : goal.returns-clause-ok
returns-clause-ok g c =
    record {
      samples = c.loop-place.invariant.0;
      read_is = c.loop-place.invariant.1.read
          ∙ ends_here c.args.kind c.loop-place.invariant.0 c.loop-place.place c.args.count c.loop-place.rest.now (omega arith);
      held = c.loop-place.invariant.2;
      each = c.loop-place.invariant.1.each;
      number = omega (arith, c.loop-place.invariant.1.number);
    }
