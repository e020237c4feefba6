use Rattle.std.proofs.Common.{◌≡◌, ℕ, ◌+◌, ◌*◌, ◌∷◌, ◌++◌, [], refl, sym, ap, ◌∙◌, arith, rules, w64, to_z, of_z, length-append}
use Rattle.std.proofs.lemmas.Int.{to_z-of_z}
use Rattle.std.proofs.lemmas.List.Elements.{All-push}
use Rattle.std.proofs.lemmas.Result.{err_from_is_err_and}
use Rattle.iso_base.specs.Volume.{IsOfKind, width_of}
use Rattle.text_samples.specs.declared.hex.Wanted.{Wanted}
use Rattle.text_samples.proofs.HexLaws.{begins, ends_bad, ends_here, fails_at, goes_on}
use Rattle.text_samples.proofs.hex.gather.Goals as goal

-- what is wanted, by the width that a call gave
asked : (each width count : ℕ) → each ≡ 2 * width → (needed : ℕ) → needed ≡ 2 * width * count → ◌≡◌ {A = Wanted} (record { needed = needed; each = each }) (record { needed = 2 * width * count; each = 2 * width })
asked each width count e needed f = rw (e, f) refl

pub loop-place-init : goal.loop-place-init
loop-place-init g c = ([], begins c.args.kind c.args.big_endian c.args.count c.args.bytes.now, c.in_ok-samples.ensures)

pub returns-in_err-value-clause-err : goal.returns-in_err-value-clause-err
returns-in_err-value-clause-err g c =
    let width : c.from-each.result ≡ width_of c.args.kind = c.from-each.ensures ∙ c.width.ensures in
    let each : 2 * c.from-each.result ≡ 2 * width_of c.args.kind = ap (λ n. 2 * n) width in
    let p = err_from_is_err_and c.from_residual-in_err-value.result c.from_residual-in_err-value.ensures.1 in
    rw (p.1, p.2) (fails_at c.in_err-value.field-0.0 _ (c.loop-place.invariant.1.read
    ∙ ends_bad c.args.kind c.args.big_endian c.args.count c.loop-place.invariant.0 c.loop-place.place c.loop-place.rest.now (omega arith) _ _
    (asked _ (width_of c.args.kind) c.args.count each _ (ap (λ n. n * c.args.count) each)) (ap (λ n. n * c.loop-place.place) each) c.in_err-value.field-0.0
    (sym c.in_err-value.ensures.value)))

pub loop-place-preserved : goal.loop-place-preserved
loop-place-preserved g c =
    let done = c.loop-place.invariant.0 in
    let e : to_z w64 (of_z w64 c.in_ok-value.value) ≡ c.in_ok-value.value = search (rules, to_z-of_z) in
    let width : c.from-each.result ≡ width_of c.args.kind = c.from-each.ensures ∙ c.width.ensures in
    let each : 2 * c.from-each.result ≡ 2 * width_of c.args.kind = ap (λ n. 2 * n) width in (
      done ++ c.in_ok-value.value ∷ [],
      record {
        read = c.loop-place.invariant.1.read
            ∙ goes_on c.args.kind c.args.big_endian c.args.count done c.loop-place.place c.loop-place.rest.now (omega arith) _ _
            (asked _ (width_of c.args.kind) c.args.count each _ (ap (λ n. n * c.args.count) each)) (ap (λ n. n * c.loop-place.place) each) c.in_ok-value.value _
            (sym c.in_ok-value.ensures.value);
        each = All-push (IsOfKind c.args.kind) done c.in_ok-value.value c.loop-place.invariant.1.each c.in_ok-value.ensures.range;
        number = length-append done (c.in_ok-value.value ∷ []) ∙ ap (λ n. n + 1) c.loop-place.invariant.1.number;
      },
      rw e at c.in_ok-add.ensures done c.loop-place.invariant.2,
    )

pub returns-clause-ok : goal.returns-clause-ok
returns-clause-ok g c =
    record {
      samples = c.loop-place.invariant.0;
      read_is = c.loop-place.invariant.1.read
          ∙ ends_here c.args.kind c.args.big_endian c.args.count c.loop-place.invariant.0 c.loop-place.place c.loop-place.rest.now (omega arith);
      held = c.loop-place.invariant.2;
      each = c.loop-place.invariant.1.each;
      number = omega (arith, c.loop-place.invariant.1.number);
    }
