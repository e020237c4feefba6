use Rattle.std.proofs.Common.{length, arith, rules, inl, inr, ◌≡◌, ◌∙◌, refl, ◌<◌, to_z, of_z, w64}
use Rattle.std.proofs.lemmas.Int.{to_z-of_z}
use Rattle.padded_samples.proofs.Parts.{more_numbers, set_others}
use Rattle.padded_samples.proofs.rows.fill_pad.Goals as goal

pub loop-k-init : goal.loop-k-init
loop-k-init g c = ((λ j low high. absurd (omega (arith, low, high))), (λ j where_is. refl))

pub loop-k-preserved : goal.loop-k-preserved
loop-k-preserved g c =
    let pad = to_z w64 (of_z w64 c.args.pad) in
    let here : c.loop-k.k < length c.loop-k.into = omega (arith, c.loop-k-test.true, c.loop-k.auto.into, c.requires.room) in (
      more_numbers g.T.Packed.value c.loop-k.into (λ j. pad) c.args.from c.loop-k.k c.of.result here c.of.ensures c.loop-k.invariant.0,
      (λ j where_is. set_others g.T.Packed.value c.loop-k.into c.loop-k.k j c.of.result (λ e. elim where_is [
        | inl low ↦ omega (arith, low, e, c.loop-k.auto.k)
        | inr high ↦ omega (arith, high, e, c.loop-k-test.true)
      ]) ∙ c.loop-k.invariant.1 j where_is),
    )

pub returns-clause-inside : goal.returns-clause-inside
returns-clause-inside g c = λ i low high.
    let back : to_z w64 (of_z w64 c.args.pad) ≡ c.args.pad = search (rules, to_z-of_z) in
    c.loop-k.invariant.0 i low (omega (arith, high, c.loop-k-test.false)) ∙ back

pub returns-clause-others : goal.returns-clause-others
returns-clause-others g c = λ i where_is. c.loop-k.invariant.1 i where_is
