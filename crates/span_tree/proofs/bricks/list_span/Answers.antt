use Rattle.std.proofs.Common.{◌≡◌, ℕ, ◌<◌, ◌≤◌, ◌∙◌, List, ap, ap₂, arith, length, map, pos, rules, subst, sym, take, to_z, of_z, w64, ℤ}
use Rattle.std.proofs.lemmas.Int.{to_z-of_z}
use Rattle.std.proofs.lemmas.List.{length-map, take_all}
use Rattle.std.proofs.lemmas.List.Sums.{fold_more}
use Rattle.std.specs.List.{fold}
use Rattle.std.specs.Int.{int_max, int_min}
use Rattle.iso_base.specs.Volume.{IsSample}
use Rattle.span_tree.proofs.ListSpans.{greatest_of, item_value, least_of}
use Rattle.span_tree.proofs.bricks.list_span.Goals as goal

pub loop-k-preserved : goal.loop-k-preserved
loop-k-preserved g c =
    let value = g.T.Packed.value in
    let numbers = c.args.numbers.now in
    let k = c.loop-k.k in
    let low : k < length (map value numbers) = omega (arith, c.loop-k-test.true, length-map numbers value) in
    record {
      least = c.lesser-least.ensures
          ∙ (ap₂ int_min c.loop-k.invariant.least (item_value value numbers k c.index-numbers-k.result c.loop-k-test.true c.index-numbers-k.is)
          ∙ sym (fold_more int_min (value c.index-numbers-0.result) (map value numbers) k (pos 0) low));
      greatest = c.greater-greatest.ensures
          ∙ (ap₂ int_max c.loop-k.invariant.greatest (item_value value numbers k c.index-numbers-k-in-loop-k.result c.loop-k-test.true c.index-numbers-k-in-loop-k.is)
          ∙ sym (fold_more int_max (value c.index-numbers-0-2.result) (map value numbers) k (pos 0) low));
    }

-- all samples were looked at
all_seen : {T : Type 0} (value : T → ℤ) (numbers : List T) (k : ℕ) → length numbers ≤ k → take k (map value numbers) ≡ map value numbers
all_seen value numbers k last = take_all k (map value numbers) (omega (arith, last, length-map numbers value))

pub of-requires-clause-least : goal.of-requires-clause-least
of-requires-clause-least g c =
    let value = g.T.Packed.value in
    let numbers = c.args.numbers.now in
    let cast : to_z w64 (of_z w64 c.sample.result) ≡ c.sample.result = search (rules, to_z-of_z) in
    subst IsSample (sym (cast ∙ (c.sample.ensures.value ∙ (c.loop-k.invariant.least
    ∙ ap (fold int_min (value c.index-numbers-0.result)) (all_seen value numbers c.loop-k.k c.loop-k-test.false)))))
    (least_of (value c.index-numbers-0.result) (map value numbers) (omega (arith, c.requires.some, length-map numbers value)) c.requires.range
    (item_value value numbers 0 c.index-numbers-0.result c.requires.some c.index-numbers-0.is)).1

pub of-requires-clause-greatest : goal.of-requires-clause-greatest
of-requires-clause-greatest g c =
    let value = g.T.Packed.value in
    let numbers = c.args.numbers.now in
    let cast : to_z w64 (of_z w64 c.sample-2.result) ≡ c.sample-2.result = search (rules, to_z-of_z) in
    subst IsSample (sym (cast ∙ (c.sample-2.ensures.value ∙ (c.loop-k.invariant.greatest
    ∙ ap (fold int_max (value c.index-numbers-0-2.result)) (all_seen value numbers c.loop-k.k c.loop-k-test.false)))))
    (greatest_of (value c.index-numbers-0-2.result) (map value numbers) (omega (arith, c.requires.some, length-map numbers value)) c.requires.range
    (item_value value numbers 0 c.index-numbers-0-2.result c.requires.some c.index-numbers-0-2.is)).1

pub returns : goal.returns
returns g c =
    let value = g.T.Packed.value in
    let numbers = c.args.numbers.now in
    let low : to_z w64 (of_z w64 c.sample.result) ≡ c.sample.result = search (rules, to_z-of_z) in
    let high : to_z w64 (of_z w64 c.sample-2.result) ≡ c.sample-2.result = search (rules, to_z-of_z) in
    let some : 0 < length (map value numbers) = omega (arith, c.requires.some, length-map numbers value) in
    c.of.ensures ∙ ap₂ (λ (l h : ℤ). record { least = l; greatest = h })
    (low ∙ (c.sample.ensures.value ∙ (c.loop-k.invariant.least
    ∙ (ap (fold int_min (value c.index-numbers-0.result)) (all_seen value numbers c.loop-k.k c.loop-k-test.false)
    ∙ (least_of (value c.index-numbers-0.result) (map value numbers) some c.requires.range
    (item_value value numbers 0 c.index-numbers-0.result c.requires.some c.index-numbers-0.is)).0))))
    (high ∙ (c.sample-2.ensures.value ∙ (c.loop-k.invariant.greatest
    ∙ (ap (fold int_max (value c.index-numbers-0-2.result)) (all_seen value numbers c.loop-k.k c.loop-k-test.false)
    ∙ (greatest_of (value c.index-numbers-0-2.result) (map value numbers) some c.requires.range
    (item_value value numbers 0 c.index-numbers-0-2.result c.requires.some c.index-numbers-0-2.is)).0))))
