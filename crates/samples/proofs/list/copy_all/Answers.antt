use Rattle.std.proofs.Common.{arith, pos, map, length, ◌∙◌, sym, ap, subst, ◌<◌}
use Rattle.std.proofs.lemmas.List.{ext_get_or, length-map, get_or-map}
use Rattle.samples.proofs.Lists.{more_mapped}
use Rattle.samples.proofs.list.copy_all.Goals as goal

pub convert-requires : goal.convert-requires
convert-requires g c =
    let low : c.loop-k.k < length (map g.T.Packed.value c.args.numbers.now) = omega (arith, length-map c.args.numbers.now g.T.Packed.value, c.loop-k-test.true) in
    let e = get_or-map g.T.Packed.value c.args.numbers.now c.loop-k.k c.index-numbers-k.result (pos 0) c.loop-k-test.true in
    subst g.U.Packed.Fits (e ∙ ap g.T.Packed.value (sym c.index-numbers-k.is)) (c.requires.fits c.loop-k.k (pos 0) low)

pub loop-k-preserved : goal.loop-k-preserved
loop-k-preserved g c =
    let here : c.loop-k.k < length c.loop-k.into = omega (arith, c.loop-k-test.true, c.loop-k.auto.into, c.requires.count) in
    let same = c.convert.ensures ∙ ap g.T.Packed.value c.index-numbers-k.is ∙ sym (get_or-map g.T.Packed.value c.args.numbers.now c.loop-k.k c.index-numbers-k.result (pos 0) c.loop-k-test.true) in
    more_mapped g.U.Packed.value c.loop-k.into (map g.T.Packed.value c.args.numbers.now) c.loop-k.k c.convert.result here same c.loop-k.invariant

pub returns : goal.returns
returns g c =
    let len = length-map c.args.numbers.now g.T.Packed.value in
    let size = length-map c.loop-k.into g.U.Packed.value in
    ext_get_or (pos 0) (map g.U.Packed.value c.loop-k.into) (map g.T.Packed.value c.args.numbers.now) (size ∙ c.loop-k.auto.into ∙ sym c.requires.count ∙ sym len)
    (λ j low. c.loop-k.invariant j (omega (arith, low, size, c.loop-k.auto.into, c.requires.count, c.loop-k-test.false)))
