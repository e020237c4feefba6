use Rattle.std.proofs.Common.{ℕ, ℤ, arith, cond, int_le, pos, map, length, ◌∙◌, sym, ◌<◌}
use Rattle.std.proofs.lemmas.List.{ext_get_or, length-map, get_or-map}
use Rattle.samples.proofs.signs.fill_by_bound.Goals as goal

pub returns : goal.returns
returns g c = λ least bound.
    let samples = map g.T.Packed.value c.args.numbers.now in
    let from = λ (sample : ℤ). cond {A = ℕ} (int_le least sample) 1 0 in
    let len = length-map c.args.numbers.now g.T.Packed.value in
    let all = length-map samples from in
    ext_get_or 0 c.loop-k.into (map from samples) (c.loop-k.auto.into ∙ sym c.requires ∙ sym len ∙ sym all)
    (λ j low. (let within : j < length samples = omega (arith, low, c.loop-k.auto.into, c.requires, len) in
    c.loop-k.invariant least bound j (omega (arith, within, len, c.loop-k-test.false)) ∙ sym (get_or-map from samples j (pos 0) 0 within)))
