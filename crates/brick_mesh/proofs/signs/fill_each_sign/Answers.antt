use Rattle.std.proofs.Common.{◌≡◌, ◌∙◌, ◌<◌, ◌≢◌, ap, arith, below_more, cond, get_or, get_or-set_other, get_or-set_same, length, map, pos, set, sym}
use Rattle.std.proofs.lemmas.List.{ext_get_or, get_or-map, length-map}
use Rattle.iso_base.specs.Volume.{sample}
use Rattle.samples.specs.Signs.{sign_of}
use Rattle.brick_mesh.proofs.signs.fill_each_sign.Goals as goal

pub loop-k-preserved : goal.loop-k-preserved
loop-k-preserved g c = λ level tells.
    below_more (λ k. get_or (set c.loop-k.into c.loop-k.k c.sign.result) k 0 ≡ sign_of level (sample (map g.T.Packed.value c.args.copies.now) k)) c.loop-k.k
    (λ k h. let other : k ≢ c.loop-k.k = omega arith in
    get_or-set_other c.loop-k.into c.loop-k.k k c.sign.result 0 other ∙ c.loop-k.invariant level tells k h)
    (get_or-set_same c.loop-k.into c.loop-k.k c.sign.result 0 (omega (arith, c.loop-k.auto.into, c.requires)) ∙ c.sign.ensures tells.least tells.is ∙ ap (λ above. cond above 1 0) (tells.above _)
    ∙ ap (sign_of level) (ap g.T.Packed.value c.index-copies-k.is
    ∙ sym (get_or-map g.T.Packed.value c.args.copies.now c.loop-k.k c.index-copies-k.result (pos 0) (omega arith))))

pub returns : goal.returns
returns g c = λ level tells.
    (let samples = map g.T.Packed.value c.args.copies.now in
    let len : length samples ≡ length c.args.copies.now = length-map c.args.copies.now g.T.Packed.value in
    let all : length (map (sign_of level) samples) ≡ length samples = length-map samples (sign_of level) in
    ext_get_or 0 c.loop-k.into (map (sign_of level) samples) (omega (arith, c.loop-k.auto.into, c.requires, len, all))
    (λ k low. (let within : k < length samples = omega (arith, low, c.loop-k.auto.into, c.requires, len) in
    c.loop-k.invariant level tells k (omega (arith, within, len, c.loop-k-test.false)) ∙ sym (get_or-map (sign_of level) samples k (pos 0) 0 within))))
