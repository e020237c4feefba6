use Rattle.std.proofs.Common.{◌≡◌, ◌∙◌, ℤ, map, w64, to_z, of_z, ap, sym, arith}
use Rattle.std.specs.Prelude.{int_le}
use Rattle.std.proofs.lemmas.Int.{to_z-of_z}
use Rattle.std.proofs.lemmas.List.{length-map}
use Rattle.brick_rows.proofs.OneSide.{no_flags, same_flags}
use Rattle.brick_rows.proofs.lanes.flag_lanes.Goals as goal

pub returns-in-Some : goal.returns-in-Some
returns-in-Some g c = λ i low.
    let value = g.T.Packed.value in
    let here = length-map c.args.here.now value in
    let up = length-map c.args.up.now value in
    let far = length-map c.args.far.now value in
    let same : to_z w64 (of_z w64 c.args.least) ≡ c.args.least = to_z-of_z w64 c.args.least c.ranges.least in
    c.flag_from.ensures i low
    ∙ same_flags g.T.Packed.Fits (map value c.args.here.now) (map value c.args.up.now) (map value c.args.far.now)
    (omega (arith, here)) (omega (arith, here, up, c.requires.up)) (omega (arith, here, far, c.requires.far))
    c.all_fit.ensures c.all_fit-2.ensures c.all_fit-3.ensures c.args.least (value c.in-Some.bound)
    (λ v fits. c.in-Some.ensures v fits ∙ ap (λ (l : ℤ). int_le l v) same) i low

pub returns-in-None : goal.returns-in-None
returns-in-None g c = λ i low.
    let value = g.T.Packed.value in
    let here = length-map c.args.here.now value in
    let up = length-map c.args.up.now value in
    let far = length-map c.args.far.now value in
    let same : to_z w64 (of_z w64 c.args.least) ≡ c.args.least = to_z-of_z w64 c.args.least c.ranges.least in
    c.fill_zeros.ensures i (omega arith) (omega (arith, c.fill_zeros.auto.flags, c.requires.out, low))
    ∙ sym (no_flags g.T.Packed.Fits (map value c.args.here.now) (map value c.args.up.now) (map value c.args.far.now)
    (omega (arith, here)) (omega (arith, here, up, c.requires.up)) (omega (arith, here, far, c.requires.far))
    c.all_fit.ensures c.all_fit-2.ensures c.all_fit-3.ensures c.args.least
    (λ v fits. sym (ap (λ (l : ℤ). int_le l v) same) ∙ c.in-None.ensures v fits) i low)
