use Rattle.std.proofs.Common.{◌≡◌, ℕ, ◌+◌, ◌*◌, ◌<◌, ◌∙◌, length, ℤ, refl, ap, arith, min}
use Rattle.std.proofs.lemmas.List.{length-take-le}
use Rattle.iso_base.specs.Points.{index_of}
use Rattle.iso_base.specs.Volume.{sample}
use Rattle.brick_store.specs.Copies.{row_rest, samples_of}
use Rattle.brick_store.proofs.Taking.{all_taken, both_taken, copied, first_are, next_second}
use Rattle.brick_store.proofs.row_samples.copy_row.Goals as goal
use Rattle.brick_store.proofs.row_samples.copy_row.Goals.{After-min-begun, After-copy_to}

-- so many as the first brick has
begun : (g : _) (c : After-min-begun g) → c.min-begun.result ≡ min (row_rest c.args.sizes.now c.args.p) (length c.args.into.now)
begun g c = omega (arith, c.min-begun.ensures, c.first_brick_along.ensures, c.requires.fits)

-- the samples of the row
row : (g : _) → After-copy_to g → ℕ → ℤ
row g c d = sample (samples_of c.args.sizes.now (g.C.PackedList.list c.args.copies.now)) (index_of c.args.sizes.now c.args.p + d)

-- as many as were asked for
size : (g : _) (c : After-copy_to g) → length c.copy_to.new.into ≡ c.min-begun.result
size g c = c.copy_to.auto.into ∙ length-take-le c.min-begun.result c.args.into.now (omega (arith, c.min-begun.ensures))

-- those of the first brick
each : (g : _) (c : After-copy_to g) (d : ℕ) → d < c.min-begun.result → sample c.copy_to.new.into d ≡ row g c d
unfolding row
each g c d low =
    let copies = g.C.PackedList.list c.args.copies.now in
    copied copies c.copy_to.new.into c.first_copy_place.result _ (length c.copy_to.new.into) c.copy_to.auto.into c.copy_to.ensures d (omega (arith, low, size g c))
    ∙ first_are c.args.sizes.now copies c.args.p c.first_copy_place.result c.min-begun.result c.nx.ensures.grid c.requires.copies c.requires.point c.first_copy_place.ensures.value
    (omega (arith, c.min-begun.ensures, c.first_brick_along.ensures, c.requires.fits)) d low

pub copy_rest-requires-clause-second : goal.copy_rest-requires-clause-second
copy_rest-requires-clause-second g c =
    next_second c.args.sizes.now c.args.p c.min-begun.result (length c.args.into.now) _ c.requires.point (begun g (goal.at.copy_rest-requires-clause-second g c).After-min-begun)
    (omega (arith, c.if-begun-into.true)) c.requires.fits refl

pub returns-then-begun-into : goal.returns-then-begun-into
unfolding row
returns-then-begun-into g c =
    let at = (goal.at.returns-then-begun-into g c).After-copy_to in
    let p = c.args.p in
    let grid = c.args.sizes.now in
    let few : ℕ = c.min-begun.result in
    both_taken (row g at) c.args.into.now c.copy_to.new.into (length c.args.into.now) few refl (size g at) (omega (arith, c.min-begun.ensures)) (each g at)
    (λ d. sample (samples_of grid (g.C.PackedList.list c.args.copies.now)) (index_of grid (record p { x = p.x + few }) + d))
    c.copy_rest.new.into c.copy_rest.ensures
    (λ d. ap (sample (samples_of grid (g.C.PackedList.list c.args.copies.now))) (moved p.x few d (grid.nx * (p.y + grid.ny * p.z))))
  where
    moved : (x b d r : ℕ) → x + b + r + d ≡ x + r + (b + d)
    moved x b d r = omega arith

pub returns-else-begun-into : goal.returns-else-begun-into
unfolding row
returns-else-begun-into g c =
    let at = (goal.at.returns-else-begun-into g c).After-copy_to in
    all_taken (row g at) c.args.into.now c.copy_to.new.into (length c.args.into.now) c.min-begun.result refl (size g at) (omega (arith, c.min-begun.ensures)) (each g at)
    (omega (arith, c.if-begun-into.false, c.min-begun.ensures))
