use Rattle.std.proofs.Common.{◌≡◌, ℕ, ◌+◌, ◌-◌, ◌*◌, ◌/◌, ◌%◌, ◌<◌, ◌≤◌, ◌∙◌, List, length, take, drop, ℤ, ap, sym, refl, arith, inl, inr, length-drop}
use Rattle.std.proofs.lemmas.Bool.{cases_lt}
use Rattle.std.proofs.lemmas.List.{length-take-le}
use Rattle.iso_base.specs.Volume.{sample}
use Rattle.brick_store.proofs.Standing.{few_bricks}
use Rattle.brick_store.proofs.Taking.{by_eights, by_eights_left, copied, left_count, place_on_low, row_on}
use Rattle.brick_store.proofs.row_samples.copy_rest.Goals as goal
use Rattle.brick_store.proofs.row_samples.copy_rest.Goals.{After-first_copy_place-place}

-- the place of each point that follows
low : (g : _) (c : After-first_copy_place-place g) (d : ℕ) → d < length c.args.into.now
    → c.first_copy_place-place.result + (729 * (d / 8) + d % 8) < length (g.C.PackedList.list c.args.copies.now)
low g c d h =
    place_on_low c.args.sizes.now (g.C.PackedList.list c.args.copies.now) c.args.p (length c.args.into.now) c.first_copy_place-place.result c.nx.ensures.grid c.requires.copies
    c.requires.point c.requires.second c.requires.fits c.first_copy_place-place.ensures.value d h

pub copy_eights-requires-clause-few : goal.copy_eights-requires-clause-few
copy_eights-requires-clause-few g c =
    omega (arith, c.first_copy_place-place.ensures.bound, few_bricks c.args.sizes.now c.nx.ensures.grid, c.requires.fits, c.nx.ensures.grid.x.most)

pub copy_eights-requires-clause-there : goal.copy_eights-requires-clause-there
copy_eights-requires-clause-there g c =
    by_last (length c.args.into.now) c.first_copy_place-place.result (length (g.C.PackedList.list c.args.copies.now)) (omega (arith, c.first_copy_place-place.ensures.bound, c.requires.copies.count))
    (low g (goal.at.copy_eights-requires-clause-there g c).After-first_copy_place-place)
  where
    by_last : (n start all : ℕ) → start < all → ((d : ℕ) → d < n → start + (729 * (d / 8) + d % 8) < all) → start + 729 * (n / 8) ≤ all + 721
    by_last n start all first each = elim (cases_lt n 8) [
      | inl l ↦ omega (arith, l, first)
      | inr h ↦ omega (arith, h, each (8 * (n / 8) - 1) (omega (arith, h)))
    ]

pub returns-then-done-into : goal.returns-then-done-into
returns-then-done-into g c =
    let copies = g.C.PackedList.list c.args.copies.now in
    let into : List ℤ = c.args.into.now in
    let mid : List ℤ = c.copy_eights.new.into in
    let rest : List ℤ = c.copy_to.new.into in
    let n : ℕ = length into / 8 in
    let start : ℕ = c.first_copy_place-place.result in
    let left : length mid - 8 * n ≡ length into - 8 * n = ap (λ m. m - 8 * n) c.copy_eights.ensures.count in
    let part : length (take (length mid - 8 * n) (drop (8 * n) mid)) ≡ length mid - 8 * n
    = length-take-le (length mid - 8 * n) (drop (8 * n) mid) (omega (arith, length-drop (8 * n) mid)) in
    let size : length rest ≡ length into - 8 * n = c.copy_to.auto.into ∙ (part ∙ left) in
    let follow : (i : ℕ) → i < length rest → sample rest i ≡ sample copies (start + 729 * n + i)
    = copied copies rest (start + 729 * n) _ (length rest) c.copy_to.auto.into c.copy_to.ensures in
    row_on c.args.sizes.now copies c.args.p (length into) start c.nx.ensures.grid c.requires.copies c.requires.point
    c.requires.second c.requires.fits c.first_copy_place-place.ensures.value _
    (left_count copies into mid start n refl c.copy_eights.ensures.count c.copy_eights.ensures.taken rest _ size (left ∙ sym size) follow)
    (by_eights_left copies into mid start n refl c.copy_eights.ensures.count c.copy_eights.ensures.taken rest _ size (left ∙ sym size) follow)

pub returns-else-done-into : goal.returns-else-done-into
returns-else-done-into g c =
    let copies = g.C.PackedList.list c.args.copies.now in
    let n : ℕ = length c.args.into.now / 8 in
    row_on c.args.sizes.now copies c.args.p (length c.args.into.now) c.first_copy_place-place.result c.nx.ensures.grid c.requires.copies c.requires.point
    c.requires.second c.requires.fits c.first_copy_place-place.ensures.value c.copy_eights.new.into c.copy_eights.ensures.count
    (λ d h. by_eights copies c.args.into.now c.copy_eights.new.into c.first_copy_place-place.result n refl c.copy_eights.ensures.count c.copy_eights.ensures.taken d
    (omega (arith, h, c.if-done-into.false, c.copy_eights.ensures.count)))
