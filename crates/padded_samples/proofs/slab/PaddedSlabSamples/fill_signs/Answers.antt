use Rattle.std.proofs.Common.{arith, ◌≡◌, ◌∙◌, ◌+◌, ◌*◌, ◌≤◌, ◌/◌, ◌%◌, ℕ, ap, length, subst, sym}
use Rattle.std.proofs.Math.Nat.{div-le_self, mul-le-mul_left}
use Rattle.iso_defs.specs.Grid.{Grid, point_count}
use Rattle.padded_samples.specs.PaddedSlabs.{SlabInPad, in_both, layers, ringed}
use Rattle.padded_samples.specs.Pads.{padded_at}
use Rattle.samples.specs.Signs.{sign_of}
use Rattle.padded_samples.proofs.PadRows.{AreRows, whole_rows}
use Rattle.padded_samples.proofs.SlabRows.{at_most_one, row_lifted, signs_are, slab_length}
use Rattle.padded_samples.proofs.slab.PaddedSlabSamples.fill_signs.Goals as goal
use Rattle.padded_samples.proofs.slab.PaddedSlabSamples.fill_signs.Goals.{else-start-width-eq0-via-then-start-width-eq0+else-into-width-eq0, else-start-width-eq0-via-else-start-width-eq0}

wide_of : {w : ℕ} {stored : Grid} {inner : SlabInPad} (p : SlabInPad) → w ≡ stored.nx → stored ≡ ringed inner.ends inner.grid → inner ≡ p → w ≡ p.grid.nx + 2
wide_of p value grid view = value ∙ ap (λ (h : Grid). h.nx) grid ∙ ap (λ (q : SlabInPad). q.grid.nx + 2) view

high_of : {h : ℕ} {stored : Grid} {inner : SlabInPad} (p : SlabInPad) → h ≡ stored.ny → stored ≡ ringed inner.ends inner.grid → inner ≡ p → h ≡ p.grid.ny + 2
high_of p value grid view = value ∙ ap (λ (h : Grid). h.ny) grid ∙ ap (λ (q : SlabInPad). q.grid.ny + 2) view

abbrev slices_of : SlabInPad → ℕ
slices_of p = p.grid.nz + (layers p.ends.below + layers p.ends.above)

-- so many rows further up they are rows of the grid with a layer at both ends
lifted_rows : (p : SlabInPad) (lift height first rows : ℕ) → lift + layers p.ends.below ≡ 1 → height ≡ p.grid.ny + 2 → first + rows ≤ (p.grid.ny + 2) * slices_of p
    → first + height * lift + rows ≤ (p.grid.ny + 2) * (p.grid.nz + 2)
lifted_rows p lift height first rows lifts high within =
    let most : (p.grid.ny + 2) * (slices_of p + lift) ≤ (p.grid.ny + 2) * (p.grid.nz + 2) = mul-le-mul_left (p.grid.ny + 2) (omega (arith, lifts, at_most_one p.ends.above)) in
    let split : (p.grid.ny + 2) * (slices_of p + lift) ≡ (p.grid.ny + 2) * slices_of p + (p.grid.ny + 2) * lift = spread (p.grid.ny + 2) (slices_of p) lift in
    let same : height * lift ≡ (p.grid.ny + 2) * lift = ap (λ (k : ℕ). k * lift) high in
    sums first rows ((p.grid.ny + 2) * slices_of p) (height * lift) ((p.grid.ny + 2) * (p.grid.nz + 2)) within (omega (arith, most, split, same))
  where
    spread : (a b c : ℕ) → a * (b + c) ≡ a * b + a * c
    spread a b c = omega arith

    sums : (a b c d e : ℕ) → a + b ≤ c → c + d ≤ e → a + d + b ≤ e
    sums a b c d e l m = omega (arith, l, m)

-- the rows of the part, of so wide a grid
rows_of : (p : SlabInPad) (w start n : ℕ) → w ≡ p.grid.nx + 2 → start + n ≤ point_count (ringed p.ends p.grid) → start % w ≡ 0 → n % w ≡ 0
    → AreRows w ((p.grid.ny + 2) * slices_of p) start n
rows_of p w start n wide room before whole =
    let all : point_count (ringed p.ends p.grid) ≡ w * ((p.grid.ny + 2) * slices_of p)
    = product (p.grid.nx + 2) (p.grid.ny + 2) (slices_of p) ∙ ap (λ (k : ℕ). k * ((p.grid.ny + 2) * slices_of p)) (sym wide) in
    whole_rows w ((p.grid.ny + 2) * slices_of p) start n (omega (arith, wide)) (omega (arith, room, all)) before whole
  where
    product : (a b c : ℕ) → a * b * c ≡ a * (b * c)
    product a b c = omega arith

pub overflow_cast-rows-2 : goal.overflow_cast-rows-2
overflow_cast-rows-2 g c =
    let p = c.args.self.now in
    let n = length c.args.into.now in
    let room = subst (λ (m : ℕ). c.args.start + n ≤ m) (slab_length p) c.requires in
    let few : point_count (ringed p.ends p.grid) ≤ 160000000
    = subst (λ (h : Grid). point_count h ≤ 160000000) (c.self.invariant.1 ∙ ap (λ (q : SlabInPad). ringed q.ends q.grid) c.self.view_is) c.nx-width.ensures.grid.count in
    let less : n / c.nx-width.result ≤ n = div-le_self n c.nx-width.result in
    omega (arith, less, room, few)

pub fill_rows-requires-clause-rows : goal.fill_rows-requires-clause-rows
fill_rows-requires-clause-rows g c =
    let p = c.args.self.now in
    let n = length c.args.into.now in
    let wide = wide_of p c.nx-width.ensures.value c.self.invariant.1 c.self.view_is in
    let room = subst (λ (m : ℕ). c.args.start + n ≤ m) (slab_length p) c.requires in
    let rows = rows_of p c.nx-width.result c.args.start n wide room c.if-start-width-eq0.true c.if-into-width-eq0.true in
    let high = high_of p c.ny.ensures.value c.self.invariant.1 c.self.view_is in
    lifted_rows p c.lift.result c.ny.result (c.args.start / c.nx-width.result) (n / c.nx-width.result) c.lift.ensures high rows.within

pub fill_rows-requires-clause-room : goal.fill_rows-requires-clause-room
fill_rows-requires-clause-room g c =
    let p = c.args.self.now in
    let n = length c.args.into.now in
    let wide = wide_of p c.nx-width.ensures.value c.self.invariant.1 c.self.view_is in
    let room = subst (λ (m : ℕ). c.args.start + n ≤ m) (slab_length p) c.requires in
    let rows = rows_of p c.nx-width.result c.args.start n wide room c.if-start-width-eq0.true c.if-into-width-eq0.true in
    sym rows.count ∙ ap (λ (k : ℕ). k * (n / c.nx-width.result)) wide

pub fill_each-requires : goal.fill_each-requires
fill_each-requires g c = subst (λ (n : ℕ). c.args.start + length c.args.into.now ≤ n) (slab_length c.args.self.now) c.requires

pub returns-then-into-width-eq0 : goal.returns-then-into-width-eq0
returns-then-into-width-eq0 g c =
    let p = c.args.self.now in
    let n = length c.args.into.now in
    let wide = wide_of p c.nx-width.ensures.value c.self.invariant.1 c.self.view_is in
    let room = subst (λ (m : ℕ). c.args.start + n ≤ m) (slab_length p) c.requires in
    let rows = rows_of p c.nx-width.result c.args.start n wide room c.if-start-width-eq0.true c.if-into-width-eq0.true in
    let first : (p.grid.nx + 2) * (c.args.start / c.nx-width.result) ≡ c.args.start
    = ap (λ (k : ℕ). k * (c.args.start / c.nx-width.result)) (sym wide) ∙ rows.first in
    let high = high_of p c.ny.ensures.value c.self.invariant.1 c.self.view_is in
    signs_are (sign_of c.args.level) p c.args.start n c.fill_rows.new.into room c.fill_rows.auto.into
    (λ i low. c.fill_rows.ensures i low
    ∙ ap (λ (k : ℕ). sign_of c.args.level (padded_at (in_both p) ((p.grid.nx + 2) * (c.args.start / c.nx-width.result + k * c.lift.result) + i))) high
    ∙ ap (sign_of c.args.level) (row_lifted p c.lift.result c.lift.ensures c.args.start (c.args.start / c.nx-width.result) i first))

pub returns-else-start-width-eq0 : goal.returns-else-start-width-eq0
returns-else-start-width-eq0 g c =
    let p = c.args.self.now in
    let n = length c.args.into.now in
    let room = subst (λ (m : ℕ). c.args.start + n ≤ m) (slab_length p) c.requires in
    signs_are (sign_of c.args.level) p c.args.start n c.fill_each.new.into room c.fill_each.auto.into c.fill_each.ensures
