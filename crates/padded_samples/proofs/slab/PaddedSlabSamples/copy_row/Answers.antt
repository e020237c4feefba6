use Rattle.std.proofs.Common.{arith, ◌≡◌, ◌∙◌, ◌+◌, ◌<◌, ◌≤◌, ℕ, ℤ, pos, List, length, map, take, drop, sym, ap, subst, get_or}
use Rattle.std.proofs.lemmas.List.{ext_get_or, length-map}
use Rattle.iso_defs.specs.Grid.{Grid, point_count}
use Rattle.iso_base.specs.Points.{index_of}
use Rattle.samples.proofs.Rows.{row_in}
use Rattle.padded_samples.specs.PaddedSlabs.{SlabInPad, ringed, slab_at, slab_list}
use Rattle.padded_samples.proofs.SlabRows.{along_lifted, run_at, run_length, slab_length}
use Rattle.padded_samples.proofs.slab.PaddedSlabSamples.copy_row.Goals as goal

-- numbers that are, each at its place, the samples from a place on
are_run : {X : Type 0} (f : X → ℤ) (numbers : List X) (p : SlabInPad) (start n : ℕ) → start + n ≤ point_count (ringed p.ends p.grid) → length numbers ≡ n
    → ((i : ℕ) → i < n → get_or (map f numbers) i (pos 0) ≡ slab_at p (start + i)) → map f numbers ≡ take n (drop start (slab_list p))
are_run f numbers p start n room len each =
    let size = length-map numbers f in
    ext_get_or (pos 0) (map f numbers) (take n (drop start (slab_list p))) (size ∙ len ∙ sym (run_length p start n room))
    (λ i low. (let within : i < n = omega (arith, low, size, len) in
    each i within ∙ sym (run_at p start n i within room)))

pub copy_part-requires-clause-fits : goal.copy_part-requires-clause-fits
copy_part-requires-clause-fits g c = λ i low.
    let p = c.args.self.now in
    let n = length c.args.into.now in
    let start = index_of c.args.sizes.now c.args.point in
    let same : c.args.sizes.now ≡ ringed p.ends p.grid = c.are_same.ensures c.if-are_same.true ∙ c.self.invariant.1 ∙ ap (λ (r : SlabInPad). ringed r.ends r.grid) c.self.view_is in
    let room : start + n ≤ point_count (ringed p.ends p.grid) = omega (arith, row_in c.args.sizes.now c.args.point c.requires.point n c.requires.row, c.requires.count, slab_length p) in
    subst g.T.Packed.Fits (run_at p start n i low room ∙ ap (λ (h : Grid). slab_at p (index_of h c.args.point + i)) same
    ∙ sym (along_lifted p c.lift.result c.lift.ensures c.args.point.x c.args.point.y c.args.point.z i))
    (c.requires.fits i (pos 0) (omega (arith, low, run_length p start n room)))

pub copy_each-requires-clause-room : goal.copy_each-requires-clause-room
copy_each-requires-clause-room g c =
    let n = length c.args.into.now in
    omega (arith, row_in c.args.sizes.now c.args.point c.requires.point n c.requires.row, c.index.ensures.value, c.requires.count, slab_length c.args.self.now)

pub copy_each-requires-clause-fits : goal.copy_each-requires-clause-fits
copy_each-requires-clause-fits g c = λ i low.
    let p = c.args.self.now in
    let n = length c.args.into.now in
    let start = index_of c.args.sizes.now c.args.point in
    let room : start + n ≤ point_count (ringed p.ends p.grid) = omega (arith, row_in c.args.sizes.now c.args.point c.requires.point n c.requires.row, c.requires.count, slab_length p) in
    subst g.T.Packed.Fits (run_at p start n i low room ∙ ap (λ (k : ℕ). slab_at p (k + i)) (sym c.index.ensures.value))
    (c.requires.fits i (pos 0) (omega (arith, low, run_length p start n room)))

pub returns-then-are_same : goal.returns-then-are_same
returns-then-are_same g c =
    let p = c.args.self.now in
    let n = length c.args.into.now in
    let start = index_of c.args.sizes.now c.args.point in
    let same : c.args.sizes.now ≡ ringed p.ends p.grid = c.are_same.ensures c.if-are_same.true ∙ c.self.invariant.1 ∙ ap (λ (r : SlabInPad). ringed r.ends r.grid) c.self.view_is in
    let room : start + n ≤ point_count (ringed p.ends p.grid) = omega (arith, row_in c.args.sizes.now c.args.point c.requires.point n c.requires.row, c.requires.count, slab_length p) in
    are_run g.T.Packed.value c.copy_part.new.into p start n room c.copy_part.auto.into
    (λ i low. c.copy_part.ensures i low ∙ along_lifted p c.lift.result c.lift.ensures c.args.point.x c.args.point.y c.args.point.z i ∙ ap (λ (h : Grid). slab_at p (index_of h c.args.point + i)) (sym same))

pub returns-else-are_same : goal.returns-else-are_same
returns-else-are_same g c =
    let p = c.args.self.now in
    let n = length c.args.into.now in
    let start = index_of c.args.sizes.now c.args.point in
    let room : start + n ≤ point_count (ringed p.ends p.grid) = omega (arith, row_in c.args.sizes.now c.args.point c.requires.point n c.requires.row, c.requires.count, slab_length p) in
    are_run g.T.Packed.value c.copy_each.new.into p start n room c.copy_each.auto.into
    (λ i low. c.copy_each.ensures i low ∙ ap (λ (k : ℕ). slab_at p (k + i)) c.index.ensures.value)
