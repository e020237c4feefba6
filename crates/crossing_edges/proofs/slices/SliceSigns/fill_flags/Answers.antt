use Rattle.std.proofs.Common.{◌≡◌, ℕ, ◌+◌, ◌*◌, ◌/◌, ◌%◌, ◌<◌, ◌∙◌, ap, arith, subst, sym}
use Rattle.std.proofs.Math.Nat.{mod-add-div, mod-lt}
use Rattle.iso_defs.specs.Grid.{Grid}
use Rattle.crossing_edges.specs.Leveled.{Leveled}
use Rattle.crossing_edges.specs.Slices.{AreAtRow, AreSlices}
use Rattle.crossing_edges.specs.declared.slices.SliceSigns.{SliceSigns}
use Rattle.crossing_edges.proofs.SliceRows.{same_slice, slice_low}
use Rattle.crossing_edges.proofs.slices.SliceSigns.fill_flags.Goals as goal

-- a row of points by its coordinates
module _ (v : Leveled) (row n : ℕ) (same : n ≡ v.grid.ny) (some : 0 < n) (low : row < v.grid.ny * v.grid.nz) where
  abbrev y : ℕ
  y = row % n

  abbrev z : ℕ
  z = row / n

  whole : row ≡ y + n * z
  whole = sym (mod-add-div row n)

  y_low : y < v.grid.ny
  y_low = omega (arith, mod-lt row some, same)

  here : row ≡ y + v.grid.ny * z
  here = whole ∙ ap (λ m. y + m * z) same

  z_low : z < v.grid.nz
  z_low = slice_low v.grid y z row here low

  slices_here : (s : SliceSigns) → AreAtRow v row s → AreSlices v z s
  slices_here s at = at.slices y z y_low z_low here

  -- behind the last row of a slice
  turned : (s : SliceSigns) → y + 1 ≡ n → (z + 1 < v.grid.nz → AreSlices v (z + 1) s) → (y' z' : ℕ) → y' < v.grid.ny → z' < v.grid.nz → row + 1 ≡ y' + v.grid.ny * z' → AreSlices v z' s
  turned s last next y' z' hy hz is =
      let begin : 0 + v.grid.ny * (z + 1) ≡ y' + v.grid.ny * z' = omega (arith, here, last, same, is) in
      let at : z + 1 ≡ z' = same_slice v.grid.ny 0 (z + 1) y' z' (omega (arith, y_low)) hy begin in
      subst (λ k. AreSlices v k s) at (next (omega (arith, at, hz)))

  -- behind another one
  stays : (s : SliceSigns) → y + 1 < n → AreSlices v z s → (y' z' : ℕ) → y' < v.grid.ny → z' < v.grid.nz → row + 1 ≡ y' + v.grid.ny * z' → AreSlices v z' s
  stays s more are y' z' hy hz is =
      let begin : y + 1 + v.grid.ny * z ≡ y' + v.grid.ny * z' = omega (arith, here, is) in
      subst (λ k. AreSlices v k s) (same_slice v.grid.ny (y + 1) z y' z' (omega (arith, more, same)) hy begin) are

tall : (s g : Grid) (n : ℕ) → n ≡ s.ny → s ≡ g → n ≡ g.ny
tall s g n is same = is ∙ ap (λ (g : Grid). g.ny) same

pub fill_row-requires-clause-signs : goal.fill_row-requires-clause-signs
fill_row-requires-clause-signs g c =
    let v = c.args.rows.now in
    let ny : c.ny-ny.result ≡ v.grid.ny = tall c.sizes.result v.grid c.ny-ny.result c.ny-ny.ensures.value c.sizes.ensures.value in
    slices_here v c.args.row c.ny-ny.result ny (omega (arith, ny, c.sizes.ensures.leveled.grid.y.least)) c.requires.row c.args.self.now c.requires.signs

pub turn-requires-clause-signs : goal.turn-requires-clause-signs
turn-requires-clause-signs g c =
    let v = c.args.rows.now in
    let ny : c.ny-ny.result ≡ v.grid.ny = tall c.sizes.result v.grid c.ny-ny.result c.ny-ny.ensures.value c.sizes.ensures.value in
    slices_here v c.args.row c.ny-ny.result ny (omega (arith, ny, c.sizes.ensures.leveled.grid.y.least)) c.requires.row c.args.self.now c.requires.signs

pub returns-then-y-ny-clause-signs : goal.returns-then-y-ny-clause-signs
returns-then-y-ny-clause-signs g c =
    let v = c.args.rows.now in
    let ny : c.ny-ny.result ≡ v.grid.ny = tall c.sizes.result v.grid c.ny-ny.result c.ny-ny.ensures.value c.sizes.ensures.value in
    record {
      room = c.turn.ensures.room;
      slices = turned v c.args.row c.ny-ny.result ny (omega (arith, ny, c.sizes.ensures.leveled.grid.y.least)) c.requires.row c.turn.new.self c.if-y-ny.true c.turn.ensures.signs;
    }

pub returns-else-y-ny-clause-signs : goal.returns-else-y-ny-clause-signs
returns-else-y-ny-clause-signs g c =
    let v = c.args.rows.now in
    let ny : c.ny-ny.result ≡ v.grid.ny = tall c.sizes.result v.grid c.ny-ny.result c.ny-ny.ensures.value c.sizes.ensures.value in
    let some : 0 < c.ny-ny.result = omega (arith, ny, c.sizes.ensures.leveled.grid.y.least) in
    let more : c.args.row % c.ny-ny.result + 1 < c.ny-ny.result = omega (arith, mod-lt c.args.row some, c.if-y-ny.false) in
    record {
      room = c.requires.signs.room;
      slices = stays v c.args.row c.ny-ny.result ny some c.requires.row c.args.self.now more (slices_here v c.args.row c.ny-ny.result ny some c.requires.row c.args.self.now c.requires.signs);
    }
