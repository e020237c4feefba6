use Rattle.std.proofs.Common.{◌≡◌, ◌∙◌, ◌+◌, ◌-◌, ◌^◌, ◌*◌, ◌<◌, List, ℕ, [], ap, sym, subst, get_or, arith, w64}
use Rattle.std.specs.Int.{trailing_zeros}
use Rattle.iso_defs.specs.Grid.{Grid, index}
use Rattle.cell_loops.specs.Loops.{row_loops}
use Rattle.flat_mesh.specs.Centres.{IsCellAt}
use Rattle.flat_mesh.specs.Faces.{loops_at}
use Rattle.flat_mesh.specs.Lattice.{Leveled}
use Rattle.flat_mesh.specs.Rows.{row_start}
use Rattle.mesh_rows.specs.Rows.{AreCases, IsCaseOf}
use Rattle.part_laws.specs.Loops.{Loop}
use Rattle.component_walk.specs.Walks.{ArePlaces, IsWalked, loops_before}
use Rattle.row_bits.proofs.UnsetBits.{told_before, told_begun, told_low, told_next, told_none}
use Rattle.component_walk.proofs.CellLaws.{before_quiets}
use Rattle.component_walk.proofs.cells.add_cells.Goals as goal

-- what is known of a cell whose bit is not set
abbrev IsQuiet : List ℕ → ℕ → ℕ → Type 0
IsQuiet cases from k = row_loops (get_or cases (from + k) 0) ≡ []

-- so many cells of a row that have no loops
quiet : (v : Leveled) (y z : ℕ) (cases : List ℕ) (from next some : ℕ) → AreCases v y z cases → from + next + some < v.grid.nx
    → ((k : ℕ) → k < some → IsQuiet cases from (next + k))
    → loops_before v (row_start v.grid y z + (from + next) + some) ≡ loops_before v (row_start v.grid y z + (from + next))
quiet v y z cases from next some are inside each =
    before_quiets v (row_start v.grid y z + (from + next)) some (λ k low is.
    (let case = are (from + (next + k)) (omega (arith, low, inside)) (omega (arith, low, inside)) in
    let at : index v.grid (from + (next + k)) y z ≡ row_start v.grid y z + (from + next) + k = omega arith in
    subst (λ q. loops_at v q ≡ []) at (sym case.loops ∙ each k low)))

row_is : (a b y z ny : ℕ) → a ≡ y → b ≡ z → a + ny * b ≡ y + ny * z
row_is a b y z ny e f = λ i. e i + ny * f i

index_is : (s g : Grid) (y z x q : ℕ) → s ≡ g → q ≡ row_start s y z + x → q ≡ row_start g y z + x
index_is s g y z x q same is = is ∙ ap (λ (s : Grid). row_start s y z + x) same

pub loop-bits-init : goal.loop-bits-init
loop-bits-init g c =
    let v = g.H.Heights.leveled c.args.field.now in
    record {
      walked = subst (λ n. IsWalked g.T.Tally.value g.T.Tally.fits g.T.Tally.of_loop v (c.args.row.now.y + v.grid.ny * c.args.row.now.z) (loops_before v (row_start v.grid c.args.row.now.y c.args.row.now.z + n)) c.args.walked.now.labels c.args.walked.now.tallies.items c.args.walked.now.edges)
          (let e : c.args.from ≡ c.args.from + 0 = omega arith in e) c.requires.state;
      told = told_begun (IsQuiet c.args.row.now.cases.now c.args.from) (c.args.end - c.args.from) c.looped_among-bits.result
          (λ k l. c.looped_among-bits.ensures.bits k (omega (arith, l)))
          (λ k l. c.looped_among-bits.ensures.above k (omega (arith, l, c.requires.from)));
    }

pub cell_at-cell-requires-clause-x : goal.cell_at-cell-requires-clause-x
cell_at-cell-requires-clause-x g c =
    let v = g.H.Heights.leveled c.args.field.now in
    let n = c.loop-bits.bits in
    let fits : n < 2 ^ 64 = omega (arith, c.loop-bits.auto.bits-fits) in
    let low = told_low (IsQuiet c.args.row.now.cases.now c.args.from) (c.args.end - c.args.from) c.loop-bits.next n c.loop-bits.invariant.told (omega (arith, c.loop-bits-test.true)) fits in
    let wide : c.sizes-sizes.result.nx ≡ v.grid.nx = ap (λ (s : Grid). s.nx) c.sizes-sizes.ensures.value in
    omega (arith, low, c.requires.end, wide)

pub cell_at-cell-requires-clause-y : goal.cell_at-cell-requires-clause-y
cell_at-cell-requires-clause-y g c = subst (λ (s : Grid). c.args.row.now.y + 1 < s.ny) (sym c.sizes-sizes.ensures.value) c.requires.y

pub cell_at-cell-requires-clause-z : goal.cell_at-cell-requires-clause-z
cell_at-cell-requires-clause-z g c = subst (λ (s : Grid). c.args.row.now.z + 1 < s.nz) (sym c.sizes-sizes.ensures.value) c.requires.z

pub bounds-row-x : goal.bounds-row-x
bounds-row-x g c =
    let n = c.loop-bits.bits in
    let fits : n < 2 ^ 64 = omega (arith, c.loop-bits.auto.bits-fits) in
    let low = told_low (IsQuiet c.args.row.now.cases.now c.args.from) (c.args.end - c.args.from) c.loop-bits.next n c.loop-bits.invariant.told (omega (arith, c.loop-bits-test.true)) fits in
    omega (arith, low, c.requires.end, c.requires.count)

pub add_cell-requires-clause-cell : goal.add_cell-requires-clause-cell
add_cell-requires-clause-cell g c = subst (λ s. IsCellAt s c.cell_at-cell.result) c.sizes-sizes.ensures.value c.cell_at-cell.ensures.there

pub add_cell-requires-clause-places : goal.add_cell-requires-clause-places
add_cell-requires-clause-places g c =
    let v = g.H.Heights.leveled c.args.field.now in
    let r = c.args.row.now in
    let cell = c.cell_at-cell.result in
    subst (λ m. ArePlaces v.grid m r.places) (sym (row_is cell.low.y cell.low.z r.y r.z v.grid.ny c.cell_at-cell.ensures.y c.cell_at-cell.ensures.z)) c.requires.places

pub add_cell-requires-clause-case : goal.add_cell-requires-clause-case
add_cell-requires-clause-case g c =
    let v = g.H.Heights.leveled c.args.field.now in
    let r = c.args.row.now in
    let n = c.loop-bits.bits in
    let x : ℕ = c.args.from + (c.loop-bits.next + trailing_zeros w64 n) in
    let fits : n < 2 ^ 64 = omega (arith, c.loop-bits.auto.bits-fits) in
    let low = told_low (IsQuiet r.cases.now c.args.from) (c.args.end - c.args.from) c.loop-bits.next n c.loop-bits.invariant.told (omega (arith, c.loop-bits-test.true)) fits in
    let turned : index v.grid x r.y r.z ≡ row_start v.grid r.y r.z + x = omega arith in
    let at = turned ∙ sym (index_is c.sizes-sizes.result v.grid r.y r.z x c.cell_at-cell.result.index c.sizes-sizes.ensures.value c.cell_at-cell.ensures.index) in
    subst (λ q. IsCaseOf v q (get_or r.cases.now x 0)) at (c.requires.cases x (omega (arith, low, c.requires.end)) (omega (arith, low, c.requires.end)))

pub add_cell-requires-clause-state : goal.add_cell-requires-clause-state
add_cell-requires-clause-state g c =
    let v = g.H.Heights.leveled c.args.field.now in
    let r = c.args.row.now in
    let P = IsQuiet r.cases.now c.args.from in
    let n = c.loop-bits.bits in
    let next = c.loop-bits.next in
    let t : ℕ = trailing_zeros w64 n in
    let some : 0 < n = omega (arith, c.loop-bits-test.true) in
    let fits : n < 2 ^ 64 = omega (arith, c.loop-bits.auto.bits-fits) in
    let low = told_low P (c.args.end - c.args.from) next n c.loop-bits.invariant.told some fits in
    let start : ℕ = row_start v.grid r.y r.z in
    let x : ℕ = c.args.from + (next + t) in
    let cell = c.cell_at-cell.result in
    let there : start + (c.args.from + next) + t ≡ start + x = omega arith in
    let at = ap (loops_before v) (there ∙ sym (index_is c.sizes-sizes.result v.grid r.y r.z x cell.index c.sizes-sizes.ensures.value c.cell_at-cell.ensures.index)) in
    let row = row_is cell.low.y cell.low.z r.y r.z v.grid.ny c.cell_at-cell.ensures.y c.cell_at-cell.ensures.z in
    let passed = quiet v r.y r.z r.cases.now c.args.from next t c.requires.cases (omega (arith, low, c.requires.end)) (told_before P (c.args.end - c.args.from) next n c.loop-bits.invariant.told some fits) in
    subst (λ m. IsWalked g.T.Tally.value g.T.Tally.fits g.T.Tally.of_loop v m (loops_before v cell.index) c.loop-bits.walked.labels c.loop-bits.walked.tallies.items c.loop-bits.walked.edges) (sym row)
    (subst (λ (ls : List Loop). IsWalked g.T.Tally.value g.T.Tally.fits g.T.Tally.of_loop v (r.y + v.grid.ny * r.z) ls c.loop-bits.walked.labels c.loop-bits.walked.tallies.items c.loop-bits.walked.edges) (sym passed ∙ at)
    c.loop-bits.invariant.walked)

pub loop-bits-preserved : goal.loop-bits-preserved
loop-bits-preserved g c =
    let v = g.H.Heights.leveled c.args.field.now in
    let r = c.args.row.now in
    let P = IsQuiet r.cases.now c.args.from in
    let n = c.loop-bits.bits in
    let next = c.loop-bits.next in
    let t : ℕ = trailing_zeros w64 n in
    let some : 0 < n = omega (arith, c.loop-bits-test.true) in
    let fits : n < 2 ^ 64 = omega (arith, c.loop-bits.auto.bits-fits) in
    let start : ℕ = row_start v.grid r.y r.z in
    let x : ℕ = c.args.from + (next + t) in
    let cell = c.cell_at-cell.result in
    let is = index_is c.sizes-sizes.result v.grid r.y r.z x cell.index c.sizes-sizes.ensures.value c.cell_at-cell.ensures.index in
    let there : cell.index + 1 ≡ start + (c.args.from + (next + (t + 1))) = omega (arith, is) in
    let row = row_is cell.low.y cell.low.z r.y r.z v.grid.ny c.cell_at-cell.ensures.y c.cell_at-cell.ensures.z in
    record {
      walked = subst (λ q. IsWalked g.T.Tally.value g.T.Tally.fits g.T.Tally.of_loop v (r.y + v.grid.ny * r.z) (loops_before v q) c.add_cell.new.walked.labels c.add_cell.new.walked.tallies.items c.add_cell.new.walked.edges) there
          (subst (λ m. IsWalked g.T.Tally.value g.T.Tally.fits g.T.Tally.of_loop v m (loops_before v (cell.index + 1)) c.add_cell.new.walked.labels c.add_cell.new.walked.tallies.items c.add_cell.new.walked.edges) row
          c.in_ok-add_cell.ensures);
      told = told_next P (c.args.end - c.args.from) next n c.loop-bits.invariant.told some fits;
    }

pub returns : goal.returns
returns g c =
    let v = g.H.Heights.leveled c.args.field.now in
    let r = c.args.row.now in
    let P = IsQuiet r.cases.now c.args.from in
    let next = c.loop-bits.next in
    let some : ℕ = c.args.end - c.args.from - next in
    let start : ℕ = row_start v.grid r.y r.z in
    let low = c.loop-bits.invariant.told.low in
    let there : start + (c.args.from + next) + some ≡ start + c.args.end = omega (arith, low, c.requires.from) in
    let passed = quiet v r.y r.z r.cases.now c.args.from next some c.requires.cases (omega (arith, c.requires.end, c.requires.from, low))
    (λ k l. told_none P (c.args.end - c.args.from) next c.loop-bits.bits c.loop-bits.invariant.told c.loop-bits-test.false k (omega (arith, l))) in
    subst (λ (ls : List Loop). IsWalked g.T.Tally.value g.T.Tally.fits g.T.Tally.of_loop v (r.y + v.grid.ny * r.z) ls c.loop-bits.walked.labels c.loop-bits.walked.tallies.items c.loop-bits.walked.edges)
    (sym passed ∙ ap (loops_before v) there) c.loop-bits.invariant.walked
