use Rattle.std.proofs.Common.{◌≡◌, ℕ, ◌+◌, ◌*◌, ◌%◌, ◌^◌, ◌<◌, ◌∙◌, ap, arith, get_or, min, refl, subst, sym, w64}
use Rattle.std.specs.Int.{trailing_zeros}
use Rattle.std.specs.Int.Bits.{bit_xor}
use Rattle.std.specs.Int.Count.{trailing_of_zero}
use Rattle.iso_defs.specs.Grid.{index}
use Rattle.flat_mesh.specs.Rows.{row_start}
use Rattle.mesh_rows.specs.Counts.{AreCounts}
use Rattle.mesh_rows.specs.Rows.{IsCaseOf}
use Rattle.row_bits.proofs.LowestBit.{later, places, within}
use Rattle.sample_rows.proofs.PutCases.{in_row, past_lowest, tell_next, to_lowest}
use Rattle.sample_rows.proofs.cases.count_many.Goals as goal

pub loop-rest-init : goal.loop-rest-init
loop-rest-init g c =
    let v = (g.H.Heights.leveled c.args.field.now) in
    let low = c.args.low in
    let fits : c.args.mixed < 2 ^ 64 = omega (arith, c.ranges.mixed) in
    record {
      counted = to_lowest v low.y low.z low.x c.args.mixed c.requires.y c.requires.z c.requires.mixed c.args.counts fits c.requires.counts;
      bits = λ k least few. refl;
    }

pub cell_behind-cell-requires-clause-x : goal.cell_behind-cell-requires-clause-x
cell_behind-cell-requires-clause-x g c =
    let v = (g.H.Heights.leveled c.args.field.now) in
    let low = c.args.low in
    let n = c.loop-rest.rest in
    let some : 0 < n = omega (arith, c.loop-rest-test.true) in
    let fits : n < 2 ^ 64 = omega (arith, c.loop-rest.auto.rest-fits) in
    in_row v low.y low.z low.x c.args.mixed c.requires.y c.requires.z c.requires.mixed n _ some fits refl c.loop-rest.invariant.bits

pub bounds-cases-low : goal.bounds-cases-low
bounds-cases-low g c =
    let v = (g.H.Heights.leveled c.args.field.now) in
    let low = c.args.low in
    let n = c.loop-rest.rest in
    let some : 0 < n = omega (arith, c.loop-rest-test.true) in
    let fits : n < 2 ^ 64 = omega (arith, c.loop-rest.auto.rest-fits) in
    let hx : low.x + trailing_zeros w64 n + 1 < v.grid.nx
    = in_row v low.y low.z low.x c.args.mixed c.requires.y c.requires.z c.requires.mixed n _ some fits refl c.loop-rest.invariant.bits in
    omega (arith, hx, c.requires.count)

pub count_cell-counts-requires-clause-case : goal.count_cell-counts-requires-clause-case
count_cell-counts-requires-clause-case g c =
    let v = (g.H.Heights.leveled c.args.field.now) in
    let low = c.args.low in
    let n = c.loop-rest.rest in
    let some : 0 < n = omega (arith, c.loop-rest-test.true) in
    let fits : n < 2 ^ 64 = omega (arith, c.loop-rest.auto.rest-fits) in
    let t : ℕ = trailing_zeros w64 n in
    let next : ℕ = bit_xor n (1 * 2 ^ t % 2 ^ 64) in
    let few : t < 64 = within n next some fits refl in
    let hx : low.x + t + 1 < v.grid.nx
    = in_row v low.y low.z low.x c.args.mixed c.requires.y c.requires.z c.requires.mixed n _ some fits refl c.loop-rest.invariant.bits in
    subst (λ q. IsCaseOf v q (get_or c.args.cases.now (low.x + t) 0)) (sym c.cell_behind-cell.ensures.index) (c.requires.cases (low.x + t) hx (omega (arith, few)))

pub count_cell-counts-requires-clause-counts : goal.count_cell-counts-requires-clause-counts
count_cell-counts-requires-clause-counts g c =
    let v = (g.H.Heights.leveled c.args.field.now) in
    let low = c.args.low in
    let n = c.loop-rest.rest in
    let some : 0 < n = omega (arith, c.loop-rest-test.true) in
    let fits : n < 2 ^ 64 = omega (arith, c.loop-rest.auto.rest-fits) in
    let x : ℕ = low.x + trailing_zeros w64 n in
    let hx : x + 1 < v.grid.nx
    = in_row v low.y low.z low.x c.args.mixed c.requires.y c.requires.z c.requires.mixed n _ some fits refl c.loop-rest.invariant.bits in
    let at : index v.grid x low.y low.z ≡ c.cell_behind-cell.result.index = sym c.cell_behind-cell.ensures.index in
    let here : row_start v.grid low.y low.z + min x v.grid.nx ≡ index v.grid x low.y low.z = omega (arith, hx) in
    subst (λ q. AreCounts v q c.loop-rest.counts) (here ∙ at) c.loop-rest.invariant.counted

pub loop-rest-smaller : goal.loop-rest-smaller
loop-rest-smaller g c =
    let n = c.loop-rest.rest in
    let some : 0 < n = omega (arith, c.loop-rest-test.true) in
    let fits : n < 2 ^ 64 = omega (arith, c.loop-rest.auto.rest-fits) in
    let next : ℕ = bit_xor n (1 * 2 ^ trailing_zeros w64 n % 2 ^ 64) in
    omega (arith, later n next some fits refl, places n, places next)

pub loop-rest-preserved : goal.loop-rest-preserved
loop-rest-preserved g c =
    let v = (g.H.Heights.leveled c.args.field.now) in
    let low = c.args.low in
    let n = c.loop-rest.rest in
    let some : 0 < n = omega (arith, c.loop-rest-test.true) in
    let fits : n < 2 ^ 64 = omega (arith, c.loop-rest.auto.rest-fits) in
    let new = c.count_cell-counts.result in
    let counted : AreCounts v (index v.grid (low.x + trailing_zeros w64 n) low.y low.z + 1) new
    = subst (λ q. AreCounts v (q + 1) new) c.cell_behind-cell.ensures.index c.count_cell-counts.ensures in
    record {
      counted = past_lowest v low.y low.z low.x c.args.mixed c.requires.y c.requires.z c.requires.mixed n _ some fits refl c.loop-rest.invariant.bits new counted;
      bits = tell_next v low.y low.z low.x c.args.mixed c.requires.y c.requires.z c.requires.mixed n _ some fits refl c.loop-rest.invariant.bits;
    }

pub returns : goal.returns
returns g c =
    let v = (g.H.Heights.leveled c.args.field.now) in
    let low = c.args.low in
    let all : trailing_zeros w64 c.loop-rest.rest ≡ 64 = ap (trailing_zeros w64) c.loop-rest-test.false ∙ trailing_of_zero 64 in
    subst (λ n. AreCounts v (row_start v.grid low.y low.z + min (low.x + n) v.grid.nx) c.loop-rest.counts) all c.loop-rest.invariant.counted
