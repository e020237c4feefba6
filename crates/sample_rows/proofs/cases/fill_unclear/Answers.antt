use Rattle.std.proofs.Common.{ℕ, ◌+◌, ◌*◌, ◌%◌, ◌^◌, ◌<◌, ◌∙◌, ap, arith, refl, subst, sym, w64}
use Rattle.std.specs.Int.{trailing_zeros}
use Rattle.std.specs.Int.Bits.{bit_xor}
use Rattle.std.proofs.lemmas.List.{length-set}
use Rattle.cell_loops.specs.Loops.{row_loops}
use Rattle.flat_mesh.specs.Cases.{signs_at}
use Rattle.flat_mesh.proofs.CellCase.{loops_are}
use Rattle.mesh_rows.specs.Rows.{IsCaseOf}
use Rattle.sample_rows.specs.Cases.{AreCasesBut}
use Rattle.row_bits.proofs.LowestBit.{later, lowest_is_set, places, same_bit, within}
use Rattle.sample_rows.proofs.PutCases.{case_put}
use Rattle.sample_rows.proofs.cases.fill_unclear.Goals as goal

pub cell_behind-cell-requires-clause-x : goal.cell_behind-cell-requires-clause-x
cell_behind-cell-requires-clause-x g c =
    let n = c.loop-rest.rest in
    let some : 0 < n = omega (arith, c.loop-rest-test.true) in
    let fits : n < 2 ^ 64 = omega (arith, c.loop-rest.auto.rest-fits) in
    let t : ℕ = trailing_zeros w64 n in
    let next : ℕ = bit_xor n (1 * 2 ^ t % 2 ^ 64) in
    c.loop-rest.invariant.put.inside t (within n next some fits refl) (lowest_is_set n next some fits refl)

pub cell_case-requires-clause-signs : goal.cell_case-requires-clause-signs
cell_case-requires-clause-signs g c =
    let v = (g.H.Heights.leveled c.args.field.now) in
    let low = c.args.low in
    let n = c.loop-rest.rest in
    let some : 0 < n = omega (arith, c.loop-rest-test.true) in
    let fits : n < 2 ^ 64 = omega (arith, c.loop-rest.auto.rest-fits) in
    let t : ℕ = trailing_zeros w64 n in
    let next : ℕ = bit_xor n (1 * 2 ^ t % 2 ^ 64) in
    let inner : low.x + t + 1 < v.grid.nx = c.loop-rest.invariant.put.inside t (within n next some fits refl) (lowest_is_set n next some fits refl) in
    c.requires.bytes (low.x + t) inner ∙ ap (signs_at v) (sym c.cell_behind-cell.ensures.index)

pub bounds-cases-x : goal.bounds-cases-x
bounds-cases-x g c =
    let v = (g.H.Heights.leveled c.args.field.now) in
    let n = c.loop-rest.rest in
    let some : 0 < n = omega (arith, c.loop-rest-test.true) in
    let fits : n < 2 ^ 64 = omega (arith, c.loop-rest.auto.rest-fits) in
    let t : ℕ = trailing_zeros w64 n in
    let next : ℕ = bit_xor n (1 * 2 ^ t % 2 ^ 64) in
    let inner : c.args.low.x + t + 1 < v.grid.nx = c.loop-rest.invariant.put.inside t (within n next some fits refl) (lowest_is_set n next some fits refl) in
    omega (arith, inner, c.loop-rest.invariant.count)

pub loop-rest-smaller : goal.loop-rest-smaller
loop-rest-smaller g c =
    let n = c.loop-rest.rest in
    let some : 0 < n = omega (arith, c.loop-rest-test.true) in
    let fits : n < 2 ^ 64 = omega (arith, c.loop-rest.auto.rest-fits) in
    let next : ℕ = bit_xor n (1 * 2 ^ trailing_zeros w64 n % 2 ^ 64) in
    omega (arith, later n next some fits refl, places n, places next)

pub loop-rest-preserved : goal.loop-rest-preserved
loop-rest-preserved g c =
    let v = (g.H.Heights.leveled c.args.field.now) in
    let low = c.args.low in
    let n = c.loop-rest.rest in
    let some : 0 < n = omega (arith, c.loop-rest-test.true) in
    let fits : n < 2 ^ 64 = omega (arith, c.loop-rest.auto.rest-fits) in
    let t : ℕ = trailing_zeros w64 n in
    let next : ℕ = bit_xor n (1 * 2 ^ t % 2 ^ 64) in
    let few : t < 64 = within n next some fits refl in
    let inner : low.x + t + 1 < v.grid.nx = c.loop-rest.invariant.put.inside t few (lowest_is_set n next some fits refl) in
    let case = c.number.result in
    let q = c.cell_behind-cell.result.index in
    let right : IsCaseOf v q case
    = record { small = c.number.ensures.bound; loops = ap row_loops c.number.ensures.value ∙ loops_are v q c.cell_case.result c.cell_case.ensures } in
    record {
      count = length-set c.loop-rest.cases (low.x + t) case ∙ c.loop-rest.invariant.count;
      put = case_put v low.y low.z low.x n next t case c.loop-rest.cases few inner c.loop-rest.invariant.count (λ k other. same_bit n next some fits refl k other)
          (λ none. subst (λ q. IsCaseOf v q case) c.cell_behind-cell.ensures.index right) c.loop-rest.invariant.put;
    }

pub returns : goal.returns
returns g c =
    let v = (g.H.Heights.leveled c.args.field.now) in
    let low = c.args.low in
    subst (λ n. AreCasesBut v low.y low.z low.x n c.loop-rest.cases) c.loop-rest-test.false c.loop-rest.invariant.put
