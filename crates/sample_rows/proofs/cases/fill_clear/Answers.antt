use Rattle.std.proofs.Common.{◌≡◌, ℕ, ◌+◌, ◌*◌, ◌%◌, ◌^◌, ◌<◌, ◌∙◌, ap, arith, get_or, refl, subst, sym, w64}
use Rattle.std.specs.Int.{trailing_zeros}
use Rattle.std.specs.Int.Bits.{bit_or, bit_xor, or_zero_r}
use Rattle.std.proofs.lemmas.List.{length-set}
use Rattle.iso_defs.specs.Grid.{index}
use Rattle.case_table.specs.Cases.{case_at}
use Rattle.sample_rows.specs.Cases.{AreCasesBut}
use Rattle.row_bits.proofs.LowestBit.{joined_here, joined_other, later, lowest_is_set, places, same_bit, set_in_both, within}
use Rattle.sample_rows.proofs.PutCases.{case_put, clear_case, flag_none, flag_small}
use Rattle.sample_rows.proofs.cases.fill_clear.Goals as goal

pub loop-rest-init : goal.loop-rest-init
loop-rest-init g c =
    let v = (g.H.Heights.leveled c.args.field.now) in
    let low = c.args.low in
    record {
      count = c.requires.count;
      put = subst (λ n. AreCasesBut v low.y low.z low.x n c.args.cases.now) (sym (or_zero_r c.args.mixed)) c.requires.before;
    }

pub bounds-cases-x : goal.bounds-cases-x
bounds-cases-x g c =
    let v = (g.H.Heights.leveled c.args.field.now) in
    let n = c.loop-rest.rest in
    let some : 0 < n = omega (arith, c.loop-rest-test.true) in
    let fits : n < 2 ^ 64 = omega (arith, c.loop-rest.auto.rest-fits) in
    let t : ℕ = trailing_zeros w64 n in
    let next : ℕ = bit_xor n (1 * 2 ^ t % 2 ^ 64) in
    let inner : c.args.low.x + t + 1 < v.grid.nx
    = c.loop-rest.invariant.put.inside t (within n next some fits refl) (set_in_both n c.loop-rest.unclear t (lowest_is_set n next some fits refl)) in
    omega (arith, inner, c.loop-rest.invariant.count)

pub loop-rest-smaller : goal.loop-rest-smaller
loop-rest-smaller g c =
    let n = c.loop-rest.rest in
    let some : 0 < n = omega (arith, c.loop-rest-test.true) in
    let fits : n < 2 ^ 64 = omega (arith, c.loop-rest.auto.rest-fits) in
    let next : ℕ = bit_xor n (1 * 2 ^ trailing_zeros w64 n % 2 ^ 64) in
    omega (arith, later n next some fits refl, places n, places next)

pub loop-rest-preserved : goal.loop-rest-preserved
loop-rest-preserved g c =
    let v = (g.H.Heights.leveled c.args.field.now) in
    let low = c.args.low in
    let n = c.loop-rest.rest in
    let some : 0 < n = omega (arith, c.loop-rest-test.true) in
    let fits : n < 2 ^ 64 = omega (arith, c.loop-rest.auto.rest-fits) in
    let t : ℕ = trailing_zeros w64 n in
    let next : ℕ = bit_xor n (1 * 2 ^ t % 2 ^ 64) in
    let few : t < 64 = within n next some fits refl in
    let inner : low.x + t + 1 < v.grid.nx
    = c.loop-rest.invariant.put.inside t few (set_in_both n c.loop-rest.unclear t (lowest_is_set n next some fits refl)) in
    let bit : ℕ = c.from.result in
    let case = c.number.result in
    let signs : ℕ = get_or c.args.bytes.now (low.x + t) 0 in
    let small : bit < 2 = flag_small _ bit c.from.ensures in
    let clear : bit ≡ 0 → c.ambiguous_set.result ≡ 0 = flag_none c.ambiguous_set.result bit c.from.ensures in
    record {
      count = length-set c.loop-rest.cases (low.x + t) case ∙ c.loop-rest.invariant.count;
      put = case_put v low.y low.z low.x (bit_or n c.loop-rest.unclear) (bit_or next (bit_or c.loop-rest.unclear (bit * 2 ^ t % 2 ^ 64))) t case c.loop-rest.cases
          few inner c.loop-rest.invariant.count
          (λ k other. joined_other c.loop-rest.unclear bit t small few n next k (same_bit n next some fits refl k other) other)
          (λ none. clear_case v (index v.grid (low.x + t) low.y low.z) signs c.ambiguous_set.result case (c.requires.bytes (low.x + t) inner) c.ambiguous_set.ensures.faces
          (clear (joined_here c.loop-rest.unclear bit t small few next none))
          (ap case_at c.number.ensures.value ∙ c.row_of.ensures.case) c.number.ensures.bound)
          c.loop-rest.invariant.put;
    }

pub returns : goal.returns
returns g c =
    let v = (g.H.Heights.leveled c.args.field.now) in
    let low = c.args.low in
    subst (λ n. AreCasesBut v low.y low.z low.x (bit_or n c.loop-rest.unclear) c.loop-rest.cases) c.loop-rest-test.false c.loop-rest.invariant.put
