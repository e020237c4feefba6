use Rattle.std.proofs.Common.{◌≡◌, ◌∙◌, ℕ, ℤ, List, sym, ◌+◌, ◌-◌, ◌*◌, ◌<◌, ◌≤◌, All, ap, subst, arith, get_or, length, take}
use Rattle.iso_defs.specs.Place.{Position}
use Rattle.measure.specs.Measures.{IsWithin, coordinates, vector_of}
use Rattle.measure_laws.specs.Vectors.{Vector, cross, plus}
use Rattle.component_walk.specs.Local.{IsNear, lanes_of, listed, local_vertex, position_of, position_sum}
use Rattle.component_walk.specs.Sweep.{vector_at}
use Rattle.component_walk.proofs.RoundLaws.{all_near, first_one, left, nearer, one_more, swept_end, swept_more, swept_none, tip_is}
use Rattle.std.proofs.lemmas.List.{take_all}
use Rattle.component_walk.proofs.rounds.round_of.Goals as goal

-- a greater bound
more_within : (m n k : ℕ) (u : Vector) → m + n ≤ k → IsWithin (m + n) u → IsWithin k u
more_within m n k u h w = (omega (arith, w.0), omega (arith, w.1), omega (arith, w.2))

-- the three coordinates of a vertex
vertex_parts : (hs : List ℤ) (e : ℕ) (lanes : ℕ) (xs : List ℕ) → ((p : Position) → IsNear 65535 p → lanes ≡ lanes_of p → xs ≡ listed p)
    → lanes ≡ lanes_of (local_vertex hs e) → IsNear 1000 (local_vertex hs e) → xs ≡ listed (local_vertex hs e)
vertex_parts hs e lanes xs are is near = are (local_vertex hs e) (nearer 1000 65535 (local_vertex hs e) (omega arith) near) is

vertex_low : (hs : List ℤ) (e : ℕ) (xs : List ℕ) → xs ≡ listed (local_vertex hs e) → IsNear 1000 (local_vertex hs e) → All (λ c. c ≤ 1000) xs
vertex_low hs e xs is near = subst (λ l. All (λ c. c ≤ 1000) l) (sym is) (all_near 1000 (local_vertex hs e) near)

pub loop-at-init : goal.loop-at-init
loop-at-init c =
    let hs = c.args.heights.now in
    let es = c.args.edges.now in
    let lanes = c.local_lanes-sum.ensures in
    let first : c.parts-first.result ≡ listed (local_vertex hs (get_or es 0 0)) = vertex_parts hs (get_or es 0 0) c.local_lanes-sum.result c.parts-first.result c.parts-first.ensures lanes.value lanes.near in
    record {
      least = omega arith;
      last = first;
      swept = swept_none (λ e. vector_at (local_vertex hs e)) es (omega (arith, c.requires.edges.least));
      small = (omega arith, omega arith, omega arith);
      sum = first_one (local_vertex hs) es c.local_lanes-sum.result (omega (arith, c.requires.edges.least)) lanes.value lanes.near;
      low = vertex_low hs (get_or es 0 0) c.parts-first.result first lanes.near;
      few = omega (arith, lanes.bound);
    }

pub with_cross-swept-requires-clause-b : goal.with_cross-swept-requires-clause-b
with_cross-swept-requires-clause-b c =
    let hs = c.args.heights.now in
    let e : ℕ = get_or c.args.edges.now c.loop-at.at 0 in
    let lanes = c.local_lanes-lanes.ensures in
    vertex_low hs e c.parts-next.result (vertex_parts hs e c.local_lanes-lanes.result c.parts-next.result c.parts-next.ensures lanes.value lanes.near) lanes.near

pub with_cross-requires-clause-b : goal.with_cross-requires-clause-b
with_cross-requires-clause-b c =
    let hs = c.args.heights.now in
    let e : ℕ = get_or c.args.edges.now 0 0 in
    let lanes = c.local_lanes-sum.ensures in
    vertex_low hs e c.parts-first.result (vertex_parts hs e c.local_lanes-sum.result c.parts-first.result c.parts-first.ensures lanes.value lanes.near) lanes.near

pub tip_of-requires-clause-first : goal.tip_of-requires-clause-first
tip_of-requires-clause-first c =
    let hs = c.args.heights.now in
    let e : ℕ = get_or c.args.edges.now 0 0 in
    let lanes = c.local_lanes-sum.ensures in
    vertex_low hs e c.parts-first.result (vertex_parts hs e c.local_lanes-sum.result c.parts-first.result c.parts-first.ensures lanes.value lanes.near) lanes.near

pub tip_of-requires-clause-sum : goal.tip_of-requires-clause-sum
tip_of-requires-clause-sum c =
    let hs = c.args.heights.now in
    let es = c.args.edges.now in
    let n = c.loop-at.at in
    let whole : n ≡ length es = omega (arith, c.loop-at.auto.at-end, c.loop-at-test.false, c.requires.edges.least) in
    let p : Position = position_sum (local_vertex hs) (take n es) in
    let sums = c.loop-at.invariant.sum in
    let sum : c.parts.result ≡ listed p = c.parts.ensures p (nearer (1000 * n) 65535 p (omega (arith, whole, c.requires.edges.most)) sums.near) sums.is in
    let near = nearer (1000 * n) (1000 * length es) p (omega (arith, whole)) sums.near in
    subst (λ l. All (λ s. s ≤ 1000 * length es) l) (sym sum) (all_near (1000 * length es) p near)

pub loop-at-preserved : goal.loop-at-preserved
loop-at-preserved c =
    let hs = c.args.heights.now in
    let es = c.args.edges.now in
    let n = c.loop-at.at in
    let at : ℕ → Vector = λ e. vector_at (local_vertex hs e) in
    let s : Vector = vector_of c.loop-at.swept in
    let some : 0 < n = omega (arith, c.loop-at.invariant.least) in
    let low : n < length es = omega (arith, c.loop-at-test.true) in
    let back : n ≡ n + 1 - 1 = omega arith in
    let lanes = c.local_lanes-lanes.ensures in
    let last : position_of c.loop-at.last ≡ local_vertex hs (get_or es (n - 1) 0) = ap position_of c.loop-at.invariant.last in
    let next : c.parts-next.result ≡ listed (local_vertex hs (get_or es n 0)) = vertex_parts hs (get_or es n 0) c.local_lanes-lanes.result c.parts-next.result c.parts-next.ensures lanes.value lanes.near in
    let crossed : vector_of c.with_cross-swept.result ≡ plus s (cross (at (get_or es (n - 1) 0)) (at (get_or es n 0)))
    = ap vector_of c.with_cross-swept.ensures.value
    ∙ (ap (λ (p : Position). plus s (cross (vector_at p) (vector_at (position_of c.parts-next.result)))) last
    ∙ ap (λ p. plus s (cross (at (get_or es (n - 1) 0)) (vector_at (position_of p)))) next) in
    record {
      least = omega arith;
      last = next ∙ ap (λ k. listed (local_vertex hs (get_or es k 0))) back;
      swept = ap (λ u. plus u (left at es (n + 1))) crossed ∙ swept_more at es s n some low c.loop-at.invariant.swept;
      small = more_within (1000000 * (n - 1)) 1000000 (1000000 * (n + 1 - 1)) (vector_of c.with_cross-swept.result) (omega (arith, some)) (c.with_cross-swept.ensures.within (1000000 * (n - 1)) c.loop-at.invariant.small);
      sum = one_more (local_vertex hs) es n c.loop-at.sum c.local_lanes-lanes.result low lanes.value lanes.near c.loop-at.invariant.sum;
      low = vertex_low hs (get_or es n 0) c.parts-next.result next lanes.near;
      few = omega (arith, lanes.bound, c.loop-at.invariant.few);
    }

pub returns-clause-swept : goal.returns-clause-swept
returns-clause-swept c =
    let hs = c.args.heights.now in
    let es = c.args.edges.now in
    let n = c.loop-at.at in
    let at : ℕ → Vector = λ e. vector_at (local_vertex hs e) in
    let s : Vector = vector_of c.loop-at.swept in
    let whole : n ≡ length es = omega (arith, c.loop-at.auto.at-end, c.loop-at-test.false, c.requires.edges.least) in
    let last : position_of c.loop-at.last ≡ local_vertex hs (get_or es (n - 1) 0) = ap position_of c.loop-at.invariant.last in
    c.with_cross.ensures.value
    ∙ (ap (λ (p : Position). coordinates (plus s (cross (vector_at p) (vector_at (position_of c.parts-first.result))))) last
    ∙ (ap (λ p. coordinates (plus s (cross (at (get_or es (n - 1) 0)) (vector_at (position_of p)))))
    (vertex_parts hs (get_or es 0 0) c.local_lanes-sum.result c.parts-first.result c.parts-first.ensures c.local_lanes-sum.ensures.value c.local_lanes-sum.ensures.near)
    ∙ ap coordinates (swept_end at es s n whole c.loop-at.invariant.swept)))

pub returns-clause-within : goal.returns-clause-within
returns-clause-within c =
    let n = c.loop-at.at in
    let whole : n ≡ length c.args.edges.now = omega (arith, c.loop-at.auto.at-end, c.loop-at-test.false, c.requires.edges.least) in
    more_within (1000000 * (n - 1)) 1000000 12000000 (vector_of c.with_cross.result) (omega (arith, c.requires.edges.most, c.loop-at.invariant.least)) (c.with_cross.ensures.within (1000000 * (n - 1)) c.loop-at.invariant.small)

pub returns-clause-tip : goal.returns-clause-tip
returns-clause-tip c =
    let hs = c.args.heights.now in
    let es = c.args.edges.now in
    let n = c.loop-at.at in
    let whole : n ≡ length es = omega (arith, c.loop-at.auto.at-end, c.loop-at-test.false, c.requires.edges.least) in
    let sums = c.loop-at.invariant.sum in
    let sum : c.parts.result ≡ listed (position_sum (local_vertex hs) es)
    = c.parts.ensures (position_sum (local_vertex hs) (take n es)) (nearer (1000 * n) 65535 (position_sum (local_vertex hs) (take n es)) (omega (arith, whole, c.requires.edges.most)) sums.near) sums.is
    ∙ ap (λ l. listed (position_sum (local_vertex hs) l)) (take_all n es (omega (arith, whole))) in
    let first = vertex_parts hs (get_or es 0 0) c.local_lanes-sum.result c.parts-first.result c.parts-first.ensures c.local_lanes-sum.ensures.value c.local_lanes-sum.ensures.near in
    tip_is (local_vertex hs) es c.parts.result c.parts-first.result c.tip_of.result _ (omega (arith, c.requires.edges.most)) sum first c.tip_of.ensures.value
