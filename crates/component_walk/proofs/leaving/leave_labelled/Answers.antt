use Rattle.std.proofs.Common.{◌≡◌, ℕ, ◌+◌, ◌-◌, ◌^◌, ◌<◌, List, subst, get_or, inl, inr, arith, w64}
use Rattle.std.specs.Int.{trailing_zeros}
use Rattle.std.proofs.Math.Nat.{mod-le}
use Rattle.std.proofs.lemmas.Bool.{cases_lt}
use Rattle.component_labels.specs.Fronts.{none, room}
use Rattle.component_walk.specs.Passed.{HasLeft}
use Rattle.row_bits.proofs.UnsetBits.{told_before, told_first, told_low, told_next, told_none}
use Rattle.component_walk.proofs.LeftLaws.{can_more, has_more, has_none, has_over, room_same}
use Rattle.component_walk.proofs.leaving.leave_labelled.Goals as goal

-- what is known of an edge whose bit is not set
abbrev IsNone : List ℕ → ℕ → ℕ → Type 0
IsNone xs place k = get_or xs (place + k) 0 ≡ none

pub labelled_among-bits-requires-clause-low : goal.labelled_among-bits-requires-clause-low
labelled_among-bits-requires-clause-low c =
    let s = c.requires.state in
    omega (arith, s.at, s.inside, s.left.low, mod-le s.name (room s.leaving.volume.grid))

pub loop-bits-init : goal.loop-bits-init
loop-bits-init c = record {
  left = has_none c.args.place c.args.labels.now c.args.edges.now;
  told = told_first (IsNone c.args.labels.now.marks.labels c.args.place) c.args.count c.labelled_among-bits.result c.labelled_among-bits.ensures.bound c.labelled_among-bits.ensures.bits;
}

pub leave-requires-clause-place : goal.leave-requires-clause-place
leave-requires-clause-place c =
    let n = c.loop-bits.bits in
    let low = told_low (IsNone c.args.labels.now.marks.labels c.args.place) c.args.count c.loop-bits.at n c.loop-bits.invariant.told (omega (arith, c.loop-bits-test.true)) (omega (arith, c.loop-bits.auto.bits-fits)) in
    let r = room_same c.args.place c.args.count c.loop-bits.at c.args.labels.now c.loop-bits.labels c.args.edges.now c.loop-bits.edges (omega (arith, low)) c.requires.state c.loop-bits.invariant.left in
    omega (arith, r, c.requires.place, low)

pub leave-requires-clause-state : goal.leave-requires-clause-state
leave-requires-clause-state c =
    let P = IsNone c.args.labels.now.marks.labels c.args.place in
    let n = c.loop-bits.bits in
    let at = c.loop-bits.at in
    let some : 0 < n = omega (arith, c.loop-bits-test.true) in
    let fits : n < 2 ^ 64 = omega (arith, c.loop-bits.auto.bits-fits) in
    let low = told_low P c.args.count at n c.loop-bits.invariant.told some fits in
    can_more c.args.place c.args.count (at + trailing_zeros w64 n) 1 c.args.labels.now c.loop-bits.labels c.args.edges.now c.loop-bits.edges c.requires.place (omega arith) (omega (arith, low)) c.requires.state
    (has_over c.args.place c.args.count at (trailing_zeros w64 n) c.args.labels.now c.loop-bits.labels c.args.edges.now c.loop-bits.edges c.requires.place (omega (arith, low)) (omega (arith, low)) c.requires.state
    c.loop-bits.invariant.left (told_before P c.args.count at n c.loop-bits.invariant.told some fits))

pub loop-bits-preserved : goal.loop-bits-preserved
loop-bits-preserved c =
    let P = IsNone c.args.labels.now.marks.labels c.args.place in
    let n = c.loop-bits.bits in
    let at = c.loop-bits.at in
    let t = trailing_zeros w64 n in
    let some : 0 < n = omega (arith, c.loop-bits-test.true) in
    let fits : n < 2 ^ 64 = omega (arith, c.loop-bits.auto.bits-fits) in
    let low = told_low P c.args.count at n c.loop-bits.invariant.told some fits in
    let over : HasLeft c.args.place (at + t) c.args.labels.now c.args.edges.now c.loop-bits.labels c.loop-bits.edges
    = has_over c.args.place c.args.count at t c.args.labels.now c.loop-bits.labels c.args.edges.now c.loop-bits.edges c.requires.place (omega (arith, low)) (omega (arith, low)) c.requires.state
    c.loop-bits.invariant.left (told_before P c.args.count at n c.loop-bits.invariant.told some fits) in
    record {
      left = subst (λ m. HasLeft c.args.place m c.args.labels.now c.args.edges.now c.leave.new.labels c.leave.new.edges) (let z : at + t + 1 ≡ at + (t + 1) = omega arith in z)
          (has_more c.args.place (at + t) 1 c.args.labels.now c.loop-bits.labels c.leave.new.labels c.args.edges.now c.loop-bits.edges c.leave.new.edges (omega (arith, c.requires.place, low)) over
          c.in_ok-leave.ensures);
      told = told_next P c.args.count at n c.loop-bits.invariant.told some fits;
    }

pub returns : goal.returns
returns c =
    let P = IsNone c.args.labels.now.marks.labels c.args.place in
    let n = c.loop-bits.bits in
    let at = c.loop-bits.at in
    elim (cases_lt at c.args.count) [
      | inl low ↦ subst (λ m. HasLeft c.args.place m c.args.labels.now c.args.edges.now c.loop-bits.labels c.loop-bits.edges) (let z : at + (c.args.count - at) ≡ c.args.count = omega (arith, low) in z)
          (has_over c.args.place c.args.count at (c.args.count - at) c.args.labels.now c.loop-bits.labels c.args.edges.now c.loop-bits.edges c.requires.place low (omega (arith, low)) c.requires.state c.loop-bits.invariant.left
          (λ k l. told_none P c.args.count at n c.loop-bits.invariant.told c.loop-bits-test.false k (omega (arith, l, low))))
      | inr high ↦ subst (λ m. HasLeft c.args.place m c.args.labels.now c.args.edges.now c.loop-bits.labels c.loop-bits.edges) (let z : at ≡ c.args.count = omega (arith, high, c.loop-bits.invariant.told.low) in z)
          c.loop-bits.invariant.left
    ]

pub overflow_add-place : goal.overflow_add-place
overflow_add-place c =
    let n = c.loop-bits.bits in
    let low = told_low (IsNone c.args.labels.now.marks.labels c.args.place) c.args.count c.loop-bits.at n c.loop-bits.invariant.told (omega (arith, c.loop-bits-test.true)) (omega (arith, c.loop-bits.auto.bits-fits)) in
    let s = c.requires.state in
    omega (arith, low, s.at, s.inside, s.left.low, mod-le s.name (room s.leaving.volume.grid))
