use Rattle.std.proofs.Common.{All, ◌≡◌, ◌∙◌, ℕ, ◌*◌, ◌<◌, ◌≤◌, List, ap, drop, get_or, length, ltb, subst, sym, take, arith}
use Rattle.std.specs.List.Sorted.{IsPartitionedBy}
use Rattle.std.proofs.lemmas.List.{get_or-take, length-drop, length-take}
use Rattle.std.proofs.lemmas.List.Elements.{All-drop, All-take}
use Rattle.cached_mesh.specs.Kept.{last_case}
use Rattle.cached_mesh.proofs.LastCase.{case_rest, none_behind, parted_drop, parted_take}
use Rattle.cached_mesh.proofs.entries.fill_across.Goals as goal

pub loop-left-init : goal.loop-left-init
loop-left-init c = record {
  cells = c.requires.cells;
  begins = c.requires.begins;
  ends = c.requires.ends;
  written = λ k from low. ap (λ other. last_case other c.args.entries k) (c.requires.zeros k (omega (arith, low, c.requires.end)));
}

pub fill_page-requires-clause-cells : goal.fill_page-requires-clause-cells
fill_page-requires-clause-cells c =
    subst (All (λ e. e < 524288)) (sym c.front-in-loop-left.ensures) (All-take (λ e. e < 524288) 32 c.loop-left.left c.loop-left.invariant.cells)

pub fill_page-requires-clause-begins : goal.fill_page-requires-clause-begins
fill_page-requires-clause-begins c =
    subst (IsPartitionedBy (λ e. ltb e (65536 * c.args.across.first))) (sym c.front-in-loop-left.ensures)
    (parted_take (λ e. ltb e (65536 * c.args.across.first)) c.loop-left.left c.loop-left.invariant.begins 32)

pub loop-left-smaller : goal.loop-left-smaller
loop-left-smaller c =
    let some : 0 < length c.front.result.now = c.begin_before.ensures.some c.loop-left-test.true in
    let front : length c.front.result.now ≡ length (take 32 c.loop-left.left) = ap length c.front.ensures in
    let rest : length c.rest-left.result ≡ length (drop 32 c.loop-left.left) = ap length c.rest-left.ensures in
    let fewer : length c.rest-left.result < length c.loop-left.left
    = omega (arith, some, front, rest, length-take 32 c.loop-left.left, length-drop 32 c.loop-left.left) in
    fewer

pub loop-left-preserved : goal.loop-left-preserved
loop-left-preserved c = record {
  cells = subst (All (λ e. e < 524288)) (sym c.rest-left.ensures) (All-drop (λ e. e < 524288) 32 c.loop-left.left c.loop-left.invariant.cells);
  begins = subst (IsPartitionedBy (λ e. ltb e (65536 * c.args.across.first))) (sym c.rest-left.ensures)
      (parted_drop (λ e. ltb e (65536 * c.args.across.first)) c.loop-left.left c.loop-left.invariant.begins 32);
  ends = subst (IsPartitionedBy (λ e. ltb e (65536 * c.args.across.end))) (sym c.rest-left.ensures)
      (parted_drop (λ e. ltb e (65536 * c.args.across.end)) c.loop-left.left c.loop-left.invariant.ends 32);
  written = λ k from low.
      let left : List ℕ = c.loop-left.left in
      let other : ℕ = get_or c.loop-left.cases k 0 in
      ap (λ o. last_case o c.rest-left.result k) (c.fill_page.ensures k from (omega (arith, low, c.requires.end)))
      ∙ (ap (λ page. last_case (last_case other page k) c.rest-left.result k) c.front-in-loop-left.ensures
      ∙ (ap (λ rest. last_case (last_case other (take 32 left) k) rest k) c.rest-left.ensures
      ∙ (case_rest other left 32 k ∙ c.loop-left.invariant.written k from low)));
}

pub returns : goal.returns
returns c = λ k from low.
    let left : List ℕ = c.loop-left.left in
    let first : 0 < length left → 65536 * c.args.across.end ≤ get_or left 0 0
    = λ some.
    let front : length c.front.result.now ≡ length (take 32 left) = ap length c.front.ensures in
    let here : get_or c.front.result.now 0 0 ≡ get_or left 0 0 = ap (λ page. get_or page 0 0) c.front.ensures ∙ get_or-take 32 left 0 0 (omega arith) in
    let behind : 65536 * c.args.across.end ≤ get_or c.front.result.now 0 0
    = c.begin_before.ensures.behind c.loop-left-test.false (omega (arith, some, front, length-take 32 left)) in
    omega (arith, behind, here) in
    sym (none_behind c.args.across.end left c.loop-left.invariant.ends first (get_or c.loop-left.cases k 0) k low) ∙ c.loop-left.invariant.written k from low
