use Rattle.std.proofs.Common.{◌≡◌, ◌∙◌, ◌+◌, ◌*◌, ◌++◌, ◌<◌, ◌≤◌, List, ℕ, take, ap, sym, subst, length, arith, get_or, []}
use Rattle.cell_loops.specs.Loops.{row_loops}
use Rattle.flat_mesh.specs.Faces.{loops_at}
use Rattle.flat_mesh.specs.Lattice.{heights}
use Rattle.part_laws.specs.Loops.{Loop, loops_in}
use Rattle.component_walk.specs.Sums.{IsLoopIn}
use Rattle.component_walk.specs.Walks.{IsWalked, loops_before}
use Rattle.component_walk.proofs.CellLaws.{all_turns, before_cell, cell_there, few_so_far, loop_is, no_turns, this, turn_more}
use Rattle.component_walk.proofs.cells.add_cell.Goals as goal

pub loop-turn-init : goal.loop-turn-init
loop-turn-init g c =
    let v = g.H.Heights.leveled c.args.field.now in
    subst (λ (ls : List Loop). IsWalked g.T.Tally.value g.T.Tally.fits g.T.Tally.of_loop v (c.args.cell.low.y + v.grid.ny * c.args.cell.low.z) ls c.args.walked.now.labels c.args.walked.now.tallies.items c.args.walked.now.edges)
    (sym (no_turns v c.args.cell.index (loops_before v c.args.cell.index))) c.requires.state

pub add_loop-requires-clause-state : goal.add_loop-requires-clause-state
add_loop-requires-clause-state g c =
    let v = g.H.Heights.leveled c.args.field.now in
    record {
      loops = loops_before v c.args.cell.index ++ take c.loop-turn.turn (loops_in v.grid (heights v) c.args.cell.index);
      few = few_so_far v c.args.cell.index c.loop-turn.turn (cell_there v c.args.cell c.sizes.ensures.leveled.grid c.requires.cell).1;
      walked = c.loop-turn.invariant;
    }

pub loop-turn-preserved : goal.loop-turn-preserved
loop-turn-preserved g c =
    let v = g.H.Heights.leveled c.args.field.now in
    let q : ℕ = c.args.cell.index in
    let turn : ℕ = c.loop-turn.turn in
    let same : row_loops c.of-case.result ≡ loops_at v q = ap row_loops c.of-case.ensures ∙ c.requires.case.loops in
    let long : length (row_loops c.of-case.result) ≡ length (loops_at v q) = ap (λ (l : List (List ℕ)). length l) same in
    let low : turn < length (loops_at v q) = omega (arith, long, c.loop_count-turn-end.ensures.value, c.loop-turn-test.true) in
    let edges : get_or (loops_at v q) turn [] ≡ c.loop_edges.result.now = sym (c.loop_edges.ensures.value ∙ ap (λ (l : List (List ℕ)). get_or l turn []) same) in
    subst (λ (ls : List Loop). IsWalked g.T.Tally.value g.T.Tally.fits g.T.Tally.of_loop v (c.args.cell.low.y + v.grid.ny * c.args.cell.low.z) ls c.add_loop.new.self.labels c.add_loop.new.self.tallies.items c.add_loop.new.self.edges)
    (turn_more v q turn low (loops_before v q))
    (c.in_ok-add_loop.ensures (loops_before v q ++ take turn (loops_in v.grid (heights v) q)) (this v q turn low) (subst (λ es. IsLoopIn v q es (this v q turn low)) edges (loop_is v q turn low)) c.loop-turn.invariant)

pub returns : goal.returns
returns g c =
    let v = g.H.Heights.leveled c.args.field.now in
    let q : ℕ = c.args.cell.index in
    let turn : ℕ = c.loop-turn.turn in
    let same : row_loops c.of-case.result ≡ loops_at v q = ap row_loops c.of-case.ensures ∙ c.requires.case.loops in
    let long : length (row_loops c.of-case.result) ≡ length (loops_at v q) = ap (λ (l : List (List ℕ)). length l) same in
    let low : length (loops_at v q) ≤ turn = omega (arith, long, c.loop_count-turn-end.ensures.value, c.loop-turn-test.false) in
    subst (λ (ls : List Loop). IsWalked g.T.Tally.value g.T.Tally.fits g.T.Tally.of_loop v (c.args.cell.low.y + v.grid.ny * c.args.cell.low.z) ls c.loop-turn.walked.labels c.loop-turn.walked.tallies.items c.loop-turn.walked.edges)
    (all_turns v q turn (loops_before v q) low ∙ sym (before_cell v q (cell_there v c.args.cell c.sizes.ensures.leveled.grid c.requires.cell).0)) c.loop-turn.invariant
