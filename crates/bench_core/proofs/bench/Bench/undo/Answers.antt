use Rattle.std.proofs.Common.{◌∙◌, ap, sym, subst}
use Rattle.edit_log.specs.Changes.{before, area_of, moment}
use Rattle.bench_core.specs.Machine.{undo_step}
use Rattle.bench_core.specs.Keeping.{Workbench, first_area, without_points}
use Rattle.bench_core.specs.History.{IsHistory, state_of}
use Rattle.bench_core.proofs.Histories.{taken_back, nothing_back, newest_points, newest_suits}
use Rattle.bench_core.proofs.Staying.{before_agrees, before_moves, followed, room_moved, tree_fits}
use Rattle.bench_core.proofs.bench.Bench.undo.Goals as goal

pub invariant_of-self : goal.invariant_of-self
invariant_of-self c =
    let b = c.self.inside in
    let none = nothing_back b.store b.level b.log c.undo.follows.lender-at-none (sym c.in_default.ensures.change) c.undo.follows.holds-at-none in
    (subst (IsHistory b.store b.level) (sym none.0) c.self.invariant.0, c.self.invariant.1)

pub returns-in_default-clause-step : goal.returns-in_default-clause-step
returns-in_default-clause-step c =
    let b = c.self.inside in
    let none = nothing_back b.store b.level b.log c.undo.follows.lender-at-none (sym c.in_default.ensures.change) c.undo.follows.holds-at-none in
    record {
      done = tt;
      refused = (
        ap (state_of b.store b.level) none.0 ∙ ap (λ (w : Workbench). w.state) c.self.view_is,
        ap (λ (w : Workbench). undo_step w.state) (sym c.self.view_is) ∙ none.1,
      );
    }

pub area-area-requires : goal.area-area-requires
area-area-requires c = newest_suits c.self.inside.store c.self.inside.level c.self.inside.log c.in-Some.change.now c.self.invariant.0 (sym c.in-Some.ensures.change)

pub take_back-requires : goal.take_back-requires
take_back-requires c = newest_suits c.self.inside.store c.self.inside.level c.self.inside.log c.in-Some.change.now c.self.invariant.0 (sym c.in-Some.ensures.change)

pub follow-requires-clause-grid : goal.follow-requires-clause-grid
follow-requires-clause-grid c =
    let b = c.self.inside in
    let change = c.in-Some.change.now in
    tree_fits b.store c.take_back.new.store c.take_back.new.level (before change (moment b.store b.level)) (area_of b.store.grid change) b.tree b.cache
    (before_agrees change (moment b.store b.level) c.self.invariant.0.state.volume) c.self.invariant.1.0 c.take_back.ensures

pub invariant_of-self-2 : goal.invariant_of-self-2
invariant_of-self-2 c =
    let b = c.self.inside in
    let change = c.in-Some.change.now in
    let moved = taken_back b.store b.level b.log change c.self.invariant.0 (sym c.in-Some.ensures.change)
    c.take_back.new.store c.take_back.new.level c.undo.follows.lender-at-none c.take_back.ensures c.undo.follows.holds-at-none in (
      moved.0,
      (
        (followed b.store c.take_back.new.store c.take_back.new.level (before change (moment b.store b.level)) (area_of b.store.grid change) c.area-area.result b.tree c.follow.new.tree b.cache c.follow.new.cache
            (before_agrees change (moment b.store b.level) c.self.invariant.0.state.volume) c.self.invariant.1.0 c.take_back.ensures c.area-area.ensures c.follow.ensures.tree c.follow.ensures.cache).0,
        room_moved b.store c.take_back.new.store b.level c.take_back.new.level (before change (moment b.store b.level)) (area_of b.store.grid change) c.area-area.result b.room c.forget_rows.new.room
            (before_moves change (moment b.store b.level) c.self.invariant.0.state.volume) c.take_back.ensures c.area-area.ensures c.forget_rows.ensures c.self.invariant.1.1,
      ),
    )

pub returns-clause-step : goal.returns-clause-step
returns-clause-step c =
    let b = c.self.inside in
    let moved = taken_back b.store b.level b.log c.in-Some.change.now c.self.invariant.0 (sym c.in-Some.ensures.change)
    c.take_back.new.store c.take_back.new.level c.undo.follows.lender-at-none c.take_back.ensures c.undo.follows.holds-at-none in
    record { done = ap (λ (w : Workbench). undo_step w.state) (sym c.self.view_is) ∙ moved.1; refused = tt }

pub returns-clause-kept : goal.returns-clause-kept
returns-clause-kept c =
    let b = c.self.inside in
    let change = c.in-Some.change.now in
    (followed b.store c.take_back.new.store c.take_back.new.level (before change (moment b.store b.level)) (area_of b.store.grid change) c.area-area.result b.tree c.follow.new.tree b.cache c.follow.new.cache
    (before_agrees change (moment b.store b.level) c.self.invariant.0.state.volume) c.self.invariant.1.0 c.take_back.ensures c.area-area.ensures c.follow.ensures.tree c.follow.ensures.cache).1
    ∙ (ap (λ a. without_points b.store.grid a b.cache) (sym (newest_points b.store b.level b.log change c.self.invariant.0 (sym c.in-Some.ensures.change)))
    ∙ ap (λ (w : Workbench). without_points w.state.volume.grid (first_area w.state.past) w.cache) c.self.view_is)
