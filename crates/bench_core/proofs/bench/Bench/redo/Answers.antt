use Rattle.std.proofs.Common.{◌∙◌, ap, sym, subst}
use Rattle.edit_log.specs.Changes.{after, area_of, moment}
use Rattle.bench_core.specs.Machine.{redo_step}
use Rattle.bench_core.specs.Keeping.{Workbench, first_area, without_points}
use Rattle.bench_core.specs.History.{IsHistory, state_of}
use Rattle.bench_core.proofs.Histories.{made_again, nothing_forward, next_points, next_suits}
use Rattle.bench_core.proofs.Filling.{filled_after}
use Rattle.bench_core.proofs.Staying.{after_agrees, after_moves, followed, room_moved, tree_fits}
use Rattle.bench_core.proofs.bench.Bench.redo.Goals as goal

pub invariant_of-self : goal.invariant_of-self
invariant_of-self c =
    let b = c.self.inside in
    let none = nothing_forward b.store b.level b.log c.redo.follows.lender-at-none (sym c.in_default.ensures.change) c.redo.follows.holds-at-none in
    (subst (IsHistory b.store b.level) (sym none.0) c.self.invariant.0, c.self.invariant.1)

pub returns-in_default-clause-step : goal.returns-in_default-clause-step
returns-in_default-clause-step c =
    let b = c.self.inside in
    let none = nothing_forward b.store b.level b.log c.redo.follows.lender-at-none (sym c.in_default.ensures.change) c.redo.follows.holds-at-none in
    record {
      done = tt;
      refused = (
        ap (state_of b.store b.level) none.0 ∙ ap (λ (w : Workbench). w.state) c.self.view_is,
        ap (λ (w : Workbench). redo_step w.state) (sym c.self.view_is) ∙ none.1,
      );
    }

pub area-area-requires : goal.area-area-requires
area-area-requires c = next_suits c.self.inside.store c.self.inside.level c.self.inside.log c.in-Some.change.now c.self.invariant.0 (sym c.in-Some.ensures.change)

pub make-requires : goal.make-requires
make-requires c = next_suits c.self.inside.store c.self.inside.level c.self.inside.log c.in-Some.change.now c.self.invariant.0 (sym c.in-Some.ensures.change)

pub follow-requires-clause-grid : goal.follow-requires-clause-grid
follow-requires-clause-grid c =
    let b = c.self.inside in
    let change = c.in-Some.change.now in
    tree_fits b.store c.make.new.store c.make.new.level (after change (moment b.store b.level)) (area_of b.store.grid change) b.tree b.cache
    (after_agrees change (moment b.store b.level) c.self.invariant.0.state.volume) c.self.invariant.1.0 c.make.ensures

pub follow-requires-clause-filled : goal.follow-requires-clause-filled
follow-requires-clause-filled c =
    let b = c.self.inside in
    filled_after c.in-Some.change.now b.store c.make.new.store b.level c.make.new.level c.value-filled.result c.area-area.result
    c.self.invariant.0.state.volume c.make.ensures c.area-area.ensures c.value-filled.ensures

pub invariant_of-self-2 : goal.invariant_of-self-2
invariant_of-self-2 c =
    let b = c.self.inside in
    let change = c.in-Some.change.now in
    let moved = made_again b.store b.level b.log change c.self.invariant.0 (sym c.in-Some.ensures.change)
    c.make.new.store c.make.new.level c.redo.follows.lender-at-none c.make.ensures c.redo.follows.holds-at-none in (
      moved.0,
      (
        (followed b.store c.make.new.store c.make.new.level (after change (moment b.store b.level)) (area_of b.store.grid change) c.area-area.result b.tree c.follow.new.tree b.cache c.follow.new.cache
            (after_agrees change (moment b.store b.level) c.self.invariant.0.state.volume) c.self.invariant.1.0 c.make.ensures c.area-area.ensures c.follow.ensures.tree c.follow.ensures.cache).0,
        room_moved b.store c.make.new.store b.level c.make.new.level (after change (moment b.store b.level)) (area_of b.store.grid change) c.area-area.result b.room c.forget_rows.new.room
            (after_moves change (moment b.store b.level) c.self.invariant.0.state.volume) c.make.ensures c.area-area.ensures c.forget_rows.ensures c.self.invariant.1.1,
      ),
    )

pub returns-clause-step : goal.returns-clause-step
returns-clause-step c =
    let b = c.self.inside in
    let moved = made_again b.store b.level b.log c.in-Some.change.now c.self.invariant.0 (sym c.in-Some.ensures.change)
    c.make.new.store c.make.new.level c.redo.follows.lender-at-none c.make.ensures c.redo.follows.holds-at-none in
    record { done = ap (λ (w : Workbench). redo_step w.state) (sym c.self.view_is) ∙ moved.1; refused = tt }

pub returns-clause-kept : goal.returns-clause-kept
returns-clause-kept c =
    let b = c.self.inside in
    let change = c.in-Some.change.now in
    (followed b.store c.make.new.store c.make.new.level (after change (moment b.store b.level)) (area_of b.store.grid change) c.area-area.result b.tree c.follow.new.tree b.cache c.follow.new.cache
    (after_agrees change (moment b.store b.level) c.self.invariant.0.state.volume) c.self.invariant.1.0 c.make.ensures c.area-area.ensures c.follow.ensures.tree c.follow.ensures.cache).1
    ∙ (ap (λ a. without_points b.store.grid a b.cache) (sym (next_points b.store b.level b.log change c.self.invariant.0 (sym c.in-Some.ensures.change)))
    ∙ ap (λ (w : Workbench). without_points w.state.volume.grid (first_area w.state.future) w.cache) c.self.view_is)
