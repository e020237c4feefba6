use Rattle.std.proofs.Common.{◌≡◌, ◌∙◌, ap, sym, subst}
use Rattle.edit_log.specs.Changes.{Suits, after, area_of, before, moment}
use Rattle.bench_core.specs.Keeping.{Workbench, without_points}
use Rattle.bench_core.specs.Machine.{IsAbovePad, changed}
use Rattle.bench_core.proofs.Histories.{made}
use Rattle.bench_core.proofs.Filling.{filled_after}
use Rattle.bench_core.proofs.Staying.{after_agrees, after_moves, followed, room_moved, tree_fits}
use Rattle.bench_core.proofs.bench.Bench.make.Goals as goal

pub area-area-requires : goal.area-area-requires
area-area-requires c = subst (λ (w : Workbench). Suits w.state.volume c.args.change) (sym c.self.view_is) c.requires.suits

pub make-requires : goal.make-requires
make-requires c = subst (λ (w : Workbench). Suits w.state.volume c.args.change) (sym c.self.view_is) c.requires.suits

pub follow-requires-clause-grid : goal.follow-requires-clause-grid
follow-requires-clause-grid c =
    let b = c.self.inside in
    let change = c.args.change in
    tree_fits b.store c.make.new.store c.make.new.level (after change (moment b.store b.level)) (area_of b.store.grid change) b.tree b.cache
    (after_agrees change (moment b.store b.level) c.self.invariant.0.state.volume) c.self.invariant.1.0 c.make.ensures

pub follow-requires-clause-filled : goal.follow-requires-clause-filled
follow-requires-clause-filled c =
    let b = c.self.inside in
    filled_after c.args.change b.store c.make.new.store b.level c.make.new.level c.value-value.result c.area-area.result
    c.self.invariant.0.state.volume c.make.ensures c.area-area.ensures c.value-value.ensures

pub invariant_of-self : goal.invariant_of-self
invariant_of-self c =
    let b = c.self.inside in
    let change = c.args.change in
    let suits : Suits b.store change = subst (λ (w : Workbench). Suits w.state.volume change) (sym c.self.view_is) c.requires.suits in
    let back : before change (after change (moment b.store b.level)) ≡ moment b.store b.level
    = subst (λ (w : Workbench). before change (after change (moment w.state.volume w.state.level)) ≡ moment w.state.volume w.state.level) (sym c.self.view_is) c.requires.back in
    let above : IsAbovePad b.store.pad (after change (moment b.store b.level)).level
    = subst (λ (w : Workbench). IsAbovePad w.state.volume.pad (after change (moment w.state.volume w.state.level)).level) (sym c.self.view_is) c.requires.above in (
      (made b.store b.level b.log change c.self.invariant.0 suits back c.make.new.store c.make.new.level c.push.new.self c.make.ensures c.push.ensures c.sizes.ensures.volume above).0,
      (
        (followed b.store c.make.new.store c.make.new.level (after change (moment b.store b.level)) (area_of b.store.grid change) c.area-area.result b.tree c.follow.new.tree b.cache c.follow.new.cache
            (after_agrees change (moment b.store b.level) c.self.invariant.0.state.volume) c.self.invariant.1.0 c.make.ensures c.area-area.ensures c.follow.ensures.tree c.follow.ensures.cache).0,
        room_moved b.store c.make.new.store b.level c.make.new.level (after change (moment b.store b.level)) (area_of b.store.grid change) c.area-area.result b.room c.forget_rows.new.room
            (after_moves change (moment b.store b.level) c.self.invariant.0.state.volume) c.make.ensures c.area-area.ensures c.forget_rows.ensures c.self.invariant.1.1,
      ),
    )

pub returns-clause-state : goal.returns-clause-state
returns-clause-state c =
    let b = c.self.inside in
    let change = c.args.change in
    let suits : Suits b.store change = subst (λ (w : Workbench). Suits w.state.volume change) (sym c.self.view_is) c.requires.suits in
    let back : before change (after change (moment b.store b.level)) ≡ moment b.store b.level
    = subst (λ (w : Workbench). before change (after change (moment w.state.volume w.state.level)) ≡ moment w.state.volume w.state.level) (sym c.self.view_is) c.requires.back in
    let above : IsAbovePad b.store.pad (after change (moment b.store b.level)).level
    = subst (λ (w : Workbench). IsAbovePad w.state.volume.pad (after change (moment w.state.volume w.state.level)).level) (sym c.self.view_is) c.requires.above in
    (made b.store b.level b.log change c.self.invariant.0 suits back c.make.new.store c.make.new.level c.push.new.self c.make.ensures c.push.ensures c.sizes.ensures.volume above).1
    ∙ ap (λ (w : Workbench). changed w.state (after change (moment w.state.volume w.state.level)).volume.samples (after change (moment w.state.volume w.state.level)).level (area_of w.state.volume.grid change)) c.self.view_is

pub returns-clause-kept : goal.returns-clause-kept
returns-clause-kept c =
    let b = c.self.inside in
    let change = c.args.change in
    (followed b.store c.make.new.store c.make.new.level (after change (moment b.store b.level)) (area_of b.store.grid change) c.area-area.result b.tree c.follow.new.tree b.cache c.follow.new.cache
    (after_agrees change (moment b.store b.level) c.self.invariant.0.state.volume) c.self.invariant.1.0 c.make.ensures c.area-area.ensures c.follow.ensures.tree c.follow.ensures.cache).1
    ∙ ap (λ (w : Workbench). without_points w.state.volume.grid (area_of w.state.volume.grid change) w.cache) c.self.view_is
