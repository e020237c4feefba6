use Rattle.std.proofs.Common.{◌≡◌, ◌∙◌, length, All, ap, sym, subst, true, ℤ}
use Rattle.std.specs.Prelude.{Option, MatchOption, not}
use Rattle.iso_defs.specs.Grid.{is_outer}
use Rattle.iso_base.specs.Volume.{IsOfKind, Volume}
use Rattle.edit_log.specs.Log.{IsBox, IsInnerArea}
use Rattle.edit_log.proofs.Inverses.{length-area_samples, area_samples_are}
use Rattle.brick_tests.proofs.changes.is_put_back.Goals as goal

pub write_back-requires-clause-count : goal.write_back-requires-clause-count
write_back-requires-clause-count c =
    ap length c.in_ok-old.ensures ∙ length-area_samples c.args.store.now.grid c.args.area.now c.args.store.now.samples

pub write_back-requires-clause-kind : goal.write_back-requires-clause-kind
write_back-requires-clause-kind c =
    let v = c.args.store.now in
    let is : IsBox v.grid c.args.area.now = record { area = c.low.ensures.area; high = c.requires.high } in
    let inner : IsInnerArea v c.args.area.now
    = λ p low within. subst (λ (o : Option ℤ). MatchOption o (Unit {0}) (λ _. not (is_outer v.grid p) ≡ true)) (sym c.requires.pad) tt in
    subst (λ k. All (IsOfKind k) c.in_ok-old.old) (sym (ap (λ (w : Volume). w.kind) c.fill_area.ensures))
    (subst (All (IsOfKind v.kind)) (sym c.in_ok-old.ensures) (area_samples_are v c.args.area.now c.sizes.ensures.volume is inner))
