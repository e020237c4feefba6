use Rattle.std.proofs.Common.{◌%◌, ◌/◌, arith, get_or, inl, inr, set, subst, sym, [], ◌≡◌}
use Rattle.std.proofs.lemmas.Bool.{cases_lt}
use Rattle.std.proofs.lemmas.List.{get_or-set_other, get_or-set_same}
use Rattle.mesh_walk.specs.Listed.{HasCorners}
use Rattle.mesh_walk.proofs.CornerLanes.{table_by}
use Rattle.mesh_walk.proofs.corners.CornerSlots.fill.Goals as goal

pub loop-side-preserved : goal.loop-side-preserved
loop-side-preserved c =
    let side = c.loop-side.side in
    let tables = c.loop-side.self.tables in
    let done = table_by (side % 2) (side / 2) c.corner_slots.result c.fill_table.new.table c.corner_slots.ensures c.fill_table.ensures in
    record {
      filled = λ s low. elim (cases_lt s side) [
        | inl earlier ↦ subst (HasCorners (s % 2) (s / 2)) (sym (get_or-set_other tables side s _ [] (λ e. omega (arith, e, earlier)))) (c.loop-side.invariant.filled s earlier)
        | inr last ↦ (
            let same : side ≡ s = omega (arith, low, last) in
            subst (λ s. HasCorners (s % 2) (s / 2) (get_or (set tables side c.fill_table.new.table) s [])) same
            (subst (HasCorners (side % 2) (side / 2)) (sym (get_or-set_same tables side _ [] (omega (arith, c.loop-side-test.true)))) done))
      ];
    }
