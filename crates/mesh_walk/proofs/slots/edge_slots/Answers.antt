use Rattle.std.proofs.Common.{◌≤◌, refl, sym, subst}
use Rattle.mesh_walk.proofs.SlotRows.{slot_low, slots_are}
use Rattle.mesh_walk.proofs.slots.edge_slots.Goals as goal

pub returns-clause-slots : goal.returns-clause-slots
returns-clause-slots c =
    slots_are c.args.y c.args.z _ _ _ _ c.row_slot-near.ensures.value c.row_slot-up.ensures.value c.row_slot-far.ensures.value c.row_slot-diagonal.ensures.value _ refl

pub returns-clause-bound : goal.returns-clause-bound
returns-clause-bound c = λ e low.
    subst (λ n. n ≤ 9239)
    (sym (slots_are c.args.y c.args.z _ _ _ _ c.row_slot-near.ensures.value c.row_slot-up.ensures.value c.row_slot-far.ensures.value c.row_slot-diagonal.ensures.value _ refl e low))
    (slot_low c.args.y c.args.z e low)
