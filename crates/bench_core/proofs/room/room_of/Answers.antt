use Rattle.std.proofs.Common.{◌∙◌, ap, sym}
use Rattle.edge_points.specs.Rows.{RowNumbers}
use Rattle.bench_core.proofs.room.room_of.Goals as goal

pub returns : goal.returns
returns c v level same =
    c.in_ok-room.ensures.room v level (same ∙ sym (ap (λ (r : RowNumbers). r.grid) (c.set_room.ensures ∙ c.in_ok-ranks.ensures)))
