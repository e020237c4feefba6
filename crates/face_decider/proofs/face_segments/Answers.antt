use Rattle.std.proofs.Common.{◌≡◌, ◌+◌, cond}
use Rattle.face_decider.proofs.Rows.{row_ends, row_segments}
use Rattle.face_decider.proofs.face_segments.Goals as goal
use Rattle.face_decider.proofs.face_segments.Goals.{then-joined, else-joined}

pub returns-clause-ends : goal.returns-clause-ends
returns-clause-ends c =
    let at : c.if-joined.row ≡ cond c.args.joined (c.args.signs + 16) c.args.signs =
    elim c.if-joined.branch [ then-joined w ↦ rw w.if-joined.true w.row-is | else-joined w ↦ rw w.if-joined.false w.row-is ] in
    row_ends c.args.signs c.if-joined.row c.args.joined at c.requires

pub returns-clause-segments : goal.returns-clause-segments
returns-clause-segments c =
    let at : c.if-joined.row ≡ cond c.args.joined (c.args.signs + 16) c.args.signs =
    elim c.if-joined.branch [ then-joined w ↦ rw w.if-joined.true w.row-is | else-joined w ↦ rw w.if-joined.false w.row-is ] in
    row_segments c.args.signs c.if-joined.row c.args.joined at c.requires
