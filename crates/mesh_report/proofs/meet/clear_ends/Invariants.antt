use Rattle.std.proofs.Common.{◌≡◌, ℕ, ◌<◌, take}
use Rattle.mesh_report.specs.declared.meet.Met.TheVariants.{Never}
use Rattle.mesh_report.specs.Meetings.{mark_at}
use Rattle.mesh_report.specs.Named.{named}
use Rattle.mesh_report.proofs.meet.clear_ends.Given as goal

abbrev pub invariant-loop-begin : goal.invariant-loop-begin
invariant-loop-begin l = record {
  ends : (w : ℕ) → 0 < named (take l.begin-index l.arcs) w → mark_at l.marks w ≡ Never;
  clear : (w : ℕ) → mark_at l.initial.marks w ≡ Never → mark_at l.marks w ≡ Never;
}
