use Rattle.std.proofs.Common.{◌≡◌, ℕ, ◌<◌, ◌≤◌, ◌⊎◌, true, false, length, take, not}
use Rattle.std.specs.List.{count_by}
use Rattle.iso_defs.specs.Lists.{begins, ends}
use Rattle.mesh_check.proofs.marks.ends_of.Given as goal

abbrev pub invariant-loop-begin : goal.invariant-loop-begin
invariant-loop-begin l = record {
  begun : begins l.arcs l.start ≡ true;
  below : l.start < length l.marks;
  few : l.loose ≤ l.begin-index;
  loose : l.loose ≡ count_by (λ (p : ℕ × ℕ). not (ends l.arcs p.0)) (take l.begin-index l.arcs);
  start : (ends l.arcs l.start ≡ false) ⊎ (l.loose ≡ 0);
}
