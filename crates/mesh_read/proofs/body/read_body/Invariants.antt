use Rattle.std.proofs.Common.{length, ◌≤◌}
use Rattle.mesh_read.proofs.PlyBody.{IsRead}
use Rattle.mesh_read.proofs.body.read_body.Given as goal

abbrev pub invariant-loop-present : goal.invariant-loop-present
invariant-loop-present l = IsRead l.vertices l.before l.faces l.needed l.first l.bytes l.present l.number l.triangles.items l.rest

abbrev pub decreases-loop-present : goal.decreases-loop-present
decreases-loop-present l = length l.rest

abbrev pub invariant-plain : goal.invariant-plain
invariant-plain l = record {
  read : IsRead l.vertices l.before l.faces l.needed l.first l.bytes l.present l.number l.triangles.items l.rest;
  shorter : length l.rest ≤ length l.initial.rest;
}

abbrev pub decreases-plain : goal.decreases-plain
decreases-plain l = length l.rest
