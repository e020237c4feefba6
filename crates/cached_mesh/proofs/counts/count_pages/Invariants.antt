use Rattle.std.proofs.Common.{◌≡◌, ◌+◌, ◌%◌, ◌<◌, All, length}
use Rattle.brick_rows.specs.Named.{centres_of_entries, triangles_of_entries}
use Rattle.cached_mesh.proofs.counts.count_pages.Given as goal

abbrev pub invariant-loop-left : goal.invariant-loop-left
invariant-loop-left l = record {
  cases : All (λ e. e % 1024 < 656) l.left;
  centres : l.counts.centres + centres_of_entries l.left ≡ centres_of_entries l.fn.entries;
  faces : l.counts.faces + triangles_of_entries l.left ≡ triangles_of_entries l.fn.entries;
}

abbrev pub decreases-loop-left : goal.decreases-loop-left
decreases-loop-left l = length l.left
