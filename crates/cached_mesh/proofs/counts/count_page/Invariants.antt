use Rattle.std.proofs.Common.{◌≡◌, ◌+◌, drop}
use Rattle.brick_rows.specs.Named.{centres_of_entries, triangles_of_entries}
use Rattle.cached_mesh.proofs.counts.count_page.Given as goal

abbrev pub invariant-loop-entry : goal.invariant-loop-entry
invariant-loop-entry l = record {
  centres : l.counts.centres + centres_of_entries (drop l.entry-index l.page) ≡ l.initial.counts.centres + centres_of_entries l.page;
  faces : l.counts.faces + triangles_of_entries (drop l.entry-index l.page) ≡ l.initial.counts.faces + triangles_of_entries l.page;
}
