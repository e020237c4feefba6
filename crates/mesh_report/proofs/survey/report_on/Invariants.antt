use Rattle.std.proofs.Common.{◌≡◌, ℕ, ◌<◌, ◌≤◌, map, take, length}
use Rattle.std.specs.List.{All}
use Rattle.indexmap.specs.IndexMap.{keys, values}
use Rattle.mesh_report.specs.Tallies.{part_with, tally_at}
use Rattle.mesh_report.proofs.survey.report_on.Given as goal

abbrev pub invariant-loop-tally : goal.invariant-loop-tally
invariant-loop-tally l = record {
  named : (j : ℕ) → l.tally-index ≤ j → j < length l.counts.each.items → All (λ v. v < (tally_at l.counts.each.items j).least) (keys l.parts);
  parts : values l.parts ≡ map part_with (take l.tally-index l.counts.each.items);
}
