use Rattle.std.proofs.Common.{◌≡◌, ℕ, take}
use Rattle.std.specs.List.{sum_by}
use Rattle.iso_defs.specs.Lists.{below}
use Rattle.measure_laws.specs.Vectors.{total}
use Rattle.component_walk.specs.Sums.{FitEach}
use Rattle.component_walk.proofs.tally.sum_of.Given as goal

abbrev pub invariant-loop-tally : goal.invariant-loop-tally
invariant-loop-tally g l = record {
  values : (i : ℕ) → g.T.Tally.value l.sum i ≡ total (λ t. g.T.Tally.value t i) (take l.tally-index l.tallies);
  fits : (n : ℕ → ℕ) → FitEach g.T.Tally.fits n l.tallies → g.T.Tally.fits (sum_by n (below l.tally-index)) l.sum;
}
