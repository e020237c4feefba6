use Rattle.std.proofs.Common.{◌≡◌, ◌-◌, ◌*◌, ◌^◌, ◌<◌, ◌≤◌, All, get_or}
use Rattle.measure.specs.Measures.{IsWithin, vector_of}
use Rattle.measure_laws.specs.Vectors.{plus}
use Rattle.part_laws.specs.Swept.{swept}
use Rattle.component_walk.specs.Local.{listed, local_vertex}
use Rattle.component_walk.specs.Sweep.{vector_at}
use Rattle.component_walk.proofs.RoundLaws.{IsSumTo, left}
use Rattle.component_walk.proofs.rounds.round_of.Given as goal

abbrev pub invariant-loop-at : goal.invariant-loop-at
invariant-loop-at l = record {
  least : 1 ≤ l.at;
  last : l.last ≡ listed (local_vertex l.heights (get_or l.edges (l.at - 1) 0));
  swept : plus (vector_of l.swept) (left (λ e. vector_at (local_vertex l.heights e)) l.edges l.at) ≡ swept (λ e. vector_at (local_vertex l.heights e)) l.edges;
  small : IsWithin (1000000 * (l.at - 1)) (vector_of l.swept);
  sum : IsSumTo (local_vertex l.heights) l.edges l.at l.sum;
  low : All (λ c. c ≤ 1000) l.last;
  few : l.sum < 2 ^ 42 * l.at;
}
