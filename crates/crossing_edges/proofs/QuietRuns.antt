-- Runs of points from which no crossing edge begins.
use Rattle.std.proofs.Common.{◌≡◌, ℕ, zero, suc, ◌+◌, ◌<◌, ◌≤◌, List, length, get_or, take, ap, ◌∙◌, arith}
use Rattle.std.specs.List.{sum_by}
use Rattle.std.proofs.lemmas.List.Sums.{sum_by_more}
use Rattle.crossing_edges.specs.Flags.{edges_in}

-- as many crossing edges begin before each of them as before the first
pub sum_stays : (flags : List ℕ) (from n k : ℕ) → from + n ≤ length flags → ((k : ℕ) → k < n → get_or flags (from + k) 0 ≡ 0) → k ≤ n
    → sum_by edges_in (take (from + k) flags) ≡ sum_by edges_in (take from flags)
sum_stays flags from n zero room none few = ap (λ m. sum_by edges_in (take m flags)) (omega arith)
sum_stays flags from n (suc k) room none few =
    let e : from + suc k ≡ from + k + 1 = omega arith in
    let more : sum_by edges_in (take (from + k + 1) flags) ≡ sum_by edges_in (take (from + k) flags) + edges_in (get_or flags (from + k) 0)
    = sum_by_more edges_in flags (from + k) 0 (omega arith) in
    let zeros : edges_in (get_or flags (from + k) 0) ≡ 0 = ap edges_in (none k (omega arith)) in
    let before : sum_by edges_in (take (from + k) flags) ≡ sum_by edges_in (take from flags) = sum_stays flags from n k room none (omega arith) in
    ap (λ m. sum_by edges_in (take m flags)) e ∙ omega (arith, more, zeros, before)
