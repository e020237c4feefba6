use Rattle.std.proofs.Common.{◌≡◌, ℕ, take, length, sym, ◌∙◌, zero-add, arith}
use Rattle.std.specs.List.{sum}
use Rattle.std.proofs.lemmas.List.{ext_get_or}
use Rattle.std.proofs.lemmas.List.FromFn.{get_or-map-range_with_len, length-map-range_with_len}
use Rattle.edge_points.specs.Rows.{sums_before}
use Rattle.edge_points.proofs.row_ranks.add_up.Goals as goal

pub returns : goal.returns
returns c =
    let before : ℕ → ℕ = λ k. sum (take k c.args.numbers.now) in
    let n : ℕ = length c.args.numbers.now in
    let same : length c.loop-row.numbers ≡ n = c.loop-row.auto.numbers in
    ext_get_or 0 c.loop-row.numbers (sums_before c.args.numbers.now) (same ∙ sym (length-map-range_with_len before 0 n))
    (λ i h. c.loop-row.invariant.done i (omega arith) ∙ sym (get_or-map-range_with_len before 0 n i i 0 (omega arith) (zero-add i)))
