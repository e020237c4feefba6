use Rattle.std.proofs.Common.{◌≡◌, ◌∙◌, ℕ, ◌+◌, ◌-◌, ◌<◌, ◌++◌, List, ap, drop, get_or, length, take, zero-add, arith}
use Rattle.std.specs.Simd.Lanes.{chunk, put_chunk}
use Rattle.std.proofs.lemmas.List.{get_or-append_right, get_or_append_left, length-drop, length-take, length-take-le}
use Rattle.std.proofs.lemmas.Simd.{get_or-chunk, length-chunk, put_chunk_whole}
use Rattle.brick_rows.proofs.cases.fill_run.Goals as goal

-- a number of a run that stands between two lists
placed : (front run behind : List ℕ) (start k : ℕ) → length front ≡ start → k < length run → get_or (front ++ (run ++ behind)) (start + k) 0 ≡ get_or run k 0
placed front run behind start k long low =
    let at : start + k - start ≡ k = omega arith in
    get_or-append_right front (run ++ behind) start (start + k) 0 long (omega arith)
    ∙ (ap (λ n. get_or (run ++ behind) n 0) at ∙ get_or_append_left run behind 0 k low)

pub returns-then-run-eq8-clause-inside : goal.returns-then-run-eq8-clause-inside
returns-then-run-eq8-clause-inside c = λ k low.
    let run : List ℕ = c.args.run.now in
    let old : List ℕ = take (c.args.start + 8 - c.args.start) (drop c.args.start c.args.out.now) in
    let eight : List ℕ = chunk 0 8 run in
    let few : k < 8 = omega (arith, low, c.if-run-eq8.true) in
    let long : length eight ≡ 8 = length-chunk 0 8 run (omega (arith, c.if-run-eq8.true)) in
    let room : length old ≡ c.args.start + 8 - c.args.start
    = length-take-le (c.args.start + 8 - c.args.start) (drop c.args.start c.args.out.now)
    (omega (arith, length-drop c.args.start c.args.out.now, c.requires, c.if-run-eq8.true)) in
    let whole : put_chunk 0 old eight ≡ eight = put_chunk_whole old eight (omega (arith, room, long)) in
    let front = length-take c.args.start c.args.out.now in
    placed _ (put_chunk 0 old eight) _ c.args.start k (omega (arith, front, c.requires)) (omega (arith, few, long, ap length whole))
    ∙ (ap (λ l. get_or l k 0) whole ∙ (get_or-chunk 0 8 run k 0 few ∙ ap (λ n. get_or run n 0) (zero-add k)))
