use Rattle.std.proofs.Common.{◌≡◌, ◌∙◌, ◌+◌, ◌-◌, sym, ap, arith, map, take, drop, pos}
use Rattle.std.specs.List.{drop-map, take-map}
use Rattle.packed_samples.specs.Runs.{samples_in}
use Rattle.packed_samples.proofs.run.PackedRun.part.Goals as goal

pub returns-in-U8 : goal.returns-in-U8
returns-in-U8 c =
    let list = c.in-U8.list.now in
    let same : c.args.start + c.args.count - c.args.start ≡ c.args.count = omega arith in
    ap (λ n. map pos (take n (drop c.args.start list))) same
    ∙ sym (ap (λ r. take c.args.count (drop c.args.start (samples_in r))) c.in-U8.is
    ∙ (ap (take c.args.count) (drop-map pos c.args.start list) ∙ take-map pos c.args.count (drop c.args.start list)))

pub returns-in-U16 : goal.returns-in-U16
returns-in-U16 c =
    let list = c.in-U16.list.now in
    let same : c.args.start + c.args.count - c.args.start ≡ c.args.count = omega arith in
    ap (λ n. map pos (take n (drop c.args.start list))) same
    ∙ sym (ap (λ r. take c.args.count (drop c.args.start (samples_in r))) c.in-U16.is
    ∙ (ap (take c.args.count) (drop-map pos c.args.start list) ∙ take-map pos c.args.count (drop c.args.start list)))
