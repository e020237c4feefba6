use Rattle.std.proofs.Common.{◌≡◌, ◌+◌, ◌-◌, ◌≤◌, ◌++◌, ◌∙◌, ap, ap₂, rules, length, length-append, length-drop, take, drop, arith}
use Rattle.std.specs.Prelude.{replicate}
use Rattle.std.proofs.lemmas.Int.{to_z-of_z}
use Rattle.std.proofs.lemmas.List.{length-take-le}
use Rattle.edit_log.specs.Runs.{values_left, values_of}
use Rattle.edit_log.proofs.RunLaws.{run_left, run_put}
use Rattle.edit_log.proofs.runs.take_values.Goals as goal

pub loop-done-preserved : goal.loop-done-preserved
loop-done-preserved c =
    let runs = c.args.runs.now in
    let all = values_left runs c.args.rest.now in
    let done = c.loop-done.done in
    let count = c.min-count.result in
    let rest = c.pass_ended.new.rest in
    let room = c.loop-done.values in
    let filled = c.fill.new.self in
    let behind = values_of (drop rest.next runs) in
    let left : replicate rest.run.count rest.run.value ++ behind ≡ drop done all = c.pass_ended.ensures.same ∙ c.loop-done.invariant.rest in
    let few : count ≤ rest.run.count = omega (arith, c.min-count.ensures) in
    let fits : done + count ≤ length room = omega (arith, c.min-count.ensures, c.loop-done-test.true) in
    let many : done + count - done ≡ count = omega arith in
    let size : length (take (done + count - done) (drop done room)) ≡ count
    = ap (λ n. length (take n (drop done room))) many ∙ length-take-le count (drop done room) (omega (arith, length-drop done room, fits)) in
    let is : filled ≡ replicate count rest.run.value = c.fill.ensures.after (λ y e. search rules) ∙ ap₂ replicate size (search (rules, to_z-of_z)) in
    let len : length filled ≡ count = c.fill.ensures.len ∙ size in
    let behind_room = drop (done + count - done) (drop done room) in
    let whole : length (take done room ++ (filled ++ behind_room)) ≡ length room
    = omega (
      arith,
      length-append (take done room) (filled ++ behind_room),
      length-append filled behind_room,
      length-drop (done + count - done) (drop done room),
      length-drop done room,
      length-take-le done room (omega (arith, fits)),
      len,
      many,
      fits,
    ) in
    record {
      count = whole ∙ c.loop-done.invariant.count;
      values = ap (λ n. take (done + count) (take done room ++ (filled ++ drop n (drop done room)))) many
          ∙ run_put done count rest.run.count rest.run.value all behind left few room filled fits c.loop-done.invariant.values is;
      rest = run_left done count rest.run.count rest.run.value all behind left few;
      end = omega (arith, whole, fits);
    }
