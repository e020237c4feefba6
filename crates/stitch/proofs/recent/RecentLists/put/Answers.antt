use Rattle.std.proofs.Common.{◌≡◌, ◌++◌, ◌∙◌, ap, length, inl, inr, set, ◌%◌, ℕ}
use Rattle.stitch.specs.Recent.{numbers_in, numbers_of}
use Rattle.stitch.proofs.RecentRows.{put_each, put_within}
use Rattle.stitch.proofs.recent.RecentLists.put.Goals as goal

pub returns-then-push_list-clause-within : goal.returns-then-push_list-clause-within
returns-then-push_list-clause-within c =
    let old = c.make_room.new.self in
    let new = c.note.new.self in
    let numbers : numbers_of new ≡ numbers_of old ++ c.args.list.now = ap numbers_in c.note.ensures.numbers ∙ c.if-push_list.ensures in
    let starts = c.note.ensures.starts ∙ ap (λ (s : ℕ). set old.starts.value (c.args.key % 49152) s) (ap length c.numbers_in-start.ensures) in
    put_within old new c.args.key c.args.list.now c.make_room.ensures.within c.note.ensures.most
    c.note.ensures.tags starts c.note.ensures.counts c.make_room.ensures.room numbers

pub returns-then-push_list-clause-each : goal.returns-then-push_list-clause-each
returns-then-push_list-clause-each c k l kept =
    let old = c.make_room.new.self in
    let new = c.note.new.self in
    let numbers : numbers_of new ≡ numbers_of old ++ c.args.list.now = ap numbers_in c.note.ensures.numbers ∙ c.if-push_list.ensures in
    let starts = c.note.ensures.starts ∙ ap (λ (s : ℕ). set old.starts.value (c.args.key % 49152) s) (ap length c.numbers_in-start.ensures) in
    elim (put_each old new c.args.key c.args.list.now c.make_room.ensures.within c.note.ensures.most
    c.note.ensures.tags starts c.note.ensures.counts c.make_room.ensures.room numbers k l kept) [
      | inl put ↦ inl put
      | inr was ↦ inr (c.make_room.ensures.kept k l was)
    ]
