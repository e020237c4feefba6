use Rattle.std.proofs.Common.{◌≡◌, Some, None, drop, sym, ◌∙◌, ap}
use Rattle.std.specs.Prelude.{position}
use Rattle.std.proofs.lemmas.List.{take_rest}
use Rattle.text_lines.proofs.LineLaws.{is_feed}
use Rattle.text_lines.proofs.Places.{found_behind, none_behind}
use Rattle.text_lines.proofs.lines.feed_at.Goals as goal

pub returns-in_err-place : goal.returns-in_err-place
returns-in_err-place c =
    let bytes = c.args.bytes.now in
    let start = c.without_feed-start.result in
    let none : position is_feed (drop start bytes) ≡ None = ap (position is_feed) (sym (take_rest bytes start)) ∙ sym c.in_err-place.ensures in
    c.from_residual.ensures ∙ sym (none_behind is_feed start bytes c.without_feed-start.ensures.within c.without_feed-start.ensures.none none)

pub returns : goal.returns
returns c =
    let bytes = c.args.bytes.now in
    let start = c.without_feed-start.result in
    let found : position is_feed (drop start bytes) ≡ Some c.in_ok-place.place = ap (position is_feed) (sym (take_rest bytes start)) ∙ sym c.in_ok-place.ensures in
    sym (found_behind is_feed start c.in_ok-place.place bytes c.without_feed-start.ensures.within c.without_feed-start.ensures.none found)
