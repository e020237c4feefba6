use Rattle.std.proofs.Common.{rules, pos, FitsSigned, slice_index_or, append_assoc}
use Rattle.std.specs.Int.{w128}
use Rattle.std.proofs.lemmas.Int.{to_z-of_z}
use Rattle.script.specs.Replies.{area_text}
use Rattle.script.proofs.measures.put_area.Goals as goal

pub returns-clause-text : goal.returns-clause-text
unfolding area_text
returns-clause-text c =
    let x : FitsSigned w128 (slice_index_or c.args.area.now 0 (pos 0)) = search rules in
    let y : FitsSigned w128 (slice_index_or c.args.area.now 1 (pos 0)) = search rules in
    let z : FitsSigned w128 (slice_index_or c.args.area.now 2 (pos 0)) = search rules in
    simp (c.put_counted_signed-3.ensures.text, c.put_counted_signed-2.ensures.text, c.put_counted_signed.ensures.text, to_z-of_z, append_assoc)
