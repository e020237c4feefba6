use Rattle.std.proofs.Common.{refl}
use Rattle.sample_rows.proofs.Tallied.{still_counted}
use Rattle.sample_rows.proofs.slice_counts.count_one.Goals as goal

pub returns-then-are_alike-clause-counts : goal.returns-then-are_alike-clause-counts
returns-then-are_alike-clause-counts g c =
    still_counted c.args.field.now c.args.y c.args.z c.args.counts c.requires.y c.requires.z (c.if-are_alike.ensures.still refl) (c.if-are_alike.ensures.none refl) c.requires.counts
