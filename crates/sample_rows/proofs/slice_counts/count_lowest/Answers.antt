use Rattle.std.proofs.Common.{◌≡◌, ◌*◌, arith, refl, subst}
use Rattle.sample_rows.specs.Counted.{AreRowCounts}
use Rattle.sample_rows.specs.declared.slice_counts.SliceCounts.{SliceCounts}
use Rattle.sample_rows.proofs.Tallied.{none_tallied}
use Rattle.sample_rows.proofs.slice_counts.count_lowest.Goals as goal

pub loop-z-init : goal.loop-z-init
loop-z-init g c =
    let v = c.args.field.now in
    let counts : SliceCounts = record { edges = 0; cells = record { centres = 0; faces = 0 } } in
    let none : 0 ≡ v.grid.ny * 0 = omega arith in
    record {
      near = λ _. c.requires.near;
      far = c.requires.far;
      counted = subst (λ n. AreRowCounts v n counts) none (none_tallied v counts refl refl refl);
      room = c.requires.room;
    }
