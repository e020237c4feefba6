use Rattle.std.proofs.Common.{◌≡◌, ◌+◌, ◌-◌, ◌∙◌, ap, arith, get_or, inl, inr, subst, sym}
use Rattle.std.proofs.lemmas.Bool.{cases_lt}
use Rattle.flat_mesh.specs.Rows.{AreSigns}
use Rattle.flat_mesh.proofs.SignBytes.{byte_is}
use Rattle.sample_rows.specs.Signs.{next_to}
use Rattle.sample_rows.proofs.cases.fill_bytes.Goals as goal

pub returns-clause-bytes : goal.returns-clause-bytes
returns-clause-bytes g c = λ x h.
    let v = (g.H.Heights.leveled c.args.field.now) in
    let row = c.args.signs in
    let are = c.requires.signs in
    let y = c.args.y in
    let z = c.args.z in
    let next_y : next_to y v.grid.ny ≡ y + 1 = omega (arith, c.requires.y) in
    let next_z : next_to z v.grid.nz ≡ z + 1 = omega (arith, c.requires.z) in
    byte_is v y z row.here.now row.up.now row.far.now row.both.now
    are.here (subst (λ j. AreSigns v j z row.up.now) next_y are.up) (subst (λ k. AreSigns v y k row.far.now) next_z are.far)
    (subst (λ k. AreSigns v (y + 1) k row.both.now) next_z (subst (λ j. AreSigns v j (next_to z v.grid.nz) row.both.now) next_y are.both))
    x _ h (c.fill_front_bytes.ensures.bytes x (omega (arith, are.here.count, h)))

pub returns-clause-room : goal.returns-clause-room
returns-clause-room g c =
    let len = c.requires.signs.here.count in
    record {
      count = c.fill_front_bytes.auto.bytes ∙ c.requires.room.count;
      rest = λ x far. elim (cases_lt x (g.H.Heights.leveled c.args.field.now).grid.nx) [
        | inl last ↦ (
            let same : x ≡ (g.H.Heights.leveled c.args.field.now).grid.nx - 1 = omega arith in
            ap (λ x. get_or c.fill_front_bytes.new.bytes x 0) (same ∙ ap (λ n. n - 1) (sym len)) ∙ c.fill_front_bytes.ensures.last)
        | inr behind ↦ c.fill_front_bytes.ensures.behind x (omega (arith, len)) ∙ c.requires.room.rest x far
      ];
    }
