use Rattle.std.proofs.Common.{◌≡◌, ℕ, ◌*◌, ◌∙◌, ap, sym, subst, rules, arith, to_z, of_z, w64}
use Rattle.std.proofs.lemmas.Int.{to_z-of_z}
use Rattle.brick_store.specs.declared.boxes.Values.TheVariants.{One}
use Rattle.iso_defs.specs.Bricks.{brick_start}
use Rattle.brick_store.specs.Boxes.{ArePartWritten}
use Rattle.brick_store.proofs.BoxWriting.{begins, brick_at_zone}
use Rattle.brick_store.proofs.boxes.write_brick.Goals as goal
use Rattle.brick_store.proofs.boxes.write_brick.Goals.{After-brick_at-brick}

at : (g : _) (c : After-brick_at-brick g)
    → (brick_start c.args.sizes.now c.brick_at-brick.result.0 0 ≡ 8 * c.args.x)
    × ((brick_start c.args.sizes.now c.brick_at-brick.result.0 1 ≡ 8 * c.args.y) × (brick_start c.args.sizes.now c.brick_at-brick.result.0 2 ≡ 8 * c.args.z))
at g c = begins c.args.sizes.now c.args.x c.args.y c.args.z c.brick_at-brick.result.0 c.requires.x c.requires.y c.requires.z c.brick_at-brick.ensures.value

pub part_in-part-requires-clause-x_from : goal.part_in-part-requires-clause-x_from
part_in-part-requires-clause-x_from g c = omega (arith, (at g c).0, c.requires.x_from)

pub part_in-part-requires-clause-x_to : goal.part_in-part-requires-clause-x_to
part_in-part-requires-clause-x_to g c = omega (arith, (at g c).0, c.requires.x_to)

pub part_in-part-requires-clause-y_from : goal.part_in-part-requires-clause-y_from
part_in-part-requires-clause-y_from g c = omega (arith, (at g c).1.0, c.requires.y_from)

pub part_in-part-requires-clause-y_to : goal.part_in-part-requires-clause-y_to
part_in-part-requires-clause-y_to g c = omega (arith, (at g c).1.0, c.requires.y_to)

pub part_in-part-requires-clause-z_from : goal.part_in-part-requires-clause-z_from
part_in-part-requires-clause-z_from g c = omega (arith, (at g c).1.1, c.requires.z_from)

pub part_in-part-requires-clause-z_to : goal.part_in-part-requires-clause-z_to
part_in-part-requires-clause-z_to g c = omega (arith, (at g c).1.1, c.requires.z_to)

pub returns-in-One : goal.returns-in-One
returns-in-One g c =
    let same : to_z w64 (of_z w64 c.in-One.value) ≡ c.in-One.value = search (rules, to_z-of_z) in
    let grid = c.args.sizes.now in
    let a = c.args.area.now in
    let b : ℕ = c.brick_at-brick.result.0 in
    brick_at_zone grid a c.args.values c.args.x c.args.y c.args.z b c.part_in-part.result (g.C.PackedList.list c.args.copies.now) _
    c.brick_at-brick.ensures.grid c.requires.x c.requires.y c.requires.z c.brick_at-brick.ensures.value c.part_in-part.ensures
    (subst (λ v. ArePartWritten grid a v b c.part_in-part.result (g.C.PackedList.list c.args.copies.now) (g.C.PackedList.list c.write_one.new.copies)) (ap One same ∙ sym c.in-One.is) c.write_one.ensures)

pub returns-in-Each : goal.returns-in-Each
returns-in-Each g c =
    let grid = c.args.sizes.now in
    let a = c.args.area.now in
    let b : ℕ = c.brick_at-brick.result.0 in
    brick_at_zone grid a c.args.values c.args.x c.args.y c.args.z b c.part_in-part.result (g.C.PackedList.list c.args.copies.now) _
    c.brick_at-brick.ensures.grid c.requires.x c.requires.y c.requires.z c.brick_at-brick.ensures.value c.part_in-part.ensures
    (subst (λ v. ArePartWritten grid a v b c.part_in-part.result (g.C.PackedList.list c.args.copies.now) (g.C.PackedList.list c.write_each.new.copies)) (sym c.in-Each.is) c.write_each.ensures)
