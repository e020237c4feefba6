use Rattle.std.proofs.Common.{◌≡◌, ◌+◌, ◌-◌, ◌*◌, arith}
use Rattle.iso_defs.specs.Bricks.{brick_point}
use Rattle.brick_store.specs.declared.boxes.Source.{Source}
use Rattle.brick_store.specs.declared.boxes.Values.TheVariants.{Each}
use Rattle.brick_store.specs.Boxes.{IsBox, area_place}
use Rattle.brick_store.proofs.BoxWriting.{first_place}
use Rattle.brick_store.proofs.PartWriting.{each_has_rows, each_value_of, part_written, widths_are}
use Rattle.brick_store.proofs.boxes.write_each.Goals as goal
use Rattle.brick_store.proofs.boxes.write_each.Goals.{After-place_in-from}

-- the first point of the part is one of the box
pub place_in-from-requires-clause-point : goal.place_in-from-requires-clause-point
place_in-from-requires-clause-point g c =
    let part = c.args.part.now in
    let is = c.requires.part in
    let first = c.first_point-first.ensures in
    let of = is.each part.x part.y part.z (omega arith) is.x_order (omega arith) is.y_order (omega arith) is.z_order in record {
      x = omega (arith, of.x_to, first.x, c.requires.high.x);
      y = omega (arith, of.y_to, first.y, c.requires.high.y);
      z = omega (arith, of.z_to, first.z, c.requires.high.z);
    }

box : (g : _) (c : After-place_in-from g) → IsBox c.args.sizes.now c.args.area.now
box g c = record { area = c.place_in-from.ensures.area; high = c.requires.high }

-- the rows of values that are put into the brick
source : (g : _) → After-place_in-from g → Source
source g c = record {
  values = c.args.values;
  from = c.place_in-from.result;
  row = c.high-high.result.x - c.low-low.result.x + 1;
  slice = (c.high-high.result.x - c.low-low.result.x + 1) * (c.high-high.result.y - c.low-low.result.y + 1);
}

-- where the first of them begins
from_is : (g : _) (c : After-place_in-from g)
    → c.place_in-from.result ≡ area_place c.args.sizes.now c.args.area.now (brick_point c.args.sizes.now c.args.brick.0 c.args.part.now.x c.args.part.now.y c.args.part.now.z)
from_is g c =
    first_place c.args.sizes.now c.args.area.now c.args.brick.0 c.args.part.now c.args.part.now.y c.args.part.now.z (box g c)
    c.requires.part (omega arith) c.requires.part.y_order (omega arith) c.requires.part.z_order
    c.first_point-first.result.x c.first_point-first.result.y c.first_point-first.result.z c.place_in-from.result
    c.first_point-first.ensures.x c.first_point-first.ensures.y c.first_point-first.ensures.z c.place_in-from.ensures.value

pub write_part-requires-clause-rows : goal.write_part-requires-clause-rows
unfolding source
write_part-requires-clause-rows g c =
    let at = (goal.at.write_part-requires-clause-rows g c).After-place_in-from in
    let wide = widths_are c.args.area.now c.low-low.result c.high-high.result c.low-low.ensures.value c.high-high.ensures.value in
    each_has_rows c.args.sizes.now c.args.area.now c.args.brick.0 c.args.part.now (source g at) (box g at) c.requires.part (from_is g at) wide.0 wide.1 c.requires.values

pub returns : goal.returns
unfolding source
returns g c =
    let at = (goal.at.returns g c).After-place_in-from in
    let wide = widths_are c.args.area.now c.low-low.result c.high-high.result c.low-low.ensures.value c.high-high.ensures.value in
    part_written c.args.sizes.now c.args.area.now (Each c.args.values) c.args.brick.0 c.args.part.now (source g at) (g.C.PackedList.list c.args.copies.now) _
    (each_value_of c.args.sizes.now c.args.area.now c.args.brick.0 c.args.part.now (source g at) (box g at) c.requires.part (from_is g at) wide.0 wide.1)
    c.write_part.ensures
