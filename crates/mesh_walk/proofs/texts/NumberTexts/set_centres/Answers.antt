use Rattle.std.proofs.Common.{◌≡◌, ◌+◌, ◌<◌, ◌∙◌, All, ap, arith, get_or, length, subst, sym}
use Rattle.mesh_text.specs.Numbers.{text_at}
use Rattle.mesh_walk.specs.Listed.{centre_slots_to}
use Rattle.mesh_walk.specs.Slots.{AreApart}
use Rattle.mesh_walk.proofs.RowCentres.{centres_apart, centres_low, centres_set, few_numbers, low_cells, number_behind}
use Rattle.mesh_walk.specs.Numbers.{HasNumber}
use Rattle.mesh_walk.specs.Cells.{cells_start}
use Rattle.mesh_walk.proofs.texts.NumberTexts.set_centres.Goals as goal

pub list_centres-count-requires : goal.list_centres-count-requires
list_centres-count-requires g c = low_cells (g.H.Heights.leveled c.args.field.now) c.sizes.ensures.leveled.grid c.args.cells.now c.requires.cells

pub set_texts-requires-clause-low : goal.set_texts-requires-clause-low
set_texts-requires-clause-low g c =
    subst (All (λ s. s < 3078)) (sym c.list_centres-count.ensures.put) (centres_low (g.H.Heights.leveled c.args.field.now) c.sizes.ensures.leveled.grid c.args.cells.now c.requires.cells)

pub set_texts-requires-clause-apart : goal.set_texts-requires-clause-apart
set_texts-requires-clause-apart g c =
    subst AreApart (sym c.list_centres-count.ensures.put) (centres_apart (g.H.Heights.leveled c.args.field.now) c.sizes.ensures.leveled.grid c.args.cells.now c.requires.cells)

pub set_texts-requires-clause-few : goal.set_texts-requires-clause-few
set_texts-requires-clause-few g c =
    omega (arith, ap length c.list_centres-count.ensures.put, few_numbers (g.H.Heights.leveled c.args.field.now) c.sizes.ensures.leveled.grid c.args.cells.now c.requires.cells c.args.walk.style.format c.args.walk.numbers c.requires.first c.args.number c.requires.number)

pub returns-clause-centres : goal.returns-clause-centres
returns-clause-centres g c =
    let format = c.args.walk.style.format in
    let cells = c.args.cells.now in
    let put = c.list_centres-count.ensures.put in
    centres_set (g.H.Heights.leveled c.args.field.now) c.sizes.ensures.leveled.grid cells c.requires.cells format c.args.walk.numbers c.requires.first c.args.number c.requires.number c.set_texts.new.texts
    (λ j low.
    let first : c.from.result ≡ 12312 = c.from.ensures in
    ap (λ n. text_at c.set_texts.new.texts (n + get_or (centre_slots_to cells cells.count) j 0)) (sym first)
    ∙ (ap (λ l. text_at c.set_texts.new.texts (c.from.result + get_or l j 0)) (sym put) ∙ c.set_texts.ensures.set j (omega (arith, low, ap length put))))

pub returns-clause-next : goal.returns-clause-next
returns-clause-next g c =
    let v = g.H.Heights.leveled c.args.field.now in
    let cells = c.args.cells.now in
    subst (λ n. HasNumber c.args.walk.numbers.first_centre v (cells_start v cells + v.grid.nx) (c.args.number + n)) (sym c.list_centres-count.ensures.count)
    (number_behind v c.sizes.ensures.leveled.grid cells c.requires.cells c.args.walk.style.format c.args.walk.numbers c.requires.first c.args.number c.requires.number)

pub returns-clause-few : goal.returns-clause-few
returns-clause-few g c =
    omega (arith, c.list_centres-count.ensures.count, few_numbers (g.H.Heights.leveled c.args.field.now) c.sizes.ensures.leveled.grid c.args.cells.now c.requires.cells c.args.walk.style.format c.args.walk.numbers c.requires.first c.args.number c.requires.number)

pub shared_ref_as_front-set_texts : goal.shared_ref_as_front-set_texts
shared_ref_as_front-set_texts g c =
    omega (arith, c.list_centres-count.ensures.few, (low_cells (g.H.Heights.leveled c.args.field.now) c.sizes.ensures.leveled.grid c.args.cells.now c.requires.cells).few)
