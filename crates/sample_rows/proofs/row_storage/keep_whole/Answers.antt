use Rattle.std.proofs.Common.{◌≡◌, ◌∙◌, ap, length, rules, subst, sym}
use Rattle.std.proofs.lemmas.List.{take_at}
use Rattle.mesh_rows.specs.Rows.{AreFlags}
use Rattle.sample_rows.specs.Cases.{AreRowCases}
use Rattle.sample_rows.specs.Parts.{AreNumbers}
use Rattle.sample_rows.proofs.Numbered.{numbers_made}
use Rattle.sample_rows.proofs.row_storage.keep_whole.Goals as goal

pub add_whole-requires-clause-numbers : goal.add_whole-requires-clause-numbers
add_whole-requires-clause-numbers g c =
    let v = c.args.field.now in
    let new = c.fill_numbers.new.numbers in
    let held : c.args.row.now.numbers.len ≡ length c.args.row.now.numbers.items = search rules in
    let count : length new ≡ v.grid.nx = c.fill_numbers.auto.numbers ∙ (ap length c.deref_mut.ensures.value ∙ c.requires.buffers.numbers) in
    subst (AreNumbers v c.args.y c.args.z) (sym (c.deref-3.ensures.value ∙ take_at new _ c.args.row.now.numbers.len (count ∙ sym (held ∙ c.requires.buffers.numbers))))
    (numbers_made v c.args.y c.args.z c.deref.result.now c.deref-2.result.now new (ap length c.deref.ensures.value ∙ c.requires.buffers.flags)
    (subst (AreFlags v c.args.y c.args.z) (sym c.deref.ensures.value) c.requires.flags)
    (subst (AreRowCases v c.args.y c.args.z) (sym c.deref-2.ensures.value) c.requires.cases) count c.fill_numbers.ensures)
