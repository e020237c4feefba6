use Rattle.std.proofs.Common.{◌∙◌, ◌+◌, ap, length, map, sym}
use Rattle.std.proofs.lemmas.List.{map-id}
use Rattle.iso_defs.specs.Lists.{below}
use Rattle.iso_base.specs.Points.{index_of}
use Rattle.iso_base.specs.Volume.{sample}
use Rattle.brick_store.specs.Copies.{samples_of}
use Rattle.brick_store.specs.Kept.{copies_in}
use Rattle.brick_store.proofs.copy_list.Kept.copy_row.Goals as goal

pub returns-in-I16 : goal.returns-in-I16
returns-in-I16 c =
    c.copy_row-in-I16.ensures
    ∙ ap (λ l. map (λ d. sample (samples_of c.args.sizes.now l) (index_of c.args.sizes.now c.args.p + d)) (below (length c.args.into.now)))
    (map-id c.in-I16.copies.items ∙ sym (ap copies_in c.in-I16.is))

pub returns-in-I32 : goal.returns-in-I32
returns-in-I32 c =
    c.copy_row-in-I32.ensures
    ∙ ap (λ l. map (λ d. sample (samples_of c.args.sizes.now l) (index_of c.args.sizes.now c.args.p + d)) (below (length c.args.into.now)))
    (map-id c.in-I32.copies.items ∙ sym (ap copies_in c.in-I32.is))

pub returns-in-I64 : goal.returns-in-I64
returns-in-I64 c =
    c.copy_row-in-I64.ensures
    ∙ ap (λ l. map (λ d. sample (samples_of c.args.sizes.now l) (index_of c.args.sizes.now c.args.p + d)) (below (length c.args.into.now)))
    (map-id c.in-I64.copies.items ∙ sym (ap copies_in c.in-I64.is))
