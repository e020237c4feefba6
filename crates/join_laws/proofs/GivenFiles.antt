-- The files of a slab are those that the program gives.
use Rattle.std.proofs.Common.{◌≡◌, Result, Ok, Err, Some, sym, ◌∙◌, ap, subst}
use Rattle.list_mesh.specs.Parts.{Part}
use Rattle.mesh_walk.specs.Spans.{edge_count}
use Rattle.mesh_walk.specs.declared.walk.Numbering.{Numbering}
use Rattle.slab_command.specs.Parts.{Output, check_numbers, counts_of, counts_text, output_by, part_files, with_numbers}
use Rattle.slab_command.specs.declared.answer.SlabAnswer.{SlabAnswer}
use Rattle.slab_command.specs.declared.asked.Slab.{Slab}
use Rattle.slab_command.specs.declared.asked.SlabFiles.{SlabFiles}
use Rattle.join_laws.specs.Joined.{GivesFiles}
use Rattle.join_laws.proofs.Joined.{no_fault, same_value}

-- numbers that fit
numbered : (p : Part) (slab : Slab) (files : SlabFiles) (r : Result (Unit {0}) SlabAnswer) (output : Output) → with_numbers p slab files r ≡ Ok output
    → output ≡ record { files = part_files p slab files; line = counts_text p.slices (counts_of p) }
numbered p slab files (Err answer) output e = no_fault answer output e
numbered p slab files (Ok fits) output e = sym (same_value (record { files = part_files p slab files; line = counts_text p.slices (counts_of p) }) output e)

pub gives_files : GivesFiles
gives_files b files output part numbers given =
    subst (λ (m : Numbering). output ≡ record {
      files = part_files b.part b.slab (record { format = files.format; numbers = m; name = files.name });
      line = counts_text b.part.slices (counts_of b.part);
    }) numbers
    (numbered b.part b.slab files (check_numbers files (edge_count b.part.volume) (counts_of b.part).centres) output
    (sym (ap (output_by (record { slab = b.slab; files = Some files })) part) ∙ given))
