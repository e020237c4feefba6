use Rattle.std.proofs.Common.{◌≡◌, ◌∙◌, ◌++◌, ap, append_assoc, rules, w64, to_z, of_z}
use Rattle.std.proofs.lemmas.Int.{to_z-of_z}
use Rattle.program.specs.Notes.{volume_fault_text, size_fault_text}
use Rattle.program.proofs.notes.put_volume.Goals as goal

pub returns-in-Pad-clause-text : goal.returns-in-Pad-clause-text
unfolding volume_fault_text
returns-in-Pad-clause-text c = rw c.in-Pad.is (c.put_size.ensures.text ∙ (ap (λ l. l ++ size_fault_text c.in-Pad.fault) c.push_str.ensures.bytes ∙ append_assoc c.args.into.now.bytes _ _))

pub returns-in-LevelNotAbovePad-clause-text : goal.returns-in-LevelNotAbovePad-clause-text
unfolding volume_fault_text
returns-in-LevelNotAbovePad-clause-text c =
    let level : to_z w64 (of_z w64 c.in-LevelNotAbovePad.level) ≡ c.in-LevelNotAbovePad.level = search (rules, to_z-of_z) in
    let pad : to_z w64 (of_z w64 c.in-LevelNotAbovePad.pad) ≡ c.in-LevelNotAbovePad.pad = search (rules, to_z-of_z) in
    rw c.in-LevelNotAbovePad.is (rw (level, pad) at c.put_level_and_pad.ensures.text)
