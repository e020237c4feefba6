use Rattle.std.proofs.Common.{◌≡◌, ◌∙◌, ap, subst, sym, List, ℕ}
use Rattle.std.specs.Prelude.{codes}
use Rattle.iso_defs.specs.Texts.{counted}
use Rattle.program.specs.Notes.{note_line}
use Rattle.program.specs.Tries.{Tries}
use Rattle.slab_command.specs.Answers.{slab_note}
use Rattle.slab_command.proofs.notes.put_slab_note.Goals as goal

pub returns-in-Thin : goal.returns-in-Thin
unfolding slab_note
returns-in-Thin g c =
    let line : c.as_str.result.now ≡ slab_note c.args.answer
    = c.as_str.ensures.value ∙ (c.counted_line.ensures
    ∙ (ap (λ (n : ℕ). note_line (codes "isoslab") (counted (codes "slab thin ") n)) c.from.ensures ∙ sym (ap slab_note c.in-Thin.is))) in
    subst (λ (text : List ℕ). Tries (g.N.Sink.seen c.args.notes.now) (g.N.Sink.seen c.put_line.new.notes) text) line c.put_line.ensures

pub returns-in-Numbers : goal.returns-in-Numbers
unfolding slab_note
returns-in-Numbers g c =
    let line : c.as_str-in-Numbers.result.now ≡ slab_note c.args.answer
    = c.as_str-in-Numbers.ensures.value ∙ (c.counted_line-in-Numbers.ensures ∙ sym (ap slab_note c.in-Numbers.is)) in
    subst (λ (text : List ℕ). Tries (g.N.Sink.seen c.args.notes.now) (g.N.Sink.seen c.put_line-in-Numbers.new.notes) text) line c.put_line-in-Numbers.ensures
