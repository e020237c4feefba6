use Rattle.std.proofs.Common.{◌≡◌, ℕ, not, arith, sym, ap, ◌∙◌, inl, inr}
use Rattle.std.proofs.lemmas.List.{take_all}
use Rattle.std.specs.List.{count_by}
use Rattle.iso_defs.specs.Lists.{ends}
use Rattle.mesh_check.proofs.MarkLaws.{none_loose}
use Rattle.mesh_check.proofs.marks.ends_of.Goals as goal

pub returns-clause-start : goal.returns-clause-start
returns-clause-start c =
    let e : c.loop-begin.loose ≡ count_by (λ (p : ℕ × ℕ). not (ends c.args.arcs.now p.0)) c.args.arcs.now = c.loop-begin.invariant.loose ∙ ap (count_by (λ (p : ℕ × ℕ). not (ends c.args.arcs.now p.0))) (take_all _ c.args.arcs.now (omega arith)) in (
      c.loop-begin.invariant.begun,
      elim c.loop-begin.invariant.start [
        | inl n ↦ inl n
        | inr z ↦ inr (none_loose c.args.arcs.now (sym e ∙ z))
      ],
    )
