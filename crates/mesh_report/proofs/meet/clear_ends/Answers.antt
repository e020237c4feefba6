use Rattle.std.proofs.Common.{◌≡◌, ℕ, ◌<◌, List, length, get_or, set, arith, sym, subst, length-set}
use Rattle.std.proofs.lemmas.List.{get_or_default}
use Rattle.std.proofs.lemmas.List.Elements.{All-get_or}
use Rattle.arc_rings.specs.Arcs.{ArcBelow}
use Rattle.mesh_report.specs.declared.meet.Met.{Met}
use Rattle.mesh_report.specs.declared.meet.Met.TheVariants.{Never}
use Rattle.mesh_report.proofs.GraphLaws.{named-nil}
use Rattle.mesh_report.proofs.MeetLaws.{ends_cleared, stays_clear}
use Rattle.mesh_report.proofs.meet.clear_ends.Goals as goal

pub loop-begin-init : goal.loop-begin-init
loop-begin-init c = record {
  ends = λ w l. absurd (omega (arith, l, named-nil w));
  clear = λ w h. h;
}

pub loop-begin-preserved : goal.loop-begin-preserved
loop-begin-preserved c =
    let ps : List (ℕ × ℕ) = c.args.arcs.now in
    let i : ℕ = c.loop-begin.begin-index in
    let p : ℕ × ℕ = get_or ps i (0, 0) in
    let marks : List Met = c.loop-begin.marks in
    let inside : i < length ps = c.loop-begin-test.true in
    let item : p ≡ get_or ps i p = get_or_default ps i (0, 0) p inside in
    let low : ArcBelow (length marks) p = subst (λ n. ArcBelow n p) (sym c.loop-begin.auto.marks) (All-get_or (ArcBelow (length c.args.marks.now)) ps i (0, 0) inside c.requires.vertices) in
    record {
      ends = ends_cleared ps i p inside item marks low.0 low.1 c.loop-begin.invariant.ends;
      clear = λ w h.
          stays_clear (set marks p.0 Never) p.1 w (omega (arith, low.1, length-set marks p.0 Never)) (stays_clear marks p.0 w low.0 (c.loop-begin.invariant.clear w h));
    }
