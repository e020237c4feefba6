use Rattle.std.proofs.Common.{rules, ◌≡◌, ℕ, ◌+◌, ◌-◌, ◌<◌, List, length, ◌++◌, [], ◌∷◌, arith, sym, subst, ap, ◌∙◌, drop}
use Rattle.std.proofs.lemmas.List.{length_push, length-reverse}
use Rattle.std.proofs.lemmas.Iterator.Adapters.{YieldsList-from_rev_slice}
use Rattle.std.proofs.lemmas.Iterator.Consumers.{YieldsList-turn, YieldsList-end}
use Rattle.iso_defs.specs.Lists.{begins}
use Rattle.arc_rings.proofs.RingLaws.{last_left, last_item}
use Rattle.arc_rings.specs.Arcs.{ArcBelow}
use Rattle.mesh_check.specs.Marks.{IsMarked, IsLeastTwice, noted_of}
use Rattle.mesh_check.proofs.MarkLaws.{marked_put, older_put, twice_put, owned_is}
use Rattle.mesh_check.proofs.marks.mark_arcs.Goals as goal

pub loop-begin-preserved : goal.loop-begin-preserved
loop-begin-preserved c =
    let arcs : List (ℕ × ℕ) = c.args.arcs.now in
    let done : ℕ = length c.loop-begin.yielded in
    let p : ℕ × ℕ = c.in-Some.field-0.now in
    let rest : List (ℕ × ℕ) = drop (length arcs - done) arcs in
    let more : length (c.loop-begin.yielded ++ c.in-Some.field-0 ∷ []) ≡ done + 1 = length_push c.loop-begin.yielded c.in-Some.field-0 in
    let turn = YieldsList-turn (YieldsList-from_rev_slice arcs (search rules)) c.loop-begin.yielded _ c.loop-begin.yielded_by _ _ c.in-Some.field-0 c.in-Some.is c.next.ensures.steps in
    let e : drop (length arcs - length (c.loop-begin.yielded ++ c.in-Some.field-0 ∷ [])) arcs ≡ p ∷ rest
    = ap (λ k. drop (length arcs - k) arcs) more
    ∙ last_left arcs done p turn in
    let n : length c.set_mark.new.marks ≡ length c.loop-begin.marks = search rules in
    let b : p.0 < length c.loop-begin.marks = subst (λ k. p.0 < k) (sym c.loop-begin.auto.marks) (last_item (ArcBelow (length c.args.marks.now)) arcs done p c.requires.vertices turn).0 in
    let o : c.least_twice-twice.result ≡ noted_of c.loop-begin.twice p.0 (begins rest p.0)
    = c.least_twice-twice.ensures ∙ ap (noted_of c.loop-begin.twice p.0) (owned_is c.loop-begin.marks c.args.stamp rest p.0 c.loop-begin.invariant.marked b) in
    record {
      can_next = tt;
      is_finite = tt;
      marked = subst (IsMarked c.set_mark.new.marks c.args.stamp) (sym e) (marked_put c.loop-begin.marks c.set_mark.new.marks p.0 p.1 c.args.stamp rest n c.set_mark.ensures c.loop-begin.invariant.marked);
      older = older_put c.loop-begin.marks c.set_mark.new.marks p.0 p.1 c.args.stamp rest n c.set_mark.ensures c.loop-begin.invariant.older;
      twice = subst (λ l. IsLeastTwice l c.least_twice-twice.result) (sym e) (subst (IsLeastTwice (p ∷ rest)) (sym o) (twice_put p.0 p.1 rest c.loop-begin.twice c.loop-begin.invariant.twice));
    }

pub returns-clause-marked : goal.returns-clause-marked
returns-clause-marked c =
    let n : length c.loop-begin.yielded ≡ length c.args.arcs.now
    = (YieldsList-end (YieldsList-from_rev_slice c.args.arcs.now (search rules)) c.loop-begin.yielded _ c.loop-begin.yielded_by _ _ c.in-None.is c.next.ensures.steps).1 ∙ length-reverse c.args.arcs.now in
    let z : length c.args.arcs.now - length c.loop-begin.yielded ≡ 0 = omega arith in
    subst (λ k. IsMarked c.loop-begin.marks c.args.stamp (drop k c.args.arcs.now)) z c.loop-begin.invariant.marked

pub returns-clause-twice : goal.returns-clause-twice
returns-clause-twice c =
    let n : length c.loop-begin.yielded ≡ length c.args.arcs.now
    = (YieldsList-end (YieldsList-from_rev_slice c.args.arcs.now (search rules)) c.loop-begin.yielded _ c.loop-begin.yielded_by _ _ c.in-None.is c.next.ensures.steps).1 ∙ length-reverse c.args.arcs.now in
    let z : length c.args.arcs.now - length c.loop-begin.yielded ≡ 0 = omega arith in
    subst (λ k. IsLeastTwice (drop k c.args.arcs.now) c.loop-begin.twice) z c.loop-begin.invariant.twice
