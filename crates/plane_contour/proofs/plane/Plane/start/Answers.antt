use Rattle.std.proofs.Common.{◌≡◌, ℕ, ◌<◌, suc, true, sym, ◌∙◌, subst, length, arith}
use Rattle.std.proofs.lemmas.Bool.{eqb-true, eqb-false}
use Rattle.iso_defs.specs.Contours.{trace}
use Rattle.iso_defs.specs.Lists.{has_pair}
use Rattle.plane_laws.specs.Lines.{backwards}
use Rattle.plane_contour.specs.Planes.{name_at, pairs_of}
use Rattle.plane_contour.proofs.Walks.{returning_start, returning_on, returned_first, returned_round}
use Rattle.plane_contour.proofs.plane.Plane.start.Goals as goal

pub loop-previous-init : goal.loop-previous-init
loop-previous-init c = record { edge = c.requires.edge; returning = returning_start c.args.self.now (name_at c.args.self.now.sizes c.args.self.now.k c.args.edge) }

pub returns-then-eq-clause-name : goal.returns-then-eq-clause-name
returns-then-eq-clause-name c =
    let e : ℕ = name_at c.args.self.now.sizes c.args.self.now.k c.args.edge in
    let same : name_at c.args.self.now.sizes c.args.self.now.k c.in-Some.previous ≡ e
    = sym c.name.ensures ∙ (eqb-true _ _ (sym c.if-eq.ensures) ∙ c.name-in-Some.ensures) in
    sym (returned_round c.args.self.now e (name_at c.args.self.now.sizes c.args.self.now.k c.loop-previous.at) c.loop-previous.invariant.returning
    (subst (λ n. has_pair (pairs_of c.args.self.now) n (name_at c.args.self.now.sizes c.args.self.now.k c.loop-previous.at) ≡ true) same c.in-Some.ensures.1))

pub loop-previous-smaller : goal.loop-previous-smaller
loop-previous-smaller c =
    let e : ℕ = name_at c.args.self.now.sizes c.args.self.now.k c.args.edge in
    let n : ℕ = name_at c.args.self.now.sizes c.args.self.now.k c.in-Some.previous in
    let at : ℕ = name_at c.args.self.now.sizes c.args.self.now.k c.loop-previous.at in
    let other : n ≡ e → ⊥ = λ q. eqb-false _ _ (sym c.if-eq.ensures) (c.name.ensures ∙ (q ∙ sym c.name-in-Some.ensures)) in
    let s : length (trace (backwards (pairs_of c.args.self.now)) (length (backwards (pairs_of c.args.self.now))) e at)
    ≡ suc (length (trace (backwards (pairs_of c.args.self.now)) (length (backwards (pairs_of c.args.self.now))) e n))
    = (returning_on c.args.self.now e at n c.loop-previous.invariant.returning c.in-Some.ensures.1 other).1 in
    let l : length (trace (backwards (pairs_of c.args.self.now)) (length (backwards (pairs_of c.args.self.now))) e n)
    < length (trace (backwards (pairs_of c.args.self.now)) (length (backwards (pairs_of c.args.self.now))) e at) = omega arith in
    l

pub loop-previous-preserved : goal.loop-previous-preserved
loop-previous-preserved c =
    let e : ℕ = name_at c.args.self.now.sizes c.args.self.now.k c.args.edge in
    let n : ℕ = name_at c.args.self.now.sizes c.args.self.now.k c.in-Some.previous in
    let at : ℕ = name_at c.args.self.now.sizes c.args.self.now.k c.loop-previous.at in
    let other : n ≡ e → ⊥ = λ q. eqb-false _ _ (sym c.if-eq.ensures) (c.name.ensures ∙ (q ∙ sym c.name-in-Some.ensures)) in
    record {
      edge = c.in-Some.ensures.0;
      returning = (returning_on c.args.self.now e at n c.loop-previous.invariant.returning c.in-Some.ensures.1 other).0;
    }

pub returns-clause-name : goal.returns-clause-name
returns-clause-name c =
    sym (returned_first c.args.self.now (name_at c.args.self.now.sizes c.args.self.now.k c.args.edge) (name_at c.args.self.now.sizes c.args.self.now.k c.loop-previous.at)
    c.loop-previous.invariant.returning c.in_default.ensures)
