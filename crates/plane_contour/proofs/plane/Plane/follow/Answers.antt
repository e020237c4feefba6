use Rattle.std.proofs.Common.{rules, ◌≡◌, ℕ, ◌<◌, ◌++◌, [], ◌∷◌, true, List, length, map, length-set, inr, sym, refl, ap, ◌∙◌, subst, arith, suc}
use Rattle.std.proofs.lemmas.Bool.{eqb-true, eqb-false}
use Rattle.iso_defs.specs.Contours.{line_from}
use Rattle.plane_laws.specs.Sides.{slot_name}
use Rattle.plane_laws.proofs.Squares.{single}
use Rattle.plane_laws.proofs.Steps.{going_start, going_on, goes, stops_back, stops_end}
use Rattle.triangle_laws.proofs.Lists.{In}
use Rattle.triangle_laws.proofs.Counts.{pair_in}
use Rattle.triangle_laws.proofs.FanWalk.{ends_from}
use Rattle.plane_contour.specs.Planes.{field_of, name_at, pairs_of}
use Rattle.plane_contour.specs.Texts.{point_at}
use Rattle.plane_contour.proofs.Texts.{near_more}
use Rattle.plane_contour.proofs.Walks.{line, slot_is, points_step, points_end, marks_step, marks_end}
use Rattle.plane_contour.proofs.plane.Plane.follow.Goals as goal

pub loop-next-init : goal.loop-next-init
loop-next-init c = record {
  edge = c.requires.edge;
  active = c.requires.active;
  going = going_start (pairs_of c.args.self.now) (name_at c.args.self.now.sizes c.args.self.now.k c.args.start);
  points = refl;
  near = c.requires.near;
  marks = λ t h. refl;
}

pub loop-next-smaller : goal.loop-next-smaller
loop-next-smaller c =
    let deep : 0 < c.args.self.now.sizes.nz = let h = c.requires.plane.grid.z.least in omega arith in
    let i : In (name_at c.args.self.now.sizes c.args.self.now.k c.loop-next.edge, name_at c.args.self.now.sizes c.args.self.now.k c.in-Some.next) (pairs_of c.args.self.now) = pair_in (pairs_of c.args.self.now) (name_at c.args.self.now.sizes c.args.self.now.k c.loop-next.edge) (name_at c.args.self.now.sizes c.args.self.now.k c.in-Some.next) c.in-Some.ensures.1 in
    let other : name_at c.args.self.now.sizes c.args.self.now.k c.in-Some.next ≡ name_at c.args.self.now.sizes c.args.self.now.k c.args.start → ⊥ = λ q. eqb-false _ _ (sym c.if-eq.ensures) (c.name.ensures ∙ (q ∙ sym c.name-first.ensures)) in
    let l : line c.args.self.now deep (name_at c.args.self.now.sizes c.args.self.now.k c.args.start) (name_at c.args.self.now.sizes c.args.self.now.k c.loop-next.edge) ≡ name_at c.args.self.now.sizes c.args.self.now.k c.loop-next.edge ∷ line c.args.self.now deep (name_at c.args.self.now.sizes c.args.self.now.k c.args.start) (name_at c.args.self.now.sizes c.args.self.now.k c.in-Some.next) = goes (pairs_of c.args.self.now) (single c.args.self.now.sizes (field_of c.args.self.now) c.args.self.now.k) (name_at c.args.self.now.sizes c.args.self.now.k c.args.start) (name_at c.args.self.now.sizes c.args.self.now.k c.loop-next.edge) (name_at c.args.self.now.sizes c.args.self.now.k c.in-Some.next) c.loop-next.invariant.going i other in
    let m : length (line c.args.self.now deep (name_at c.args.self.now.sizes c.args.self.now.k c.args.start) (name_at c.args.self.now.sizes c.args.self.now.k c.loop-next.edge)) ≡ suc (length (line c.args.self.now deep (name_at c.args.self.now.sizes c.args.self.now.k c.args.start) (name_at c.args.self.now.sizes c.args.self.now.k c.in-Some.next))) = ap (λ (z : List ℕ). length z) l in
    let k : length (line c.args.self.now deep (name_at c.args.self.now.sizes c.args.self.now.k c.args.start) (name_at c.args.self.now.sizes c.args.self.now.k c.in-Some.next)) < length (line c.args.self.now deep (name_at c.args.self.now.sizes c.args.self.now.k c.args.start) (name_at c.args.self.now.sizes c.args.self.now.k c.loop-next.edge)) = omega arith in
    k

pub loop-next-preserved : goal.loop-next-preserved
loop-next-preserved c =
    let deep : 0 < c.args.self.now.sizes.nz = let h = c.requires.plane.grid.z.least in omega arith in
    let i : In (name_at c.args.self.now.sizes c.args.self.now.k c.loop-next.edge, name_at c.args.self.now.sizes c.args.self.now.k c.in-Some.next) (pairs_of c.args.self.now) = pair_in (pairs_of c.args.self.now) (name_at c.args.self.now.sizes c.args.self.now.k c.loop-next.edge) (name_at c.args.self.now.sizes c.args.self.now.k c.in-Some.next) c.in-Some.ensures.1 in
    let other : name_at c.args.self.now.sizes c.args.self.now.k c.in-Some.next ≡ name_at c.args.self.now.sizes c.args.self.now.k c.args.start → ⊥ = λ q. eqb-false _ _ (sym c.if-eq.ensures) (c.name.ensures ∙ (q ∙ sym c.name-first.ensures)) in
    let l : line c.args.self.now deep (name_at c.args.self.now.sizes c.args.self.now.k c.args.start) (name_at c.args.self.now.sizes c.args.self.now.k c.loop-next.edge) ≡ name_at c.args.self.now.sizes c.args.self.now.k c.loop-next.edge ∷ line c.args.self.now deep (name_at c.args.self.now.sizes c.args.self.now.k c.args.start) (name_at c.args.self.now.sizes c.args.self.now.k c.in-Some.next) = goes (pairs_of c.args.self.now) (single c.args.self.now.sizes (field_of c.args.self.now) c.args.self.now.k) (name_at c.args.self.now.sizes c.args.self.now.k c.args.start) (name_at c.args.self.now.sizes c.args.self.now.k c.loop-next.edge) (name_at c.args.self.now.sizes c.args.self.now.k c.in-Some.next) c.loop-next.invariant.going i other in
    let pushed : c.push.new.self.items ≡ c.loop-next.points.items ++ c.point.result ∷ [] = search rules in
    let low : c.slot.result < length c.loop-next.seen = let b = c.slot.ensures.bound in let a = c.loop-next.auto.seen in omega (arith, c.requires.room) in
    let name : slot_name c.args.self.now.sizes c.args.self.now.k c.slot.result ≡ name_at c.args.self.now.sizes c.args.self.now.k c.loop-next.edge = ap (slot_name c.args.self.now.sizes c.args.self.now.k) c.slot.ensures.value ∙ slot_is c.args.self.now.sizes c.args.self.now.k c.loop-next.edge c.loop-next.invariant.edge.known in
    record {
      edge = c.in-Some.ensures.0;
      active = inr (ends_from (pairs_of c.args.self.now) (name_at c.args.self.now.sizes c.args.self.now.k c.loop-next.edge) (name_at c.args.self.now.sizes c.args.self.now.k c.in-Some.next) i);
      going = going_on (pairs_of c.args.self.now) (single c.args.self.now.sizes (field_of c.args.self.now) c.args.self.now.k) (name_at c.args.self.now.sizes c.args.self.now.k c.args.start) (name_at c.args.self.now.sizes c.args.self.now.k c.loop-next.edge) (name_at c.args.self.now.sizes c.args.self.now.k c.in-Some.next) c.loop-next.invariant.going i other;
      points = points_step c.args.self.now deep (name_at c.args.self.now.sizes c.args.self.now.k c.args.start) (point_at c.args.self.now.sizes (field_of c.args.self.now)) c.args.points.now.items c.loop-next.points.items c.push.new.self.items
          (map (point_at c.args.self.now.sizes (field_of c.args.self.now)) (line_from (pairs_of c.args.self.now) (name_at c.args.self.now.sizes c.args.self.now.k c.args.start))) (name_at c.args.self.now.sizes c.args.self.now.k c.loop-next.edge) (line c.args.self.now deep (name_at c.args.self.now.sizes c.args.self.now.k c.args.start) (name_at c.args.self.now.sizes c.args.self.now.k c.in-Some.next)) c.point.result pushed c.point.ensures.value l c.loop-next.invariant.points;
      near = near_more c.loop-next.points.items c.push.new.self.items c.point.result pushed c.loop-next.invariant.near c.point.ensures.near;
      marks = λ t h. marks_step c.args.self.now deep (name_at c.args.self.now.sizes c.args.self.now.k c.args.start) c.loop-next.seen c.slot.result (name_at c.args.self.now.sizes c.args.self.now.k c.loop-next.edge) t (line c.args.self.now deep (name_at c.args.self.now.sizes c.args.self.now.k c.args.start) (name_at c.args.self.now.sizes c.args.self.now.k c.in-Some.next)) low name l ∙ c.loop-next.invariant.marks t h;
    }

pub returns-then-eq-clause-points : goal.returns-then-eq-clause-points
returns-then-eq-clause-points c =
    let deep : 0 < c.args.self.now.sizes.nz = let h = c.requires.plane.grid.z.least in omega arith in
    let i : In (name_at c.args.self.now.sizes c.args.self.now.k c.loop-next.edge, name_at c.args.self.now.sizes c.args.self.now.k c.in-Some.next) (pairs_of c.args.self.now) = pair_in (pairs_of c.args.self.now) (name_at c.args.self.now.sizes c.args.self.now.k c.loop-next.edge) (name_at c.args.self.now.sizes c.args.self.now.k c.in-Some.next) c.in-Some.ensures.1 in
    let same : name_at c.args.self.now.sizes c.args.self.now.k c.in-Some.next ≡ name_at c.args.self.now.sizes c.args.self.now.k c.args.start = sym c.name.ensures ∙ (eqb-true _ _ (sym c.if-eq.ensures) ∙ c.name-first.ensures) in
    let l : line c.args.self.now deep (name_at c.args.self.now.sizes c.args.self.now.k c.args.start) (name_at c.args.self.now.sizes c.args.self.now.k c.loop-next.edge) ≡ name_at c.args.self.now.sizes c.args.self.now.k c.loop-next.edge ∷ [] = stops_back (pairs_of c.args.self.now) (single c.args.self.now.sizes (field_of c.args.self.now) c.args.self.now.k) (name_at c.args.self.now.sizes c.args.self.now.k c.args.start) (name_at c.args.self.now.sizes c.args.self.now.k c.loop-next.edge) (subst (λ n. In (name_at c.args.self.now.sizes c.args.self.now.k c.loop-next.edge, n) (pairs_of c.args.self.now)) same i) in
    let pushed : c.push.new.self.items ≡ c.loop-next.points.items ++ c.point.result ∷ [] = search rules in
    points_end c.args.self.now deep (name_at c.args.self.now.sizes c.args.self.now.k c.args.start) (point_at c.args.self.now.sizes (field_of c.args.self.now)) c.args.points.now.items c.loop-next.points.items c.push.new.self.items
    (map (point_at c.args.self.now.sizes (field_of c.args.self.now)) (line_from (pairs_of c.args.self.now) (name_at c.args.self.now.sizes c.args.self.now.k c.args.start))) (name_at c.args.self.now.sizes c.args.self.now.k c.loop-next.edge) c.point.result pushed c.point.ensures.value l c.loop-next.invariant.points

pub returns-then-eq-clause-marks : goal.returns-then-eq-clause-marks
returns-then-eq-clause-marks c =
    let deep : 0 < c.args.self.now.sizes.nz = let h = c.requires.plane.grid.z.least in omega arith in
    let i : In (name_at c.args.self.now.sizes c.args.self.now.k c.loop-next.edge, name_at c.args.self.now.sizes c.args.self.now.k c.in-Some.next) (pairs_of c.args.self.now) = pair_in (pairs_of c.args.self.now) (name_at c.args.self.now.sizes c.args.self.now.k c.loop-next.edge) (name_at c.args.self.now.sizes c.args.self.now.k c.in-Some.next) c.in-Some.ensures.1 in
    let same : name_at c.args.self.now.sizes c.args.self.now.k c.in-Some.next ≡ name_at c.args.self.now.sizes c.args.self.now.k c.args.start = sym c.name.ensures ∙ (eqb-true _ _ (sym c.if-eq.ensures) ∙ c.name-first.ensures) in
    let l : line c.args.self.now deep (name_at c.args.self.now.sizes c.args.self.now.k c.args.start) (name_at c.args.self.now.sizes c.args.self.now.k c.loop-next.edge) ≡ name_at c.args.self.now.sizes c.args.self.now.k c.loop-next.edge ∷ [] = stops_back (pairs_of c.args.self.now) (single c.args.self.now.sizes (field_of c.args.self.now) c.args.self.now.k) (name_at c.args.self.now.sizes c.args.self.now.k c.args.start) (name_at c.args.self.now.sizes c.args.self.now.k c.loop-next.edge) (subst (λ n. In (name_at c.args.self.now.sizes c.args.self.now.k c.loop-next.edge, n) (pairs_of c.args.self.now)) same i) in
    let low : c.slot.result < length c.loop-next.seen = let b = c.slot.ensures.bound in let a = c.loop-next.auto.seen in omega (arith, c.requires.room) in
    let name : slot_name c.args.self.now.sizes c.args.self.now.k c.slot.result ≡ name_at c.args.self.now.sizes c.args.self.now.k c.loop-next.edge = ap (slot_name c.args.self.now.sizes c.args.self.now.k) c.slot.ensures.value ∙ slot_is c.args.self.now.sizes c.args.self.now.k c.loop-next.edge c.loop-next.invariant.edge.known in
    record {
      count = length-set c.loop-next.seen c.slot.result true ∙ c.loop-next.auto.seen;
      each = λ t h. marks_end c.args.self.now deep (name_at c.args.self.now.sizes c.args.self.now.k c.args.start) c.loop-next.seen c.slot.result (name_at c.args.self.now.sizes c.args.self.now.k c.loop-next.edge) t low name l ∙ c.loop-next.invariant.marks t h;
    }

pub returns-in_default-clause-points : goal.returns-in_default-clause-points
returns-in_default-clause-points c =
    let deep : 0 < c.args.self.now.sizes.nz = let h = c.requires.plane.grid.z.least in omega arith in
    let l : line c.args.self.now deep (name_at c.args.self.now.sizes c.args.self.now.k c.args.start) (name_at c.args.self.now.sizes c.args.self.now.k c.loop-next.edge) ≡ name_at c.args.self.now.sizes c.args.self.now.k c.loop-next.edge ∷ [] = stops_end (pairs_of c.args.self.now) (single c.args.self.now.sizes (field_of c.args.self.now) c.args.self.now.k) (name_at c.args.self.now.sizes c.args.self.now.k c.args.start) (name_at c.args.self.now.sizes c.args.self.now.k c.loop-next.edge) c.in_default.ensures in
    let pushed : c.push.new.self.items ≡ c.loop-next.points.items ++ c.point.result ∷ [] = search rules in
    points_end c.args.self.now deep (name_at c.args.self.now.sizes c.args.self.now.k c.args.start) (point_at c.args.self.now.sizes (field_of c.args.self.now)) c.args.points.now.items c.loop-next.points.items c.push.new.self.items
    (map (point_at c.args.self.now.sizes (field_of c.args.self.now)) (line_from (pairs_of c.args.self.now) (name_at c.args.self.now.sizes c.args.self.now.k c.args.start))) (name_at c.args.self.now.sizes c.args.self.now.k c.loop-next.edge) c.point.result pushed c.point.ensures.value l c.loop-next.invariant.points

pub returns-in_default-clause-marks : goal.returns-in_default-clause-marks
returns-in_default-clause-marks c =
    let deep : 0 < c.args.self.now.sizes.nz = let h = c.requires.plane.grid.z.least in omega arith in
    let l : line c.args.self.now deep (name_at c.args.self.now.sizes c.args.self.now.k c.args.start) (name_at c.args.self.now.sizes c.args.self.now.k c.loop-next.edge) ≡ name_at c.args.self.now.sizes c.args.self.now.k c.loop-next.edge ∷ [] = stops_end (pairs_of c.args.self.now) (single c.args.self.now.sizes (field_of c.args.self.now) c.args.self.now.k) (name_at c.args.self.now.sizes c.args.self.now.k c.args.start) (name_at c.args.self.now.sizes c.args.self.now.k c.loop-next.edge) c.in_default.ensures in
    let low : c.slot.result < length c.loop-next.seen = let b = c.slot.ensures.bound in let a = c.loop-next.auto.seen in omega (arith, c.requires.room) in
    let name : slot_name c.args.self.now.sizes c.args.self.now.k c.slot.result ≡ name_at c.args.self.now.sizes c.args.self.now.k c.loop-next.edge = ap (slot_name c.args.self.now.sizes c.args.self.now.k) c.slot.ensures.value ∙ slot_is c.args.self.now.sizes c.args.self.now.k c.loop-next.edge c.loop-next.invariant.edge.known in
    record {
      count = length-set c.loop-next.seen c.slot.result true ∙ c.loop-next.auto.seen;
      each = λ t h. marks_end c.args.self.now deep (name_at c.args.self.now.sizes c.args.self.now.k c.args.start) c.loop-next.seen c.slot.result (name_at c.args.self.now.sizes c.args.self.now.k c.loop-next.edge) t low name l ∙ c.loop-next.invariant.marks t h;
    }

pub returns-then-eq-clause-near : goal.returns-then-eq-clause-near
returns-then-eq-clause-near c =
    let pushed : c.push.new.self.items ≡ c.loop-next.points.items ++ c.point.result ∷ [] = search rules in
    near_more c.loop-next.points.items c.push.new.self.items c.point.result pushed c.loop-next.invariant.near c.point.ensures.near

pub returns-in_default-clause-near : goal.returns-in_default-clause-near
returns-in_default-clause-near c =
    let pushed : c.push.new.self.items ≡ c.loop-next.points.items ++ c.point.result ∷ [] = search rules in
    near_more c.loop-next.points.items c.push.new.self.items c.point.result pushed c.loop-next.invariant.near c.point.ensures.near
