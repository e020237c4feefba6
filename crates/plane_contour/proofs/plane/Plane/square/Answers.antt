use Rattle.std.proofs.Common.{◌≡◌, ℕ, ◌+◌, ◌-◌, ◌<◌, true, false, sym, ap, ◌∙◌, subst, arith}
use Rattle.iso_defs.specs.Grid.{index, edge_name}
use Rattle.plane_laws.specs.Sides.{HasSide}
use Rattle.plane_contour.specs.Planes.{field_of}
use Rattle.plane_laws.proofs.Places.{needs_after, needs_before, needs_left, needs_right}
use Rattle.plane_contour.proofs.Planes.{as_square, side_third}
use Rattle.plane_contour.proofs.plane.Plane.square.Goals as goal

pub returns-in-0-false-clause-found : goal.returns-in-0-false-clause-found
returns-in-0-false-clause-found c =
    let k : ℕ = c.args.self.now.k in
    let y : ℕ = c.args.edge.y in
    let up : y - 1 + 1 ≡ y = let h = c.if-y-gt0.true in omega arith in
    record {
      x = c.requires.edge.right c.in-0-false.is-0;
      y = subst (λ n. n < c.args.self.now.sizes.ny) (sym up) c.requires.edge.y;
      known = omega arith;
      edge = side_third c.args.self.now.sizes (field_of c.args.self.now) k c.args.edge.x (y - 1)
          ∙ (ap (λ n. edge_name (index c.args.self.now.sizes c.args.edge.x n k) 0) up ∙ ap (edge_name (index c.args.self.now.sizes c.args.edge.x y k)) (sym c.in-0-false.is-0));
      direction = sym c.in-0-false.is-1;
    }

pub returns-in_default-clause-none : goal.returns-in_default-clause-none
returns-in_default-clause-none c = λ h.
    let h' : HasSide c.args.self.now.sizes c.args.self.now.k (edge_name (index c.args.self.now.sizes c.args.edge.x c.args.edge.y c.args.self.now.k) 0) true
    = subst (λ b. HasSide c.args.self.now.sizes c.args.self.now.k (edge_name (index c.args.self.now.sizes c.args.edge.x c.args.edge.y c.args.self.now.k) 0) b) c.in-0-true.is-1
    (subst (λ a. HasSide c.args.self.now.sizes c.args.self.now.k (edge_name (index c.args.self.now.sizes c.args.edge.x c.args.edge.y c.args.self.now.k) a) c.args.along) c.in-0-true.is-0 h) in
    let n = needs_after c.args.self.now.sizes (field_of c.args.self.now) c.args.self.now.k c.args.edge.x c.args.edge.y c.requires.edge.x c.requires.edge.y c.requires.plane.within
    (as_square c.args.self.now.sizes (field_of c.args.self.now) c.args.self.now.k _ true h') in
    let k = c.if-y-ny.false in
    omega arith

pub returns-in_default-2-clause-none : goal.returns-in_default-2-clause-none
returns-in_default-2-clause-none c = λ h.
    let h' : HasSide c.args.self.now.sizes c.args.self.now.k (edge_name (index c.args.self.now.sizes c.args.edge.x c.args.edge.y c.args.self.now.k) 0) false
    = subst (λ b. HasSide c.args.self.now.sizes c.args.self.now.k (edge_name (index c.args.self.now.sizes c.args.edge.x c.args.edge.y c.args.self.now.k) 0) b) c.in-0-false.is-1
    (subst (λ a. HasSide c.args.self.now.sizes c.args.self.now.k (edge_name (index c.args.self.now.sizes c.args.edge.x c.args.edge.y c.args.self.now.k) a) c.args.along) c.in-0-false.is-0 h) in
    let n = needs_before c.args.self.now.sizes (field_of c.args.self.now) c.args.self.now.k c.args.edge.x c.args.edge.y c.requires.edge.x c.requires.edge.y c.requires.plane.within
    (as_square c.args.self.now.sizes (field_of c.args.self.now) c.args.self.now.k _ false h') in
    let k = c.if-y-gt0.false in
    omega arith

pub returns-in_default-3-clause-none : goal.returns-in_default-3-clause-none
returns-in_default-3-clause-none c = λ h.
    let h' : HasSide c.args.self.now.sizes c.args.self.now.k (edge_name (index c.args.self.now.sizes c.args.edge.x c.args.edge.y c.args.self.now.k) 1) true
    = subst (λ b. HasSide c.args.self.now.sizes c.args.self.now.k (edge_name (index c.args.self.now.sizes c.args.edge.x c.args.edge.y c.args.self.now.k) 1) b) c.in-1-true.is-1
    (subst (λ a. HasSide c.args.self.now.sizes c.args.self.now.k (edge_name (index c.args.self.now.sizes c.args.edge.x c.args.edge.y c.args.self.now.k) a) c.args.along) c.in-1-true.is-0 h) in
    let n = needs_left c.args.self.now.sizes (field_of c.args.self.now) c.args.self.now.k c.args.edge.x c.args.edge.y c.requires.edge.x c.requires.edge.y c.requires.plane.within
    (as_square c.args.self.now.sizes (field_of c.args.self.now) c.args.self.now.k _ true h') in
    let k = c.if-x-gt0.false in
    omega arith

pub returns-in_default-4-clause-none : goal.returns-in_default-4-clause-none
returns-in_default-4-clause-none c = λ h.
    let h' : HasSide c.args.self.now.sizes c.args.self.now.k (edge_name (index c.args.self.now.sizes c.args.edge.x c.args.edge.y c.args.self.now.k) 1) false
    = subst (λ b. HasSide c.args.self.now.sizes c.args.self.now.k (edge_name (index c.args.self.now.sizes c.args.edge.x c.args.edge.y c.args.self.now.k) 1) b) c.in-1-false.is-1
    (subst (λ a. HasSide c.args.self.now.sizes c.args.self.now.k (edge_name (index c.args.self.now.sizes c.args.edge.x c.args.edge.y c.args.self.now.k) a) c.args.along) c.in-1-false.is-0 h) in
    let n = needs_right c.args.self.now.sizes (field_of c.args.self.now) c.args.self.now.k c.args.edge.x c.args.edge.y c.requires.edge.x c.requires.edge.y c.requires.plane.within
    (as_square c.args.self.now.sizes (field_of c.args.self.now) c.args.self.now.k _ false h') in
    let k = c.if-x-nx.false in
    omega arith
