-- Two different lattice edges lie together in at most one unit face.
use Rattle.std.proofs.Common.{◌≡◌, ℕ, ◌+◌, ◌*◌, ◌/◌, ◌<◌, Bool, true, false, ◌&&◌, ◌||◌, refl, sym, ◌∙◌, ap, subst, inl, inr, arith, eqb, ltb}
use Rattle.std.proofs.lemmas.Bool.{and_parts, or_cases, eqb-true, eq-eqb, and_from, ltb-true}
use Rattle.std.proofs.lemmas.Nat.{mod_below}
use Rattle.iso_defs.specs.Lists.{is_in}
use Rattle.iso_defs.specs.Grid.{Grid, coordinate, has_next, IsSolid}
use Rattle.iso_defs.specs.Cell.{corner_point, edge_corner, cell_edge, face_edges}
use Rattle.case_laws.proofs.Cases.{all_below}
use Rattle.case_laws.proofs.EdgePairs.{bit_x, bit_y, bit_z, alike, same_corner, implies}
use Rattle.case_laws.proofs.Rotation.{bit_along}
use Rattle.iso_defs.specs.UnitFace.{is_face, face_has}
use Rattle.case_laws.proofs.UnitFaces.{faces_all, flat_all}
use Rattle.triangle_laws.proofs.Lists.{In, In-map, list_all_at, any_in}
use Rattle.triangle_laws.proofs.Fans.{in_is_in}
use Rattle.case_laws.proofs.Tests.{all_below_at}
use Rattle.iso_defs.proofs.Coordinates.{x_moved, y_moved, z_moved}
use Rattle.mesh_laws.proofs.TwoCells.{same_edge, Same, same_cell, alike_is, corner_below}
use Rattle.mesh_laws.proofs.Padded.{by_three}

flat_at : (n a : ℕ) → n < 3 → a < 12 → is_in a (face_edges (2 * n)) ≡ true → bit_along n a ≡ 0
flat_at n a hn ha h =
    let t : implies (is_in a (face_edges (2 * n))) (eqb (bit_along n a) 0) ≡ true
    = all_below_at 12 (λ a. implies (is_in a (face_edges (2 * n))) (eqb (bit_along n a) 0)) a
    (all_below_at 3 (λ n. all_below 12 (λ a. implies (is_in a (face_edges (2 * n))) (eqb (bit_along n a) 0))) n flat_all hn) ha in
    eqb-true (bit_along n a) 0 (subst (λ b. implies b (eqb (bit_along n a) 0) ≡ true) h t)

-- where an edge of a unit face is
record Spot (g : Grid) (p a : ℕ) : Type 0 where
  x : coordinate g 0 (corner_point g p (edge_corner a)) ≡ coordinate g 0 p + bit_x a
  y : coordinate g 1 (corner_point g p (edge_corner a)) ≡ coordinate g 1 p + bit_y a
  z : coordinate g 2 (corner_point g p (edge_corner a)) ≡ coordinate g 2 p + bit_z a

spot : (g : Grid) (p n a : ℕ) → IsSolid g → n < 3 → a < 12 → is_face g p n ≡ true → is_in a (face_edges (2 * n)) ≡ true → Spot g p a
spot g p n a solid hn ha face h =
    let low : edge_corner a < 8 = corner_below a ha in
    let mx : coordinate g 0 p < g.nx = mod_below (p / 1) g.nx solid.x in
    let my : coordinate g 1 p < g.ny = mod_below (p / g.nx) g.ny solid.y in
    let mz : coordinate g 2 p < g.nz = mod_below (p / (g.nx * g.ny)) g.nz solid.z in
    let f : ((eqb n 0 || has_next g 0 p) ≡ true) × (((eqb n 1 || has_next g 1 p) && (eqb n 2 || has_next g 2 p)) ≡ true) = and_parts _ _ face in
    let f' : ((eqb n 1 || has_next g 1 p) ≡ true) × ((eqb n 2 || has_next g 2 p) ≡ true) = and_parts _ _ f.1 in
    let flat : (m : ℕ) → eqb n m ≡ true → bit_along m a ≡ 0 = λ m e. ap (λ k. bit_along k a) (sym (eqb-true n m e)) ∙ flat_at n a hn ha h in
    let hx : coordinate g 0 p + bit_x a < g.nx = elim (or_cases (eqb n 0) (has_next g 0 p) f.0) [
      | inl e ↦ omega (arith, flat 0 e)
      | inr e ↦ (let k : coordinate g 0 p + 1 < g.nx = ltb-true _ _ e in omega arith)
    ] in
    let hy : coordinate g 1 p + bit_y a < g.ny = elim (or_cases (eqb n 1) (has_next g 1 p) f'.0) [
      | inl e ↦ omega (arith, flat 1 e)
      | inr e ↦ (let k : coordinate g 1 p + 1 < g.ny = ltb-true _ _ e in omega arith)
    ] in
    let hz : coordinate g 2 p + bit_z a < g.nz = elim (or_cases (eqb n 2) (has_next g 2 p) f'.1) [
      | inl e ↦ omega (arith, flat 2 e)
      | inr e ↦ (let k : coordinate g 2 p + 1 < g.nz = ltb-true _ _ e in omega arith)
    ] in
    record { x = x_moved g p (bit_x a) (bit_y a) (bit_z a) hx hy hz; y = y_moved g p (bit_x a) (bit_y a) (bit_z a) hx hy hz; z = z_moved g p (bit_x a) (bit_y a) (bit_z a) hx hy hz }

edge_low : (n x : ℕ) → n < 3 → In x (face_edges (2 * n)) → x < 12
edge_low n x hn i =
    by_three (λ n. In x (face_edges (2 * n)) → x < 12)
    (λ i. ltb-true x 12 (list_all_at (λ e. ltb e 12) (face_edges 0) x refl i))
    (λ i. ltb-true x 12 (list_all_at (λ e. ltb e 12) (face_edges 2) x refl i))
    (λ i. ltb-true x 12 (list_all_at (λ e. ltb e 12) (face_edges 4) x refl i)) n hn i

-- an edge of a unit face, by its number there
local_edge : (g : Grid) (p n e : ℕ) → n < 3 → face_has g p n e ≡ true → (x : ℕ) × (x < 12) × (is_in x (face_edges (2 * n)) ≡ true) × (cell_edge g p x ≡ e)
local_edge g p n e hn h =
    let m : (x : ℕ) × In x (face_edges (2 * n)) × (e ≡ cell_edge g p x) = In-map (cell_edge g p) e (face_edges (2 * n)) (in_is_in e _ h) in
    (m.0, edge_low n m.0 hn m.1, any_in (λ y. eqb y m.0) (face_edges (2 * n)) m.0 m.1 (eq-eqb m.0 m.0 refl), sym m.2)

pub pair_determines_face : (g : Grid) (p m r n a b : ℕ) → IsSolid g → m < 3 → n < 3 → is_face g p m ≡ true → is_face g r n ≡ true
    → (a ≡ b → ⊥) → face_has g p m a ≡ true → face_has g p m b ≡ true → face_has g r n a ≡ true → face_has g r n b ≡ true
    → (p ≡ r) × (m ≡ n)
pair_determines_face g p m r n a b solid hm hn fp fr ne pa pb ra rb =
    let x : (x : ℕ) × (x < 12) × (is_in x (face_edges (2 * m)) ≡ true) × (cell_edge g p x ≡ a) = local_edge g p m a hm pa in
    let y : (x : ℕ) × (x < 12) × (is_in x (face_edges (2 * m)) ≡ true) × (cell_edge g p x ≡ b) = local_edge g p m b hm pb in
    let u : (x : ℕ) × (x < 12) × (is_in x (face_edges (2 * n)) ≡ true) × (cell_edge g r x ≡ a) = local_edge g r n a hn ra in
    let v : (x : ℕ) × (x < 12) × (is_in x (face_edges (2 * n)) ≡ true) × (cell_edge g r x ≡ b) = local_edge g r n b hn rb in
    let s : Same g p r x.0 u.0 = same x.0 u.0 x.1 u.1 x.2 u.2 (x.3 ∙ sym u.3) in
    let t : Same g p r y.0 v.0 = same y.0 v.0 y.1 v.1 y.2 v.2 (y.3 ∙ sym v.3) in
    let test : ℕ → ℕ → ℕ → ℕ → ℕ → ℕ → Bool = λ m n a b c d.
    implies (is_in c (face_edges (2 * n)) && (is_in d (face_edges (2 * n)) && (eqb (a / 4) (c / 4) && (eqb (b / 4) (d / 4) && alike a b c d))))
    (eqb a b || (eqb m n && same_corner a c)) in
    let inner : Bool → ℕ → ℕ → ℕ → ℕ → Bool = λ t m n a b. elim t as (λ _. Bool) [ false ↦ true | true ↦ all_below 12 (λ c. all_below 12 (λ d. test m n a b c d)) ] in
    let gate : ℕ → ℕ → ℕ → Bool = λ m a b. is_in a (face_edges (2 * m)) && is_in b (face_edges (2 * m)) in
    let t1 : all_below 3 (λ n. all_below 12 (λ a. all_below 12 (λ b. inner (gate m a b) m n a b))) ≡ true
    = all_below_at 3 (λ m. all_below 3 (λ n. all_below 12 (λ a. all_below 12 (λ b. inner (gate m a b) m n a b)))) m faces_all hm in
    let t2 : all_below 12 (λ a. all_below 12 (λ b. inner (gate m a b) m n a b)) ≡ true = all_below_at 3 (λ n. all_below 12 (λ a. all_below 12 (λ b. inner (gate m a b) m n a b))) n t1 hn in
    let t3 : all_below 12 (λ b. inner (gate m x.0 b) m n x.0 b) ≡ true = all_below_at 12 (λ a. all_below 12 (λ b. inner (gate m a b) m n a b)) x.0 t2 x.1 in
    let t4 : inner (gate m x.0 y.0) m n x.0 y.0 ≡ true = all_below_at 12 (λ b. inner (gate m x.0 b) m n x.0 b) y.0 t3 y.1 in
    let t5 : all_below 12 (λ c. all_below 12 (λ d. test m n x.0 y.0 c d)) ≡ true = subst (λ z. inner z m n x.0 y.0 ≡ true) (and_from _ _ x.2 y.2) t4 in
    let t6 : all_below 12 (λ d. test m n x.0 y.0 u.0 d) ≡ true = all_below_at 12 (λ c. all_below 12 (λ d. test m n x.0 y.0 c d)) u.0 t5 u.1 in
    let t7 : test m n x.0 y.0 u.0 v.0 ≡ true = all_below_at 12 (λ d. test m n x.0 y.0 u.0 d) v.0 t6 v.1 in
    let ante : (is_in u.0 (face_edges (2 * n)) && (is_in v.0 (face_edges (2 * n)) && (eqb (x.0 / 4) (u.0 / 4) && (eqb (y.0 / 4) (v.0 / 4) && alike x.0 y.0 u.0 v.0)))) ≡ true
    = and_from _ _ u.2 (and_from _ _ v.2 (and_from _ _ (eq-eqb _ _ s.axis) (and_from _ _ (eq-eqb _ _ t.axis) (alike_is g p r x.0 y.0 u.0 v.0 s t)))) in
    let post : (eqb x.0 y.0 || (eqb m n && same_corner x.0 u.0)) ≡ true = subst (λ z. implies z (eqb x.0 y.0 || (eqb m n && same_corner x.0 u.0)) ≡ true) ante t7 in
    elim (or_cases (eqb x.0 y.0) (eqb m n && same_corner x.0 u.0) post) [
      | inl e ↦ absurd (ne (sym x.3 ∙ (ap (cell_edge g p) (eqb-true _ _ e) ∙ y.3)))
      | inr e ↦ (let k : (eqb m n ≡ true) × (same_corner x.0 u.0 ≡ true) = and_parts _ _ e in
          (same_cell g p r x.0 u.0 s k.1, eqb-true _ _ k.0))
    ]
  where
    same : (x u : ℕ) → x < 12 → u < 12 → is_in x (face_edges (2 * m)) ≡ true → is_in u (face_edges (2 * n)) ≡ true → cell_edge g p x ≡ cell_edge g r u → Same g p r x u
    same x u hx hu ix iu e =
        let c : (corner_point g p (edge_corner x) ≡ corner_point g r (edge_corner u)) × (x / 4 ≡ u / 4) = same_edge g p r x u hx hu e in
        let k : Spot g p x = spot g p m x solid hm hx fp ix in
        let l : Spot g r u = spot g r n u solid hn hu fr iu in
        record {
          axis = c.1;
          point = c.0;
          x = sym k.x ∙ (ap (coordinate g 0) c.0 ∙ l.x);
          y = sym k.y ∙ (ap (coordinate g 1) c.0 ∙ l.y);
          z = sym k.z ∙ (ap (coordinate g 2) c.0 ∙ l.z);
        }
