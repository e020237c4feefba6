-- The lines of a plane as they are met, edge by edge.
use Rattle.std.proofs.Common.{◌≡◌, ℕ, ◌+◌, ◌*◌, ◌/◌, ◌%◌, ◌<◌, ◌≤◌, Bool, false, cond, eqb, ◌||◌, List, [], ◌∷◌, ◌++◌, map, length, get_or, take, drop, refl, sym, inl, inr, ◌∙◌, ap, subst, arith, ℤ, pos, Some, None}
use Rattle.std.proofs.lemmas.List.{map-append}
use Rattle.std.proofs.Math.Seq.{take-append_seam}
use Rattle.iso_defs.specs.Contours.{line_from, lines_of_least}
use Rattle.std.specs.List.{flat_map}
use Rattle.std.proofs.lemmas.Bool.{cases_Bool}
use Rattle.iso_defs.specs.Lists.{below, begins, ends, is_in}
use Rattle.iso_defs.specs.Grid.{Grid, index, edge_name, edge_lower, edge_upper, edge_axis, coordinate}
use Rattle.iso_defs.specs.Place.{place, edge_coordinate}
use Rattle.std.proofs.lemmas.Nat.{div-add-mod', div_below, mod_below}
use Rattle.plane_laws.proofs.Places.{HasSquare, active_square, needs_width, needs_height}
use Rattle.plane_laws.specs.Lines.{start_of}
use Rattle.plane_laws.specs.Sides.{slot_name}
use Rattle.plane_laws.proofs.Scan.{covered, new_line, old_line, no_line}
use Rattle.plane_laws.proofs.Squares.{single, low}
use Rattle.plane_laws.proofs.Slots.{lines_more, lines_stay, covered_more}
use Rattle.plane_contour.specs.declared.plane.Plane.{Plane}
use Rattle.plane_contour.specs.Planes.{IsPlane, IsActive, field_of, pairs_of, plane_size}
use Rattle.plane_contour.specs.Texts.{DrawnLine, Point, point_at}
use Rattle.plane_contour.specs.Drawn.{drawn, IsLineMet, IsNumbered}

-- the lines that are met before the edge of a number
abbrev pub met_before : Plane → ℕ → List (Bool × List ℕ)
met_before p t = flat_map (lines_of_least p.sizes (pairs_of p)) (below (slot_name p.sizes p.k t))

-- the edge of a number, by its coordinates
module _ (p : Plane) (is : IsPlane p) (t : ℕ) (inside : t < 2 * plane_size p.sizes) where
  abbrev x : ℕ
  x = t / 2 % p.sizes.nx

  abbrev y : ℕ
  y = t / 2 / p.sizes.nx

  wide : 0 < p.sizes.nx
  wide = let h = is.grid.x.least in omega arith

  whole : t / 2 ≡ t / 2 % p.sizes.nx + p.sizes.nx * (t / 2 / p.sizes.nx)
  whole = omega (arith, div-add-mod' (t / 2) p.sizes.nx)

  pub x_low : t / 2 % p.sizes.nx < p.sizes.nx
  x_low = mod_below (t / 2) p.sizes.nx wide

  pub y_low : t / 2 / p.sizes.nx < p.sizes.ny
  y_low = div_below (t / 2) p.sizes.nx p.sizes.ny wide (let e : p.sizes.ny * p.sizes.nx ≡ p.sizes.nx * p.sizes.ny = omega arith in let h : t / 2 < p.sizes.nx * p.sizes.ny = omega arith in omega arith)

  pub named : edge_name (index p.sizes (t / 2 % p.sizes.nx) (t / 2 / p.sizes.nx) p.k) (t % 2) ≡ slot_name p.sizes p.k t
  named = ap (λ n. 3 * n + t % 2) (spread (t / 2 % p.sizes.nx) (t / 2 / p.sizes.nx) p.sizes.nx p.sizes.ny ∙ ap (λ n. p.k * (p.sizes.nx * p.sizes.ny) + n) (sym whole))
    where
      spread : (x y m n : ℕ) → x + m * (y + n * p.k) ≡ p.k * (m * n) + (x + m * y)
      spread x y m n = omega arith

  pub numbered_edge : (m n : ℕ) → m ≡ p.sizes.nx → n ≡ p.sizes.nx → (t % 2 ≡ 0 → t / 2 % m + 1 < p.sizes.nx) → (t % 2 ≡ 1 → t / 2 / n + 1 < p.sizes.ny)
      → IsNumbered p t (Some (record { x = t / 2 % m; y = t / 2 / n; axis = t % 2 }))
  numbered_edge m n e f right ahead =
      subst (λ n. IsNumbered p t (Some (record { x = t / 2 % m; y = t / 2 / n; axis = t % 2 }))) (sym f)
      (subst (λ m. IsNumbered p t (Some (record { x = t / 2 % m; y = t / 2 / p.sizes.nx; axis = t % 2 }))) (sym e) (
        record {
          x = x_low;
          y = y_low;
          known = omega arith;
          right = λ z. subst (λ m. t / 2 % m + 1 < p.sizes.nx) e (right z);
          ahead = λ z. subst (λ n. t / 2 / n + 1 < p.sizes.ny) f (ahead z);
        },
        named,
      ))

  -- where it would leave the plane, no segment begins or ends at it
  square_of : (a : ℕ) → t % 2 ≡ a → IsActive (pairs_of p) (slot_name p.sizes p.k t)
      → (b : Bool) × HasSquare p.sizes (field_of p) p.k (edge_name (index p.sizes (t / 2 % p.sizes.nx) (t / 2 / p.sizes.nx) p.k) a) b
  square_of a e h =
      let r : (b : Bool) × HasSquare p.sizes (field_of p) p.k (slot_name p.sizes p.k t) b = active_square p.sizes (field_of p) p.k (slot_name p.sizes p.k t) h in
      (r.0, subst (λ n. HasSquare p.sizes (field_of p) p.k n r.0) (sym named ∙ ap (edge_name (index p.sizes (t / 2 % p.sizes.nx) (t / 2 / p.sizes.nx) p.k)) e) r.1)

  pub beyond_right : t % 2 ≡ 0 → p.sizes.nx ≤ t / 2 % p.sizes.nx + 1 → IsActive (pairs_of p) (slot_name p.sizes p.k t) → ⊥
  beyond_right e l h =
      let r = square_of 0 e h in
      let n = needs_width p.sizes (field_of p) p.k (t / 2 % p.sizes.nx) (t / 2 / p.sizes.nx) x_low y_low is.within r.0 r.1 in
      omega arith

  pub beyond_top : t % 2 ≡ 1 → p.sizes.ny ≤ t / 2 / p.sizes.nx + 1 → IsActive (pairs_of p) (slot_name p.sizes p.k t) → ⊥
  beyond_top e l h =
      let r = square_of 1 e h in
      let n = needs_height p.sizes (field_of p) p.k (t / 2 % p.sizes.nx) (t / 2 / p.sizes.nx) x_low y_low is.within r.0 r.1 in
      omega arith

-- one edge more
module _ (p : Plane) (is : IsPlane p) (t : ℕ) where
  deep : 0 < p.sizes.nz
  deep = let h = is.within in omega arith

  abbrev here : ℕ
  here = slot_name p.sizes p.k t

  -- an edge whose line was met, or that is on none
  pub passed : (old new : List Bool) → IsLineMet p t old new None → get_or old t false ≡ covered (met_before p t) (slot_name p.sizes p.k t) → met_before p (t + 1) ≡ met_before p t
  passed old new h marked =
      lines_stay p.sizes (field_of p) p.k deep t (elim h.1 [
        | inl seen ↦ old_line p.sizes (pairs_of p) (single p.sizes (field_of p) p.k) (low p.sizes (field_of p) p.k deep) here (met_before p t) refl (sym marked ∙ seen)
        | inr idle ↦ no_line p.sizes (pairs_of p) (single p.sizes (field_of p) p.k) (low p.sizes (field_of p) p.k deep) here
            (elim (cases_Bool (begins (pairs_of p) here)) [ inl y ↦ absurd (idle (inl y)) | inr n ↦ n ])
            (elim (cases_Bool (ends (pairs_of p) here)) [ inl y ↦ absurd (idle (inr y)) | inr n ↦ n ])
      ])

  -- an edge whose line was not met
  abbrev line : Bool × List ℕ
  line = (ends (pairs_of p) (start_of (pairs_of p) here), line_from (pairs_of p) (start_of (pairs_of p) here))

  listed_here : (old new : List Bool) (l : DrawnLine) → IsLineMet p t old new (Some l) → get_or old t false ≡ covered (met_before p t) here
      → lines_of_least p.sizes (pairs_of p) here ≡ line ∷ []
  listed_here old new l h marked =
      new_line p.sizes (pairs_of p) (single p.sizes (field_of p) p.k) (low p.sizes (field_of p) p.k deep) here (met_before p t) refl h.1 (sym marked ∙ h.0)

  pub grown : (old new : List Bool) (l : DrawnLine) → IsLineMet p t old new (Some l) → get_or old t false ≡ covered (met_before p t) here
      → map (drawn p.sizes (field_of p)) (met_before p (t + 1)) ≡ map (drawn p.sizes (field_of p)) (met_before p t) ++ l ∷ []
  grown old new l h marked =
      ap (map (drawn p.sizes (field_of p))) (lines_more p.sizes (field_of p) p.k deep t ∙ ap (λ z. met_before p t ++ z) (listed_here old new l h marked))
      ∙ (map-append (drawn p.sizes (field_of p)) (met_before p t) (line ∷ [])
      ∙ ap (λ z. map (drawn p.sizes (field_of p)) (met_before p t) ++ z ∷ []) (sym h.2))

  pub more_marked : (old new : List Bool) (l : DrawnLine) (u : ℕ) → IsLineMet p t old new (Some l) → get_or old t false ≡ covered (met_before p t) here → u < length old
      → get_or old u false ≡ covered (met_before p t) (slot_name p.sizes p.k u) → get_or new u false ≡ covered (met_before p (t + 1)) (slot_name p.sizes p.k u)
  more_marked old new l u h marked inside each =
      h.3.each u inside
      ∙ (ap (λ b. b || is_in (slot_name p.sizes p.k u) line.1) each
      ∙ sym (covered_more p.sizes (field_of p) p.k deep t (slot_name p.sizes p.k u) line (listed_here old new l h marked)))

-- what two samples of a plane make of an edge
pub same_points : (g : Grid) (s t : ℕ → ℤ) (e : ℕ) → s (edge_lower e) ≡ t (edge_lower e) → s (edge_upper g e) ≡ t (edge_upper g e) → point_at g s e ≡ point_at g t e
same_points g s t e p q =
    let at : (axis : ℕ) → edge_coordinate g s e axis ≡ edge_coordinate g t e axis = λ axis.
    ap (λ z. 1000 * coordinate g axis (edge_lower e) + cond (eqb axis (edge_axis e)) (place z (s (edge_upper g e))) 0) p
    ∙ ap (λ z. 1000 * coordinate g axis (edge_lower e) + cond (eqb axis (edge_axis e)) (place (t (edge_lower e)) z) 0) q in
    ap (λ z. let r : Point = (record { 0 = e }, record { 0 = pos z }, record { 0 = pos (edge_coordinate g s e 1) }) in r) (at 0)
    ∙ ap (λ z. let r : Point = (record { 0 = e }, record { 0 = pos (edge_coordinate g t e 0) }, record { 0 = pos z }) in r) (at 1)

-- the marks that a call writes back
pub written_back : (n : ℕ) (old new : List Bool) (t : ℕ) → length new ≡ n → get_or (take n (new ++ drop (length new) old)) t false ≡ get_or new t false
written_back n old new t e = ap (λ l. get_or l t false) (subst (λ m. take m (new ++ drop (length new) old) ≡ new) e (take-append_seam new (drop (length new) old)))
