-- The contour lines of a plane depend on the values of its points alone.
use Rattle.std.proofs.Common.{◌≡◌, ℕ, ◌+◌, ◌*◌, ◌<◌, ◌≤◌, Bool, List, [], ◌∷◌, ◌++◌, map, refl, sym, ◌∙◌, ap, subst, inl, inr, ◌⊎◌, arith, ℤ, true}
use Rattle.std.specs.List.{flat_map}
use Rattle.std.proofs.Math.Nat.{mul-le-mul_left}
use Rattle.iso_defs.specs.Lists.{below, begins, ends}
use Rattle.iso_defs.specs.Grid.{Grid, name_bound, edge_lower, edge_upper, edge_name}
use Rattle.iso_defs.specs.Face.{value_segments}
use Rattle.iso_defs.specs.Contours.{squares, square_pairs, plane_pairs, line_from, lines_of_least, contours}
use Rattle.triangle_laws.proofs.Lists.{In, In-flat_map}
use Rattle.triangle_laws.proofs.FanWalk.{next_in, ends_in}
use Rattle.mesh_laws.proofs.Neighbours.{by_four}
use Rattle.plane_laws.proofs.Homes.{active_on}
use Rattle.plane_laws.proofs.Scan.{Found, found}
use Rattle.plane_laws.proofs.Squares.{side, Source, source, first_up, second_down, Spot, spot, single, low, lower_is, upper_is}

flat_same : {A B : Type 0} (f h : A → List B) (xs : List A) → ((x : A) → In x xs → f x ≡ h x) → flat_map f xs ≡ flat_map h xs
flat_same f h [] e = refl
flat_same f h (x ∷ xs) e = ap (λ l. l ++ flat_map f xs) (e x (inl refl)) ∙ ap (λ l. h x ++ l) (flat_same f h xs (λ y i. e y (inr i)))

map_same : {A B : Type 0} (f h : A → B) (xs : List A) → ((x : A) → In x xs → f x ≡ h x) → map f xs ≡ map h xs
map_same f h [] e = refl
map_same f h (x ∷ xs) e = ap (λ y. y ∷ map f xs) (e x (inl refl)) ∙ ap (λ l. h x ∷ l) (map_same f h xs (λ y i. e y (inr i)))

module _ (g : Grid) (s t : ℕ → ℤ) (k : ℕ) (deep : 0 < g.nz) (agree : (q : ℕ) → q < g.nx * g.ny → s (k * (g.nx * g.ny) + q) ≡ t (k * (g.nx * g.ny) + q)) where
  -- the corners of a square of the plane
  same_at : (p c : ℕ) (m : Spot g s k p) → m.x + g.nx * m.y + c < g.nx * g.ny → s (p + c) ≡ t (p + c)
  same_at p c m h =
      let a : p + c ≡ k * (g.nx * g.ny) + (m.x + g.nx * m.y + c) = ap (λ n. n + c) m.is ∙ spread m.x m.y g.nx g.ny in
      ap s a ∙ (agree (m.x + g.nx * m.y + c) h ∙ ap t (sym a))
    where
      spread : (x y m n : ℕ) → x + m * (y + n * k) + c ≡ k * (m * n) + (x + m * y + c)
      spread x y m n = omega arith

  fits : (x y m n : ℕ) → x + 1 < m → y + 1 < n → x + m * y + (m + 1) < m * n
  fits x y m n h l =
      let e : m * (y + 2) ≤ m * n = mul-le-mul_left m (let q : y + 2 ≤ n = omega arith in q) in
      let f : m * (y + 2) ≡ m * y + m + m = omega arith in
      omega (arith, e, f)

  record Corners (p : ℕ) : Type 0 where
    first : s p ≡ t p
    second : s (p + 1) ≡ t (p + 1)
    third : s (p + g.nx + 1) ≡ t (p + g.nx + 1)
    fourth : s (p + g.nx) ≡ t (p + g.nx)

  corners : (p : ℕ) → In p (squares g k) → Corners p
  corners p i =
      let m : Spot g s k p = spot g s k p deep i in
      let b : m.x + g.nx * m.y + (g.nx + 1) < g.nx * g.ny = fits m.x m.y g.nx g.ny m.hx m.hy in
      let z : p + 0 ≡ p = omega arith in
      let w : p + (g.nx + 1) ≡ p + g.nx + 1 = omega arith in
      record {
        first = subst (λ n. s n ≡ t n) z (same_at p 0 m (omega arith));
        second = same_at p 1 m (omega arith);
        third = subst (λ n. s n ≡ t n) w (same_at p (g.nx + 1) m b);
        fourth = same_at p g.nx m (omega arith);
      }

  pub same_pairs : plane_pairs g s k ≡ plane_pairs g t k
  same_pairs = flat_same (square_pairs g s) (square_pairs g t) (squares g k) (λ p i.
      (let c : Corners p = corners p i in
      let names : List (ℕ × ℕ) → List (ℕ × ℕ) = map (λ (o : ℕ × ℕ). (side g s k p o.0, side g s k p o.1)) in
      ap (λ z. names (value_segments z (s (p + 1)) (s (p + g.nx + 1)) (s (p + g.nx)))) c.first
      ∙ (ap (λ z. names (value_segments (t p) z (s (p + g.nx + 1)) (s (p + g.nx)))) c.second
      ∙ (ap (λ z. names (value_segments (t p) (t (p + 1)) z (s (p + g.nx)))) c.third
      ∙ ap (λ z. names (value_segments (t p) (t (p + 1)) (t (p + g.nx + 1)) z)) c.fourth))))

  -- the ends of an edge of the plane
  Alike : ℕ → Type 0
  Alike e = (s (edge_lower e) ≡ t (edge_lower e)) × (s (edge_upper g e) ≡ t (edge_upper g e))

  alike_side : (p i : ℕ) → In p (squares g k) → i < 4 → Alike (side g s k p i)
  unfolding Alike
  alike_side p i j h =
      let c : Corners p = corners p j in
      let at : (m n : ℕ) → m ≡ n → s n ≡ t n → s m ≡ t m = λ m n e q. ap s e ∙ (q ∙ ap t (sym e)) in
      by_four (λ i. (s (edge_lower (side g s k p i)) ≡ t (edge_lower (side g s k p i))) × (s (edge_upper g (side g s k p i)) ≡ t (edge_upper g (side g s k p i))))
      (at (edge_lower (edge_name p 0)) p (lower_is g s k p 0 (omega arith)) c.first, at (edge_upper g (edge_name p 0)) (p + 1) (upper_is g s k p 0 (omega arith)) c.second) (
        at (edge_lower (edge_name (p + 1) 1)) (p + 1) (lower_is g s k (p + 1) 1 (omega arith)) c.second,
        at (edge_upper g (edge_name (p + 1) 1)) (p + g.nx + 1) (upper_is g s k (p + 1) 1 (omega arith) ∙ omega arith) c.third,
      ) (
        at (edge_lower (edge_name (p + g.nx) 0)) (p + g.nx) (lower_is g s k (p + g.nx) 0 (omega arith)) c.fourth,
        at (edge_upper g (edge_name (p + g.nx) 0)) (p + g.nx + 1) (upper_is g s k (p + g.nx) 0 (omega arith)) c.third,
      )
      (at (edge_lower (edge_name p 1)) p (lower_is g s k p 1 (omega arith)) c.first, at (edge_upper g (edge_name p 1)) (p + g.nx) (upper_is g s k p 1 (omega arith)) c.fourth)
      i h

  alike_active : (e : ℕ) → (begins (plane_pairs g s k) e ≡ true) ⊎ (ends (plane_pairs g s k) e ≡ true) → Alike e
  unfolding Alike
  alike_active e (inl h) =
      let o : Source g s k e _ = source g s k e _ (next_in (plane_pairs g s k) e h) in
      subst (λ e. (s (edge_lower e) ≡ t (edge_lower e)) × (s (edge_upper g e) ≡ t (edge_upper g e))) (sym o.from)
      (alike_side o.square o.at.0 o.in_plane (first_up g s k o.square o.at o.segment).0)
  alike_active e (inr h) =
      let d : (d : ℕ) × In (d, e) (plane_pairs g s k) = ends_in (plane_pairs g s k) e h in
      let o : Source g s k d.0 e = source g s k d.0 e d.1 in
      subst (λ e. (s (edge_lower e) ≡ t (edge_lower e)) × (s (edge_upper g e) ≡ t (edge_upper g e))) (sym o.to)
      (alike_side o.square o.at.1 o.in_plane (second_down g s k o.square o.at o.segment).0)

  pub same_contours : contours g s k ≡ contours g t k
  same_contours = ap (λ ps. flat_map (lines_of_least g ps) (below (name_bound g))) same_pairs

  -- and so is what is made of each edge of a line from the values at its ends
  pub same_lines : {A : Type 0} (f h : ℕ → A) → ((e : ℕ) → s (edge_lower e) ≡ t (edge_lower e) → s (edge_upper g e) ≡ t (edge_upper g e) → f e ≡ h e)
      → map {B = Bool × List A} (λ (l : Bool × List ℕ). (l.0, map f l.1)) (contours g s k) ≡ map {B = Bool × List A} (λ (l : Bool × List ℕ). (l.0, map h l.1)) (contours g t k)
  unfolding Alike
  same_lines {A} f h e =
      map_same {B = Bool × List A} (λ (l : Bool × List ℕ). (l.0, map f l.1)) (λ (l : Bool × List ℕ). (l.0, map h l.1)) (contours g s k)
      (λ l i. (let w : (n : ℕ) × In n (below (name_bound g)) × In l (lines_of_least g (plane_pairs g s k) n) = In-flat_map (lines_of_least g (plane_pairs g s k)) l (below (name_bound g)) i in
      let d : Found g (plane_pairs g s k) (single g s k) (low g s k deep) w.0 l = found g (plane_pairs g s k) (single g s k) (low g s k deep) w.0 l w.2 in
      let q : l.1 ≡ line_from (plane_pairs g s k) d.head = ap (λ (z : Bool × List ℕ). z.1) d.is.is in
      ap (λ (z : List A). (l.0, z)) (map_same f h l.1 (λ n j.
      (let a : (s (edge_lower n) ≡ t (edge_lower n)) × (s (edge_upper g n) ≡ t (edge_upper g n))
      = alike_active n (active_on (plane_pairs g s k) (single g s k) d.head n l d.is (subst (λ z. In n z) q j)) in
      e n a.0 a.1)))))
      ∙ ap (map {B = Bool × List A} (λ (l : Bool × List ℕ). (l.0, map h l.1))) same_contours
