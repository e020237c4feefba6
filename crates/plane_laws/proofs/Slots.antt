-- The lattice edges of a plane by number.
use Rattle.std.proofs.Common.{◌≡◌, ℕ, ◌+◌, ◌-◌, ◌*◌, ◌%◌, ◌<◌, ◌≤◌, Bool, true, false, ◌||◌, List, [], ◌∷◌, ◌++◌, refl, sym, ◌∙◌, ap, subst, inl, inr, ◌⊎◌, arith, ℤ}
use Rattle.std.specs.List.{flat_map, range_with_len, list_any}
use Rattle.std.proofs.lemmas.Bool.{cases_Bool, cases_lt}
use Rattle.std.proofs.Math.Nat.{mul-le-mul_left}
use Rattle.iso_defs.specs.Lists.{below, begins, ends, is_in}
use Rattle.iso_defs.specs.Grid.{Grid, name_bound}
use Rattle.iso_defs.specs.Contours.{squares, plane_pairs, lines_of_least, contours}
use Rattle.iso_defs.proofs.Ranges.{range_append}
use Rattle.triangle_laws.proofs.Lists.{In}
use Rattle.triangle_laws.proofs.FanWalk.{next_in, ends_in}
use Rattle.mesh_laws.proofs.Cells.{range_at_least}
use Rattle.mesh_laws.proofs.Neighbours.{by_four}
use Rattle.plane_laws.specs.Sides.{slot_name}
use Rattle.plane_laws.proofs.Scan.{flat_more, flat_none, flat_append, no_line, in_below, covered}
use Rattle.plane_laws.proofs.Squares.{side, Source, source, first_up, second_down, Spot, spot, single, low}

module _ (g : Grid) (s : ℕ → ℤ) (k : ℕ) (deep : 0 < g.nz) where
  abbrev base : ℕ
  base = k * (g.nx * g.ny)

  -- an edge of the plane, by name
  abbrev Within : ℕ → Type 0
  Within e = (3 * base ≤ e) × (e < 3 * (base + g.nx * g.ny)) × (e % 3 < 2)

  side_within : (p i : ℕ) → In p (squares g k) → i < 4 → Within (side g s k p i)
  side_within p i j h =
      let m : Spot g s k p = spot g s k p deep j in
      let a : p ≡ base + (m.x + g.nx * m.y) = m.is ∙ spread m.x m.y g.nx g.ny in
      let b : m.x + g.nx * m.y + g.nx + 1 < g.nx * g.ny = fits m.x m.y g.nx g.ny m.hx m.hy in
      by_four (λ i. Within (side g s k p i)) (omega arith, omega arith, omega arith) (omega arith, omega arith, omega arith) (omega arith, omega arith, omega arith) (omega arith, omega arith, omega arith) i h
    where
      spread : (x y m n : ℕ) → x + m * (y + n * k) ≡ k * (m * n) + (x + m * y)
      spread x y m n = omega arith

      fits : (x y m n : ℕ) → x + 1 < m → y + 1 < n → x + m * y + m + 1 < m * n
      fits x y m n h l =
          let e : m * (y + 2) ≤ m * n = mul-le-mul_left m (let q : y + 2 ≤ n = omega arith in q) in
          let f : m * (y + 2) ≡ m * y + m + m = omega arith in
          omega (arith, e, f)

  pub active_within : (e : ℕ) → (begins (plane_pairs g s k) e ≡ true) ⊎ (ends (plane_pairs g s k) e ≡ true) → Within e
  active_within e (inl h) =
      let o : Source g s k e _ = source g s k e _ (next_in (plane_pairs g s k) e h) in
      subst Within (sym o.from) (side_within o.square o.at.0 o.in_plane (first_up g s k o.square o.at o.segment).0)
  active_within e (inr h) =
      let d : (d : ℕ) × In (d, e) (plane_pairs g s k) = ends_in (plane_pairs g s k) e h in
      let o : Source g s k d.0 e = source g s k d.0 e d.1 in
      subst Within (sym o.to) (side_within o.square o.at.1 o.in_plane (second_down g s k o.square o.at o.segment).0)

  abbrev pick : ℕ → List (Bool × List ℕ)
  pick e = lines_of_least g (plane_pairs g s k) e

  -- no line begins off the plane
  none_off : (e : ℕ) → (Within e → ⊥) → pick e ≡ []
  none_off e out =
      no_line g (plane_pairs g s k) (single g s k) (low g s k deep) e
      (elim (cases_Bool (begins (plane_pairs g s k) e)) [ inl h ↦ absurd (out (active_within e (inl h))) | inr h ↦ h ])
      (elim (cases_Bool (ends (plane_pairs g s k) e)) [ inl h ↦ absurd (out (active_within e (inr h))) | inr h ↦ h ])

  -- the lines of the edges before the one numbered t
  abbrev pub lines_before : ℕ → List (Bool × List ℕ)
  lines_before t = flat_map (lines_of_least g (plane_pairs g s k)) (below (slot_name g k t))

  pub lines_start : lines_before 0 ≡ []
  lines_start = flat_none pick (below (slot_name g k 0))
      (λ e i. let l : e < slot_name g k 0 = in_below (slot_name g k 0) e i in none_off e (λ w. let m : 3 * base ≤ e = w.0 in omega arith))

  append_nil : {A : Type 0} (xs : List A) → xs ++ [] ≡ xs
  append_nil [] = refl
  append_nil (x ∷ xs) = ap (λ l. x ∷ l) (append_nil xs)

  -- one edge more
  pub lines_more : (t : ℕ) → lines_before (t + 1) ≡ lines_before t ++ lines_of_least g (plane_pairs g s k) (slot_name g k t)
  lines_more t =
      elim (cases_lt (t % 2) 1) [
        | inl even ↦ (
            let n : slot_name g k (t + 1) ≡ slot_name g k t + 1 = omega arith in
            ap (λ m. flat_map pick (below m)) n ∙ flat_more pick (slot_name g k t))
        | inr odd ↦ (
            let n : slot_name g k (t + 1) ≡ slot_name g k t + 1 + 1 = omega arith in
            let z : pick (slot_name g k t + 1) ≡ [] = none_off (slot_name g k t + 1) (λ w. let m : (slot_name g k t + 1) % 3 < 2 = w.2 in let q : (slot_name g k t + 1) % 3 ≡ 2 = omega arith in omega arith) in
            ap (λ m. flat_map pick (below m)) n
            ∙ (flat_more pick (slot_name g k t + 1)
            ∙ (ap (λ l. flat_map pick (below (slot_name g k t + 1)) ++ l) z
            ∙ (append_nil (flat_map pick (below (slot_name g k t + 1))) ∙ flat_more pick (slot_name g k t)))))
      ]

  -- all edges of the plane
  pub lines_end : k < g.nz → lines_before (2 * (g.nx * g.ny)) ≡ contours g s k
  lines_end hk =
      let here : ℕ = slot_name g k (2 * (g.nx * g.ny)) in
      let rest : ℕ = name_bound g - here in
      let size : here ≡ 3 * (base + g.nx * g.ny) = omega arith in
      let room : 3 * (base + g.nx * g.ny) ≤ name_bound g = within g.nx g.ny g.nz hk in
      let whole : here + rest ≡ name_bound g = omega arith in
      let z : flat_map pick (range_with_len (0 + here) rest) ≡ []
      = flat_none pick (range_with_len (0 + here) rest) (λ e i.
      let r : (0 + here ≤ e) × (e < 0 + here + rest) = range_at_least (0 + here) rest e i in
      none_off e (λ w. let m : e < 3 * (base + g.nx * g.ny) = w.1 in let l : 0 + here ≤ e = r.0 in omega arith)) in
      sym (ap (λ n. flat_map pick (below n)) (sym whole)
      ∙ (ap (flat_map pick) (range_append 0 here rest)
      ∙ (flat_append pick (below here) (range_with_len (0 + here) rest)
      ∙ (ap (λ l. flat_map pick (below here) ++ l) z ∙ append_nil (flat_map pick (below here))))))
    where
      within : (m n o : ℕ) → k < o → 3 * (k * (m * n) + m * n) ≤ 3 * (m * n * o)
      within m n o h =
          let e : m * n * (k + 1) ≤ m * n * o = mul-le-mul_left (m * n) (let q : k + 1 ≤ o = omega arith in q) in
          let f : m * n * (k + 1) ≡ k * (m * n) + m * n = omega arith in
          omega (arith, e, f)

  -- edges of different numbers have different names
  pub slot_apart : (t u : ℕ) → slot_name g k t ≡ slot_name g k u → t ≡ u
  slot_apart t u e = omega arith

  append_any : (p : Bool × List ℕ → Bool) (xs : List (Bool × List ℕ)) (y : Bool × List ℕ) → list_any p (xs ++ y ∷ []) ≡ (list_any p xs || p y)
  append_any p [] y = or_false (p y)
    where
      or_false : (b : Bool) → (b || false) ≡ b
      or_false true = refl
      or_false false = refl
  append_any p (x ∷ xs) y = ap (λ b. p x || b) (append_any p xs y) ∙ or_assoc (p x) (list_any p xs) (p y)
    where
      or_assoc : (a b c : Bool) → (a || (b || c)) ≡ ((a || b) || c)
      or_assoc true b c = refl
      or_assoc false b c = refl

  -- where an edge adds no line
  pub lines_stay : (t : ℕ) → lines_of_least g (plane_pairs g s k) (slot_name g k t) ≡ [] → lines_before (t + 1) ≡ lines_before t
  lines_stay t e = lines_more t ∙ (ap (λ l. lines_before t ++ l) e ∙ append_nil (lines_before t))

  -- and where it adds one
  pub covered_more : (t n : ℕ) (l : Bool × List ℕ) → lines_of_least g (plane_pairs g s k) (slot_name g k t) ≡ l ∷ []
      → covered (lines_before (t + 1)) n ≡ (covered (lines_before t) n || is_in n l.1)
  covered_more t n l e =
      ap (λ ls. covered ls n) (lines_more t ∙ ap (λ z. lines_before t ++ z) e)
      ∙ append_any (λ (m : Bool × List ℕ). is_in n m.1) (lines_before t) l
