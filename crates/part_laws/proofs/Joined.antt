-- The component of a vertex is its class: what edges join, loops join.
use Rattle.std.proofs.Common.{◌≡◌, ℕ, ◌+◌, ◌-◌, ◌<◌, ◌≤◌, ◌⊎◌, Bool, true, false, cond, ◌&&◌, ◌||◌, List, [], ◌∷◌, map, length, refl, sym, ◌∙◌, ap, subst, inl, inr, arith, eqb, slice_index}
use Rattle.std.specs.List.{filter, flat_map, list_any, range_with_len, AllByRecursion}
use Rattle.std.proofs.lemmas.Bool.{cases_Bool, cases_eq, cases_lt, eq-eqb, ne_eqb, eqb-true, lt-ltb, and_parts, and_from, and_left, and_right, or_cases, or_left, or_right, false_from_ne_true}
use Rattle.iso_defs.specs.Lists.{around, closing}
use Rattle.iso_defs.specs.Cell.{Triangle}
use Rattle.iso_defs.specs.Scratch.{has_centre}
use Rattle.iso_defs.specs.Manifold.{HasThreeCorners, uses, times_run}
use Rattle.iso_base.specs.Triangles.{IsBelow}
use Rattle.triangle_laws.proofs.Lists.{In, In-map, In-flat_map, In-filter, in_map, in_flat_map, in_filter, in_any}
use Rattle.triangle_laws.proofs.Counts.{Distinct}
use Rattle.mesh_laws.proofs.Cells.{range_at_least, range_in, Distinct-range}
use Rattle.mesh_report.specs.Report.{has_both, are_joined, component}
use Rattle.mesh_report.proofs.Reach.{component_reached, component_low, component_spreads}
use Rattle.mesh_report.proofs.ComponentLaws.{component_corner}
use Rattle.part_laws.specs.Loops.{Loop, triangles_round}
use Rattle.part_laws.specs.Classes.{class_of}
use Rattle.part_laws.proofs.Rounds.{of_three, of_more, three_are, step_ends, step_at, centred}
use Rattle.part_laws.proofs.ClassLaws.{one_class, class_alike, class_low}

-- The loops of a mesh of n vertices, of which those below m lie on lattice edges and the others are the centres, in order.
pub record AreLoops (m n : ℕ) (in_outer_plane : ℕ → ℕ → Bool) (ls : List Loop) : Type 0 where
  pub long : (l : Loop) → In l ls → 3 ≤ length l.1
  pub low : (l : Loop) (v : ℕ) → In l ls → In v l.1 → v < m
  pub follow : map (λ (l : Loop). l.0) (filter has_centre ls) ≡ range_with_len m (n - m)
  pub first : m ≤ n
  pub corners : AllByRecursion HasThreeCorners (flat_map triangles_round ls)
  pub bounded : AllByRecursion (IsBelow n) (flat_map triangles_round ls)
  pub once : (a b : ℕ) → times_run (flat_map triangles_round ls) a b ≤ 1
  pub used : (v : ℕ) → v < n → list_any (uses v) (flat_map triangles_round ls) ≡ true
  pub border : (a b : ℕ) → 0 < times_run (flat_map triangles_round ls) a b → in_outer_plane a b ≡ eqb (times_run (flat_map triangles_round ls) b a) 0
  pub inside : (l : Loop) (b : ℕ) → In l (filter has_centre ls) → (in_outer_plane b l.0 ≡ false) × (in_outer_plane l.0 b ≡ false)

abbrev pub first_of : Loop → ℕ
first_of l = slice_index l.1 0

pub first_in : (vs : List ℕ) → 3 ≤ length vs → In (slice_index vs 0) vs
first_in [] h = absurd (omega arith)
first_in (v ∷ vs) h = inl refl

-- a corner of a triangle of a loop is a vertex of the loop, or its centre
abbrev pub CornerOf : Loop → ℕ → Type 0
CornerOf l v = In v l.1 ⊎ ((has_centre l ≡ true) × (v ≡ l.0))

pub corners_of : (l : Loop) → 3 ≤ length l.1 → (t : Triangle) → In t (triangles_round l) → In t.0 l.1 × In t.1 l.1 × CornerOf l t.2
corners_of l h t i =
    elim (cases_eq (length l.1) 3) [
      | inl e ↦ (
          let j : In t ((slice_index l.1 0, slice_index l.1 1, slice_index l.1 2) ∷ []) = subst (λ ts. In t ts) (of_three l.1 l.0 e) i in
          three t j (λ v k. subst (λ vs. In v vs) (sym (three_are l.1 e)) k))
      | inr n ↦ (
          let j : In t (map (λ (p : ℕ × ℕ). (p.0, p.1, l.0)) (around l.1)) = subst (λ ts. In t ts) (of_more l.1 l.0 n) i in
          let p : (p : ℕ × ℕ) × In p (around l.1) × (t ≡ (p.0, p.1, l.0)) = In-map (λ (p : ℕ × ℕ). (p.0, p.1, l.0)) t (around l.1) j in
          let k : In p.0.0 l.1 × In p.0.1 l.1 = step_ends l.1 p.0 p.1 in (
            subst (λ (t : Triangle). In t.0 l.1) (sym p.2) k.0,
            subst (λ (t : Triangle). In t.1 l.1) (sym p.2) k.1,
            inr (lt-ltb 3 (length l.1) (omega arith), ap (λ (t : Triangle). t.2) p.2),
          ))
    ]
  where
    three : (t : Triangle) → In t ((slice_index l.1 0, slice_index l.1 1, slice_index l.1 2) ∷ [])
        → ((v : ℕ) → In v (slice_index l.1 0 ∷ slice_index l.1 1 ∷ slice_index l.1 2 ∷ []) → In v l.1) → In t.0 l.1 × In t.1 l.1 × CornerOf l t.2
    three t (inl e) k = (
      k t.0 (inl (ap (λ (t : Triangle). t.0) e)),
      k t.1 (inr (inl (ap (λ (t : Triangle). t.1) e))),
      inl (k t.2 (inr (inr (inl (ap (λ (t : Triangle). t.2) e))))),
    )
    three t (inr z) k = absurd z

-- a step round a loop is a side of one of its triangles, which has the centre too, if there is one
pub step_triangle : (l : Loop) (p : ℕ × ℕ) → In p (around l.1) →
    (t : Triangle) × In t (triangles_round l) × (uses p.0 t ≡ true) × (uses p.1 t ≡ true) × (has_centre l ≡ true → uses l.0 t ≡ true)
step_triangle l p i =
    elim (cases_eq (length l.1) 3) [
      | inl e ↦ (
          let t : Triangle = (slice_index l.1 0, slice_index l.1 1, slice_index l.1 2) in
          let ends : In p.0 l.1 × In p.1 l.1 = step_ends l.1 p i in (
            t,
            subst (λ ts. In t ts) (sym (of_three l.1 l.0 e)) (inl refl),
            corner t p.0 (subst (λ vs. In p.0 vs) (three_are l.1 e) ends.0),
            corner t p.1 (subst (λ vs. In p.1 vs) (three_are l.1 e) ends.1),
            (λ c. absurd (centred l c e)),
          ))
      | inr n ↦ (
          let t : Triangle = (p.0, p.1, l.0) in (
            t,
            subst (λ ts. In t ts) (sym (of_more l.1 l.0 n)) (in_map (λ (p : ℕ × ℕ). (p.0, p.1, l.0)) p (around l.1) i),
            corner t p.0 (inl refl),
            corner t p.1 (inr (inl refl)),
            (λ c. corner t l.0 (inr (inr (inl refl)))),
          ))
    ]
  where
    corner : (t : Triangle) (v : ℕ) → In v (t.0 ∷ t.1 ∷ t.2 ∷ []) → uses v t ≡ true
    corner t v (inl e) = or_left (eqb t.0 v) (eqb t.1 v || eqb t.2 v) (eq-eqb t.0 v (sym e))
    corner t v (inr (inl e)) = or_right (eqb t.0 v) (eqb t.1 v || eqb t.2 v) (or_left (eqb t.1 v) (eqb t.2 v) (eq-eqb t.1 v (sym e)))
    corner t v (inr (inr (inl e))) = or_right (eqb t.0 v) (eqb t.1 v || eqb t.2 v) (or_right (eqb t.1 v) (eqb t.2 v) (eq-eqb t.2 v (sym e)))
    corner t v (inr (inr (inr z))) = absurd z

-- what is the same along each step is the same all round
all_round : {A : Type 0} (f : ℕ → A) (vs : List ℕ) → ((p : ℕ × ℕ) → In p (around vs) → f p.0 ≡ f p.1) → (v : ℕ) → In v vs → f v ≡ f (slice_index vs 0)
all_round f [] h v i = absurd i
all_round f (u ∷ vs) h v i = go u u vs h v i
  where
    go : (first u : ℕ) (vs : List ℕ) → ((p : ℕ × ℕ) → In p (closing first u vs) → f p.0 ≡ f p.1) → (v : ℕ) → In v (u ∷ vs) → f v ≡ f u
    go first u vs h v (inl e) = ap f e
    go first u [] h v (inr i) = absurd i
    go first u (w ∷ vs) h v (inr i) = go first w vs (λ p j. h p (inr j)) v i ∙ sym (h (u, w) (inl refl))

-- the first vertex of the loop of a centre, and any other vertex itself
home_of : List Loop → ℕ → ℕ
home_of [] v = v
home_of (l ∷ ls) v = cond (has_centre l && eqb l.0 v) (first_of l) (home_of ls v)

home_itself : (ls : List Loop) (m v : ℕ) → ((l : Loop) → In l ls → has_centre l ≡ true → m ≤ l.0) → v < m → home_of ls v ≡ v
unfolding home_of
home_itself [] m v h low = refl
home_itself (l ∷ ls) m v h low =
    let e : (has_centre l && eqb l.0 v) ≡ false
    = false_from_ne_true (has_centre l && eqb l.0 v) (λ t. (let p : (has_centre l ≡ true) × (eqb l.0 v ≡ true) = and_parts (has_centre l) (eqb l.0 v) t in
    let a : m ≤ l.0 = h l (inl refl) p.0 in let b : l.0 ≡ v = eqb-true l.0 v p.1 in absurd (omega arith))) in
    ap (λ b. cond b (first_of l) (home_of ls v)) e ∙ home_itself ls m v (λ k i. h k (inr i)) low

home_centre : (ls : List Loop) (l : Loop) → Distinct (map (λ (l : Loop). l.0) (filter has_centre ls)) → In l ls → has_centre l ≡ true → home_of ls l.0 ≡ first_of l
unfolding home_of
home_centre [] l d i c = absurd i
home_centre (k ∷ ls) l d (inl e) c =
    let t : (has_centre k && eqb k.0 l.0) ≡ true = and_from (has_centre k) (eqb k.0 l.0) (ap has_centre (sym e) ∙ c) (eq-eqb k.0 l.0 (ap (λ (l : Loop). l.0) (sym e))) in
    ap (λ b. cond b (first_of k) (home_of ls l.0)) t ∙ ap first_of (sym e)
home_centre (k ∷ ls) l d (inr i) c =
    let first : Loop → ℕ = λ (l : Loop). l.0 in
    elim (cases_Bool (has_centre k)) [
      | inr n ↦ ap (λ b. cond b (first_of k) (home_of ls l.0)) (and_left (has_centre k) (eqb k.0 l.0) n)
          ∙ home_centre ls l (subst (λ b. Distinct (map first (cond b (k ∷ filter has_centre ls) (filter has_centre ls)))) n d) i c
      | inl y ↦ (
          let d' : Distinct (k.0 ∷ map first (filter has_centre ls)) = subst (λ b. Distinct (map first (cond b (k ∷ filter has_centre ls) (filter has_centre ls)))) y d in
          let ne : k.0 ≡ l.0 → ⊥ = λ e. d'.0 (subst (λ z. In z (map first (filter has_centre ls))) (sym e) (in_map first l (filter has_centre ls) (in_filter has_centre l ls i c))) in
          ap (λ b. cond b (first_of k) (home_of ls l.0)) (and_right (has_centre k) (eqb k.0 l.0) (ne_eqb k.0 l.0 ne)) ∙ home_centre ls l d'.1 i c)
    ]

module _ (m n : ℕ) (in_outer_plane : ℕ → ℕ → Bool) (ls : List Loop) (h : AreLoops m n in_outer_plane ls) where
  abbrev ts : List Triangle
  ts = flat_map triangles_round ls

  pub in_round : (t : Triangle) → In t ts → (l : Loop) × In l ls × In t (triangles_round l)
  in_round t i = In-flat_map triangles_round t ls i

  pub round_in : (l : Loop) (t : Triangle) → In l ls → In t (triangles_round l) → In t ts
  round_in l t i j = in_flat_map triangles_round t l ls i j

  -- the centres are the vertices from m on
  pub centre_bounds : (l : Loop) → In l ls → has_centre l ≡ true → (m ≤ l.0) × (l.0 < n)
  centre_bounds l i c =
      let j : In l.0 (range_with_len m (n - m)) = subst (λ zs. In l.0 zs) h.follow (in_map (λ (l : Loop). l.0) l (filter has_centre ls) (in_filter has_centre l ls i c)) in
      let r : (m ≤ l.0) × (l.0 < m + (n - m)) = range_at_least m (n - m) l.0 j in
      (r.0, omega (arith, r.1, h.first))

  pub centre_found : (v : ℕ) → m ≤ v → v < n → (l : Loop) × In l ls × (has_centre l ≡ true) × (v ≡ l.0)
  centre_found v a b =
      let j : In v (range_with_len m (n - m)) = range_in m (n - m) v a (omega arith) in
      let l : (l : Loop) × In l (filter has_centre ls) × (v ≡ l.0) = In-map (λ (l : Loop). l.0) v (filter has_centre ls) (subst (λ zs. In v zs) (sym h.follow) j) in
      let k : In l.0 ls × (has_centre l.0 ≡ true) = In-filter has_centre l.0 ls l.1 in
      (l.0, k.0, k.1, l.2)

  home_low_is : (v : ℕ) → v < m → home_of ls v ≡ v
  home_low_is v l = home_itself ls m v (λ k i c. (centre_bounds k i c).0) l

  home_centre_is : (l : Loop) → In l ls → has_centre l ≡ true → home_of ls l.0 ≡ first_of l
  home_centre_is l i c = home_centre ls l (subst (λ zs. Distinct zs) (sym h.follow) (Distinct-range m (n - m))) i c

  first_low : (l : Loop) → In l ls → first_of l < m
  first_low l i = h.low l (first_of l) i (first_in l.1 (h.long l i))

  home_below : (v : ℕ) → v < n → home_of ls v < m
  home_below v l =
      elim (cases_lt v m) [
        | inl a ↦ subst (λ z. z < m) (sym (home_low_is v a)) a
        | inr a ↦ (
            let c : (l : Loop) × In l ls × (has_centre l ≡ true) × (v ≡ l.0) = centre_found v a l in
            subst (λ z. z < m) (sym (ap (home_of ls) c.3 ∙ home_centre_is c.0 c.1 c.2)) (first_low c.0 c.1))
      ]

  -- the class of the home of a vertex
  abbrev label : ℕ → ℕ
  label v = class_of ls (home_of ls v)

  label_corner : (l : Loop) (v : ℕ) → In l ls → CornerOf l v → label v ≡ class_of ls (first_of l)
  label_corner l v i (inl j) = ap (class_of ls) (home_low_is v (h.low l v i j)) ∙ one_class ls l v (first_of l) i j (first_in l.1 (h.long l i))
  label_corner l v i (inr c) = ap label c.1 ∙ ap (class_of ls) (home_centre_is l i c.0)

  used_corner : (l : Loop) (t : Triangle) (v : ℕ) → In l ls → In t (triangles_round l) → uses v t ≡ true → CornerOf l v
  used_corner l t v i j u =
      let c : In t.0 l.1 × In t.1 l.1 × CornerOf l t.2 = corners_of l (h.long l i) t j in
      elim (or_cases (eqb t.0 v) (eqb t.1 v || eqb t.2 v) u) [
        | inl e ↦ subst (CornerOf l) (eqb-true t.0 v e) (inl c.0)
        | inr k ↦ elim (or_cases (eqb t.1 v) (eqb t.2 v) k) [
          | inl e ↦ subst (CornerOf l) (eqb-true t.1 v e) (inl c.1)
          | inr e ↦ subst (CornerOf l) (eqb-true t.2 v e) c.2
        ]
      ]

  joined_label : (a b : ℕ) → are_joined ts a b ≡ true → label a ≡ label b
  joined_label a b j =
      let t : (t : Triangle) × In t ts × (has_both a b t ≡ true) = in_any (has_both a b) ts j in
      let u : (uses a t.0 ≡ true) × (uses b t.0 ≡ true) = and_parts (uses a t.0) (uses b t.0) t.2 in
      let l : (l : Loop) × In l ls × In t.0 (triangles_round l) = in_round t.0 t.1 in
      label_corner l.0 a l.1 (used_corner l.0 t.0 a l.1 l.2 u.0) ∙ sym (label_corner l.0 b l.1 (used_corner l.0 t.0 b l.1 l.2 u.1))

  low_n : (l : Loop) (v : ℕ) → In l ls → In v l.1 → v < n
  low_n l v i j = omega (arith, h.low l v i j, h.first)

  -- the vertices of a loop are of one component
  pub round_component : (l : Loop) (v : ℕ) → In l ls → In v l.1 → component n ts v ≡ component n ts (first_of l)
  round_component l v i j =
      all_round (component n ts) l.1 (λ p k.
      let t : (t : Triangle) × In t (triangles_round l) × (uses p.0 t ≡ true) × (uses p.1 t ≡ true) × (has_centre l ≡ true → uses l.0 t ≡ true) = step_triangle l p k in
      let e : In p.0 l.1 × In p.1 l.1 = step_ends l.1 p k in
      component_corner n ts t.0 p.0 p.1 (round_in l t.0 i t.1) (low_n l p.0 i e.0) (low_n l p.1 i e.1) t.2 t.3) v j

  -- and so is its centre
  pub centre_component : (l : Loop) → In l ls → has_centre l ≡ true → component n ts l.0 ≡ component n ts (first_of l)
  centre_component l i c =
      let f : In (first_of l) l.1 = first_in l.1 (h.long l i) in
      let p : (p : ℕ × ℕ) × In p (around l.1) × (p.0 ≡ first_of l) = step_at l.1 (first_of l) f in
      let t : (t : Triangle) × In t (triangles_round l) × (uses p.0.0 t ≡ true) × (uses p.0.1 t ≡ true) × (has_centre l ≡ true → uses l.0 t ≡ true) = step_triangle l p.0 p.1 in
      component_corner n ts t.0 l.0 (first_of l) (round_in l t.0 i t.1) (centre_bounds l i c).1 (low_n l (first_of l) i f) (t.4 c) (subst (λ z. uses z t.0 ≡ true) p.2 t.2)

  pub corner_component : (l : Loop) (v : ℕ) → In l ls → CornerOf l v → component n ts v ≡ component n ts (first_of l)
  corner_component l v i (inl j) = round_component l v i j
  corner_component l v i (inr c) = ap (component n ts) c.1 ∙ centre_component l i c.0

  home_component : (v : ℕ) → v < n → component n ts (home_of ls v) ≡ component n ts v
  home_component v l =
      elim (cases_lt v m) [
        | inl a ↦ ap (component n ts) (home_low_is v a)
        | inr a ↦ (
            let c : (l : Loop) × In l ls × (has_centre l ≡ true) × (v ≡ l.0) = centre_found v a l in
            ap (component n ts) (ap (home_of ls) c.3 ∙ home_centre_is c.0 c.1 c.2) ∙ (sym (centre_component c.0 c.1 c.2) ∙ ap (component n ts) (sym c.3)))
      ]

  label_component : (v : ℕ) → v < n → component n ts (label v) ≡ component n ts v
  label_component v l =
      class_alike (component n ts) ls (λ k a b i x y. round_component k a i x ∙ sym (round_component k b i y)) (home_of ls v) ∙ home_component v l

  label_low : (v : ℕ) → v < n → label v ≤ home_of ls v
  label_low v l = class_low ls (home_of ls v)

  component_label : (v : ℕ) → v < n → component n ts v ≡ label v
  component_label v l =
      let k : ℕ = component n ts v in
      let k_low : k < n = (component_reached n ts v l).0 in
      let same : label v ≡ label k = component_spreads n ts (λ x. label x ≡ label k) (λ a b x y j e. joined_label a b j ∙ e) v l refl in
      let a : label v ≤ home_of ls v = label_low v l in
      let b : home_of ls v < m = home_below v l in
      let c : component n ts (label v) ≤ label v = component_low n ts (label v) (omega (arith, h.first)) in
      let d : component n ts (label v) ≡ k = label_component v l in
      let e : label k ≤ home_of ls k = label_low k k_low in
      let f : home_of ls k ≤ k = home_le k k_low in
      let up : k ≤ label v = omega (arith, c, d) in
      let down : label v ≤ k = omega (arith, same, e, f) in
      omega (arith, up, down)
    where
      home_le : (k : ℕ) → k < n → home_of ls k ≤ k
      home_le k l =
          elim (cases_lt k m) [
            | inl a ↦ (let e : home_of ls k ≡ k = home_low_is k a in omega (arith, e))
            | inr a ↦ (let e : home_of ls k < m = home_below k l in omega (arith, e, a))
          ]

  -- the component of a vertex of a lattice edge is its class
  pub component_class : (v : ℕ) → v < m → component n ts v ≡ class_of ls v
  component_class v l = component_label v (omega (arith, h.first)) ∙ ap (class_of ls) (home_low_is v l)

  -- each component has a vertex of a lattice edge
  pub component_below : (v : ℕ) → v < n → component n ts v < m
  component_below v l =
      let e : component n ts v ≡ label v = component_label v l in
      let a : label v ≤ home_of ls v = label_low v l in
      let b : home_of ls v < m = home_below v l in
      omega (arith, e, a, b)
