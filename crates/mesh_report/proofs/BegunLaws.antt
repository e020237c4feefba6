-- The components in the order of their smallest vertices, each with its place.
use Rattle.std.proofs.Common.{◌≡◌, ℕ, zero, suc, ◌+◌, ◌<◌, ◌≤◌, Bool, true, false, cond, ◌&&◌, append-nil, List, [], ◌∷◌, ◌++◌, map, length, get_or, set, refl, sym, ◌∙◌, ap, subst, inl, inr, arith, eqb, nat_lt, not, get_or-set_other, get_or-set_same, length-append}
use Rattle.std.specs.List.{range_with_len, filter, list_any}
use Rattle.std.proofs.lemmas.Bool.{cases_lt, both_ways, lt-ltb, ne_eqb}
use Rattle.std.proofs.lemmas.List.{get_or-map, get_or_append_left, length-map, map-append}
use Rattle.std.proofs.lemmas.List.Elements.{filter-append}
use Rattle.std.proofs.Math.Seq.{get_or-append_seam}
use Rattle.std.proofs.lemmas.List.FromFn.{get_or-map-range_with_len, length-map-range_with_len, length-range_with_len}
use Rattle.iso_defs.specs.Cell.{Triangle}
use Rattle.iso_defs.specs.Lists.{below}
use Rattle.iso_defs.specs.Manifold.{arcs, uses}
use Rattle.triangle_laws.proofs.Lists.{In, In-filter}
use Rattle.triangle_laws.proofs.Counts.{Distinct}
use Rattle.triangle_laws.proofs.FanWalk.{no_longer}
use Rattle.mesh_report.specs.declared.tally.VertexTally.{VertexTally}
use Rattle.mesh_report.specs.Places.{ArePlaces}
use Rattle.mesh_report.specs.Report.{component, components, used}
use Rattle.mesh_report.specs.Tallies.{IsAscending, nothing_of, tally_at}
use Rattle.mesh_report.proofs.ComponentLaws.{component_listed, component_unused, distinct_filter, distinct_range}
use Rattle.mesh_report.proofs.GraphLaws.{arcs_used}
use Rattle.mesh_report.proofs.NumberLaws.{range_more}
use Rattle.mesh_report.proofs.PlaceLaws.{in_place, place_in}
use Rattle.mesh_report.proofs.Reach.{below_in, component_reached, in_below, range_in}

-- the components whose least vertex is below a number
abbrev pub components_below : ℕ → List Triangle → ℕ → List ℕ
components_below n ts k = filter (λ v. eqb (component n ts v) v) (filter (λ v. list_any (uses v) ts) (below k))

pub components_all : (n : ℕ) (ts : List Triangle) → components_below n ts n ≡ components n ts
unfolding components
components_all n ts = refl

pub components_more : (n : ℕ) (ts : List Triangle) (k : ℕ)
    → components_below n ts (k + 1) ≡ components_below n ts k ++ cond (list_any (uses k) ts && eqb (component n ts k) k) (k ∷ []) []
components_more n ts k =
    let p : ℕ → Bool = λ v. eqb (component n ts v) v in
    let q : ℕ → Bool = λ v. list_any (uses v) ts in
    let e : below (k + 1) ≡ below k ++ k ∷ [] = ap (range_with_len 0) (let s : k + 1 ≡ suc k = omega arith in s) ∙ (range_more 0 k ∙ ap (λ z. below k ++ z ∷ []) (let z : 0 + k ≡ k = omega arith in z)) in
    ap (λ l. filter p (filter q l)) e
    ∙ (ap (filter p) (filter-append q (below k) (k ∷ []))
    ∙ (filter-append p (filter q (below k)) (filter q (k ∷ [])) ∙ ap (λ l. components_below n ts k ++ l) (last (q k) (p k))))
  where
    last : (x y : Bool) → filter (λ v. eqb (component n ts v) v) (cond x (k ∷ []) []) ≡ cond (x && eqb (component n ts k) k) (k ∷ []) []
    last true y = refl
    last false y = refl

below_of : (n : ℕ) (ts : List Triangle) (k x : ℕ) → In x (components_below n ts k) → x < k
below_of n ts k x i = below_in k x (In-filter (λ v. list_any (uses v) ts) x (below k) (In-filter (λ v. eqb (component n ts v) v) x (filter (λ v. list_any (uses v) ts) (below k)) i).0).0

-- no more than the vertices
pub begun_few : (n : ℕ) (ts : List Triangle) (k : ℕ) → length (components_below n ts k) ≤ k
begun_few n ts k =
    let ks : List ℕ = components_below n ts k in
    let d : Distinct ks = distinct_filter (λ v. eqb (component n ts v) v) (filter (λ v. list_any (uses v) ts) (below k)) (distinct_filter (λ v. list_any (uses v) ts) (below k) (distinct_range 0 k)) in
    let l : length ks ≤ length (below k) = no_longer ks (below k) d (λ x i. in_below k x (below_of n ts k x i)) in
    let e : length (below k) ≡ k = length-range_with_len 0 k in
    omega arith

-- a component more, at the place behind the others
pub placed_new : (n : ℕ) (ts : List Triangle) (v : ℕ) (places : List ℕ) → v < length places → ArePlaces (components_below n ts v) places
    → (list_any (uses v) ts && eqb (component n ts v) v) ≡ true
    → ArePlaces (components_below n ts (v + 1)) (set places v (length (components_below n ts v)))
placed_new n ts v places low h new =
    let ks : List ℕ = components_below n ts v in
    subst (λ l. ArePlaces l (set places v (length ks))) (sym (components_more n ts v ∙ ap (λ b. ks ++ cond b (v ∷ []) []) new))
    (λ i l. let size : length (ks ++ v ∷ []) ≡ length ks + 1 = length-append ks (v ∷ []) in
    elim (cases_lt i (length ks)) [
      | inl a ↦ (
          let e : get_or (ks ++ v ∷ []) i 0 ≡ get_or ks i 0 = get_or_append_left ks (v ∷ []) 0 i a in
          let m : get_or ks i 0 < v = below_of n ts v (get_or ks i 0) (in_place ks i 0 a) in
          ap (λ z. get_or (set places v (length ks)) z 0) e ∙ (get_or-set_other places v (get_or ks i 0) (length ks) 0 (λ q. absurd (omega arith)) ∙ h i a))
      | inr a ↦ (
          let at : i ≡ length ks = omega arith in
          let e : get_or (ks ++ v ∷ []) i 0 ≡ v = ap (λ j. get_or (ks ++ v ∷ []) j 0) at ∙ get_or-append_seam ks v [] 0 in
          ap (λ z. get_or (set places v (length ks)) z 0) e ∙ (get_or-set_same places v (length ks) 0 low ∙ sym at))
    ])

pub begun_new : (n : ℕ) (ts : List Triangle) (v : ℕ) → (list_any (uses v) ts && eqb (component n ts v) v) ≡ true → (tallies : List VertexTally) → tallies ≡ map nothing_of (components_below n ts v)
    → tallies ++ nothing_of v ∷ [] ≡ map nothing_of (components_below n ts (v + 1))
begun_new n ts v new tallies e =
    ap (λ l. l ++ nothing_of v ∷ []) e
    ∙ sym (ap (map nothing_of) (components_more n ts v ∙ ap (λ b. components_below n ts v ++ cond b (v ∷ []) []) new) ∙ map-append nothing_of (components_below n ts v) (v ∷ []))

-- no component more
pub begun_same : (n : ℕ) (ts : List Triangle) (v : ℕ) → (list_any (uses v) ts && eqb (component n ts v) v) ≡ false → components_below n ts v ≡ components_below n ts (v + 1)
begun_same n ts v old = sym (components_more n ts v ∙ (ap (λ b. components_below n ts v ++ cond b (v ∷ []) []) old ∙ append-nil (components_below n ts v)))

-- numbers of which each is less than those behind it
abbrev Rises : List ℕ → Type 0
Rises [] = Unit {0}
Rises (x ∷ xs) = ((y : ℕ) → In y xs → x < y) × Rises xs

rises_range : (a n : ℕ) → Rises (range_with_len a n)
rises_range a zero = tt
rises_range a (suc n) = ((λ y i. let r : (a + 1 ≤ y) × (y < a + 1 + n) = range_in (a + 1) n y i in omega arith), rises_range (a + 1) n)

rises_filter : (p : ℕ → Bool) (xs : List ℕ) → Rises xs → Rises (filter p xs)
rises_filter p [] r = tt
rises_filter p (x ∷ xs) r =
    elim (p x) as (λ b. Rises (cond b (x ∷ filter p xs) (filter p xs))) [
      | true ↦ ((λ y i. r.0 y (In-filter p y xs i).0), rises_filter p xs r.1)
      | false ↦ rises_filter p xs r.1
    ]

rises_at : (xs : List ℕ) → Rises xs → (i j : ℕ) → i < j → j < length xs → get_or xs i 0 < get_or xs j 0
rises_at [] r i j l m = absurd (omega arith)
rises_at (x ∷ xs) r i zero l m = absurd (omega arith)
rises_at (x ∷ xs) r zero (suc j) l m = r.0 (get_or xs j 0) (in_place xs j 0 (omega arith))
rises_at (x ∷ xs) r (suc i) (suc j) l m = rises_at xs r.1 i j (omega arith) (omega arith)

-- tallies of the components stand in the order of their smallest vertices
pub ascending : (n : ℕ) (ts : List Triangle) (f : ℕ → VertexTally) → ((k : ℕ) → (f k).least ≡ k) → (tallies : List VertexTally) → tallies ≡ map f (components n ts) → IsAscending tallies
unfolding components
ascending n ts f own tallies e i j l m =
    let ks : List ℕ = components n ts in
    let size : length tallies ≡ length ks = ap length e ∙ length-map ks f in
    let r : get_or ks i 0 < get_or ks j 0
    = rises_at ks (rises_filter (λ v. eqb (component n ts v) v) (used n ts) (rises_filter (λ v. list_any (uses v) ts) (below n) (rises_range 0 n))) i j l (omega arith) in
    let at : (a : ℕ) → a < length ks → (tally_at tallies a).least ≡ get_or ks a 0
    = λ a b. ap (λ (ts : List VertexTally). (tally_at ts a).least) e ∙ (ap (λ (t : VertexTally). t.least) (get_or-map f ks a 0 (nothing_of 0) b) ∙ own (get_or ks a 0)) in
    let x : (tally_at tallies i).least ≡ get_or ks i 0 = at i (omega arith) in
    let y : (tally_at tallies j).least ≡ get_or ks j 0 = at j (omega arith) in
    omega arith

-- where the tally of a vertex stands
pub record IsFound (n : ℕ) (ts : List Triangle) (names places : List ℕ) (v : ℕ) : Type 0 where
  pub low : get_or names v 0 < n
  pub place : get_or places (get_or names v 0) 0 < length (components n ts)
  pub here : get_or (components n ts) (get_or places (get_or names v 0) 0) 0 ≡ component n ts v

pub name_is : (n : ℕ) (ts : List Triangle) (names : List ℕ) → names ≡ map (component n ts) (below n) → (v : ℕ) → v < n → get_or names v 0 ≡ component n ts v
name_is n ts names named v l = ap (λ ks. get_or ks v 0) named ∙ get_or-map-range_with_len (component n ts) 0 n v v 0 l (let z : 0 + v ≡ v = omega arith in z)

pub found : (n : ℕ) (ts : List Triangle) (names places : List ℕ) → names ≡ map (component n ts) (below n) → ArePlaces (components n ts) places
    → (v : ℕ) → v < n → list_any (uses v) ts ≡ true → IsFound n ts names places v
found n ts names places named placed v l uses =
    let name : get_or names v 0 ≡ component n ts v = name_is n ts names named v l in
    let r : (k : ℕ) × (k < length (components n ts)) × (get_or (components n ts) k 0 ≡ component n ts v)
    = place_in (component n ts v) (components n ts) (component_listed n ts v l uses) in
    let at : get_or places (get_or names v 0) 0 ≡ r.0 = ap (λ k. get_or places k 0) (name ∙ sym r.2) ∙ placed r.0 r.1 in
    let low : component n ts v < n = (component_reached n ts v l).0 in
    record { low = omega arith; place = omega (arith, r.1); here = ap (λ k. get_or (components n ts) k 0) at ∙ r.2 }

-- a vertex that no triangle uses is of no component that is listed
pub not_listed : (n : ℕ) (ts : List Triangle) (v : ℕ) → v < n → list_any (uses v) ts ≡ false → (k : ℕ) → In k (components n ts) → component n ts v ≡ k → ⊥
unfolding components
not_listed n ts v l none k i e =
    let own : component n ts v ≡ v = component_unused n ts v l none in
    let there : list_any (uses k) ts ≡ true = (In-filter (λ v. list_any (uses v) ts) k (below n) (In-filter (λ v. eqb (component n ts v) v) k (used n ts) i).0).1 in
    both_ways (list_any (uses v) ts) none (subst (λ z. list_any (uses z) ts ≡ true) (sym e ∙ own) there)

-- the arcs round each vertex, as they are held
module _ (n : ℕ) (ts : List Triangle) (R : List (List (ℕ × ℕ))) (rings : R ≡ map (arcs ts) (below n)) where
  pub rings_size : length R ≡ n
  rings_size = ap length rings ∙ length-map-range_with_len (arcs ts) 0 n

  pub ring_is : (v : ℕ) → v < n → get_or R v [] ≡ arcs ts v
  ring_is v l = ap (λ r. get_or r v []) rings ∙ get_or-map-range_with_len (arcs ts) 0 n v v [] l (let z : 0 + v ≡ v = omega arith in z)

-- a triangle uses a vertex with arcs
pub used_is : (ts : List Triangle) (v : ℕ) (ps : List (ℕ × ℕ)) → ps ≡ arcs ts v → (none : Bool) → none ≡ eqb (length ps) 0 → list_any (uses v) ts ≡ not none
used_is ts v ps same none e = arcs_used ts v ∙ (some (length (arcs ts v)) ∙ ap not (sym (e ∙ ap (λ rs. eqb (length rs) 0) same)))
  where
    some : (k : ℕ) → nat_lt 0 k ≡ not (eqb k 0)
    some zero = refl
    some (suc k) = lt-ltb 0 (suc k) (omega arith) ∙ ap not (sym (ne_eqb (suc k) 0 (λ q. absurd (omega arith))))
