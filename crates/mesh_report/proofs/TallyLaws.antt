-- What is counted at the vertices below one, against the numbers of the definition.
use Rattle.std.proofs.Common.{◌≡◌, ℕ, zero, suc, ◌+◌, ◌-◌, ◌*◌, ◌/◌, ◌^◌, ◌<◌, ◌≤◌, Bool, true, false, cond, List, [], ◌∷◌, ◌++◌, map, length, get_or, set, refl, sym, ◌∙◌, ap, subst, inl, inr, arith, eqb, pos, ◌+ℤ◌, ◌-ℤ◌}
use Rattle.std.specs.List.{range_with_len, filter, sum_by, All, AllByRecursion}
use Rattle.std.proofs.lemmas.Bool.{eq-eqb, ne_eqb}
use Rattle.std.proofs.lemmas.List.{get_or-map}
use Rattle.std.proofs.lemmas.List.Elements.{All-from_recursion}
use Rattle.std.proofs.lemmas.List.FromFn.{length-range_with_len}
use Rattle.std.proofs.lemmas.List.Sums.{sum_by-le, sum_by-le-sum_by, sum_by_push}
use Rattle.std.proofs.Math.Nat.{mul-div_cancel_left}
use Rattle.iso_defs.specs.Cell.{Triangle}
use Rattle.iso_defs.specs.Lists.{below}
use Rattle.iso_defs.specs.Manifold.{HasThreeCorners, arcs}
use Rattle.iso_base.specs.Triangles.{IsBelow}
use Rattle.arc_rings.specs.Arcs.{ArcBelow}
use Rattle.arc_rings.proofs.ArcLaws.{arcs_below, arcs_few}
use Rattle.triangle_laws.proofs.Lists.{In}
use Rattle.mesh_report.specs.declared.meet.Edges.{Edges}
use Rattle.mesh_report.specs.declared.part.Part.{Part}
use Rattle.mesh_report.specs.declared.tally.VertexTally.{VertexTally}
use Rattle.mesh_report.specs.Meetings.{AreCounted}
use Rattle.mesh_report.specs.Named.{named}
use Rattle.mesh_report.specs.Report.{has_one_side, component, components, used, edges, total_of, part_of}
use Rattle.mesh_report.specs.Tallies.{HasRoom, IsSmall, corners_of, edges_of, nothing_of, part_with, shared_of, sum_where, tally_of, tally_of_all, tally_where, tally_with, used_of}
use Rattle.mesh_report.proofs.ComponentLaws.{component_corner, components_distinct, uses_first, uses_second, uses_third}
use Rattle.mesh_report.proofs.Counts.{greater_less, greater_twice}
use Rattle.mesh_report.proofs.NumberLaws.{AgreesOn, border_is, corners_are, edges_are, edges_split, filter_all, lone_of, range_more, vertices_are}
use Rattle.mesh_report.proofs.PlaceLaws.{set_mapped}
use Rattle.mesh_report.proofs.Sums.{sum_agree, sum_add}

-- one vertex more
below_more : (m : ℕ) → below (m + 1) ≡ below m ++ m ∷ []
below_more m =
    ap (range_with_len 0) (let s : m + 1 ≡ suc m = omega arith in s) ∙ (range_more 0 m ∙ ap (λ z. below m ++ z ∷ []) (let z : 0 + m ≡ m = omega arith in z))

sum_more : (T : ℕ → Bool) (f : ℕ → ℕ) (m : ℕ) → sum_where T f (m + 1) ≡ sum_where T f m + cond (T m) (f m) 0
sum_more T f m = ap (sum_by (λ v. cond (T v) (f v) 0)) (below_more m) ∙ sum_by_push (λ v. cond (T v) (f v) 0) (below m) m

sum_upto : (T : ℕ → Bool) (f : ℕ → ℕ) (m k : ℕ) → sum_where T f m ≤ sum_where T f (m + k)
sum_upto T f m zero = let e : sum_where T f (m + 0) ≡ sum_where T f m = ap (sum_where T f) (let z : m + 0 ≡ m = omega arith in z) in omega arith
sum_upto T f m (suc k) =
    let e : sum_where T f (m + suc k) ≡ sum_where T f (m + k) + cond (T (m + k)) (f (m + k)) 0
    = ap (sum_where T f) (let z : m + suc k ≡ m + k + 1 = omega arith in z) ∙ sum_more T f (m + k) in
    let r : sum_where T f m ≤ sum_where T f (m + k) = sum_upto T f m k in
    omega arith

cond_less : (f g : ℕ → ℕ) → ((v : ℕ) → f v ≤ g v) → (T : ℕ → Bool) (m : ℕ) → sum_where T f m ≤ sum_where T g m
cond_less f g h T m = sum_by-le-sum_by (λ v. cond (T v) (f v) 0) (λ v. cond (T v) (g v) 0) (below m) (λ v. go (T v) (f v) (g v) (h v))
  where
    go : (b : Bool) (x y : ℕ) → x ≤ y → cond b x 0 ≤ cond b y 0
    go true x y l = l
    go false x y l = omega arith

-- a tally of the same counts
tally_is : (least : ℕ) {v v' c c' e e' s s' : ℕ} → v ≡ v' → c ≡ c' → e ≡ e' → s ≡ s'
    → (let t : VertexTally = record { least = least; vertices = v; corners = c; edges = e; shared = s } in t) ≡ record { least = least; vertices = v'; corners = c'; edges = e'; shared = s' }
tally_is least {v} {v'} {c} {c'} {e} {e'} {s} {s'} a b d f =
    ap (λ z. tally z c e s) a ∙ (ap (λ z. tally v' z e s) b ∙ (ap (λ z. tally v' c' z s) d ∙ ap (tally v' c' e') f))
  where
    tally : ℕ → ℕ → ℕ → ℕ → VertexTally
    tally v c e s = record { least = least; vertices = v; corners = c; edges = e; shared = s }

-- the numbers of a tally whose corners are those of triangles, and whose edges those in one triangle and the others
part_is_made : (t : VertexTally) (v e f o s : ℕ) → t.vertices ≡ v → t.edges ≡ e → t.corners ≡ 3 * f → t.shared ≡ s → e ≡ o + s
    → part_with t ≡ record { least = t.least; vertices = v; edges = e; faces = f; border = o; euler = (pos v -ℤ pos e) +ℤ pos f }
part_is_made t v e f o s hv he hf hs ho =
    let c : t.corners / 3 ≡ f = ap (λ k. k / 3) hf ∙ mul-div_cancel_left f (let l : 0 < 3 = omega arith in l) in
    let g : t.edges - t.shared ≡ o = omega arith in
    ap (λ z. made z t.edges (t.corners / 3) (t.edges - t.shared)) hv
    ∙ (ap (λ z. made v z (t.corners / 3) (t.edges - t.shared)) he ∙ (ap (λ z. made v e z (t.edges - t.shared)) c ∙ ap (made v e f) g))
  where
    made : ℕ → ℕ → ℕ → ℕ → Part
    made v e f o = record { least = t.least; vertices = v; edges = e; faces = f; border = o; euler = (pos v -ℤ pos e) +ℤ pos f }

-- edges at the vertices that pass: those in one triangle, and the others
parted : (n : ℕ) (ts : List Triangle) → AllByRecursion HasThreeCorners ts → (T : ℕ → Bool)
    → sum_by (λ v. cond (T v) (edges_of n ts v) 0) (below n) ≡ sum_by (λ v. cond (T v) (lone_of n ts v) 0) (below n) + sum_by (λ v. cond (T v) (shared_of n ts v) 0) (below n)
parted n ts d T =
    sum_agree (λ v. cond (T v) (edges_of n ts v) 0) (λ v. cond (T v) (lone_of n ts v) 0 + cond (T v) (shared_of n ts v) 0) (below n)
    (λ v i. ap (λ k. cond (T v) k 0) (edges_split n ts d v) ∙ both (T v) (lone_of n ts v) (shared_of n ts v))
    ∙ sum_add (λ v. cond (T v) (lone_of n ts v) 0) (λ v. cond (T v) (shared_of n ts v) 0) (below n)
  where
    both : (b : Bool) (x y : ℕ) → cond b (x + y) 0 ≡ cond b x 0 + cond b y 0
    both true x y = refl
    both false x y = refl

module _ (n : ℕ) (ts : List Triangle) (d : AllByRecursion HasThreeCorners ts) (b : AllByRecursion (IsBelow n) ts) where
  abbrev C : ℕ → ℕ
  C = component n ts

  -- a vertex that passes is counted, and any other is not
  counted_more : (least m : ℕ) (T : ℕ → Bool) → T m ≡ true → (e : Edges) → AreCounted n m (named (arcs ts m)) e
      → tally_with (tally_where n ts least T m) (corners_of ts m) e ≡ tally_where n ts least T (m + 1)
  counted_more least m T pass e c = tally_is least (one (used_of ts) refl) (one (corners_of ts) refl) (one (edges_of n ts) c.all) (one (shared_of n ts) c.shared)
    where
      one : (f : ℕ → ℕ) {x : ℕ} → x ≡ f m → sum_where T f m + x ≡ sum_where T f (m + 1)
      one f {x} h = ap (λ z. sum_where T f m + z) (h ∙ sym (ap (λ b. cond b (f m) 0) pass)) ∙ sym (sum_more T f m)

  counted_same : (least m : ℕ) (T : ℕ → Bool) → T m ≡ false → tally_where n ts least T m ≡ tally_where n ts least T (m + 1)
  counted_same least m T pass = tally_is least (one (used_of ts)) (one (corners_of ts)) (one (edges_of n ts)) (one (shared_of n ts))
    where
      one : (f : ℕ → ℕ) → sum_where T f m ≡ sum_where T f (m + 1)
      one f = (let z : sum_where T f m ≡ sum_where T f m + 0 = omega arith in z) ∙ (ap (λ z. sum_where T f m + z) (sym (ap (λ b. cond b (f m) 0) pass)) ∙ sym (sum_more T f m))

  pub all_more : (m : ℕ) (e : Edges) → AreCounted n m (named (arcs ts m)) e → tally_with (tally_of_all n ts m) (corners_of ts m) e ≡ tally_of_all n ts (m + 1)
  all_more m e c = counted_more 0 m (λ v. true) refl e c

  -- the tally of its component is given a vertex more, and the others stay
  pub each_more : (m r : ℕ) → r < length (components n ts) → get_or (components n ts) r 0 ≡ C m → (e : Edges) → AreCounted n m (named (arcs ts m)) e
      → (tallies : List VertexTally) (t : VertexTally) → tallies ≡ map (tally_of n ts m) (components n ts) → t ≡ tally_of n ts m (C m)
      → set tallies r (tally_with t (corners_of ts m) e) ≡ map (tally_of n ts (m + 1)) (components n ts)
  each_more m r inside here e c tallies t held same =
      ap (λ ss. set ss r (tally_with t (corners_of ts m) e)) held
      ∙ (ap (set (map (tally_of n ts m) (components n ts)) r)
      (ap (λ z. tally_with z (corners_of ts m) e) same
      ∙ (counted_more (C m) m (λ v. eqb (C v) (C m)) (eq-eqb (C m) (C m) refl) e c ∙ ap (tally_of n ts (m + 1)) (sym here)))
      ∙ set_mapped (tally_of n ts m) (tally_of n ts (m + 1)) (components n ts) (components_distinct n ts) r inside
      (λ k ne. counted_same k m (λ v. eqb (C v) k) (ne_eqb (C m) k (λ q. ne (sym q ∙ sym here)))))

  pub tally_found : (m r : ℕ) → r < length (components n ts) → get_or (components n ts) r 0 ≡ C m → (tallies : List VertexTally) → tallies ≡ map (tally_of n ts m) (components n ts)
      → get_or tallies r (nothing_of 0) ≡ tally_of n ts m (C m)
  tally_found m r inside here tallies held =
      ap (λ ss. get_or ss r (nothing_of 0)) held ∙ (get_or-map (tally_of n ts m) (components n ts) r 0 (nothing_of 0) inside ∙ ap (tally_of n ts m) here)

  -- a vertex of none of the components changes no tally
  pub each_same : (m : ℕ) (ks : List ℕ) → ((k : ℕ) → In k ks → C m ≡ k → ⊥) → map (tally_of n ts m) ks ≡ map (tally_of n ts (m + 1)) ks
  each_same m [] h = refl
  each_same m (k ∷ ks) h =
      ap (λ t. t ∷ map (tally_of n ts m) ks) (counted_same k m (λ v. eqb (C v) k) (ne_eqb (C m) k (h k (inl refl))))
      ∙ ap (λ l. tally_of n ts (m + 1) k ∷ l) (each_same m ks (λ j i. h j (inr i)))

  -- the corners of a triangle are of one component
  one_component : (T : ℕ → Bool) → AllByRecursion (AgreesOn (λ v. T (C v))) ts
  one_component T = go ts b (λ t i. i)
    where
      go : (xs : List Triangle) → AllByRecursion (IsBelow n) xs → ((t : Triangle) → In t xs → In t ts) → AllByRecursion (AgreesOn (λ v. T (C v))) xs
      go [] l h = tt
      go (t ∷ xs) l h =
          let i : In t ts = h t (inl refl) in (
            (
              ap T (component_corner n ts t t.1 t.0 i l.0.1 l.0.0 (uses_second t) (uses_first t)),
              ap T (component_corner n ts t t.2 t.0 i l.0.2 l.0.0 (uses_third t) (uses_first t)),
            ),
            go xs l.1 (λ t i. h t (inr i)),
          )

  all_corners : sum_where (λ v. true) (corners_of ts) n ≡ 3 * length ts
  all_corners = corners_are n ts d b (λ v. true) (one_component (λ c. true)) ∙ ap (λ l. 3 * length l) (filter_all ts)

  -- the numbers of a component
  pub part_is : (k : ℕ) → part_with (tally_of n ts n k) ≡ part_of n ts k
  unfolding part_of
  part_is k =
      part_is_made (tally_of n ts n k)
      (length (filter (λ v. eqb (C v) k) (used n ts))) (length (filter (λ (e : ℕ × ℕ). eqb (C e.0) k) (edges n ts))) (length (filter (λ (t : Triangle). eqb (C t.0) k) ts))
      (length (filter (has_one_side ts) (filter (λ (e : ℕ × ℕ). eqb (C e.0) k) (edges n ts)))) (sum_where (λ v. eqb (C v) k) (shared_of n ts) n)
      (vertices_are n ts d (λ v. eqb (C v) k)) (edges_are n ts d (λ v. eqb (C v) k)) (corners_are n ts d b (λ v. eqb (C v) k) (one_component (λ c. eqb c k))) refl
      (sym (edges_are n ts d (λ v. eqb (C v) k))
      ∙ (parted n ts d (λ v. eqb (C v) k) ∙ ap (λ z. z + sum_where (λ v. eqb (C v) k) (shared_of n ts) n) (border_is n ts d (λ v. eqb (C v) k))))

  pub parts_are : (ks : List ℕ) → map part_with (map (tally_of n ts n) ks) ≡ map (part_of n ts) ks
  parts_are [] = refl
  parts_are (k ∷ ks) = ap (λ p. p ∷ map part_with (map (tally_of n ts n) ks)) (part_is k) ∙ ap (λ l. part_of n ts k ∷ l) (parts_are ks)

  -- and of all
  pub total_is : part_with (tally_of_all n ts n) ≡ total_of n ts
  unfolding total_of
  total_is =
      part_is_made (tally_of_all n ts n)
      (length (used n ts)) (length (edges n ts)) (length ts) (length (filter (has_one_side ts) (edges n ts))) (sum_where (λ v. true) (shared_of n ts) n)
      (vertices_are n ts d (λ v. true) ∙ ap length (filter_all (used n ts))) all_edges all_corners refl
      (sym all_edges ∙ (parted n ts d (λ v. true)
      ∙ ap (λ k. k + sum_where (λ v. true) (shared_of n ts) n) (border_is n ts d (λ v. true) ∙ ap (λ l. length (filter (has_one_side ts) l)) (filter_all (edges n ts)))))
    where
      all_edges : sum_where (λ v. true) (edges_of n ts) n ≡ length (edges n ts)
      all_edges = edges_are n ts d (λ v. true) ∙ ap length (filter_all (edges n ts))

  -- the counts are small
  pub record AreFew (m : ℕ) (t : VertexTally) : Type 0 where
    pub vertices : t.vertices ≤ m
    pub corners : t.corners ≤ 3 * length ts
    pub edges : t.edges ≤ 2 * t.corners
    pub shared : t.shared ≤ t.edges

  pub are_few : (least m : ℕ) (T : ℕ → Bool) → m ≤ n → AreFew m (tally_where n ts least T m)
  are_few least m T l =
      let v : sum_where T (used_of ts) m ≤ length (below m) * 1 = sum_by-le (λ v. cond (T v) (used_of ts v) 0) 1 (below m) (λ k d i. once (T (get_or (below m) k d)) (eqb (length (arcs ts (get_or (below m) k d))) 0)) in
      let size : length (below m) ≡ m = length-range_with_len 0 m in
      let c : sum_where T (corners_of ts) m ≤ sum_where (λ v. true) (corners_of ts) m
      = sum_by-le-sum_by (λ v. cond (T v) (corners_of ts v) 0) (corners_of ts) (below m) (λ v. within (T v) (corners_of ts v)) in
      let up : sum_where (λ v. true) (corners_of ts) m ≤ sum_where (λ v. true) (corners_of ts) (m + (n - m)) = sum_upto (λ v. true) (corners_of ts) m (n - m) in
      let last : sum_where (λ v. true) (corners_of ts) (m + (n - m)) ≡ sum_where (λ v. true) (corners_of ts) n = ap (sum_where (λ v. true) (corners_of ts)) (let z : m + (n - m) ≡ n = omega arith in z) in
      let all : sum_where (λ v. true) (corners_of ts) n ≡ 3 * length ts = all_corners in
      let two : sum_where T (edges_of n ts) m ≤ sum_where T (λ v. corners_of ts v + corners_of ts v) m
      = cond_less (edges_of n ts) (λ v. corners_of ts v + corners_of ts v) (λ v. greater_twice n v (arcs ts v)) T m in
      let sum : sum_where T (λ v. corners_of ts v + corners_of ts v) m ≡ sum_where T (corners_of ts) m + sum_where T (corners_of ts) m
      = sum_agree (λ v. cond (T v) (corners_of ts v + corners_of ts v) 0) (λ v. cond (T v) (corners_of ts v) 0 + cond (T v) (corners_of ts v) 0) (below m) (λ v i. twice (T v) (corners_of ts v))
      ∙ sum_add (λ v. cond (T v) (corners_of ts v) 0) (λ v. cond (T v) (corners_of ts v) 0) (below m) in
      record {
        vertices = omega arith;
        corners = omega arith;
        edges = omega arith;
        shared = cond_less (shared_of n ts) (edges_of n ts) (λ v. greater_less n v (named (arcs ts v))) T m;
      }
    where
      once : (x y : Bool) → cond x (cond y 0 1) 0 ≤ 1
      once true true = omega arith
      once true false = omega arith
      once false y = omega arith

      within : (x : Bool) (k : ℕ) → cond x k 0 ≤ k
      within true k = omega arith
      within false k = omega arith

      twice : (x : Bool) (k : ℕ) → cond x (k + k) 0 ≡ cond x k 0 + cond x k 0
      twice true k = refl
      twice false k = refl

  is_small : (least : ℕ) (T : ℕ → Bool) → length ts < 2 ^ 31 → IsSmall (tally_where n ts least T n)
  is_small least T short =
      let f : AreFew n (tally_where n ts least T n) = are_few least n T (omega arith) in
      record { corners = omega (arith, f.corners); edges = omega (arith, f.corners, f.edges); shared = f.shared }

  pub total_small : length ts < 2 ^ 31 → IsSmall (tally_of_all n ts n)
  total_small short = is_small 0 (λ v. true) short

  pub each_small : length ts < 2 ^ 31 → (ks : List ℕ) → AllByRecursion IsSmall (map (tally_of n ts n) ks)
  each_small short [] = tt
  each_small short (k ∷ ks) = (is_small k (λ v. eqb (C v) k) short, each_small short ks)

  pub has_room : (m : ℕ) → m < n → n < 2 ^ 32 → length ts < 2 ^ 31 → (t : VertexTally) → AreFew m t → (ps : List (ℕ × ℕ)) → ps ≡ arcs ts m → (e : Edges) → AreCounted n m (named (arcs ts m)) e
      → HasRoom t (length ps) e
  has_room m l count short t f ps same e c =
      let size : length ps ≡ length (arcs ts m) = ap length same in
      let few : length (arcs ts m) ≤ length ts = arcs_few ts m in
      let all : e.all ≡ edges_of n ts m = c.all in
      let some : e.shared ≡ shared_of n ts m = c.shared in
      let twice : edges_of n ts m ≤ length (arcs ts m) + length (arcs ts m) = greater_twice n m (arcs ts m) in
      let less : shared_of n ts m ≤ edges_of n ts m = greater_less n m (named (arcs ts m)) in
      record {
        vertices = omega (arith, f.vertices);
        corners = omega (arith, f.corners);
        edges = omega (arith, f.corners, f.edges);
        shared = omega (arith, f.corners, f.edges, f.shared);
      }

  -- the arcs round a vertex end at vertices
  pub ring_below : (v : ℕ) → All (ArcBelow n) (arcs ts v)
  ring_below v = All-from_recursion (ArcBelow n) (arcs ts v) (arcs_below n ts v b)

-- what is counted over marks of all vertices
pub counted_all : (n k v : ℕ) (ps rs : List (ℕ × ℕ)) (e : Edges) → k ≡ n → ps ≡ rs → AreCounted k v (named ps) e → AreCounted n v (named rs) e
counted_all n k v ps rs e size same c = subst (λ rs. AreCounted n v (named rs) e) same (subst (λ k. AreCounted k v (named ps) e) size c)
