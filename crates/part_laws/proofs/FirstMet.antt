-- The crossing edges are the vertices that loops meet, each counted once.
use Rattle.std.proofs.Common.{◌≡◌, ℕ, ◌<◌, ◌≤◌, ℤ, Bool, true, false, ◌||◌, not, List, [], ◌∷◌, ◌++◌, map, length, refl, sym, ◌∙◌, ap, subst, inl, inr, arith, eqb}
use Rattle.std.specs.List.{filter, list_any, count_by, enumerate_from}
use Rattle.std.proofs.lemmas.Bool.{cases_Bool, and_parts, both_ways, not-true, not_from_false, or_from, or_parts}
use Rattle.std.proofs.lemmas.List.Sums.{length-filter}
use Rattle.iso_defs.specs.Lists.{below, is_in}
use Rattle.iso_defs.specs.Grid.{Grid, cells, IsThick, is_crossing, name_bound}
use Rattle.iso_defs.specs.Cell.{case_loops, cell_edge, cell_joined, cell_signs, crosses}
use Rattle.iso_defs.specs.Scratch.{cell_loops, centre_name, crossing_edges}
use Rattle.case_laws.proofs.Wedges.{distinct_test, loop_all, loop_at, loop_test}
use Rattle.case_laws.proofs.EdgePairs.{implies}
use Rattle.case_laws.proofs.Tests.{cell_passes}
use Rattle.triangle_laws.proofs.Lists.{In, In-append, In-filter, In-flat_map, In-left, In-map, In-right, in_any, in_filter, in_flat_map, in_map, list_all_at}
use Rattle.triangle_laws.proofs.Counts.{Distinct}
use Rattle.triangle_laws.proofs.Fans.{in_is_in}
use Rattle.triangle_laws.proofs.FanWalk.{no_longer}
use Rattle.mesh_laws.proofs.Cells.{Distinct-filter, Distinct-range, cell_in, range_in}
use Rattle.mesh_laws.proofs.Names.{edge_injective}
use Rattle.mesh_laws.proofs.Used.{cell_of_edge}
use Rattle.part_laws.specs.Loops.{Loop, loops_in, mesh_loops, met_after}
use Rattle.part_laws.proofs.ClassLaws.{is_in_from}
use Rattle.part_laws.proofs.Counted.{filter_agree}
use Rattle.part_laws.proofs.LoopLaws.{CellLoop, cell_loop}
use Rattle.part_laws.proofs.Numbered.{loops_cross}

-- lists of the same different numbers have the same counts
pub same_counts : (p : ℕ → Bool) (xs ys : List ℕ) → Distinct xs → Distinct ys → ((v : ℕ) → In v xs → In v ys) → ((v : ℕ) → In v ys → In v xs) → count_by p xs ≡ count_by p ys
same_counts p xs ys d e to from =
    let a : length (filter p xs) ≤ length (filter p ys) = no_longer (filter p xs) (filter p ys) (Distinct-filter p xs d) (λ v i. let k : In v xs × (p v ≡ true) = In-filter p v xs i in in_filter p v ys (to v k.0) k.1) in
    let b : length (filter p ys) ≤ length (filter p xs) = no_longer (filter p ys) (filter p xs) (Distinct-filter p ys e) (λ v i. let k : In v ys × (p v ≡ true) = In-filter p v ys i in in_filter p v xs (from v k.0) k.1) in
    let x : length (filter p xs) ≡ count_by p xs = length-filter p xs in
    let y : length (filter p ys) ≡ count_by p ys = length-filter p ys in
    omega arith

pub distinct_join : (xs ys : List ℕ) → Distinct xs → Distinct ys → ((v : ℕ) → In v xs → In v ys → ⊥) → Distinct (xs ++ ys)
distinct_join [] ys d e h = e
distinct_join (x ∷ xs) ys d e h =
    ((λ i. elim (In-append x xs ys i) [ inl j ↦ d.0 j | inr j ↦ h x (inl refl) j ]), distinct_join xs ys d.1 e (λ v i j. h v (inr i) j))

-- whether a loop has the vertex
abbrev met : List Loop → ℕ → Bool
met ks v = list_any (λ (k : Loop). is_in v k.1) ks

fresh_in : (ks : List Loop) (l : Loop) (v : ℕ) → In v (filter (λ v. not (met ks v)) l.1) → In v l.1 × (met ks v ≡ false)
fresh_in ks l v i = let k : In v l.1 × (not (met ks v) ≡ true) = In-filter (λ v. not (met ks v)) v l.1 i in (k.0, not-true (met ks v) k.1)

-- what is met is of a loop, and of none of the earlier
met_of : (ks ls : List Loop) (v : ℕ) → In v (met_after ks ls) → ((l : Loop) × In l ls × In v l.1) × (met ks v ≡ false)
met_of ks [] v i = absurd i
met_of ks (l ∷ ls) v i =
    elim (In-append v (filter (λ v. not (met ks v)) l.1) (met_after (l ∷ ks) ls) i) [
      | inl j ↦ (let f : In v l.1 × (met ks v ≡ false) = fresh_in ks l v j in ((l, inl refl, f.0), f.1))
      | inr j ↦ (
          let r : ((k : Loop) × In k ls × In v k.1) × (met (l ∷ ks) v ≡ false) = met_of (l ∷ ks) ls v j in
          ((r.0.0, inr r.0.1, r.0.2), (or_parts (is_in v l.1) (met ks v) r.1).1))
    ]

-- and each vertex of a loop is met, if not before
of_met : (ks ls : List Loop) (l : Loop) (v : ℕ) → In l ls → In v l.1 → met ks v ≡ false → In v (met_after ks ls)
of_met ks [] l v i j n = absurd i
of_met ks (k ∷ ls) l v (inl e) j n =
    In-left v (filter (λ v. not (met ks v)) k.1) (met_after (k ∷ ks) ls) (in_filter (λ v. not (met ks v)) v k.1 (subst (λ (m : Loop). In v m.1) e j) (not_from_false (met ks v) n))
of_met ks (k ∷ ls) l v (inr i) j n =
    elim (cases_Bool (is_in v k.1)) [
      | inl e ↦ In-left v (filter (λ v. not (met ks v)) k.1) (met_after (k ∷ ks) ls) (in_filter (λ v. not (met ks v)) v k.1 (in_is_in v k.1 e) (not_from_false (met ks v) n))
      | inr e ↦ In-right v (filter (λ v. not (met ks v)) k.1) (met_after (k ∷ ks) ls) (of_met (k ∷ ks) ls l v i j (or_from (is_in v k.1) (met ks v) e n))
    ]

met_distinct : (ks ls : List Loop) → ((l : Loop) → In l ls → Distinct l.1) → Distinct (met_after ks ls)
met_distinct ks [] h = tt
met_distinct ks (l ∷ ls) h =
    distinct_join (filter (λ v. not (met ks v)) l.1) (met_after (l ∷ ks) ls) (Distinct-filter (λ v. not (met ks v)) l.1 (h l (inl refl))) (met_distinct (l ∷ ks) ls (λ k i. h k (inr i)))
    (λ v i j.
    let a : In v l.1 × (met ks v ≡ false) = fresh_in ks l v i in
    let b : ((k : Loop) × In k ls × In v k.1) × (met (l ∷ ks) v ≡ false) = met_of (l ∷ ks) ls v j in
    both_ways (is_in v l.1) (or_parts (is_in v l.1) (met ks v) b.1).0 (is_in_from v l.1 a.0))

pub distinct_from : (xs : List ℕ) → distinct_test xs ≡ true → Distinct xs
distinct_from [] h = tt
distinct_from (x ∷ xs) h =
    let p : (not (is_in x xs) ≡ true) × (distinct_test xs ≡ true) = and_parts (not (is_in x xs)) (distinct_test xs) h in
    ((λ i. both_ways (is_in x xs) (not-true (is_in x xs) p.0) (is_in_from x xs i)), distinct_from xs p.1)

pub distinct_map : (f : ℕ → ℕ) (xs : List ℕ) → ((a b : ℕ) → In a xs → In b xs → f a ≡ f b → a ≡ b) → Distinct xs → Distinct (map f xs)
distinct_map f [] inj d = tt
distinct_map f (x ∷ xs) inj d = (
  (λ i. let y : (y : ℕ) × In y xs × (f x ≡ f y) = In-map f (f x) xs i in d.0 (subst (λ z. In z xs) (sym (inj x y.0 (inl refl) (inr y.1) y.2)) y.1)),
  distinct_map f xs (λ a b i j. inj a b (inr i) (inr j)) d.1,
)

module _ (g : Grid) (s : ℕ → ℤ) where
  -- the vertices of a loop are different
  loops_distinct : (m : Loop) → In m (mesh_loops g s) → Distinct m.1
  loops_distinct m i =
      let q : (q : ℕ) × In q (cells g) × In m (loops_in g s q) = In-flat_map (loops_in g s) m (cells g) i in
      let l : (l : ℕ × List ℕ) × In l (cell_loops g s q.0) × (m ≡ (centre_name g q.0 l.0, map (cell_edge g q.0) l.1))
      = In-map (λ (l : ℕ × List ℕ). (centre_name g q.0 l.0, map (cell_edge g q.0) l.1)) m (cell_loops g s q.0) q.2 in
      let c : CellLoop l.0 = cell_loop g s q.0 l.0 l.1 in
      subst (λ (k : Loop). Distinct k.1) (sym l.2)
      (distinct_map (cell_edge g q.0) l.0.1 (λ a b j k e. edge_injective g q.0 a b (cell_in g q.0 q.1).0 (c.edges a j) (c.edges b k) e) (distinct_from l.0.1 c.apart))

  -- each crossing edge is a vertex of a loop
  pub edge_looped : (e : ℕ) → IsThick g → In e (crossing_edges g s) → (m : Loop) × In m (mesh_loops g s) × In e m.1
  edge_looped e thick i =
      let c : (r : ℕ) × In r (cells g) × ((x : ℕ) × (x < 12) × (cell_edge g r x ≡ e) × (crosses (cell_signs g s r) x ≡ true)) = cell_of_edge g s e thick i in
      let r : ℕ = c.0 in
      let x : ℕ = c.2.0 in
      let signs : List Bool = cell_signs g s r in
      let joined : List Bool = cell_joined g s r in
      let t : implies (crosses signs x) (loop_at signs joined x) ≡ true
      = list_all_at (λ e. implies (crosses signs e) (loop_at signs joined e)) (below 12) x (cell_passes loop_test loop_all g s r) (range_in 0 12 x (omega arith) (omega (arith, c.2.1))) in
      let w : loop_at signs joined x ≡ true = subst (λ b. implies b (loop_at signs joined x) ≡ true) c.2.3 t in
      let l : (l : ℕ × List ℕ) × In l (enumerate_from 0 (case_loops signs joined)) × (_ ≡ true) = in_any _ (enumerate_from 0 (case_loops signs joined)) (and_parts _ _ (and_parts (eqb (count_by (is_in x) (case_loops signs joined)) 1) _ w).1).0 in
      let j : In x l.0.1 = in_is_in x l.0.1 (and_parts (is_in x l.0.1) _ l.2).0 in
      let m : Loop = (centre_name g r l.0.0, map (cell_edge g r) l.0.1) in (
        m,
        in_flat_map (loops_in g s) m r (cells g) c.1 (in_map (λ (l : ℕ × List ℕ). (centre_name g r l.0, map (cell_edge g r) l.1)) l.0 (cell_loops g s r) l.1),
        subst (λ z. In z m.1) c.2.2 (in_map (cell_edge g r) x l.0.1 j),
      )

  -- so a count over the crossing edges is one over what loops meet
  pub edges_met : (p : ℕ → Bool) → IsThick g → count_by p (crossing_edges g s) ≡ count_by p (met_after [] (mesh_loops g s))
  edges_met p thick =
      same_counts p (crossing_edges g s) (met_after [] (mesh_loops g s))
      (Distinct-filter (is_crossing g s) (below (name_bound g)) (Distinct-range 0 (name_bound g)))
      (met_distinct [] (mesh_loops g s) (λ l i. loops_distinct l i))
      (λ v i. let l : (m : Loop) × In m (mesh_loops g s) × In v m.1 = edge_looped v thick i in of_met [] (mesh_loops g s) l.0 v l.1 l.2 refl)
      (λ v i. let l : (m : Loop) × In m (mesh_loops g s) × In v m.1 = (met_of [] (mesh_loops g s) v i).0 in loops_cross g s l.0 v l.1 l.2)

-- one loop more meets those of its vertices that no loop has
met_both : (ks ls : List Loop) (l : Loop) → met_after ks (ls ++ l ∷ []) ≡ met_after ks ls ++ filter (λ v. not (met ls v || met ks v)) l.1
met_both ks [] l = append_none (filter (λ v. not (met ks v)) l.1)
  where
    append_none : (xs : List ℕ) → xs ++ [] ≡ xs
    append_none [] = refl
    append_none (x ∷ xs) = ap (λ l. x ∷ l) (append_none xs)
met_both ks (k ∷ ls) l =
    ap (λ vs. filter (λ v. not (met ks v)) k.1 ++ vs)
    (met_both (k ∷ ks) ls l ∙ ap (λ vs. met_after (k ∷ ks) ls ++ vs) (filter_agree (λ v. not (met ls v || (is_in v k.1 || met ks v))) (λ v. not ((is_in v k.1 || met ls v) || met ks v)) l.1 (λ v i. ap not (regroup (met ls v) (is_in v k.1) (met ks v)))))
    ∙ join (filter (λ v. not (met ks v)) k.1) (met_after (k ∷ ks) ls) (filter (λ v. not ((is_in v k.1 || met ls v) || met ks v)) l.1)
  where
    regroup : (a b c : Bool) → (a || (b || c)) ≡ ((b || a) || c)
    regroup true true c = refl
    regroup true false c = refl
    regroup false true c = refl
    regroup false false c = refl

    join : (xs ys zs : List ℕ) → xs ++ (ys ++ zs) ≡ (xs ++ ys) ++ zs
    join [] ys zs = refl
    join (x ∷ xs) ys zs = ap (λ l. x ∷ l) (join xs ys zs)

pub met_more : (ls : List Loop) (l : Loop) → met_after [] (ls ++ l ∷ []) ≡ met_after [] ls ++ filter (λ v. not (met ls v)) l.1
met_more ls l = met_both [] ls l ∙ ap (λ vs. met_after [] ls ++ vs) (filter_agree (λ v. not (met ls v || false)) (λ v. not (met ls v)) l.1 (λ v i. ap not (none (met ls v))))
  where
    none : (b : Bool) → (b || false) ≡ b
    none true = refl
    none false = refl
