-- The summary of a mesh is that of its loops.
use Rattle.std.proofs.Common.{◌≡◌, ℕ, suc, ◌+◌, ◌-◌, ◌<◌, ◌≤◌, Bool, true, false, cond, List, [], ◌∷◌, ◌++◌, map, length, pos, ◌+ℤ◌, ◌-ℤ◌, refl, sym, ◌∙◌, ap, arith, eqb, zero-add}
use Rattle.std.specs.List.{filter, flat_map, list_any, range_with_len, count_by}
use Rattle.std.proofs.lemmas.Bool.{ne_eqb}
use Rattle.std.proofs.lemmas.List.FromFn.{length-range_with_len}
use Rattle.iso_defs.specs.Lists.{below}
use Rattle.iso_defs.specs.Cell.{Triangle}
use Rattle.iso_defs.specs.Manifold.{uses}
use Rattle.triangle_laws.proofs.Lists.{In}
use Rattle.triangle_laws.proofs.Counts.{count-cons, count_agree}
use Rattle.mesh_laws.proofs.Cells.{range_at_least}
use Rattle.mesh_report.specs.declared.part.Part.{Part}
use Rattle.mesh_report.specs.Report.{Summary, component, components, edges, has_one_side, part_of, summary_of, total_of, used}
use Rattle.mesh_report.proofs.Reach.{below_in}
use Rattle.part_laws.specs.Loops.{Loop, triangles_round, rims_where, faces, centres}
use Rattle.part_laws.specs.Classes.{class_of, is_of_class}
use Rattle.part_laws.specs.Parts.{edges_round, part_by, class_part, classes, loop_summary}
use Rattle.part_laws.proofs.Edges.{edges_with, border_with}
use Rattle.part_laws.proofs.Rounds.{map_agree}
use Rattle.part_laws.proofs.Joined.{AreLoops, first_of, first_in, CornerOf, corner_component, component_class, component_below}
use Rattle.part_laws.proofs.Counted.{filter_all, filter_none, filter_agree, range_join, vertices_by_loops, faces_by_loops, edges_by_loops, border_by_loops}

filter_join : (p : ℕ → Bool) (xs ys : List ℕ) → filter p (xs ++ ys) ≡ filter p xs ++ filter p ys
filter_join p [] ys = refl
filter_join p (x ∷ xs) ys = elim (p x) as (λ b. cond b (x ∷ filter p (xs ++ ys)) (filter p (xs ++ ys)) ≡ cond b (x ∷ filter p xs) (filter p xs) ++ filter p ys) [
  | true ↦ ap (λ l. x ∷ l) (filter_join p xs ys)
  | false ↦ filter_join p xs ys
]

count_all : {A : Type 0} (xs : List A) → count_by (λ x. true) xs ≡ length xs
count_all [] = refl
count_all (x ∷ xs) = count-cons (λ x. true) x xs ∙ (let r : count_by (λ x. true) xs ≡ length xs = count_all xs in let e : 1 + count_by (λ x. true) xs ≡ suc (length xs) = omega arith in e)

append_none : (xs : List ℕ) → xs ++ [] ≡ xs
append_none [] = refl
append_none (x ∷ xs) = ap (λ l. x ∷ l) (append_none xs)

-- equal numbers make equal parts
pub same_part : (least : ℕ) (v v' e e' f f' b b' : ℕ) → v ≡ v' → e ≡ e' → f ≡ f' → b ≡ b'
    → ◌≡◌ {A = Part} (record { least = least; vertices = v; edges = e; faces = f; border = b; euler = (pos v -ℤ pos e) +ℤ pos f })
    (record { least = least; vertices = v'; edges = e'; faces = f'; border = b'; euler = (pos v' -ℤ pos e') +ℤ pos f' })
same_part least v v' e e' f f' b b' hv he hf hb = rw (hv, he, hf, hb) refl

module _ (m n : ℕ) (in_outer_plane : ℕ → ℕ → Bool) (ls : List Loop) (h : AreLoops m n in_outer_plane ls) where
  abbrev ts : List Triangle
  ts = flat_map triangles_round ls

  total_by_loops : total_of n ts ≡ part_by in_outer_plane 0 (length (below m)) ls
  unfolding total_of
  total_by_loops =
      let T : ℕ → Bool = λ v. true in
      let all : filter (λ (l : Loop). true) ls ≡ ls = filter_all (λ l. true) ls (λ l i. refl) in
      let c : count_by T (below m) ≡ m = everything m in
      let v : length (used n ts) ≡ m + centres ls
      = ap length (sym (filter_all T (used n ts) (λ v i. refl))) ∙ (vertices_by_loops m n in_outer_plane ls h T (λ l v i c. refl) ∙ (ap (λ k. k + centres (filter (λ (l : Loop). true) ls)) c ∙ ap (λ l. m + centres l) all)) in
      let e : length (edges n ts) ≡ edges_round in_outer_plane ls
      = ap length (sym (filter_all (λ (e : ℕ × ℕ). true) (edges n ts) (λ e i. refl))) ∙ (edges_by_loops m n in_outer_plane ls h T (λ l v i c. refl) ∙ ap (edges_round in_outer_plane) all) in
      let f : length ts ≡ faces ls
      = ap length (sym (filter_all (λ (t : Triangle). true) ts (λ t i. refl))) ∙ (faces_by_loops m n in_outer_plane ls h T (λ l v i c. refl) ∙ ap faces all) in
      let b : length (filter (has_one_side ts) (edges n ts)) ≡ rims_where in_outer_plane ls
      = ap (λ es. length (filter (has_one_side ts) es)) (sym (filter_all (λ (e : ℕ × ℕ). true) (edges n ts) (λ e i. refl)))
      ∙ (border_by_loops m n in_outer_plane ls h T (λ l v i c. refl) ∙ ap (rims_where in_outer_plane) all) in
      same_part 0 (length (used n ts)) (m + centres ls) (length (edges n ts)) (edges_round in_outer_plane ls) (length ts) (faces ls)
      (length (filter (has_one_side ts) (edges n ts))) (rims_where in_outer_plane ls) v e f b
      ∙ ap (λ k. part_by in_outer_plane 0 k ls) (sym (length-range_with_len 0 m))
    where
      everything : (m : ℕ) → count_by (λ v. true) (below m) ≡ m
      everything m = count_all (below m) ∙ length-range_with_len 0 m

  part_by_loops : (k : ℕ) → part_of n ts k ≡ class_part (λ v. v) (below m) in_outer_plane ls k
  unfolding part_of
  part_by_loops k =
      let T : ℕ → Bool = λ v. eqb (component n ts v) k in
      let alike : (l : Loop) (v : ℕ) → In l ls → CornerOf l v → T v ≡ T (first_of l) = λ l v i c. ap (λ z. eqb z k) (corner_component m n in_outer_plane ls h l v i c) in
      let some : filter (λ (l : Loop). T (first_of l)) ls ≡ filter (is_of_class ls k) ls
      = filter_agree (λ (l : Loop). T (first_of l)) (is_of_class ls k) ls
      (λ l i. ap (λ z. eqb z k) (component_class m n in_outer_plane ls h (first_of l) (h.low l (first_of l) i (first_in l.1 (h.long l i))))) in
      let c : count_by T (below m) ≡ count_by (λ v. eqb (class_of ls v) k) (below m)
      = count_agree T (λ v. eqb (class_of ls v) k) (below m) (λ v i. ap (λ z. eqb z k) (component_class m n in_outer_plane ls h v (below_in m v i))) in
      let crossings : ℕ = count_by (λ v. eqb (class_of ls v) k) (below m) in
      let ours : List Loop = filter (is_of_class ls k) ls in
      same_part k (length (filter T (used n ts))) (crossings + centres ours) (length (edges_with n ts T)) (edges_round in_outer_plane ours)
      (length (filter (λ (t : Triangle). T t.0) ts)) (faces ours) (border_with n ts T) (rims_where in_outer_plane ours)
      (vertices_by_loops m n in_outer_plane ls h T alike ∙ (ap (λ j. j + centres (filter (λ (l : Loop). T (first_of l)) ls)) c ∙ ap (λ l. crossings + centres l) some))
      (edges_by_loops m n in_outer_plane ls h T alike ∙ ap (edges_round in_outer_plane) some)
      (faces_by_loops m n in_outer_plane ls h T alike ∙ ap faces some)
      (border_by_loops m n in_outer_plane ls h T alike ∙ ap (rims_where in_outer_plane) some)

  pub components_by_loops : components n ts ≡ classes (below m) ls
  unfolding components
  components_by_loops =
      let P : ℕ → Bool = λ v. eqb (component n ts v) v in
      let u : used n ts ≡ below n = filter_all (λ v. list_any (uses v) ts) (below n) (λ v i. h.used v (below_in n v i)) in
      let w : m + (n - m) ≡ n = omega (arith, h.first) in
      let z : 0 + m ≡ m = zero-add m in
      let b : below n ≡ below m ++ range_with_len m (n - m) = sym (ap below w) ∙ (range_join 0 m (n - m) ∙ ap (λ k. below m ++ range_with_len k (n - m)) z) in
      let none : filter P (range_with_len m (n - m)) ≡ []
      = filter_none P (range_with_len m (n - m)) (λ v i.
      let r : (m ≤ v) × (v < m + (n - m)) = range_at_least m (n - m) v i in
      let c : component n ts v < m = component_below m n in_outer_plane ls h v (omega (arith, r.1, h.first)) in
      ne_eqb (component n ts v) v (λ e. absurd (omega (arith, r.0, c, e)))) in
      ap (filter P) (u ∙ b)
      ∙ (filter_join P (below m) (range_with_len m (n - m))
      ∙ (ap (λ l. filter P (below m) ++ l) none
      ∙ (append_none (filter P (below m))
      ∙ filter_agree P (λ v. eqb (class_of ls v) v) (below m) (λ v i. ap (λ z. eqb z v) (component_class m n in_outer_plane ls h v (below_in m v i))))))

  pub summary_by_loops : summary_of n ts ≡ loop_summary (λ v. v) (below m) in_outer_plane ls
  summary_by_loops =
      let t : total_of n ts ≡ part_by in_outer_plane 0 (length (below m)) ls = total_by_loops in
      let p : map (part_of n ts) (components n ts) ≡ map (class_part (λ v. v) (below m) in_outer_plane ls) (classes (below m) ls)
      = ap (map (part_of n ts)) components_by_loops ∙ map_agree (part_of n ts) (class_part (λ v. v) (below m) in_outer_plane ls) (classes (below m) ls) (λ k i. part_by_loops k) in
      both (total_of n ts) (part_by in_outer_plane 0 (length (below m)) ls) (map (part_of n ts) (components n ts)) (map (class_part (λ v. v) (below m) in_outer_plane ls) (classes (below m) ls)) t p
    where
      both : (a b : Part) (x y : List Part) → a ≡ b → x ≡ y → ◌≡◌ {A = Summary} (record { total = a; parts = x }) (record { total = b; parts = y })
      both a b x y e f = rw (e, f) refl
