-- Sums over what has labels, label by label.
use Rattle.std.proofs.Common.{◌≡◌, ℕ, zero, suc, ◌+◌, ◌<◌, ◌≤◌, ℤ, pos, ◌+ℤ◌, Bool, true, false, cond, List, [], ◌∷◌, refl, sym, ◌∙◌, ap, inl, inr, arith, eqb, slice_index}
use Rattle.std.specs.List.{filter, range_with_len, sum_by, count_by, AllByRecursion}
use Rattle.std.proofs.lemmas.Bool.{cases_eq, eq-eqb, ne_eqb}
use Rattle.std.proofs.lemmas.List.Sums.{sum_by-cons}
use Rattle.std.proofs.lemmas.Int.{ints}
use Rattle.iso_defs.specs.Lists.{below}
use Rattle.triangle_laws.proofs.Lists.{In}
use Rattle.measure_laws.specs.Vectors.{total}
use Rattle.measure_laws.proofs.Totals.{total-map, total_add}
use Rattle.mesh_report.proofs.Reach.{range_in}
use Rattle.mesh_report.proofs.Sums.{sum_agree, sum_add, sum_nothing, sum_at}
use Rattle.part_laws.specs.Loops.{Loop}
use Rattle.part_laws.specs.Classes.{class_of, is_of_class}
use Rattle.part_laws.specs.Labels.{AreLabelled, IsRooted, labelled, unlabelled}
use Rattle.part_laws.specs.Parts.{class_loops}
use Rattle.part_laws.proofs.PairSums.{sum_map, sum_filter}
use Rattle.part_laws.proofs.Measured.{total_in}
use Rattle.part_laws.proofs.Renamed.{filter_map_in}

-- by the label of each
module _ {A : Type 0} (label : A → ℕ) (n : ℕ) (p : ℕ → Bool) where
  pub sum_by_labels : (f : A → ℕ) (xs : List A) → AllByRecursion (λ x. label x < n) xs
      → sum_by (λ x. cond (p (label x)) (f x) 0) xs ≡ sum_by (λ a. cond (p a) (sum_by (λ x. cond (eqb (label x) a) (f x) 0) xs) 0) (below n)
  sum_by_labels f [] h = sym (sum_agree (λ a. cond (p a) 0 0) (λ a. 0) (below n) (λ a i. none (p a)) ∙ sum_nothing (below n))
    where
      none : (b : Bool) → cond {A = ℕ} b 0 0 ≡ 0
      none true = refl
      none false = refl
  sum_by_labels f (x ∷ xs) h =
      let here : ℕ → ℕ = λ a. cond (eqb (label x) a) (cond (p a) (f x) 0) 0 in
      let rest : ℕ → ℕ = λ a. cond (p a) (sum_by (λ y. cond (eqb (label y) a) (f y) 0) xs) 0 in
      sum_by-cons (λ y. cond (p (label y)) (f y) 0) x xs
      ∙ (ap (λ k. cond (p (label x)) (f x) 0 + k) (sum_by_labels f xs h.1)
      ∙ (ap (λ k. k + sum_by rest (below n)) (sym (sum_at (λ a. cond (p a) (f x) 0) 0 n (label x) (omega arith) (let l : label x < n = h.0 in omega arith)))
      ∙ (sym (sum_add here rest (below n))
      ∙ sum_agree (λ a. here a + rest a) (λ a. cond (p a) (sum_by (λ y. cond (eqb (label y) a) (f y) 0) (x ∷ xs)) 0) (below n)
      (λ a i. split (p a) (eqb (label x) a) (f x) (sum_by (λ y. cond (eqb (label y) a) (f y) 0) xs) ∙ ap (λ k. cond (p a) k 0) (sym (sum_by-cons (λ y. cond (eqb (label y) a) (f y) 0) x xs))))))
    where
      split : (b c : Bool) (k r : ℕ) → cond c (cond b k 0) 0 + cond b r 0 ≡ cond b (cond c k 0 + r) 0
      split true true k r = refl
      split true false k r = refl
      split false true k r = refl
      split false false k r = refl

  total_nothing : {B : Type 0} (xs : List B) → total (λ x. pos 0) xs ≡ pos 0
  total_nothing [] = refl
  total_nothing (x ∷ xs) = ap (λ z. pos 0 +ℤ z) (total_nothing xs)

  total_at : (f : ℕ → ℤ) (a n x : ℕ) → a ≤ x → x < a + n → total (λ v. cond (eqb x v) (f v) (pos 0)) (range_with_len a n) ≡ f x
  total_at f a zero x l m = absurd (omega arith)
  total_at f a (suc n) x l m =
      let g : ℕ → ℤ = λ v. cond (eqb x v) (f v) (pos 0) in
      elim (cases_eq x a) [
        | inl e ↦ (
            let y : g a ≡ f x = ap (λ b. cond b (f a) (pos 0)) (eq-eqb x a e) ∙ ap f (sym e) in
            let z : total g (range_with_len (a + 1) n) ≡ pos 0
            = total_in g (λ v. pos 0) (range_with_len (a + 1) n)
            (λ v i. ap (λ b. cond b (f v) (pos 0)) (ne_eqb x v (λ q. let r : (a + 1 ≤ v) × (v < a + 1 + n) = range_in (a + 1) n v i in absurd (omega arith))))
            ∙ total_nothing (range_with_len (a + 1) n) in
            ap (λ k. k +ℤ total g (range_with_len (a + 1) n)) y ∙ (ap (λ k. f x +ℤ k) z ∙ last (f x)))
        | inr ne ↦ (
            let y : g a ≡ pos 0 = ap (λ b. cond b (f a) (pos 0)) (ne_eqb x a ne) in
            let z : total g (range_with_len (a + 1) n) ≡ f x = total_at f (a + 1) n x (omega arith) (omega arith) in
            ap (λ k. k +ℤ total g (range_with_len (a + 1) n)) y ∙ (ap (λ k. pos 0 +ℤ k) z ∙ first (f x)))
      ]
    where
      last : (z : ℤ) → z +ℤ pos 0 ≡ z
      last z = omega (arith, ints)

      first : (z : ℤ) → pos 0 +ℤ z ≡ z
      first z = omega (arith, ints)

  pub total_by_labels : (f : A → ℤ) (xs : List A) → AllByRecursion (λ x. label x < n) xs
      → total (λ x. cond (p (label x)) (f x) (pos 0)) xs ≡ total (λ a. cond (p a) (total (λ x. cond (eqb (label x) a) (f x) (pos 0)) xs) (pos 0)) (below n)
  total_by_labels f [] h = sym (total_in (λ a. cond (p a) (pos 0) (pos 0)) (λ a. pos 0) (below n) (λ a i. none (p a)) ∙ total_nothing (below n))
    where
      none : (b : Bool) → cond b (pos 0) (pos 0) ≡ pos 0
      none true = refl
      none false = refl
  total_by_labels f (x ∷ xs) h =
      let here : ℕ → ℤ = λ a. cond (eqb (label x) a) (cond (p a) (f x) (pos 0)) (pos 0) in
      let rest : ℕ → ℤ = λ a. cond (p a) (total (λ y. cond (eqb (label y) a) (f y) (pos 0)) xs) (pos 0) in
      ap (λ k. cond (p (label x)) (f x) (pos 0) +ℤ k) (total_by_labels f xs h.1)
      ∙ (ap (λ k. k +ℤ total rest (below n)) (sym (total_at (λ a. cond (p a) (f x) (pos 0)) 0 n (label x) (omega arith) (let l : label x < n = h.0 in omega arith)))
      ∙ (sym (total_add here rest (below n))
      ∙ total_in (λ a. here a +ℤ rest a) (λ a. cond (p a) (total (λ y. cond (eqb (label y) a) (f y) (pos 0)) (x ∷ xs)) (pos 0)) (below n)
      (λ a i. split (p a) (eqb (label x) a) (f x) (total (λ y. cond (eqb (label y) a) (f y) (pos 0)) xs))))
    where
      split : (b c : Bool) (k r : ℤ) → cond c (cond b k (pos 0)) (pos 0) +ℤ cond b r (pos 0) ≡ cond b (cond c k (pos 0) +ℤ r) (pos 0)
      split true true k r = refl
      split true false k r = refl
      split false true k r = refl
      split false false k r = refl

total_filter : {A : Type 0} (g : A → ℤ) (p : A → Bool) (xs : List A) → total g (filter p xs) ≡ total (λ x. cond (p x) (g x) (pos 0)) xs
total_filter g p [] = refl
total_filter g p (x ∷ xs) = elim (p x) as (λ b. total g (cond b (x ∷ filter p xs) (filter p xs)) ≡ cond b (g x) (pos 0) +ℤ total (λ x. cond (p x) (g x) (pos 0)) xs) [
  | true ↦ ap (λ k. g x +ℤ k) (total_filter g p xs)
  | false ↦ total_filter g p xs ∙ (let e : total (λ x. cond (p x) (g x) (pos 0)) xs ≡ pos 0 +ℤ total (λ x. cond (p x) (g x) (pos 0)) xs = omega (arith, ints) in e)
]

module _ (xs : List (ℕ × Loop)) (n : ℕ) (low : AreLabelled n xs) (p : ℕ → Bool) where
  summed : (f : Loop → ℕ) (q : ℕ → Bool) → sum_by f (labelled xs q) ≡ sum_by (λ (x : ℕ × Loop). cond (q x.0) (f x.1) 0) xs
  summed f q = sum_map f (λ (x : ℕ × Loop). x.1) (filter (λ (x : ℕ × Loop). q x.0) xs) ∙ sum_filter (λ (x : ℕ × Loop). f x.1) (λ (x : ℕ × Loop). q x.0) xs

  totalled : (f : Loop → ℤ) (q : ℕ → Bool) → total f (labelled xs q) ≡ total (λ (x : ℕ × Loop). cond (q x.0) (f x.1) (pos 0)) xs
  totalled f q = total-map f (λ (x : ℕ × Loop). x.1) (filter (λ (x : ℕ × Loop). q x.0) xs) ∙ total_filter (λ (x : ℕ × Loop). f x.1) (λ (x : ℕ × Loop). q x.0) xs

  pub loop_sums : (f : Loop → ℕ) → sum_by f (labelled xs p) ≡ sum_by (λ a. cond (p a) (sum_by f (labelled xs (λ b. eqb b a))) 0) (below n)
  loop_sums f =
      summed f p
      ∙ (sum_by_labels (λ (x : ℕ × Loop). x.0) n p (λ (x : ℕ × Loop). f x.1) xs low
      ∙ sum_agree (λ a. cond (p a) (sum_by (λ (x : ℕ × Loop). cond (eqb x.0 a) (f x.1) 0) xs) 0) (λ a. cond (p a) (sum_by f (labelled xs (λ b. eqb b a))) 0) (below n)
      (λ a i. ap (λ k. cond (p a) k 0) (sym (summed f (λ b. eqb b a)))))

  pub loop_totals : (f : Loop → ℤ) → total f (labelled xs p) ≡ total (λ a. cond (p a) (total f (labelled xs (λ b. eqb b a))) (pos 0)) (below n)
  loop_totals f =
      totalled f p
      ∙ (total_by_labels (λ (x : ℕ × Loop). x.0) n p (λ (x : ℕ × Loop). f x.1) xs low
      ∙ total_in (λ a. cond (p a) (total (λ (x : ℕ × Loop). cond (eqb x.0 a) (f x.1) (pos 0)) xs) (pos 0)) (λ a. cond (p a) (total f (labelled xs (λ b. eqb b a))) (pos 0)) (below n)
      (λ a i. ap (λ k. cond (p a) k (pos 0)) (sym (totalled f (λ b. eqb b a)))))

pub edge_sums : (label : ℕ → ℕ) (n : ℕ) (p : ℕ → Bool) (es : List ℕ) → AllByRecursion (λ e. label e < n) es
    → count_by (λ e. p (label e)) es ≡ sum_by (λ a. cond (p a) (count_by (λ e. eqb (label e) a) es) 0) (below n)
edge_sums label n p es h = sum_by_labels label n p (λ e. 1) es h

-- the loops of a class are those whose labels have it
pub loops_labelled : (xs : List (ℕ × Loop)) (root : ℕ → ℕ) (k : ℕ)
    → IsRooted xs root → class_loops (unlabelled xs) k ≡ labelled xs (λ a. eqb (root a) k)
loops_labelled xs root k h =
    filter_map_in (is_of_class (unlabelled xs) k) (λ (x : ℕ × Loop). eqb (root x.0) k) (λ (x : ℕ × Loop). x.1) xs
    (λ x i. ap (λ z. eqb z k) (at xs h x i))
  where
    at : (ys : List (ℕ × Loop)) → AllByRecursion (λ (x : ℕ × Loop). class_of (unlabelled xs) (slice_index x.1.1 0) ≡ root x.0) ys → (x : ℕ × Loop) → In x ys
        → class_of (unlabelled xs) (slice_index x.1.1 0) ≡ root x.0
    at [] h x i = absurd i
    at (y ∷ ys) h x (inl e) = rw e h.0
    at (y ∷ ys) h x (inr i) = at ys h.1 x i
