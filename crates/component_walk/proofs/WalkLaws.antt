-- A loop more is walked.
use Rattle.std.proofs.Common.{◌≡◌, ◌≢◌, ℕ, zero, suc, ◌+◌, ◌*◌, ◌/◌, ◌%◌, ◌<◌, ◌≤◌, ℤ, pos, ◌+ℤ◌, Bool, true, false, cond, not, List, [], ◌∷◌, ◌++◌, map, length, get_or, set, refl, sym, ◌∙◌, ap, ap₂, subst, inl, inr, arith, eqb}
use Rattle.std.specs.List.{AllByRecursion, filter}
use Rattle.std.proofs.lemmas.Bool.{cases_Bool, cases_eq, cases_lt, eq-eqb, ne_eqb, eqb-true}
use Rattle.std.proofs.lemmas.Int.{ints}
use Rattle.std.proofs.lemmas.List.{get_or-map, get_or-set_other, get_or-set_same, length-map, length-set}
use Rattle.std.proofs.lemmas.List.Sums.{sum_by-cons, sum_by_push}
use Rattle.std.proofs.Math.Nat.{mod-lt, mul-le-mul_left}
use Rattle.iso_defs.specs.Cell.{cell_edge, edge_corner}
use Rattle.iso_defs.specs.Grid.{Grid, is_crossing}
use Rattle.iso_defs.specs.Lists.{below, is_in}
use Rattle.triangle_laws.proofs.Lists.{In, In-filter, In-map}
use Rattle.triangle_laws.proofs.Counts.{count_agree, count_none}
use Rattle.triangle_laws.proofs.Fans.{in_is_in}
use Rattle.mesh_laws.proofs.Cells.{range_at_least}
use Rattle.mesh_laws.proofs.TwoCells.{corner_below}
use Rattle.measure_laws.specs.Vectors.{total}
use Rattle.measure_laws.proofs.Totals.{total-append}
use Rattle.cell_loops.specs.Loops.{IsLoop}
use Rattle.iso_base.specs.Volume.{IsGrid}
use Rattle.crossing_edges.specs.Flags.{rank}
use Rattle.flat_mesh.specs.Centres.{IsCellAt}
use Rattle.flat_mesh.specs.Lattice.{Leveled, heights}
use Rattle.flat_mesh.specs.declared.centres.Cell.{Cell}
use Rattle.component_labels.specs.Chains.{ArePaired}
use Rattle.component_labels.specs.Fronts.{none, room, row_name, slot_of}
use Rattle.component_labels.specs.Labelling.{IsAdded, Known}
use Rattle.component_labels.proofs.AddedLaws.{loop_labelled}
use Rattle.part_laws.specs.ByLabels.{firsts}
use Rattle.part_laws.specs.Labels.{labelled, unlabelled}
use Rattle.part_laws.specs.Loops.{Loop, rims}
use Rattle.part_laws.specs.Meets.{relabelled}
use Rattle.component_walk.specs.Passed.{AreEdges, edges_before}
use Rattle.component_walk.specs.Sums.{IsLoopIn}
use Rattle.component_walk.specs.Walks.{ArePlaces, AreTallies, CanAdd, IsLonger, IsWalked}
use Rattle.component_walk.specs.declared.edges_behind.Passed.{Passed}
use Rattle.component_walk.proofs.BorderSteps.{in_all}

pub none_behind : {A : Type 0} (xs : List A) → xs ++ [] ≡ xs
none_behind [] = refl
none_behind (x ∷ xs) = ap (λ l. x ∷ l) (none_behind xs)

pub unlabelled_last : (xs : List (ℕ × Loop)) (a : ℕ) (l : Loop) → unlabelled (xs ++ (a, l) ∷ []) ≡ unlabelled xs ++ l ∷ []
unlabelled_last [] a l = refl
unlabelled_last (x ∷ xs) a l = ap (λ ks. x.1 ∷ ks) (unlabelled_last xs a l)

labelled_last : (xs : List (ℕ × Loop)) (a : ℕ) (l : Loop) (p : ℕ → Bool) → labelled (xs ++ (a, l) ∷ []) p ≡ labelled xs p ++ cond (p a) (l ∷ []) []
labelled_last [] a l p = go (p a)
  where
    go : (b : Bool) → map (λ (x : ℕ × Loop). x.1) (cond b ((a, l) ∷ []) []) ≡ cond b (l ∷ []) []
    go true = refl
    go false = refl
labelled_last (x ∷ xs) a l p = go (p x.0) (labelled_last xs a l p)
  where
    go : (b : Bool) → labelled (xs ++ (a, l) ∷ []) p ≡ labelled xs p ++ cond (p a) (l ∷ []) []
        → map (λ (x : ℕ × Loop). x.1) (cond b (x ∷ filter (λ (x : ℕ × Loop). p x.0) (xs ++ (a, l) ∷ [])) (filter (λ (x : ℕ × Loop). p x.0) (xs ++ (a, l) ∷ [])))
        ≡ map (λ (x : ℕ × Loop). x.1) (cond b (x ∷ filter (λ (x : ℕ × Loop). p x.0) xs) (filter (λ (x : ℕ × Loop). p x.0) xs)) ++ cond (p a) (l ∷ []) []
    go true e = ap (λ ks. x.1 ∷ ks) e
    go false e = e

-- no loop has a label that is not known
none_labelled : (n b : ℕ) (xs : List (ℕ × Loop)) → AllByRecursion (λ (x : ℕ × Loop). x.0 < n) xs → n ≤ b → labelled xs (λ c. eqb c b) ≡ []
none_labelled n b [] h le = refl
none_labelled n b (x ∷ xs) h le =
    ap (λ t. map (λ (x : ℕ × Loop). x.1) (cond t (x ∷ filter (λ (x : ℕ × Loop). eqb x.0 b) xs) (filter (λ (x : ℕ × Loop). eqb x.0 b) xs))) (ne_eqb x.0 b (λ e. (let l : x.0 < n = h.0 in omega (arith, e, le, l))))
    ∙ none_labelled n b xs h.1 le

all_in : (P : ℕ → Type 0) (es : List ℕ) → AllByRecursion P es → (e : ℕ) → In e es → P e
all_in P [] h e i = absurd i
all_in P (x ∷ es) h e (inl q) = subst P (sym q) h.0
all_in P (x ∷ es) h e (inr i) = all_in P es h.1 e i

from_in : (P : ℕ → Type 0) (es : List ℕ) → ((e : ℕ) → In e es → P e) → AllByRecursion P es
from_in P [] h = tt
from_in P (x ∷ es) h = (h x (inl refl), from_in P es (λ e i. h e (inr i)))

-- where labels are the same, so are the first edges that have them
module _ (f g : ℕ → ℕ) where
  filter_same : (d : ℕ) (es : List ℕ) → f d ≡ g d → ((e : ℕ) → In e es → f e ≡ g e) → filter (λ e. not (eqb (f e) (f d))) es ≡ filter (λ e. not (eqb (g e) (g d))) es
  filter_same d [] q h = refl
  filter_same d (x ∷ es) q h =
      ap₂ (λ b ys. cond b (x ∷ ys) ys) (ap₂ (λ a b. not (eqb a b)) (h x (inl refl)) q) (filter_same d es q (λ e i. h e (inr i)))

  pub firsts_inside : (es : List ℕ) (e : ℕ) → In e (firsts f es) → In e es
  firsts_inside [] e i = i
  firsts_inside (x ∷ es) e (inl q) = inl q
  firsts_inside (x ∷ es) e (inr i) = inr (firsts_inside es e (In-filter (λ d. not (eqb (f d) (f x))) e (firsts f es) i).0)

  pub firsts_same : (es : List ℕ) → ((e : ℕ) → In e es → f e ≡ g e) → firsts f es ≡ firsts g es
  firsts_same [] h = refl
  firsts_same (x ∷ es) h =
      ap (λ l. x ∷ l) (filter_same x (firsts f es) (h x (inl refl)) (λ e i. h e (inr (firsts_inside es e i))) ∙ ap (filter (λ e. not (eqb (g e) (g x)))) (firsts_same es (λ e i. h e (inr i))))

  pub named_same : (number : ℕ → ℕ) (ds : List ℕ) → ((e : ℕ) → In e ds → f e ≡ g e) → map {B = ℕ × ℕ} (λ e. (f e, number e)) ds ≡ map {B = ℕ × ℕ} (λ e. (g e, number e)) ds
  named_same number [] h = refl
  named_same number (d ∷ ds) h = ap₂ {C = List (ℕ × ℕ)} (λ a l. (a, number d) ∷ l) (h d (inl refl)) (named_same number ds (λ e i. h e (inr i)))

before_low : (v : Leveled) (n e : ℕ) → In e (edges_before v n) → e < n
unfolding edges_before
before_low v n e i =
    let r : (0 ≤ e) × (e < 0 + n) = range_at_least 0 n e (In-filter (is_crossing v.grid (heights v)) e (below n) i).0 in
    omega (arith, r.1)

-- more labels are known, and no edge before has another label
pub edges_grow : (v : Leveled) (n : ℕ) (f g number : ℕ → ℕ) (cs cs' : List ℕ) (order : List (ℕ × ℕ)) → AreEdges f number (edges_before v n) cs order → ((e : ℕ) → e < n → f e ≡ g e)
    → length cs ≤ length cs' → ((a : ℕ) → a < length cs → get_or cs' a 0 ≡ get_or cs a 0) → ((a : ℕ) → length cs ≤ a → a < length cs' → get_or cs' a 0 ≡ 0)
    → AreEdges g number (edges_before v n) cs' order
edges_grow v n f g number cs cs' order h same longer old new =
    let es : List ℕ = edges_before v n in
    let agree : (e : ℕ) → In e es → f e ≡ g e = λ e i. same e (before_low v n e i) in
    record {
      counts = λ a low.
          elim (cases_lt a (length cs)) [
            | inl l ↦ old a l ∙ (h.counts a l ∙ count_agree (λ e. eqb (f e) a) (λ e. eqb (g e) a) es (λ e i. ap (λ b. eqb b a) (agree e i)))
            | inr l ↦ new a l low ∙ sym (count_none (λ e. eqb (g e) a) es (λ e i t.
                (let q : f e ≡ a = agree e i ∙ eqb-true (g e) a t in let k : f e < length cs = all_in (λ e. f e < length cs) es h.low e i in omega (arith, q, k, l))))
          ];
      firsts_are = h.firsts_are ∙ (named_same f g number (firsts f es) (λ e i. agree e (firsts_inside f g es e i)) ∙ ap (map {B = ℕ × ℕ} (λ e. (g e, number e))) (firsts_same f g es agree));
      low = from_in (λ e. g e < length cs') es (λ e i. (let k : f e < length cs = all_in (λ e. f e < length cs) es h.low e i in omega (arith, k, agree e i, longer)));
    }

-- what is added up of the loops of each label
module _ {T : Type 0} (value : T → ℕ → ℤ) (fits : ℕ → T → Type 0) (of : ℕ → Loop → ℤ) (xs : List (ℕ × Loop)) where
  -- more labels are known
  pub tallies_grow : (n m : ℕ) (ts ts' : List T) → AreTallies value fits of xs n ts → AllByRecursion (λ (x : ℕ × Loop). x.0 < n) xs → length ts' ≡ m
      → ((a : ℕ) (d : T) → a < n → get_or ts' a d ≡ get_or ts a d) → ((a : ℕ) (d : T) (i : ℕ) → n ≤ a → a < m → value (get_or ts' a d) i ≡ pos 0)
      → ((a : ℕ) (d : T) → n ≤ a → a < m → fits 0 (get_or ts' a d)) → AreTallies value fits of xs m ts'
  tallies_grow n m ts ts' h low size old new small = record {
    size = size;
    values = λ a d i l.
        elim (cases_lt a n) [
          | inl k ↦ ap (λ t. value t i) (old a d k) ∙ h.values a d i k
          | inr k ↦ new a d i k l ∙ sym (ap (total (of i)) (none_labelled n a xs low k))
        ];
    fit = λ a d l.
        elim (cases_lt a n) [
          | inl k ↦ subst (fits (rims (labelled xs (λ b. eqb b a)))) (sym (old a d k)) (h.fit a d k)
          | inr k ↦ subst (λ m. fits m (get_or ts' a d)) (sym (ap rims (none_labelled n a xs low k))) (small a d k l)
        ];
  }

  -- a loop more has one of the labels
  pub tallies_more : (n a : ℕ) (l : Loop) (ts : List T) (t : T) → AreTallies value fits of xs n ts → a < n → ((d : T) (i : ℕ) → value t i ≡ value (get_or ts a d) i +ℤ of i l)
      → ((d : T) (m : ℕ) → fits m (get_or ts a d) → fits (m + length l.1) t) → AreTallies value fits of (xs ++ (a, l) ∷ []) n (set ts a t)
  tallies_more n a l ts t h inside added small = record {
    size = length-set ts a t ∙ h.size;
    values = λ b d i low.
        elim (cases_eq b a) [
          | inl q ↦ (
              let new : get_or (set ts a t) b d ≡ t = subst (λ z. get_or (set ts a t) z d ≡ t) (sym q) (get_or-set_same ts a t d (omega (arith, inside, h.size))) in
              let old : value (get_or ts a d) i ≡ total (of i) (labelled xs (λ c. eqb c a)) = h.values a d i inside in
              ap (λ k. value k i) new ∙ (added d i ∙ (ap (λ k. k +ℤ of i l) old
              ∙ (one (labelled xs (λ c. eqb c a)) i ∙ sym (ap (total (of i)) (ap (λ z. labelled (xs ++ (a, l) ∷ []) (λ c. eqb c z)) q ∙ here))))))
          | inr d' ↦ (
              let same : get_or (set ts a t) b d ≡ get_or ts b d = get_or-set_other ts a b t d d' in
              ap (λ k. value k i) same ∙ (h.values b d i low ∙ sym (ap (total (of i)) (there b d'))))
        ];
    fit = λ b d low.
        elim (cases_eq b a) [
          | inl q ↦ (
              let new : get_or (set ts a t) b d ≡ t = subst (λ z. get_or (set ts a t) z d ≡ t) (sym q) (get_or-set_same ts a t d (omega (arith, inside, h.size))) in
              let count : rims (labelled (xs ++ (a, l) ∷ []) (λ c. eqb c b)) ≡ rims (labelled xs (λ c. eqb c a)) + length l.1
              = ap rims (ap (λ z. labelled (xs ++ (a, l) ∷ []) (λ c. eqb c z)) q ∙ here) ∙ sum_by_push (λ (k : Loop). length k.1) (labelled xs (λ c. eqb c a)) l in
              subst (λ m. fits m (get_or (set ts a t) b d)) (sym count) (subst (fits (rims (labelled xs (λ c. eqb c a)) + length l.1)) (sym new) (small d (rims (labelled xs (λ c. eqb c a))) (h.fit a d inside))))
          | inr d' ↦ (
              let same : get_or (set ts a t) b d ≡ get_or ts b d = get_or-set_other ts a b t d d' in
              subst (λ ks. fits (rims ks) (get_or (set ts a t) b d)) (sym (there b d')) (subst (fits (rims (labelled xs (λ c. eqb c b)))) (sym same) (h.fit b d low)))
        ];
  }
    where
      here : labelled (xs ++ (a, l) ∷ []) (λ c. eqb c a) ≡ labelled xs (λ c. eqb c a) ++ l ∷ []
      here = labelled_last xs a l (λ c. eqb c a) ∙ ap (λ b. labelled xs (λ c. eqb c a) ++ cond b (l ∷ []) []) (eq-eqb a a refl)

      there : (b : ℕ) → b ≢ a → labelled (xs ++ (a, l) ∷ []) (λ c. eqb c b) ≡ labelled xs (λ c. eqb c b)
      there b d = labelled_last xs a l (λ c. eqb c b) ∙ (ap (λ t. labelled xs (λ c. eqb c b) ++ cond t (l ∷ []) []) (ne_eqb a b (λ e. d (sym e))) ∙ none_behind (labelled xs (λ c. eqb c b)))

      one : (ls : List Loop) (i : ℕ) → total (of i) ls +ℤ of i l ≡ total (of i) (ls ++ l ∷ [])
      one ls i = sym (total-append (of i) ls (l ∷ []) ∙ ap (λ z. total (of i) ls +ℤ z) (let e : of i l +ℤ pos 0 ≡ of i l = omega (arith, ints) in e))

-- nothing was added up of new labels
pub tallies_known : {T : Type 0} (value : T → ℕ → ℤ) (fits : ℕ → T → Type 0) (of_loop : Leveled → ℕ → Loop → ℤ) (v : Leveled) (row : ℕ) (loops : List Loop) (old new : Known) (ts ts' : List T) (edges edges' : Passed)
    (h : IsWalked value fits of_loop v row loops old ts edges) → IsLonger value fits (length ts) new.count ts ts' edges.crossings.items edges'.crossings.items → AreTallies value fits (of_loop v) h.xs new.count ts'
tallies_known value fits of_loop v row loops old new ts ts' edges edges' h longer =
    tallies_grow value fits (of_loop v) h.xs old.count new.count ts ts' h.tallies_are h.labelled_are.low longer.size (λ b d low. longer.same b d (omega (arith, low, h.tallies_are.size)))
    (λ b d i le low. longer.values b d i (omega (arith, le, h.tallies_are.size)) low) (λ b d le low. longer.fit b d (omega (arith, le, h.tallies_are.size)) low)

-- the steps round the loops of a label are no more than all
pub labelled_few : (xs : List (ℕ × Loop)) (p : ℕ → Bool) → rims (labelled xs p) ≤ rims (unlabelled xs)
labelled_few [] p = omega arith
labelled_few (x ∷ xs) p = go (p x.0) (labelled_few xs p)
  where
    steps : Loop → ℕ
    steps l = length l.1

    go : (b : Bool) → rims (labelled xs p) ≤ rims (unlabelled xs)
        → rims (map (λ (x : ℕ × Loop). x.1) (cond b (x ∷ filter (λ (x : ℕ × Loop). p x.0) xs) (filter (λ (x : ℕ × Loop). p x.0) xs))) ≤ rims (unlabelled (x ∷ xs))
    go true h = omega (arith, h, sum_by-cons steps x.1 (labelled xs p), sum_by-cons steps x.1 (unlabelled xs))
    go false h = omega (arith, h, sum_by-cons steps x.1 (unlabelled xs))

-- so what was added up is small
pub room_for : {T : Type 0} (value : T → ℕ → ℤ) (fits : ℕ → T → Type 0) (of_loop : Leveled → ℕ → Loop → ℤ) (v : Leveled) (row : ℕ) (old new : Known) (ts ts' : List T) (edges edges' : Passed) (a : ℕ) (d : T)
    → CanAdd value fits of_loop v row old ts edges → IsLonger value fits (length ts) new.count ts ts' edges.crossings.items edges'.crossings.items → a < new.count
    → (size : ℕ) → size ≤ 12 → (n : ℕ) × (n + size < 2147483648) × fits n (get_or ts' a d)
room_for value fits of_loop v row old new ts ts' edges edges' a d c longer low size most =
    let h = c.walked in
    let n : ℕ = rims (labelled h.xs (λ b. eqb b a)) in
    (n, omega (arith, labelled_few h.xs (λ b. eqb b a), ap rims h.loops_are, c.few, most), (tallies_known value fits of_loop v row c.loops old new ts ts' edges edges' h longer).fit a d low)

-- a place among the labels of two slices
pub place_low : (g : Grid) (n : ℕ) → IsGrid g → (n % room g < room g) × (room g < 4294967296)
place_low g n is =
    let a : g.nx * 2 ≤ g.nx * g.ny = mul-le-mul_left g.nx is.y.least in
    let b : g.ny * g.nx ≤ g.ny * 1026 = mul-le-mul_left g.ny is.x.most in
    (mod-lt n {m = room g} (omega (arith, a, is.x.least)), omega (arith, b, is.y.most))

-- where the edges of a cell lie
small_times : (b m : ℕ) → b ≤ 1 → b * m ≤ m
small_times zero m h = omega arith
small_times (suc zero) m h = omega arith
small_times (suc (suc b)) m h = absurd (omega arith)

module _ (g : Grid) (cell : Cell) (at : IsCellAt g cell) where
  abbrev row : ℕ
  row = cell.low.y + g.ny * cell.low.z

  index_is : cell.index ≡ g.nx * row + cell.low.x
  index_is = at.index ∙ (let e : cell.low.x + g.nx * (cell.low.y + g.ny * cell.low.z) ≡ g.nx * (cell.low.y + g.ny * cell.low.z) + cell.low.x = omega arith in e)

  pub edge_within : (e : ℕ) → e < 12 → (row_name g row ≤ cell_edge g cell.index e) × (cell_edge g cell.index e < row_name g row + room g)
  edge_within e he =
      let c : ℕ = edge_corner e in
      let hc : c < 8 = corner_below e he in
      let b1 : c / 2 % 2 * g.nx ≤ g.nx = small_times (c / 2 % 2) g.nx (omega arith) in
      let b2 : c / 4 * (g.nx * g.ny) ≤ g.nx * g.ny = small_times (c / 4) (g.nx * g.ny) (omega arith) in
      let w : g.nx * 2 ≤ g.nx * g.ny = mul-le-mul_left g.nx (let y : 2 ≤ g.ny = omega (arith, at.y) in y) in
      let i : cell.index ≡ g.nx * row + cell.low.x = index_is in
      (omega (arith, i), omega (arith, i, b1, b2, w, at.x))

-- a loop of a cell
module _ (v : Leveled) (cell : Cell) (at : IsCellAt v.grid cell) (es : List ℕ) (shape : IsLoop es) (l : Loop) (is : IsLoopIn v cell.index es l) where
  abbrev line : ℕ
  line = cell.low.y + v.grid.ny * cell.low.z

  pub loop_count : length es ≡ length l.1
  loop_count = sym (ap (λ (k : Loop). length k.1) is.is ∙ length-map es (cell_edge v.grid cell.index))

  pub vertex_within : (w : ℕ) → In w l.1 → (row_name v.grid line ≤ w) × (w < row_name v.grid line + room v.grid)
  vertex_within w i =
      let e : (e : ℕ) × In e es × (w ≡ cell_edge v.grid cell.index e) = In-map (cell_edge v.grid cell.index) w es (subst (λ (k : Loop). In w k.1) is.is i) in
      let b : (row_name v.grid line ≤ cell_edge v.grid cell.index e.0) × (cell_edge v.grid cell.index e.0 < row_name v.grid line + room v.grid)
      = edge_within v.grid cell at e.0 (in_all (λ e. e < 12) es shape.low e.0 e.1) in
      (omega (arith, e.2, b.0), omega (arith, e.2, b.1))

  pub slots_are : (places : List ℕ) → ArePlaces v.grid line places → (i : ℕ) → i < length es → slot_of places (3 * cell.low.x) es i ≡ get_or l.1 i 0 % room v.grid
  slots_are places h i low =
      h.each (get_or es i 0) cell.low.x (shape.low i 0 low) at.x
      ∙ (ap (λ q. cell_edge v.grid q (get_or es i 0) % room v.grid) (sym (index_is v.grid cell at))
      ∙ ap (λ n. n % room v.grid) (sym (ap (λ (k : Loop). get_or k.1 i 0) is.is ∙ get_or-map (cell_edge v.grid cell.index) es i 0 0 low)))

  -- the labels of edges before the row stay
  pub label_stays : (label : ℕ → ℕ) (a e : ℕ) → e < row_name v.grid line → label e ≡ relabelled label a l e
  label_stays label a e low =
      elim (cases_Bool (is_in e l.1)) [
        | inl t ↦ (let b : (row_name v.grid line ≤ e) × (e < row_name v.grid line + room v.grid) = vertex_within e (in_is_in e l.1 t) in absurd (omega (arith, b.0, low)))
        | inr f ↦ sym (ap (λ b. cond b a (label e)) f)
      ]

  -- so one loop more is walked
  pub walked_more : {T : Type 0} (value : T → ℕ → ℤ) (fits : ℕ → T → Type 0) (of_loop : Leveled → ℕ → Loop → ℤ) (loops : List Loop) (old new : Known) (ts ts' : List T) (t : T) (edges edges' : Passed) (places : List ℕ) (a : ℕ)
      → IsWalked value fits of_loop v line loops old ts edges → ArePlaces v.grid line places → IsAdded old new (slot_of places (3 * cell.low.x) es) (length es) a
      → new.count < none → ArePaired new.count new.pairs
      → IsLonger value fits (length ts) new.count ts ts' edges.crossings.items edges'.crossings.items → edges'.order.items ≡ edges.order.items → edges'.count ≡ edges.count
      → ((d : T) (i : ℕ) → value t i ≡ value (get_or ts' a d) i +ℤ of_loop v i l) → ((d : T) (m : ℕ) → fits m (get_or ts' a d) → fits (m + length es) t)
      → IsWalked value fits of_loop v line (loops ++ l ∷ []) new (set ts' a t) edges'
  walked_more value fits of_loop loops old new ts ts' t edges edges' places a h put added few paired longer order count more small = record {
    xs = h.xs ++ (a, l) ∷ [];
    label = relabelled h.label a l;
    loops_are = unlabelled_last h.xs a l ∙ ap (λ ks. ks ++ l ∷ []) h.loops_are;
    labelled_are = loop_labelled v.grid line h.xs h.label old new (slot_of places (3 * cell.low.x) es) (length es) a l h.labelled_are added loop_count (slots_are places put) vertex_within
        (subst (λ n. 3 ≤ n) loop_count shape.least) few paired;
    size = longer.edge_size;
    tallies_are = tallies_more value fits (of_loop v) h.xs new.count a l ts' t
        (tallies_known value fits of_loop v line loops old new ts ts' edges edges' h longer)
        added.low more (λ d m f. subst (λ n. fits (m + n) t) loop_count (small d m f));
    edges_are = subst (λ o. AreEdges (relabelled h.label a l) (rank v.grid (heights v)) (edges_before v (row_name v.grid line)) edges'.crossings.items o) (sym order)
        (edges_grow v (row_name v.grid line) h.label (relabelled h.label a l) (rank v.grid (heights v)) edges.crossings.items edges'.crossings.items edges.order.items h.edges_are (label_stays h.label a)
        (omega (arith, longer.edge_size, h.size, added.count)) (λ b low. longer.same_edges b (omega (arith, low, h.size, h.tallies_are.size)))
        (λ b le low. longer.zeros b (omega (arith, le, h.size, h.tallies_are.size)) (omega (arith, low, longer.edge_size))));
    passed = count ∙ h.passed;
  }
