-- A loop that got a label, by the names of its vertices.
use Rattle.std.proofs.Common.{◌≡◌, ◌≢◌, ℕ, zero, suc, ◌+◌, ◌-◌, ◌*◌, ◌/◌, ◌%◌, ◌<◌, ◌≤◌, Bool, true, false, ◌||◌, cond, List, [], ◌∷◌, ◌++◌, length, slice_index, get_or, refl, sym, ap, ◌∙◌, subst, inl, inr, arith}
use Rattle.std.specs.List.{AllByRecursion}
use Rattle.std.proofs.lemmas.Bool.{both_ways, cases_Bool, cases_lt, false_from_ne_true}
use Rattle.std.proofs.Math.Nat.{mod-add-div, mul-add, mul-add-mod_self_left, mul-le-mul_left}
use Rattle.iso_defs.specs.Grid.{Grid}
use Rattle.iso_defs.specs.Lists.{is_in}
use Rattle.triangle_laws.proofs.Lists.{In}
use Rattle.triangle_laws.proofs.Fans.{in_is_in}
use Rattle.part_laws.specs.Loops.{Loop}
use Rattle.part_laws.specs.Meets.{HasLabel, IsLabelling, IsNew, IsNext, is_met, least_joined, relabelled}
use Rattle.part_laws.proofs.ClassLaws.{is_in_from}
use Rattle.part_laws.proofs.LabelLaws.{more_labelled}
use Rattle.component_labels.specs.Chains.{ArePaired}
use Rattle.component_labels.specs.Fronts.{none, room, row_name}
use Rattle.component_labels.specs.Labelling.{IsAdded, Known, Stands}
use Rattle.component_labels.specs.Walked.{IsLabelled}

at_index : (vs : List ℕ) (i : ℕ) → i < length vs → In (slice_index vs i) vs
at_index [] i l = absurd (omega arith)
at_index (v ∷ vs) zero l = inl refl
at_index (v ∷ vs) (suc i) l = inr (at_index vs i (omega arith))

index_of : (v : ℕ) (vs : List ℕ) → In v vs → (i : ℕ) × (i < length vs) × (slice_index vs i ≡ v)
index_of v [] j = absurd j
index_of v (u ∷ vs) (inl e) = (0, omega arith, sym e)
index_of v (u ∷ vs) (inr j) = let r = index_of v vs j in (suc r.0, omega (arith, r.1), r.2)

-- numbers that lie within m of each other and have one remainder by m are one
one_in_window : (m from a b : ℕ) → from ≤ a → a < from + m → from ≤ b → b < from + m → a % m ≡ b % m → a ≡ b
one_in_window m from a b la ha lb hb e =
    let x : a % m + m * (a / m) ≡ a = mod-add-div a m in
    let y : b % m + m * (b / m) ≡ b = mod-add-div b m in
    elim (cases_lt (a / m) (b / m)) [
      | inl l ↦ (
          let z : m * (a / m + 1) ≤ m * (b / m) = mul-le-mul_left m (omega arith) in
          let w : m * (a / m + 1) ≡ m * (a / m) + m * 1 = mul-add m (a / m) 1 in
          absurd (omega arith))
      | inr l ↦ elim (cases_lt (b / m) (a / m)) [
        | inl k ↦ (
            let z : m * (b / m + 1) ≤ m * (a / m) = mul-le-mul_left m (omega arith) in
            let w : m * (b / m + 1) ≡ m * (b / m) + m * 1 = mul-add m (b / m) 1 in
            absurd (omega arith))
        | inr k ↦ (let q : a / m ≡ b / m = omega arith in let r : m * (a / m) ≡ m * (b / m) = ap (λ z. m * z) q in omega arith)
      ]
    ]

all_pairs : (P : ℕ × ℕ → Type 0) (ps : List (ℕ × ℕ)) → ((i : ℕ) → i < length ps → P (get_or ps i (0, 0))) → AllByRecursion P ps
all_pairs P [] h = tt
all_pairs P (p ∷ ps) h = (h 0 (omega arith), all_pairs P ps (λ i l. h (suc i) (omega arith)))

each_of : (P Q : ℕ → Type 0) (f : (c : ℕ) → P c → Q c) (ms : List (ℕ × ℕ)) → AllByRecursion (λ (p : ℕ × ℕ). P p.0 × P p.1) ms → AllByRecursion (λ (p : ℕ × ℕ). Q p.0 × Q p.1) ms
each_of P Q f [] h = tt
each_of P Q f (m ∷ ms) h = ((f m.0 h.0.0, f m.1 h.0.1), each_of P Q f ms h.1)

labelled_more : (n m a : ℕ) (xs : List (ℕ × Loop)) (l : Loop) → n ≤ m → a < m → AllByRecursion (λ (x : ℕ × Loop). x.0 < n) xs → AllByRecursion (λ (x : ℕ × Loop). x.0 < m) (xs ++ (a, l) ∷ [])
labelled_more n m a [] l le low h = (low, tt)
labelled_more n m a (x ∷ xs) l le low h = (omega (arith, h.0), labelled_more n m a xs l le low h.1)

met_append : (xs : List (ℕ × Loop)) (a : ℕ) (l : Loop) (v : ℕ) → is_in v l.1 ≡ false → is_met (xs ++ (a, l) ∷ []) v ≡ is_met xs v
met_append [] a l v e = ap (λ b. b || false) e
met_append (x ∷ xs) a l v e = ap (λ b. is_in v x.1.1 || b) (met_append xs a l v e)

met_last : (xs : List (ℕ × Loop)) (a : ℕ) (l : Loop) (v : ℕ) → is_in v l.1 ≡ true → is_met (xs ++ (a, l) ∷ []) v ≡ true
met_last [] a l v e = ap (λ b. b || false) e
met_last (x ∷ xs) a l v e = ap (λ b. is_in v x.1.1 || b) (met_last xs a l v e) ∙ any (is_in v x.1.1)
  where
    any : (b : Bool) → (b || true) ≡ true
    any true = refl
    any false = refl

module _ (g : Grid) (row : ℕ) (xs : List (ℕ × Loop)) (label : ℕ → ℕ) (old new : Known) (slot : ℕ → ℕ) (n a : ℕ) (l : Loop) (h : IsLabelled g row xs label old) (added : IsAdded old new slot n a)
    (count : n ≡ length l.1) (at : (i : ℕ) → i < n → slot i ≡ slice_index l.1 i % room g)
    (inside : (v : ℕ) → In v l.1 → (row_name g row ≤ v) × (v < row_name g row + room g)) (long : 3 ≤ length l.1) (few : new.count < none) (paired : ArePaired new.count new.pairs) where
  stands : (i : ℕ) → i < n → slice_index old.marks.labels (slot i) ≡ label (slice_index l.1 i)
  stands i k =
      let r = inside (slice_index l.1 i) (at_index l.1 i (omega arith)) in
      ap (slice_index old.marks.labels) (at i k) ∙ h.standing.each (slice_index l.1 i) r.0 r.1

  known : (v : ℕ) → label v ≢ none → is_met xs v ≡ true
  known v d = elim (cases_Bool (is_met xs v)) [ inl e ↦ e | inr e ↦ absurd (d (h.unmet v e)) ]

  has : (c : ℕ) → Stands (λ i. slice_index old.marks.labels (slot i)) n c → HasLabel xs label l c
  has c u =
      let v : ℕ = slice_index l.1 u.at in
      let e : label v ≡ c = sym (stands u.at u.inside) ∙ u.is in
      record { vertex = v; inside = is_in_from v l.1 (at_index l.1 u.at (omega (arith, u.inside))); met = known v (λ z. u.some (sym e ∙ z)); is = e }

  next : IsNext xs old.pairs added.pairs.more label l a
  next = record {
    joined = λ v m k.
        (let r = index_of v l.1 (in_is_in v l.1 m) in
        let i : r.0 < n = omega (arith, r.1) in
        let e : slice_index old.marks.labels (slot r.0) ≡ label v = stands r.0 i ∙ ap label r.2 in
        let d : slice_index old.marks.labels (slot r.0) ≢ none = λ z. absurd (omega (arith, h.met v k, h.few, e, z)) in
        subst (λ ps. least_joined ps (label v) ≡ least_joined ps a) added.pairs.behind (ap (least_joined new.pairs) (sym e) ∙ added.joined r.0 i d));
    own = elim added.own [ inl u ↦ inl (has a u) | inr u ↦ inr (fresh u.0 u.1) ];
    pairs = each_of (Stands (λ i. slice_index old.marks.labels (slot i)) n) (HasLabel xs label l) has added.pairs.more added.pairs.each;
  }
    where
      fresh : ((i : ℕ) → i < n → slice_index old.marks.labels (slot i) ≡ none) → a ≡ old.count → IsNew xs old.pairs label l a
      fresh empty is = record {
        none = λ v m.
            (let r = index_of v l.1 (in_is_in v l.1 m) in
            let i : r.0 < n = omega (arith, r.1) in
            let e : label v ≡ none = ap label (sym r.2) ∙ (sym (stands r.0 i) ∙ empty r.0 i) in
            false_from_ne_true (is_met xs v) (λ k. absurd (omega (arith, h.met v k, h.few, e))));
        unused = λ v k e. absurd (omega (arith, h.met v k, e, is));
        unpaired = all_pairs (λ (p : ℕ × ℕ). (p.0 ≢ a) × (p.1 ≢ a)) old.pairs
            (λ i k. ((λ e. absurd (omega (arith, h.paired.begins i k, e, is))), (λ e. absurd (omega (arith, h.paired.ends i k, e, is)))));
      }

  -- so it is labelled with the others
  pub loop_labelled : IsLabelled g row (xs ++ (a, l) ∷ []) (relabelled label a l) new
  loop_labelled = record {
    grid = added.grid ∙ h.grid;
    standing = record { each = each };
    met = λ v m.
        elim (cases_Bool (is_in v l.1)) [
          | inl e ↦ subst (λ b. cond b a (label v) < new.count) (sym e) added.low
          | inr e ↦ subst (λ b. cond b a (label v) < new.count) (sym e) (omega (arith, h.met v (sym (met_append xs a l v e) ∙ m), added.count))
        ];
    unmet = λ v m.
        elim (cases_Bool (is_in v l.1)) [
          | inl e ↦ absurd (both_ways (is_met (xs ++ (a, l) ∷ []) v) m (met_last xs a l v e))
          | inr e ↦ ap (λ b. cond b a (label v)) e ∙ h.unmet v (sym (met_append xs a l v e) ∙ m)
        ];
    few = few;
    low = labelled_more old.count new.count a xs l added.count added.low h.low;
    paired = paired;
    labelling = subst (λ ps. IsLabelling (xs ++ (a, l) ∷ []) ps (relabelled label a l)) (sym added.pairs.behind) (more_labelled xs old.pairs added.pairs.more label l a h.labelling next long);
  }
    where
      each : (v : ℕ) → row_name g row ≤ v → v < row_name g row + room g → slice_index new.marks.labels (v % room g) ≡ relabelled label a l v
      each v lo hi =
          elim (cases_Bool (is_in v l.1)) [
            | inl e ↦ (
                let r = index_of v l.1 (in_is_in v l.1 e) in
                let i : r.0 < n = omega (arith, r.1) in
                ap (slice_index new.marks.labels) (ap (λ z. z % room g) (sym r.2) ∙ sym (at r.0 i)) ∙ (added.set r.0 i ∙ ap (λ b. cond b a (label v)) (sym e)))
            | inr e ↦ added.others (v % room g) (λ i k q.
                (let w : In (slice_index l.1 i) l.1 = at_index l.1 i (omega arith) in
                let r = inside (slice_index l.1 i) w in
                let same : slice_index l.1 i ≡ v = one_in_window (room g) (row_name g row) (slice_index l.1 i) v r.0 r.1 lo hi (sym (at i k) ∙ q) in
                both_ways (is_in v l.1) e (is_in_from v l.1 (subst (λ z. In z l.1) same w))))
                ∙ (h.standing.each v lo hi ∙ ap (λ b. cond b a (label v)) (sym e))
          ]

-- the labels of a row are given up: those of the next row and the slices behind it stand
module _ (g : Grid) (row : ℕ) (xs : List (ℕ × Loop)) (label : ℕ → ℕ) (old new : Known) (h : IsLabelled g row xs label old) (grid : new.marks.grid ≡ old.marks.grid)
    (count : new.count ≡ old.count) (pairs : new.pairs ≡ old.pairs) (cleared : (k : ℕ) → k < 3 * g.nx → slice_index new.marks.labels ((row_name g row + k) % room g) ≡ none)
    (others : (n : ℕ) → row_name g (row + 1) ≤ n → n < row_name g row + room g → slice_index new.marks.labels (n % room g) ≡ slice_index old.marks.labels (n % room g))
    (beyond : (n : ℕ) → row_name g row + room g ≤ n → is_met xs n ≡ false) where
  next_row : row_name g (row + 1) ≡ row_name g row + 3 * g.nx
  next_row = (let e : g.nx * (row + 1) ≡ g.nx * row + g.nx * 1 = mul-add g.nx row 1 in omega arith)

  pub row_left : IsLabelled g (row + 1) xs label new
  row_left = record {
    grid = grid ∙ h.grid;
    standing = record { each = each };
    met = λ v m. omega (arith, h.met v m, count);
    unmet = h.unmet;
    few = omega (arith, h.few, count);
    low = subst (λ n. AllByRecursion (λ (x : ℕ × Loop). x.0 < n) xs) (sym count) h.low;
    paired = subst (λ n. ArePaired n new.pairs) (sym count) (subst (ArePaired old.count) (sym pairs) h.paired);
    labelling = subst (λ ps. IsLabelling xs ps label) (sym pairs) h.labelling;
  }
    where
      each : (n : ℕ) → row_name g (row + 1) ≤ n → n < row_name g (row + 1) + room g → slice_index new.marks.labels (n % room g) ≡ label n
      each n lo hi =
          elim (cases_lt n (row_name g row + room g)) [
            | inl l ↦ others n lo l ∙ h.standing.each n (omega (arith, next_row)) l
            | inr l ↦ (
                let k : ℕ = n - (row_name g row + room g) in
                let low : k < 3 * g.nx = omega (arith, next_row) in
                let e : n ≡ room g * 1 + (row_name g row + k) = omega arith in
                ap (λ z. slice_index new.marks.labels (z % room g)) e ∙ (ap (slice_index new.marks.labels) (mul-add-mod_self_left (room g) 1 (row_name g row + k)) ∙ (cleared k low ∙ sym (h.unmet n (beyond n l)))))
          ]
