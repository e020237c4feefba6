-- What the labels have is added to the components.
use Rattle.std.proofs.Common.{◌≡◌, ◌≢◌, ℕ, zero, suc, ◌+◌, ◌<◌, ◌≤◌, ℤ, pos, ◌+ℤ◌, Bool, true, false, cond, List, [], ◌∷◌, ◌++◌, length, get_or, set, refl, sym, ◌∙◌, ap, subst, inl, inr, arith, eqb}
use Rattle.std.specs.List.{sum_by}
use Rattle.std.proofs.lemmas.Bool.{cases_eq, eq-eqb, ne_eqb}
use Rattle.std.proofs.lemmas.Int.{ints}
use Rattle.std.proofs.lemmas.List.{get_or-set_other, get_or-set_same, length-set}
use Rattle.std.proofs.lemmas.List.Sums.{sum_by-le-sum_by, sum_by_push}
use Rattle.iso_defs.specs.Lists.{below}
use Rattle.measure_laws.specs.Vectors.{total}
use Rattle.measure_laws.proofs.Totals.{total-append}
use Rattle.mesh_report.proofs.NumberLaws.{range_more}
use Rattle.component_walk.specs.Begun.{AreAdded, AreFew, IsEmpty}
use Rattle.component_walk.specs.declared.components.Component.{Component}

-- one number more
last : (n : ℕ) → below (n + 1) ≡ below n ++ n ∷ []
last n =
    ap below (let e : n + 1 ≡ suc n = omega arith in e) ∙ (range_more 0 n ∙ ap (λ k. below n ++ k ∷ []) (let e : 0 + n ≡ n = omega arith in e))

sum_last : (f : ℕ → ℕ) (n : ℕ) → sum_by f (below (n + 1)) ≡ sum_by f (below n) + f n
sum_last f n = ap (sum_by f) (last n) ∙ sum_by_push f (below n) n

total_last : (f : ℕ → ℤ) (n : ℕ) → total f (below (n + 1)) ≡ total f (below n) +ℤ f n
total_last f n =
    ap (total f) (last n) ∙ (total-append f (below n) (n ∷ []) ∙ ap (λ z. total f (below n) +ℤ z) (let e : f n +ℤ pos 0 ≡ f n = omega (arith, ints) in e))

-- a part of a sum is no more than all of it
sum_grows : (f : ℕ → ℕ) (n m : ℕ) → n < m → sum_by f (below n) + f n ≤ sum_by f (below m)
sum_grows f n zero l = absurd (omega (arith, l))
sum_grows f n (suc m) l =
    let e : sum_by f (below (suc m)) ≡ sum_by f (below m) + f m = ap (λ k. sum_by f (below k)) (let z : suc m ≡ m + 1 = omega arith in z) ∙ sum_last f m in
    elim (cases_eq n m) [
      | inl q ↦ (let z : sum_by f (below n) + f n ≡ sum_by f (below m) + f m = ap (λ k. sum_by f (below k) + f k) q in omega (arith, e, z))
      | inr d ↦ (let z : sum_by f (below n) + f n ≤ sum_by f (below m) = sum_grows f n m (omega (arith, l, d)) in omega (arith, e, z))
    ]

pub part_low : (p : ℕ → Bool) (f : ℕ → ℕ) (n m : ℕ) → n < m → sum_by (λ a. cond (p a) (f a) 0) (below n) + f n ≤ sum_by f (below m)
part_low p f n m l =
    let a : sum_by (λ a. cond (p a) (f a) 0) (below n) ≤ sum_by f (below n) = sum_by-le-sum_by (λ a. cond (p a) (f a) 0) f (below n) (λ a. some (p a) (f a)) in
    omega (arith, a, sum_grows f n m l)
  where
    some : (b : Bool) (k : ℕ) → cond b k 0 ≤ k
    some true k = omega arith
    some false k = omega arith

module _ {T : Type 0} (value : T → ℕ → ℤ) (fits : ℕ → T → Type 0) (place : ℕ → ℕ) (xs : List ℕ) (ts : List T) (cs : List (Component T)) where
  -- nothing was added
  pub added_none : ((i : ℕ) (d : Component T) → i < length cs → IsEmpty value fits (get_or cs i d)) → AreAdded value fits place 0 xs ts cs cs
  added_none h = record {
    count = refl;
    least = λ i d l. refl;
    crossings_are = λ i d l. (h i d l).crossings;
    values = λ i d t j l. (h i d l).values j;
    fit = λ of small i d l. (h i d l).fit;
  }

  module _ (n : ℕ) (cs' : List (Component T)) (h : AreAdded value fits place n xs ts cs cs') where
    -- a label more at a place, or at another
    sum_here : (f : ℕ → ℕ) (i : ℕ) → i ≡ place n → sum_by (λ a. cond (eqb (place a) i) (f a) 0) (below n) + f n ≡ sum_by (λ a. cond (eqb (place a) i) (f a) 0) (below (n + 1))
    sum_here f i e =
        sym (sum_last (λ a. cond (eqb (place a) i) (f a) 0) n ∙ ap (λ b. sum_by (λ a. cond (eqb (place a) i) (f a) 0) (below n) + cond b (f n) 0) (eq-eqb (place n) i (sym e)))

    sum_there : (f : ℕ → ℕ) (i : ℕ) → i ≢ place n → sum_by (λ a. cond (eqb (place a) i) (f a) 0) (below n) ≡ sum_by (λ a. cond (eqb (place a) i) (f a) 0) (below (n + 1))
    sum_there f i d =
        let e : cond (eqb (place n) i) (f n) 0 ≡ 0 = ap (λ b. cond b (f n) 0) (ne_eqb (place n) i (λ q. d (sym q))) in
        let s : sum_by (λ a. cond (eqb (place a) i) (f a) 0) (below (n + 1)) ≡ sum_by (λ a. cond (eqb (place a) i) (f a) 0) (below n) + cond (eqb (place n) i) (f n) 0
        = sum_last (λ a. cond (eqb (place a) i) (f a) 0) n in
        omega (arith, e, s)

    total_here : (f : ℕ → ℤ) (i : ℕ) → i ≡ place n
        → total (λ a. cond (eqb (place a) i) (f a) (pos 0)) (below n) +ℤ f n ≡ total (λ a. cond (eqb (place a) i) (f a) (pos 0)) (below (n + 1))
    total_here f i e =
        sym (total_last (λ a. cond (eqb (place a) i) (f a) (pos 0)) n ∙ ap (λ b. total (λ a. cond (eqb (place a) i) (f a) (pos 0)) (below n) +ℤ cond b (f n) (pos 0)) (eq-eqb (place n) i (sym e)))

    total_there : (f : ℕ → ℤ) (i : ℕ) → i ≢ place n
        → total (λ a. cond (eqb (place a) i) (f a) (pos 0)) (below n) ≡ total (λ a. cond (eqb (place a) i) (f a) (pos 0)) (below (n + 1))
    total_there f i d =
        let s : ℤ = total (λ a. cond (eqb (place a) i) (f a) (pos 0)) (below n) in
        sym (total_last (λ a. cond (eqb (place a) i) (f a) (pos 0)) n ∙ (ap (λ b. s +ℤ cond b (f n) (pos 0)) (ne_eqb (place n) i (λ q. d (sym q))) ∙ (let e : s +ℤ pos 0 ≡ s = omega (arith, ints) in e)))

    -- a label that is at no place
    pub added_past : length cs' ≤ place n → AreAdded value fits place (n + 1) xs ts cs cs'
    added_past high = record {
      count = h.count;
      least = h.least;
      crossings_are = λ i d l. h.crossings_are i d l ∙ sum_there (λ a. get_or xs a 0) i (other i l);
      values = λ i d t j l. h.values i d t j l ∙ total_there (λ a. value (get_or ts a t) j) i (other i l);
      fit = λ of small i d l. subst (λ k. fits k (get_or cs' i d).tally) (sum_there of i (other i l)) (h.fit of (λ a t low. small a t (omega (arith, low))) i d l);
    }
      where
        other : (i : ℕ) → i < length cs → i ≢ place n
        other i l e = absurd (omega (arith, l, e, high, h.count))

    -- a label at a place
    pub added_more : (c old : Component T) → place n < length cs' → ((d : Component T) → get_or cs' (place n) d ≡ old) → c.least ≡ old.least → c.crossings ≡ old.crossings + get_or xs n 0
        → ((t : T) (j : ℕ) → value c.tally j ≡ value old.tally j +ℤ value (get_or ts n t) j) → ((t : T) (k m : ℕ) → fits k old.tally → fits m (get_or ts n t) → fits (k + m) c.tally)
        → AreAdded value fits place (n + 1) xs ts cs (set cs' (place n) c)
    added_more c old inside is least crossings values small = record {
      count = length-set cs' (place n) c ∙ h.count;
      least = λ i d l.
          elim (cases_eq i (place n)) [
            | inl e ↦ ap (λ (k : Component T). k.least) (new i d e) ∙ (least ∙ (ap (λ (k : Component T). k.least) (sym (before i d e)) ∙ h.least i d l))
            | inr o ↦ ap (λ (k : Component T). k.least) (same i d o) ∙ h.least i d l
          ];
      crossings_are = λ i d l.
          elim (cases_eq i (place n)) [
            | inl e ↦ ap (λ (k : Component T). k.crossings) (new i d e) ∙ (crossings ∙ (ap (λ (k : Component T). k.crossings + get_or xs n 0) (sym (before i d e))
                ∙ (ap (λ k. k + get_or xs n 0) (h.crossings_are i d l) ∙ sum_here (λ a. get_or xs a 0) i e)))
            | inr o ↦ ap (λ (k : Component T). k.crossings) (same i d o) ∙ (h.crossings_are i d l ∙ sum_there (λ a. get_or xs a 0) i o)
          ];
      values = λ i d t j l.
          elim (cases_eq i (place n)) [
            | inl e ↦ ap (λ (k : Component T). value k.tally j) (new i d e) ∙ (values t j ∙ (ap (λ (k : Component T). value k.tally j +ℤ value (get_or ts n t) j) (sym (before i d e))
                ∙ (ap (λ k. k +ℤ value (get_or ts n t) j) (h.values i d t j l) ∙ total_here (λ a. value (get_or ts a t) j) i e)))
            | inr o ↦ ap (λ (k : Component T). value k.tally j) (same i d o) ∙ (h.values i d t j l ∙ total_there (λ a. value (get_or ts a t) j) i o)
          ];
      fit = λ of low i d l.
          (let was : fits (sum_by (λ a. cond (eqb (place a) i) (of a) 0) (below n)) (get_or cs' i d).tally = h.fit of (λ a t k. low a t (omega (arith, k))) i d l in
          elim (cases_eq i (place n)) [
            | inl e ↦ (
                let here : fits (sum_by (λ a. cond (eqb (place a) i) (of a) 0) (below n)) old.tally
                = subst (λ (k : Component T). fits (sum_by (λ a. cond (eqb (place a) i) (of a) 0) (below n)) k.tally) (before i d e) was in
                subst (λ (k : Component T). fits (sum_by (λ a. cond (eqb (place a) i) (of a) 0) (below (n + 1))) k.tally) (sym (new i d e))
                (subst (λ k. fits k c.tally) (sum_here of i e) (small old.tally (sum_by (λ a. cond (eqb (place a) i) (of a) 0) (below n)) (of n) here (low n old.tally (omega arith)))))
            | inr o ↦ subst (λ (k : Component T). fits (sum_by (λ a. cond (eqb (place a) i) (of a) 0) (below (n + 1))) k.tally) (sym (same i d o))
                (subst (λ k. fits k (get_or cs' i d).tally) (sum_there of i o) was)
          ]);
    }
      where
        new : (i : ℕ) (d : Component T) → i ≡ place n → get_or (set cs' (place n) c) i d ≡ c
        new i d e = ap (λ k. get_or (set cs' (place n) c) k d) e ∙ get_or-set_same cs' (place n) c d inside

        same : (i : ℕ) (d : Component T) → i ≢ place n → get_or (set cs' (place n) c) i d ≡ get_or cs' i d
        same i d o = get_or-set_other cs' (place n) i c d o

        before : (i : ℕ) (d : Component T) → i ≡ place n → get_or cs' i d ≡ old
        before i d e = ap (λ k. get_or cs' k d) e ∙ is d

    -- there is room for what a label more has
    pub crossings_fit : (m : ℕ) (d : Component T) → n < m → place n < length cs' → sum_by (λ a. get_or xs a 0) (below m) < 4294967296 → (get_or cs' (place n) d).crossings + get_or xs n 0 < 4294967296
    crossings_fit m d low inside few =
        let e : (get_or cs' (place n) d).crossings ≡ sum_by (λ a. cond (eqb (place a) (place n)) (get_or xs a 0) 0) (below n) = h.crossings_are (place n) d (omega (arith, inside, h.count)) in
        omega (arith, e, part_low (λ a. eqb (place a) (place n)) (λ a. get_or xs a 0) n m low, few)

    pub tallies_fit : (m : ℕ) (d : Component T) (t : T) → n < m → place n < length cs' → AreFew fits m ts
        → (k k' : ℕ) × (k + k' < 2147483648) × fits k (get_or cs' (place n) d).tally × fits k' (get_or ts n t)
    tallies_fit m d t low inside few = (
      sum_by (λ a. cond (eqb (place a) (place n)) (few.of a) 0) (below n),
      few.of n,
      omega (arith, part_low (λ a. eqb (place a) (place n)) few.of n m low, few.few),
      h.fit few.of (λ a t k. few.fit a t (omega (arith, k, low))) (place n) d (omega (arith, inside, h.count)),
      few.fit n t low,
    )

-- the same, by other lists
pub added_same : {T : Type 0} (value : T → ℕ → ℤ) (fits : ℕ → T → Type 0) (ps ps' js js' xs xs' : List ℕ) (n n' : ℕ) (ts ts' : List T) (cs cs' new : List (Component T)) → ps ≡ ps' → js ≡ js' → n ≡ n' → xs ≡ xs' → ts ≡ ts' → cs ≡ cs'
    → AreAdded value fits (λ a. get_or ps (get_or js a 0) 0) n xs ts cs new → AreAdded value fits (λ a. get_or ps' (get_or js' a 0) 0) n' xs' ts' cs' new
added_same value fits ps ps' js js' xs xs' n n' ts ts' cs cs' new ep ej en ex et ec h =
    subst (λ ps. AreAdded value fits (λ a. get_or ps (get_or js' a 0) 0) n' xs' ts' cs' new) ep
    (subst (λ js. AreAdded value fits (λ a. get_or ps (get_or js a 0) 0) n' xs' ts' cs' new) ej
    (subst (λ n. AreAdded value fits (λ a. get_or ps (get_or js a 0) 0) n xs' ts' cs' new) en
    (subst (λ xs. AreAdded value fits (λ a. get_or ps (get_or js a 0) 0) n xs ts' cs' new) ex
    (subst (λ ts. AreAdded value fits (λ a. get_or ps (get_or js a 0) 0) n xs ts cs' new) et
    (subst (λ cs. AreAdded value fits (λ a. get_or ps (get_or js a 0) 0) n xs ts cs new) ec h)))))
