-- A refresh brick by brick: what was offered so far are the bricks below a number that waited at first.
use Rattle.std.proofs.Common.{◌≡◌, ℕ, zero, suc, ◌+◌, ◌-◌, ◌<◌, ◌≤◌, ℤ, Bool, true, false, cond, not, eqb, inl, inr, List, [], ◌∷◌, ◌++◌, length, get_or, take, filter, All, min, Option, Some, None, is_some, option_map, refl, sym, ◌∙◌, ap, subst, arith, length-append, append-nil, append_assoc}
use Rattle.std.specs.List.{range_with_len}
use Rattle.std.proofs.lemmas.Bool.{or_cases, or_right, or_left, eqb-true, cases_eq, and_from, and_left, and_right}
use Rattle.std.proofs.lemmas.List.{take_all, take_at}
use Rattle.std.proofs.lemmas.List.Elements.{filter-append, All-filter, All-from_get_or}
use Rattle.std.proofs.lemmas.List.FromFn.{length-range_with_len, get_or-range_with_len}
use Rattle.iso_defs.specs.Lists.{below, is_in}
use Rattle.iso_defs.specs.Grid.{Grid}
use Rattle.iso_defs.specs.Bricks.{brick_count, is_active}
use Rattle.iso_base.specs.Volume.{field}
use Rattle.mesh_cache.specs.Cache.{Cache}
use Rattle.mesh_cache.specs.Offering.{Offers}
use Rattle.mesh_cache.specs.Economy.{is_fresh, item_for, is_waiting, waiting, Refresh, done, offer}
use Rattle.brick_store.specs.Next.{IsFirst}
use Rattle.mesh_cache.specs.declared.cache.Offer.{Offer}
use Rattle.mesh_cache.proofs.Refreshing.{refresh_join, refresh_leaves}

-- ---- filters of the numbers below one

range_more : (a n : ℕ) → range_with_len a (suc n) ≡ range_with_len a n ++ (a + n) ∷ []
range_more a zero = ap (λ k. k ∷ []) (let e : a ≡ a + 0 = omega arith in e)
range_more a (suc n) =
    let e : a + 1 + n ≡ a + suc n = omega arith in
    ap (λ l. a ∷ l) (range_more (a + 1) n ∙ ap (λ k. range_with_len (a + 1) n ++ k ∷ []) e)

in_range : (x a n : ℕ) → is_in x (range_with_len a n) ≡ true → x < a + n
in_range x a zero h = cc
in_range x a (suc n) h = elim (or_cases (eqb a x) (is_in x (range_with_len (a + 1) n)) h) [
  | inl t ↦ (let e : a ≡ x = eqb-true a x t in omega arith)
  | inr t ↦ (let l : x < a + 1 + n = in_range x (a + 1) n t in omega arith)
]

module _ (p : ℕ → Bool) where
  in_filter : (x : ℕ) (xs : List ℕ) → is_in x (filter p xs) ≡ true → is_in x xs ≡ true
  in_filter x [] h = h
  in_filter x (y ∷ xs) h = either (in_filter x xs) (p y) h
    where
      either : (is_in x (filter p xs) ≡ true → is_in x xs ≡ true) → (t : Bool) → is_in x (cond t (y ∷ filter p xs) (filter p xs)) ≡ true → is_in x (y ∷ xs) ≡ true
      either rest true h = elim (or_cases (eqb y x) (is_in x (filter p xs)) h) [
        | inl t ↦ or_left (eqb y x) (is_in x xs) t
        | inr t ↦ or_right (eqb y x) (is_in x xs) (rest t)
      ]
      either rest false h = or_right (eqb y x) (is_in x xs) (rest h)

  -- a number is not among those that pass below it
  pub not_below : (x n : ℕ) → n ≤ x → is_in x (filter p (below n)) ≡ true → ⊥
  not_below x n l h = let e : x < 0 + n = in_range x 0 n (in_filter x (below n) h) in omega arith

  one_more : (n : ℕ) → filter p (below (suc n)) ≡ filter p (below n) ++ cond (p n) (n ∷ []) []
  one_more n =
      let e : 0 + n ≡ n = omega arith in
      ap (filter p) (range_more 0 n ∙ ap (λ k. below n ++ k ∷ []) e) ∙ filter-append p (below n) (n ∷ [])

  gap_of : (d from m : ℕ) → m ≡ from + d → ((k : ℕ) → from ≤ k → k < m → p k ≡ false) → filter p (below m) ≡ filter p (below from)
  gap_of zero from m e none = ap (λ k. filter p (below k)) (let z : m ≡ from = omega arith in z)
  gap_of (suc d) from m e none =
      let size : m ≡ suc (from + d) = omega arith in
      ap (λ k. filter p (below k)) size
      ∙ (one_more (from + d)
      ∙ (ap (λ t. filter p (below (from + d)) ++ cond t ((from + d) ∷ []) []) (none (from + d) (omega arith) (omega arith))
      ∙ (append-nil (filter p (below (from + d))) ∙ gap_of d from (from + d) refl (λ k l n. none k l (omega arith)))))

  -- where none passes from one number on, there are no more
  pub gap : (from m : ℕ) → from ≤ m → ((k : ℕ) → from ≤ k → k < m → p k ≡ false) → filter p (below m) ≡ filter p (below from)
  gap from m l none = gap_of (m - from) from m (omega arith) none

  front_of : (d from m : ℕ) → m ≡ from + d → (rest : List ℕ) × (filter p (below m) ≡ filter p (below from) ++ rest)
  front_of zero from m e = ([], ap (λ k. filter p (below k)) (let z : m ≡ from = omega arith in z) ∙ sym (append-nil (filter p (below from))))
  front_of (suc d) from m e =
      let size : m ≡ suc (from + d) = omega arith in
      let on = front_of d from (from + d) refl in
      let last : List ℕ = cond (p (from + d)) ((from + d) ∷ []) [] in (
        on.0 ++ last,
        ap (λ k. filter p (below k)) size ∙ (one_more (from + d) ∙ (ap (λ l. l ++ last) on.1 ∙ append_assoc (filter p (below from)) on.0 last)),
      )

  -- the first number that passes comes next
  pub next_passes : (from n : ℕ) → from ≤ n → ((k : ℕ) → from ≤ k → k < n → p k ≡ false) → p n ≡ true → filter p (below (n + 1)) ≡ filter p (below from) ++ n ∷ []
  next_passes from n l none h =
      let e : n + 1 ≡ suc n = omega arith in
      ap (λ k. filter p (below k)) e ∙ (one_more n ∙ (ap (λ t. filter p (below n) ++ cond t (n ∷ []) []) h ∙ ap (λ xs. xs ++ n ∷ []) (gap from n l none)))

-- numbers that pass below one are below it
pub all_below : (p : ℕ → Bool) (n : ℕ) → All (λ k. k < n) (filter p (below n))
all_below p n = All-filter p (λ k. k < n) (below n) (All-from_get_or (λ k. k < n) (below n) 0 (λ i l.
    let size : length (below n) ≡ n = length-range_with_len 0 n in
    let at : get_or (below n) i 0 ≡ 0 + i = get_or-range_with_len 0 n i 0 (omega arith) in
    omega arith))

-- ---- the loop of a refresh

module _ (g : Grid) (samples : List ℤ) (level : ℤ) (before : Cache) where
  abbrev active : ℕ → Bool
  active = is_active g (field samples level)

  -- the bricks below a number that waited at first
  abbrev pub waited : ℕ → List ℕ
  waited from = filter (is_waiting g samples level before.items) (below from)

  idle : (brick : ℕ) → active brick ≡ false → is_waiting g samples level before.items brick ≡ false
  idle brick h = and_left (active brick) (not (is_fresh brick level before.items)) h

  same_fresh : (now : Cache) (from brick : ℕ) → Refresh g samples level before (waited from) now → from ≤ brick
      → is_fresh brick level before.items ≡ is_fresh brick level now.items
  same_fresh now from brick r l =
      sym (ap is_some (refresh_leaves g samples level brick r (not_below (is_waiting g samples level before.items) brick from l)))

  -- the next active brick is fresh
  pub passed_over : (now : Cache) (from brick : ℕ) → Refresh g samples level before (waited from) now → IsFirst active from (brick_count g) brick
      → is_fresh brick level now.items ≡ true → waited (brick + 1) ≡ waited from
  passed_over now from brick r first fresh =
      let was : is_fresh brick level before.items ≡ true = same_fresh now from brick r first.low ∙ fresh in
      let here : is_waiting g samples level before.items brick ≡ false
      = and_right (active brick) (not (is_fresh brick level before.items)) (ap not was) in
      gap (is_waiting g samples level before.items) from (brick + 1) (omega (arith, first.low)) (λ k l n. elim (cases_eq k brick) [
        | inl z ↦ ap (is_waiting g samples level before.items) z ∙ here
        | inr z ↦ idle k (first.before k l (omega arith))
      ])

  -- the next active brick is offered
  pub offered_next : (now next : Cache) (from brick : ℕ) (answer : Offer) → Refresh g samples level before (waited from) now
      → IsFirst active from (brick_count g) brick → is_fresh brick level now.items ≡ false → Offers now (item_for g samples level brick) answer next
      → Refresh g samples level before (waited (brick + 1)) next × (length (waited (brick + 1)) ≡ length (waited from) + 1)
  offered_next now next from brick answer r first stale put =
      let was : is_fresh brick level before.items ≡ false = same_fresh now from brick r first.low ∙ stale in
      let here : is_waiting g samples level before.items brick ≡ true
      = and_from (active brick) (not (is_fresh brick level before.items)) first.passes (ap not was) in
      let more : waited (brick + 1) ≡ waited from ++ brick ∷ []
      = next_passes (is_waiting g samples level before.items) from brick first.low (λ k l n. idle k (first.before k l n)) here in (
        subst (λ l. Refresh g samples level before l next) (sym more) (refresh_join g samples level (brick ∷ []) r (offer brick answer stale put done)),
        ap length more ∙ length-append (waited from) (brick ∷ []),
      )

  -- no more bricks are active
  pub ended : (from n : ℕ) → from ≤ brick_count g → ((k : ℕ) → from ≤ k → k < brick_count g → active k ≡ false) → length (waited from) ≤ n
      → (take n (waiting g samples level before.items) ≡ waited from) × (min n (length (waiting g samples level before.items)) ≡ length (waited from))
  ended from n l none few =
      let all : waiting g samples level before.items ≡ waited from = gap (is_waiting g samples level before.items) from (brick_count g) l (λ k a b. idle k (none k a b)) in
      let size : length (waiting g samples level before.items) ≡ length (waited from) = ap length all in
      (ap (take n) all ∙ take_all n (waited from) few, omega arith)

  -- enough bricks were offered
  pub enough : (from n : ℕ) → from ≤ brick_count g → length (waited from) ≡ n
      → (take n (waiting g samples level before.items) ≡ waited from) × (min n (length (waiting g samples level before.items)) ≡ length (waited from))
  enough from n l count =
      let s = front_of (is_waiting g samples level before.items) (brick_count g - from) from (brick_count g) (omega arith) in
      let size : length (waiting g samples level before.items) ≡ length (waited from) + length s.0 = ap length s.1 ∙ length-append (waited from) s.0 in
      (ap (take n) s.1 ∙ take_at (waited from) s.0 n count, omega arith)

-- ---- what `kept` says

pub stale_by : (o : Option (List ℕ)) (count : Option ℕ) → count ≡ option_map length o → is_some count ≡ false → o ≡ None
stale_by None count e h = refl
stale_by (Some entries) count e h = let z : is_some (Some (length entries)) ≡ false = ap is_some (sym e) ∙ h in cc

pub fresh_by : (o : Option (List ℕ)) (count : Option ℕ) → count ≡ option_map length o → is_some count ≡ true → is_some o ≡ true
fresh_by None count e h = let z : is_some {T = ℕ} None ≡ true = ap is_some (sym e) ∙ h in cc
fresh_by (Some entries) count e h = refl
