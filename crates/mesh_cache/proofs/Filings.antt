-- What is filed stays in order where an item comes, goes, or is put first.
use Rattle.std.proofs.Common.{◌≡◌, ◌≢◌, ℕ, suc, ◌+◌, ◌-◌, ◌<◌, ◌≤◌, true, eqb, inl, inr, List, [], ◌∷◌, ◌++◌, length, get_or, set, Option, Some, None, IsSome, unwrap_or, ℤ, refl, sym, ◌∙◌, ap, subst, arith, length-append}
use Rattle.std.specs.List.{sum_by}
use Rattle.std.specs.Map.{keys_of}
use Rattle.std.proofs.lemmas.Bool.{or_cases, or_left, or_right, eqb-true, eq-eqb, cases_eq, cases_lt}
use Rattle.std.proofs.lemmas.List.{map-append, get_or-set_other, get_or-set_same, get_or_past, set_past, set-set, set-get_or}
use Rattle.std.proofs.lemmas.List.Sums.{sum_by-cons, sum_by-append}
use Rattle.iso_defs.specs.Lists.{is_in, IsDistinct}
use Rattle.lru.specs.LruCache.{LruCache, lru_cache}
use Rattle.page_pool.specs.Chains.{Chains, Has, chain_at, entries_at, with_chain, without_chain, need}
use Rattle.page_pool.proofs.Views.{seen}
use Rattle.mesh_cache.specs.Cache.{Item, Limits, taken}
use Rattle.mesh_cache.specs.Filing.{item_in, items_in, chains_in, AreHeld, IsFiled}
use Rattle.mesh_cache.specs.declared.cache.Filed.{Filed}
use Rattle.mesh_cache.proofs.Lists.{in_less, distinct_less, distinct_out, distinct_first}

keys-append : (xs ys : List (ℕ × Filed)) → keys_of (xs ++ ys) ≡ keys_of xs ++ keys_of ys
keys-append xs ys = map-append (λ (e : ℕ × Filed). e.0) xs ys

chains-append : (xs ys : List (ℕ × Filed)) → chains_in (xs ++ ys) ≡ chains_in xs ++ chains_in ys
chains-append xs ys = map-append (λ (e : ℕ × Filed). e.1.chain) xs ys

-- the item that is filed so, with these entries
abbrev item_filed : ℕ × Filed → List ℕ → Item
item_filed e entries = record { brick = e.0; level = e.1.level; entries = entries }

nothing_there : IsSome {T = List ℕ} None → ⊥
nothing_there h = cc

-- ---- chains of the pool that another one leaves alone

other_than : (pool : Chains) (name other : ℕ) (now : Option (List ℕ)) → other ≢ name → get_or (set pool.by_name name now) other None ≡ chain_at pool other
other_than pool name other now ne = get_or-set_other pool.by_name name other now None ne

-- no name is there any more
gone : (pool : Chains) (name : ℕ) → chain_at (without_chain pool name) name ≡ None
gone pool name = elim (cases_lt name (length pool.by_name)) [
  | inl l ↦ get_or-set_same pool.by_name name None None l
  | inr l ↦ ap (λ all. get_or all name None) (set_past pool.by_name name None l) ∙ get_or_past pool.by_name name None l
]

held_after : (pool : Chains) (name : ℕ) (es : List (ℕ × Filed)) → (is_in name (chains_in es) ≡ true → ⊥) → AreHeld pool es → AreHeld (without_chain pool name) es
held_after pool name [] out h = tt
held_after pool name (e ∷ es) out h =
    let ne : e.1.chain ≢ name = λ z. out (or_left (eqb e.1.chain name) (is_in name (chains_in es)) (eq-eqb e.1.chain name z)) in (
      subst IsSome (sym (other_than pool name e.1.chain None ne)) h.0,
      held_after pool name es (λ i. out (or_right (eqb e.1.chain name) (is_in name (chains_in es)) i)) h.1,
    )

items_after : (pool : Chains) (name : ℕ) (es : List (ℕ × Filed)) → (is_in name (chains_in es) ≡ true → ⊥) → items_in (without_chain pool name) es ≡ items_in pool es
items_after pool name [] out = refl
items_after pool name (e ∷ es) out =
    let ne : e.1.chain ≢ name = λ z. out (or_left (eqb e.1.chain name) (is_in name (chains_in es)) (eq-eqb e.1.chain name z)) in
    let first : item_in (without_chain pool name) e ≡ item_in pool e
    = ap (λ o. item_filed e (unwrap_or o [])) (other_than pool name e.1.chain None ne) in
    ap (λ i. i ∷ items_in (without_chain pool name) es) first
    ∙ ap (λ l. item_in pool e ∷ l) (items_after pool name es (λ i. out (or_right (eqb e.1.chain name) (is_in name (chains_in es)) i)))

held_less : (pool : Chains) (xs : List (ℕ × Filed)) (e : ℕ × Filed) (ys : List (ℕ × Filed)) → AreHeld pool (xs ++ e ∷ ys) → Has pool e.1.chain × AreHeld pool (xs ++ ys)
held_less pool [] e ys h = (h.0, h.1)
held_less pool (x ∷ xs) e ys h = let on = held_less pool xs e ys h.1 in (on.0, (h.0, on.1))

taken_less : (pool : Chains) (xs : List (ℕ × Filed)) (e : ℕ × Filed) (ys : List (ℕ × Filed))
    → taken (items_in pool (xs ++ e ∷ ys)) ≡ need (length (entries_at pool e.1.chain)) + taken (items_in pool (xs ++ ys))
taken_less pool xs e ys =
    let pages : Item → ℕ = λ i. need (length i.entries) in
    let whole : taken (items_in pool (xs ++ e ∷ ys)) ≡ sum_by pages (items_in pool xs) + sum_by pages (items_in pool (e ∷ ys))
    = ap taken (map-append (item_in pool) xs (e ∷ ys)) ∙ sum_by-append pages (items_in pool xs) (items_in pool (e ∷ ys)) in
    let rest : taken (items_in pool (xs ++ ys)) ≡ sum_by pages (items_in pool xs) + sum_by pages (items_in pool ys)
    = ap taken (map-append (item_in pool) xs ys) ∙ sum_by-append pages (items_in pool xs) (items_in pool ys) in
    let one : sum_by pages (items_in pool (e ∷ ys)) ≡ need (length (entries_at pool e.1.chain)) + sum_by pages (items_in pool ys)
    = sum_by-cons pages (item_in pool e) (items_in pool ys) in
    omega arith

length_less : (xs : List (ℕ × Filed)) (e : ℕ × Filed) (ys : List (ℕ × Filed)) → length (xs ++ e ∷ ys) ≡ suc (length (xs ++ ys))
length_less xs e ys =
    let a : length (xs ++ e ∷ ys) ≡ length xs + suc (length ys) = length-append xs (e ∷ ys) in
    let b : length (xs ++ ys) ≡ length xs + length ys = length-append xs ys in
    omega arith

-- ---- what is filed, with one entry in its midst
module _ (c : LruCache ℕ Filed) (pool : Chains) (limits : Limits) (xs : List (ℕ × Filed)) (e : ℕ × Filed) (ys : List (ℕ × Filed))
    (split : c.entries ≡ xs ++ e ∷ ys) (h : IsFiled c pool limits) where
  bricks_split : IsDistinct (keys_of xs ++ e.0 ∷ keys_of ys)
  bricks_split = subst IsDistinct (ap keys_of split ∙ keys-append xs (e ∷ ys)) h.different

  chains_split : IsDistinct (chains_in xs ++ e.1.chain ∷ chains_in ys)
  chains_split = subst IsDistinct (ap chains_in split ∙ chains-append xs (e ∷ ys)) h.apart

  held_split : Has pool e.1.chain × AreHeld pool (xs ++ ys)
  held_split = held_less pool xs e ys (subst (AreHeld pool) split h.held)

  out : is_in e.1.chain (chains_in (xs ++ ys)) ≡ true → ⊥
  out i = distinct_out (chains_in xs) e.1.chain (chains_in ys) chains_split (subst (λ l. is_in e.1.chain l ≡ true) (chains-append xs ys) i)

  pub has_chain : Has pool e.1.chain
  has_chain = held_split.0

  -- the others' items, once the chain is released
  pub items_released : items_in (without_chain pool e.1.chain) (xs ++ ys) ≡ items_in pool (xs ++ ys)
  items_released = items_after pool e.1.chain (xs ++ ys) out

  pub released : IsFiled (lru_cache (xs ++ ys) c.cap) (without_chain pool e.1.chain) limits
  released = record {
    are_limits = h.are_limits;
    different = subst IsDistinct (sym (keys-append xs ys)) (distinct_less (keys_of xs) e.0 (keys_of ys) bricks_split);
    apart = subst IsDistinct (sym (chains-append xs ys)) (distinct_less (chains_in xs) e.1.chain (chains_in ys) chains_split);
    held = held_after pool e.1.chain (xs ++ ys) out held_split.1;
    owned = λ name has.
        let other : e.1.chain ≢ name = λ z. nothing_there (subst IsSome (ap (chain_at (without_chain pool e.1.chain)) (sym z) ∙ gone pool e.1.chain) has) in
        let was : Has pool name = subst IsSome (other_than pool e.1.chain name None (λ z. other (sym z))) has in
        let all : is_in name (chains_in xs ++ e.1.chain ∷ chains_in ys) ≡ true
        = subst (λ l. is_in name l ≡ true) (ap chains_in split ∙ chains-append xs (e ∷ ys)) (h.owned name was) in
        subst (λ l. is_in name l ≡ true) (sym (chains-append xs ys)) (in_less name (chains_in xs) e.1.chain (chains_in ys) all other);
    bound = h.bound;
    within = (let n : length c.entries ≡ suc (length (xs ++ ys)) = ap length split ∙ length_less xs e ys in
        let l : length c.entries ≤ limits.bricks = h.within in omega arith);
    counted = (
        let before : pool.free + taken (items_in pool c.entries) ≡ limits.pages = h.counted in
        let all : taken (items_in pool c.entries) ≡ need (length (entries_at pool e.1.chain)) + taken (items_in pool (xs ++ ys))
        = ap (λ l. taken (items_in pool l)) split ∙ taken_less pool xs e ys in
        let same : taken (items_in (without_chain pool e.1.chain) (xs ++ ys)) ≡ taken (items_in pool (xs ++ ys)) = ap taken items_released in
        omega arith);
  }

  -- the entry is put first
  pub put_first : IsFiled (lru_cache (e ∷ (xs ++ ys)) c.cap) pool limits
  put_first = record {
    are_limits = h.are_limits;
    different = subst (λ l. IsDistinct (e.0 ∷ l)) (sym (keys-append xs ys)) (distinct_first (keys_of xs) e.0 (keys_of ys) bricks_split);
    apart = subst (λ l. IsDistinct (e.1.chain ∷ l)) (sym (chains-append xs ys)) (distinct_first (chains_in xs) e.1.chain (chains_in ys) chains_split);
    held = held_split;
    owned = λ name has. elim (cases_eq e.1.chain name) [
      | inl z ↦ or_left (eqb e.1.chain name) (is_in name (chains_in (xs ++ ys))) (eq-eqb e.1.chain name z)
      | inr z ↦ or_right (eqb e.1.chain name) (is_in name (chains_in (xs ++ ys)))
          (subst (λ l. is_in name l ≡ true) (sym (chains-append xs ys))
          (in_less name (chains_in xs) e.1.chain (chains_in ys) (subst (λ l. is_in name l ≡ true) (ap chains_in split ∙ chains-append xs (e ∷ ys)) (h.owned name has)) z))
    ];
    bound = h.bound;
    within = (let n : length c.entries ≡ suc (length (xs ++ ys)) = ap length split ∙ length_less xs e ys in
        let l : length c.entries ≤ limits.bricks = h.within in omega arith);
    counted = (
        let before : pool.free + taken (items_in pool c.entries) ≡ limits.pages = h.counted in
        let all : taken (items_in pool c.entries) ≡ need (length (entries_at pool e.1.chain)) + taken (items_in pool (xs ++ ys))
        = ap (λ l. taken (items_in pool l)) split ∙ taken_less pool xs e ys in
        let now : taken (items_in pool (e ∷ (xs ++ ys))) ≡ need (length (entries_at pool e.1.chain)) + taken (items_in pool (xs ++ ys))
        = sum_by-cons (λ (i : Item). need (length i.entries)) (item_in pool e) (items_in pool (xs ++ ys)) in
        omega arith);
  }

-- ---- a new chain is filed first

held_with : (pool : Chains) (name : ℕ) (entries : List ℕ) (es : List (ℕ × Filed)) → chain_at pool name ≡ None → AreHeld pool es → AreHeld (with_chain pool name entries) es
held_with pool name entries [] new h = tt
held_with pool name entries (e ∷ es) new h =
    let ne : e.1.chain ≢ name = λ z. nothing_there (subst IsSome (ap (chain_at pool) z ∙ new) h.0) in
    (subst IsSome (sym (other_than pool name e.1.chain (Some entries) ne)) h.0, held_with pool name entries es new h.1)

pub items_with : (pool : Chains) (name : ℕ) (entries : List ℕ) (es : List (ℕ × Filed)) → chain_at pool name ≡ None → AreHeld pool es
    → items_in (with_chain pool name entries) es ≡ items_in pool es
items_with pool name entries [] new h = refl
items_with pool name entries (e ∷ es) new h =
    let ne : e.1.chain ≢ name = λ z. nothing_there (subst IsSome (ap (chain_at pool) z ∙ new) h.0) in
    let first : item_in (with_chain pool name entries) e ≡ item_in pool e
    = ap (λ o. item_filed e (unwrap_or o [])) (other_than pool name e.1.chain (Some entries) ne) in
    ap (λ i. i ∷ items_in (with_chain pool name entries) es) first ∙ ap (λ l. item_in pool e ∷ l) (items_with pool name entries es new h.1)

-- a name that no chain has is not filed
not_filed : (pool : Chains) (name : ℕ) (es : List (ℕ × Filed)) → chain_at pool name ≡ None → AreHeld pool es → is_in name (chains_in es) ≡ true → ⊥
not_filed pool name [] new h i = cc
not_filed pool name (e ∷ es) new h i = elim (or_cases (eqb e.1.chain name) (is_in name (chains_in es)) i) [
  | inl a ↦ nothing_there (subst IsSome (ap (chain_at pool) (eqb-true e.1.chain name a) ∙ new) h.0)
  | inr a ↦ not_filed pool name es new h.1 a
]

module _ (c : LruCache ℕ Filed) (pool : Chains) (limits : Limits) (h : IsFiled c pool limits)
    (name : ℕ) (entries : List ℕ) (new : chain_at pool name ≡ None) (stored : chain_at (with_chain pool name entries) name ≡ Some entries)
    (fits : need (length entries) ≤ pool.free) where
  pub filed_first : (brick : ℕ) (level : ℤ) → (is_in brick (keys_of c.entries) ≡ true → ⊥) → length c.entries < limits.bricks
      → IsFiled (lru_cache ((brick, record { level = level; chain = name }) ∷ c.entries) c.cap) (with_chain pool name entries) limits
  filed_first brick level unfiled room = record {
    are_limits = h.are_limits;
    different = (unfiled, h.different);
    apart = (not_filed pool name c.entries new h.held, h.apart);
    held = (subst IsSome (sym stored) refl, held_with pool name entries c.entries new h.held);
    owned = λ other has. elim (cases_eq name other) [
      | inl z ↦ or_left (eqb name other) (is_in other (chains_in c.entries)) (eq-eqb name other z)
      | inr z ↦ or_right (eqb name other) (is_in other (chains_in c.entries))
          (h.owned other (subst IsSome (other_than pool name other (Some entries) (λ w. z (sym w))) has))
    ];
    bound = h.bound;
    within = omega arith;
    counted = (
        let before : pool.free + taken (items_in pool c.entries) ≡ limits.pages = h.counted in
        let same : taken (items_in (with_chain pool name entries) c.entries) ≡ taken (items_in pool c.entries) = ap taken (items_with pool name entries c.entries new h.held) in
        let pages : need (length (entries_at (with_chain pool name entries) name)) ≡ need (length entries) = ap (λ o. need (length (unwrap_or o []))) stored in
        let one = sum_by-cons (λ (i : Item). need (length i.entries)) (item_in (with_chain pool name entries) (brick, record { level = level; chain = name })) (items_in (with_chain pool name entries) c.entries) in
        omega arith);
  }

  -- the chain is taken back
  pub restored : without_chain (with_chain pool name entries) name ≡ pool
  restored =
      let names : set (set pool.by_name name (Some entries)) name None ≡ pool.by_name
      = set-set pool.by_name name (Some entries) None ∙ (ap (set pool.by_name name) (sym new) ∙ set-get_or pool.by_name name None) in
      let pages : need (length (entries_at (with_chain pool name entries) name)) ≡ need (length entries) = ap (λ o. need (length (unwrap_or o []))) stored in
      let free : pool.free - need (length entries) + need (length (entries_at (with_chain pool name entries) name)) ≡ pool.free = omega arith in
      ap (λ all. seen all (pool.free - need (length entries) + need (length (entries_at (with_chain pool name entries) name))) pool.total) names
      ∙ ap (λ n. seen pool.by_name n pool.total) free
