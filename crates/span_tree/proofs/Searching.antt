-- What a node does not straddle, none of the places below it does.
use Rattle.std.proofs.Common.{◌≡◌, ℕ, zero, suc, ◌+◌, ◌*◌, ◌^◌, ◌<◌, ◌≤◌, Bool, true, false, ◌&&◌, List, length, refl, sym, subst, arith, inl, inr, ℤ, pos, negsuc}
use Rattle.std.specs.Prelude.{◌≤ℤ◌, not, Option, Some, None}
use Rattle.std.specs.Int.{int_max, int_min}
use Rattle.std.proofs.lemmas.Bool.{and_parts, cases_Bool, cases_lt}
use Rattle.std.proofs.lemmas.Int.{clamps, ints}
use Rattle.std.proofs.lemmas.Nat.{pow_pos}
use Rattle.std.proofs.Math.Nat.{mul-le-mul_left, pow-succ'}
use Rattle.iso_defs.specs.Grid.{is_above}
use Rattle.iso_base.specs.Volume.{shifted}
use Rattle.span_tree.specs.Spans.{Span, joined, no_span, straddles}
use Rattle.span_tree.specs.Nodes.{AreNodes, IsFirstLeaf, IsHigh, IsJoined, IsNextLeaf, node_at}

-- a greater sample is above where a lesser one is
pub above_grows : (a b level : ℤ) → a ≤ℤ b → is_above (shifted a level) ≡ true → is_above (shifted b level) ≡ true
above_grows a b level h = by_sign (shifted a level) (shifted b level) refl refl
  where
    by_sign : (x y : ℤ) → x ≡ shifted a level → y ≡ shifted b level → is_above x ≡ true → is_above y ≡ true
    by_sign x (pos n) e f k = refl
    by_sign (pos m) (negsuc n) e f k = absurd (omega (arith, ints))
    by_sign (negsuc m) (negsuc n) e f k = k

-- the samples of one span are among those of another
pub record IsWithin (s t : Span) : Type 0 where
  pub least : t.least ≤ℤ s.least
  pub greatest : s.greatest ≤ℤ t.greatest

pub min_left : (a b : ℤ) → int_min a b ≤ℤ a
min_left a b = omega (arith, ints, clamps)

pub min_right : (a b : ℤ) → int_min a b ≤ℤ b
min_right a b = omega (arith, ints, clamps)

pub max_left : (a b : ℤ) → a ≤ℤ int_max a b
max_left a b = omega (arith, ints, clamps)

pub max_right : (a b : ℤ) → b ≤ℤ int_max a b
max_right a b = omega (arith, ints, clamps)

pub within_left : (s t : Span) → IsWithin s (joined s t)
within_left s t = record { least = min_left s.least t.least; greatest = max_left s.greatest t.greatest }

pub within_right : (s t : Span) → IsWithin t (joined s t)
within_right s t = record { least = min_right s.least t.least; greatest = max_right s.greatest t.greatest }

pub within_trans : (s t u : Span) → IsWithin s t → IsWithin t u → IsWithin s u
within_trans s t u h k =
    let a = h.least in
    let b = k.least in
    let c = h.greatest in
    let d = k.greatest in
    record { least = omega (arith, ints); greatest = omega (arith, ints) }

-- a span straddles a level where one within it does
pub straddles_grows : (level : ℤ) (s t : Span) → IsWithin s t → straddles level s ≡ true → straddles level t ≡ true
straddles_grows level s t is h =
    let parts : (not (is_above (shifted s.least level)) ≡ true) × (is_above (shifted s.greatest level) ≡ true) = and_parts _ _ h in
    let high : is_above (shifted t.greatest level) ≡ true = above_grows s.greatest t.greatest level is.greatest parts.1 in
    elim (cases_Bool (is_above (shifted t.least level))) [
      | inl e ↦ absurd (clash (is_above (shifted s.least level)) (above_grows t.least s.least level is.least e) parts.0)
      | inr e ↦ rw (e, high) refl
    ]
  where
    clash : (b : Bool) → b ≡ true → not b ≡ true → ⊥
    clash true e f = cc
    clash false e f = cc

-- no samples straddle nothing
pub no_span_straddles : (level : ℤ) → straddles level no_span ≡ false
no_span_straddles level =
    elim (cases_Bool (is_above (shifted (negsuc 2147483647) level))) [
      | inl e ↦ (let high : is_above (shifted (pos 4294967295) level) ≡ true = above_grows (negsuc 2147483647) (pos 4294967295) level (omega (arith, ints)) e in
          rw (e, high) refl)
      | inr e ↦ rw e (never (not (is_above (shifted (pos 4294967295) level))))
    ]
  where
    never : (b : Bool) → (b && false) ≡ false
    never true = refl
    never false = refl

-- the places below a node
pub below_within : (nodes : List Span) (h node k : ℕ) → AreNodes nodes → 0 < node → (node + 1) * 2 ^ h ≤ length nodes → node * 2 ^ h ≤ k → k < (node + 1) * 2 ^ h
    → IsWithin (node_at nodes k) (node_at nodes node)
below_within nodes zero node k are some inside low high =
    let same : k ≡ node = omega arith in
    subst (λ k. IsWithin (node_at nodes k) (node_at nodes node)) (sym same) (record { least = omega (arith, ints); greatest = omega (arith, ints) })
below_within nodes (suc h) node k are some inside low high =
    let m : ℕ = 2 ^ h in
    let double : 2 ^ suc h ≡ 2 * m = pow-succ' 2 h in
    let m_some : 0 < m = pow_pos h in
    let start : node * (2 * m) ≤ k = subst (λ w. node * w ≤ k) double low in
    let stop : k < (node + 1) * (2 * m) = subst (λ w. k < (node + 1) * w) double high in
    let fits : (node + 1) * (2 * m) ≤ length nodes = subst (λ w. (node + 1) * w ≤ length nodes) double inside in
    let wide : node + 1 ≤ (node + 1) * m = widen (node + 1) m m_some in
    let join : IsJoined nodes node = are node some (omega arith) in
    subst (λ s. IsWithin (node_at nodes k) s) (sym join) (elim (cases_lt k ((2 * node + 1) * m)) [
      | inl left ↦ within_trans _ _ _ (below_within nodes h (2 * node) k are (omega arith) (omega arith) (omega arith) left) (within_left (node_at nodes (2 * node)) (node_at nodes (2 * node + 1)))
      | inr right ↦ within_trans _ _ _ (below_within nodes h (2 * node + 1) k are (omega arith) (omega arith) right (omega arith)) (within_right (node_at nodes (2 * node)) (node_at nodes (2 * node + 1)))
    ])
  where
    widen : (a m : ℕ) → 0 < m → a ≤ a * m
    widen a m h = omega (arith, mul-le-mul_left a h)

module _ (nodes : List Span) (are : AreNodes nodes) (level : ℤ) (from node : ℕ) where
  -- where the node does not straddle the level, or ends too early
  pub none_straddles : (h : ℕ) → IsHigh nodes node h → straddles level (node_at nodes node) ≡ false → IsNextLeaf level nodes from (node * 2 ^ h) ((node + 1) * 2 ^ h) None
  none_straddles h high none k k_from low stop =
      elim (cases_Bool (straddles level (node_at nodes k))) [
        | inl e ↦ absurd (let yes : straddles level (node_at nodes node) ≡ true
            = straddles_grows level _ _ (below_within nodes h node k are high.some high.inside low stop) e in cc)
        | inr e ↦ e
      ]

  pub none_left : (h : ℕ) → (node + 1) * 2 ^ h ≤ from → IsNextLeaf level nodes from (node * 2 ^ h) ((node + 1) * 2 ^ h) None
  none_left h past k k_from low stop = absurd (omega arith)

  -- a node that is a place
  pub one_leaf : IsHigh nodes node 0 → from < (node + 1) * 2 ^ 0 → straddles level (node_at nodes node) ≡ true
      → IsFirstLeaf level nodes from (node * 2 ^ 0) ((node + 1) * 2 ^ 0) node
  one_leaf high past is = record { from_low = omega arith; low = omega arith; high = omega arith; passes = is; before = λ k f l b. absurd (omega arith) }

  -- the two children of a node
  pub left_high : (h : ℕ) → IsHigh nodes node (suc h) → IsHigh nodes (2 * node) h
  left_high h high =
      let double : 2 ^ suc h ≡ 2 * 2 ^ h = pow-succ' 2 h in
      let fits : (node + 1) * (2 * 2 ^ h) ≤ length nodes = subst (λ w. (node + 1) * w ≤ length nodes) double high.inside in
      let last : length nodes ≤ 2 * (node * (2 * 2 ^ h)) = subst (λ w. length nodes ≤ 2 * (node * w)) double high.last in
      record { some = (let k = high.some in omega arith); low = (let k = high.low in omega arith); inside = omega arith; last = omega arith }

  pub right_high : (h : ℕ) → IsHigh nodes node (suc h) → IsHigh nodes (2 * node + 1) h
  right_high h high =
      let double : 2 ^ suc h ≡ 2 * 2 ^ h = pow-succ' 2 h in
      let fits : (node + 1) * (2 * 2 ^ h) ≤ length nodes = subst (λ w. (node + 1) * w ≤ length nodes) double high.inside in
      let last : length nodes ≤ 2 * (node * (2 * 2 ^ h)) = subst (λ w. length nodes ≤ 2 * (node * w)) double high.last in
      record { some = omega arith; low = (let k = high.low in omega arith); inside = omega arith; last = omega arith }

  -- the first one below the left child, or else below the right one
  pub found_left : (h leaf : ℕ) → IsFirstLeaf level nodes from (2 * node * 2 ^ h) ((2 * node + 1) * 2 ^ h) leaf
      → IsFirstLeaf level nodes from (node * 2 ^ suc h) ((node + 1) * 2 ^ suc h) leaf
  found_left h leaf is =
      let double : 2 ^ suc h ≡ 2 * 2 ^ h = pow-succ' 2 h in
      subst (λ w. IsFirstLeaf level nodes from (node * w) ((node + 1) * w) leaf) (sym double) (record {
        from_low = is.from_low;
        low = (let l = is.low in omega arith);
        high = (let l = is.high in omega arith);
        passes = is.passes;
        before = λ k f l b. is.before k f (omega arith) b;
      })

  pub found_right : (h : ℕ) (o : Option ℕ) → IsNextLeaf level nodes from (2 * node * 2 ^ h) ((2 * node + 1) * 2 ^ h) None
      → IsNextLeaf level nodes from ((2 * node + 1) * 2 ^ h) ((2 * node + 1 + 1) * 2 ^ h) o
      → IsNextLeaf level nodes from (node * 2 ^ suc h) ((node + 1) * 2 ^ suc h) o
  found_right h o left right = subst (λ w. IsNextLeaf level nodes from (node * w) ((node + 1) * w) o) (sym (pow-succ' 2 h)) (by_case o right)
    where
      by_case : (o : Option ℕ) → IsNextLeaf level nodes from ((2 * node + 1) * 2 ^ h) ((2 * node + 1 + 1) * 2 ^ h) o
          → IsNextLeaf level nodes from (node * (2 * 2 ^ h)) ((node + 1) * (2 * 2 ^ h)) o
      by_case None is = λ k f l b. elim (cases_lt k ((2 * node + 1) * 2 ^ h)) [ inl lt ↦ left k f (omega arith) lt | inr ge ↦ is k f ge (omega arith) ]
      by_case (Some leaf) is = record {
        from_low = is.from_low;
        low = (let l = is.low in omega arith);
        high = (let l = is.high in omega arith);
        passes = is.passes;
        before = λ k f l b. elim (cases_lt k ((2 * node + 1) * 2 ^ h)) [ inl lt ↦ left k f (omega arith) lt | inr ge ↦ is.before k f ge b ];
      }
