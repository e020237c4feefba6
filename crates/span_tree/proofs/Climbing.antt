-- A search from a place up: below the place, then below ever higher nodes.
use Rattle.std.proofs.Common.{◌≡◌, ℕ, zero, suc, ◌+◌, ◌-◌, ◌*◌, ◌/◌, ◌%◌, ◌^◌, ◌<◌, ◌≤◌, true, false, List, length, refl, sym, ◌∙◌, ap, subst, arith, inl, inr, ℤ}
use Rattle.std.specs.Prelude.{Option, Some, None, is_some}
use Rattle.std.proofs.lemmas.Bool.{cases_lt}
use Rattle.std.proofs.lemmas.Nat.{pow_pos, pow-add}
use Rattle.std.proofs.Math.Nat.{mul-le-mul_left, mul-le-mul_right, pow-le-pow_right, pow-succ'}
use Rattle.span_tree.specs.Spans.{Span}
use Rattle.span_tree.specs.Nodes.{IsFirstLeaf, IsHigh, IsNextLeaf}

-- a node of a tree, and how high it is
pub record IsOn (top node height : ℕ) : Type 0 where
  pub low : height ≤ top
  pub start : 2 ^ (top - height) ≤ node
  pub stop : node < 2 * 2 ^ (top - height)

-- places of the last half below a node, and places below the whole
widths : (top node h : ℕ) → IsOn top node h → (2 ^ top ≤ node * 2 ^ h) × ((node + 1) * 2 ^ h ≤ 2 * 2 ^ top)
widths top node h on =
    let m : ℕ = 2 ^ (top - h) in
    let w : ℕ = 2 ^ h in
    let sum : (top - h) + h ≡ top = (let l = on.low in omega arith) in
    let whole : 2 ^ top ≡ m * w = ap (λ n. 2 ^ n) (sym sum) ∙ pow-add 2 (top - h) h in
    let low : m * w ≤ node * w = mul-le-mul_right w on.start in
    let stop : node + 1 ≤ 2 * m = (let s = on.stop in omega arith) in
    let high : (node + 1) * w ≤ 2 * m * w = mul-le-mul_right w stop in
    (omega arith, omega arith)

pub on_high : (nodes : List Span) (top node h : ℕ) → length nodes ≡ 2 * 2 ^ top → top ≤ 22 → IsOn top node h → IsHigh nodes node h
on_high nodes top node h count few on =
    let w = widths top node h on in
    let p : 0 < 2 ^ (top - h) = pow_pos (top - h) in
    record {
      some = (let s = on.start in omega arith);
      low = (let l = on.low in omega arith);
      inside = (let b = w.1 in omega arith);
      last = (let a = w.0 in omega arith);
    }

-- a place of the last half
pub on_place : (top from : ℕ) → 2 ^ top ≤ from → from < 2 * 2 ^ top → IsOn top from 0
on_place top from low high =
    let e : top ≡ top - 0 = omega arith in
    record { low = omega arith; start = subst (λ n. 2 ^ n ≤ from) e low; stop = subst (λ n. from < 2 * 2 ^ n) e high }

-- the node above
pub on_above : (top node h : ℕ) → IsOn top node h → 1 < node → IsOn top (node / 2) (h + 1)
on_above top node h on more = by_rest (top - h) refl
  where
    by_rest : (rest : ℕ) → top - h ≡ rest → IsOn top (node / 2) (h + 1)
    by_rest zero e = absurd (let s : node < 2 * 2 ^ zero = subst (λ n. node < 2 * 2 ^ n) e on.stop in omega arith)
    by_rest (suc rest) e =
        let double : 2 ^ suc rest ≡ 2 * 2 ^ rest = pow-succ' 2 rest in
        let start : 2 ^ suc rest ≤ node = subst (λ n. 2 ^ n ≤ node) e on.start in
        let stop : node < 2 * 2 ^ suc rest = subst (λ n. node < 2 * 2 ^ n) e on.stop in
        let next : rest ≡ top - (h + 1) = omega arith in
        record {
          low = (let l = on.low in omega arith);
          start = subst (λ n. 2 ^ n ≤ node / 2) next (omega arith);
          stop = subst (λ n. node / 2 < 2 * 2 ^ n) next (omega arith);
        }

-- the places below a node are among those below the node above
pub wider : (node h : ℕ) → (node / 2 * 2 ^ (h + 1) ≤ node * 2 ^ h) × ((node + 1) * 2 ^ h ≤ (node / 2 + 1) * 2 ^ (h + 1))
wider node h =
    let w : ℕ = 2 ^ h in
    let double : 2 ^ (h + 1) ≡ 2 * w = ap (λ n. 2 ^ n) (let e : h + 1 ≡ suc h = omega arith in e) ∙ pow-succ' 2 h in
    let q : ℕ = node / 2 in
    let low : 2 * q * w ≤ node * w = mul-le-mul_right w (omega arith) in
    let high : (node + 1) * w ≤ (2 * q + 2) * w = mul-le-mul_right w (omega arith) in
    (subst (λ d. q * d ≤ node * w) (sym double) (omega arith), subst (λ d. (node + 1) * w ≤ (q + 1) * d) (sym double) (omega arith))

-- the places below the node above end with a node's own where it is the second child, and with those of the node beside it where
-- it is the first
second_end : (node h : ℕ) → node % 2 ≡ 1 → (node / 2 + 1) * 2 ^ (h + 1) ≡ (node + 1) * 2 ^ h
second_end node h second =
    let w : ℕ = 2 ^ h in
    let double : 2 ^ (h + 1) ≡ 2 * w = ap (λ n. 2 ^ n) (let e : h + 1 ≡ suc h = omega arith in e) ∙ pow-succ' 2 h in
    let q : ℕ = node / 2 in
    let both : (node + 1) * w ≡ (2 * q + 2) * w = ap (λ n. n * w) (let e : node + 1 ≡ 2 * q + 2 = omega arith in e) in
    ap (λ d. (q + 1) * d) double ∙ omega arith

first_end : (node h : ℕ) → node % 2 ≡ 0 → (node / 2 + 1) * 2 ^ (h + 1) ≡ (node + 1 + 1) * 2 ^ h
first_end node h first =
    let w : ℕ = 2 ^ h in
    let double : 2 ^ (h + 1) ≡ 2 * w = ap (λ n. 2 ^ n) (let e : h + 1 ≡ suc h = omega arith in e) ∙ pow-succ' 2 h in
    let q : ℕ = node / 2 in
    let both : (node + 1 + 1) * w ≡ (2 * q + 2) * w = ap (λ n. n * w) (let e : node + 1 + 1 ≡ 2 * q + 2 = omega arith in e) in
    ap (λ d. (q + 1) * d) double ∙ omega arith

-- behind the places below a second child no more stand below the node above
pub none_beside : (level : ℤ) (nodes : List Span) (node h : ℕ) → node % 2 ≡ 1
    → IsNextLeaf level nodes ((node + 1) * 2 ^ h) (node / 2 * 2 ^ (h + 1)) ((node / 2 + 1) * 2 ^ (h + 1)) None
none_beside level nodes node h second = λ k f l b. absurd (let e = second_end node h second in omega arith)

-- behind those below a first child the ones of the node beside it do
pub found_beside : (level : ℤ) (nodes : List Span) (node h : ℕ) (o : Option ℕ) → node % 2 ≡ 0
    → IsNextLeaf level nodes ((node + 1) * 2 ^ h) ((node + 1) * 2 ^ h) ((node + 1 + 1) * 2 ^ h) o
    → IsNextLeaf level nodes ((node + 1) * 2 ^ h) (node / 2 * 2 ^ (h + 1)) ((node / 2 + 1) * 2 ^ (h + 1)) o
found_beside level nodes node h None first is = λ k f l b. is k f f (let e = first_end node h first in omega arith)
found_beside level nodes node h (Some leaf) first is =
    let e = first_end node h first in
    let start = (wider node h).0 in
    let own : node * 2 ^ h ≤ (node + 1) * 2 ^ h = mul-le-mul_right (2 ^ h) (omega arith) in
    record {
      from_low = is.from_low;
      low = (let f = is.from_low in omega arith);
      high = (let b = is.high in omega arith);
      passes = is.passes;
      before = λ k f l b. is.before k f f b;
    }

-- where none is found as far as a place, the search goes on from there
pub goes_on : (level : ℤ) (nodes : List Span) (from mid start start' stop : ℕ) (o : Option ℕ) → IsNextLeaf level nodes from start mid None
    → start ≤ from → from ≤ mid → IsNextLeaf level nodes mid start' stop o → IsNextLeaf level nodes from start' stop o
goes_on level nodes from mid start start' stop None none low high next =
    λ k f l b. elim (cases_lt k mid) [ inl lt ↦ none k f (omega arith) lt | inr ge ↦ next k ge l b ]
goes_on level nodes from mid start start' stop (Some leaf) none low high next = record {
  from_low = (let f = next.from_low in omega arith);
  low = next.low;
  high = next.high;
  passes = next.passes;
  before = λ k f l b. elim (cases_lt k mid) [ inl lt ↦ none k f (omega arith) lt | inr ge ↦ next.before k ge l b ];
}

-- none was found
pub none_found : (level : ℤ) (nodes : List Span) (from start stop : ℕ) (o : Option ℕ) → is_some o ≡ false → IsNextLeaf level nodes from start stop o
    → IsNextLeaf level nodes from start stop None
none_found level nodes from start stop None e is = is
none_found level nodes from start stop (Some leaf) e is = absurd (cc)

-- what is found below a node is found below the root
pub found_whole : (level : ℤ) (nodes : List Span) (top from node h leaf : ℕ) → IsOn top node h → 2 ^ top ≤ from → node * 2 ^ h ≤ from
    → IsFirstLeaf level nodes from (node * 2 ^ h) ((node + 1) * 2 ^ h) leaf
    → IsFirstLeaf level nodes from (1 * 2 ^ top) ((1 + 1) * 2 ^ top) leaf
found_whole level nodes top from node h leaf on half low is =
    let w = widths top node h on in
    record {
      from_low = is.from_low;
      low = (let f = is.from_low in omega arith);
      high = (let b = is.high in let e = w.1 in omega arith);
      passes = is.passes;
      before = λ k f l b. is.before k f (omega arith) b;
    }

-- the root is as high as the tree
pub at_root : (top node h : ℕ) → IsOn top node h → node ≤ 1 → (node ≡ 1) × (h ≡ top)
at_root top node h on few = by_rest (top - h) refl
  where
    by_rest : (rest : ℕ) → top - h ≡ rest → (node ≡ 1) × (h ≡ top)
    by_rest zero e =
        let start : 2 ^ zero ≤ node = subst (λ n. 2 ^ n ≤ node) e on.start in
        (omega arith, (let l = on.low in omega arith))
    by_rest (suc rest) e =
        let start : 2 ^ suc rest ≤ node = subst (λ n. 2 ^ n ≤ node) e on.start in
        let double : 2 ^ suc rest ≡ 2 * 2 ^ rest = pow-succ' 2 rest in
        let p : 0 < 2 ^ rest = pow_pos rest in
        absurd (omega arith)

pub root_next : (level : ℤ) (nodes : List Span) (top from node h : ℕ) (o : Option ℕ) → IsOn top node h → node ≤ 1
    → IsNextLeaf level nodes from (node * 2 ^ h) ((node + 1) * 2 ^ h) o → IsNextLeaf level nodes from (1 * 2 ^ top) ((1 + 1) * 2 ^ top) o
root_next level nodes top from node h o on few is =
    let at = at_root top node h on few in
    subst (λ n. IsNextLeaf level nodes from (n * 2 ^ top) ((n + 1) * 2 ^ top) o) at.0
    (subst (λ t. IsNextLeaf level nodes from (node * 2 ^ t) ((node + 1) * 2 ^ t) o) at.1 is)

pub some_next : (level : ℤ) (nodes : List Span) (top from node h : ℕ) (o : Option ℕ) → is_some o ≡ true → IsOn top node h → 2 ^ top ≤ from → node * 2 ^ h ≤ from
    → IsNextLeaf level nodes from (node * 2 ^ h) ((node + 1) * 2 ^ h) o → IsNextLeaf level nodes from (1 * 2 ^ top) ((1 + 1) * 2 ^ top) o
some_next level nodes top from node h None e on half low is = absurd (cc)
some_next level nodes top from node h (Some leaf) e on half low is = found_whole level nodes top from node h leaf on half low is

-- the end of what is below a node is a small number
pub small_end : (top node h : ℕ) → IsOn top node h → top ≤ 22 → ((node + 1) * 2 ^ h < 2 ^ 64) × (node + 1 < 2 ^ 64)
small_end top node h on few =
    let w = widths top node h on in
    let m : 2 ^ top ≤ 2 ^ 22 = pow-le-pow_right (let z : 0 < 2 = omega arith in z) few in
    let p : 1 ≤ 2 ^ h = pow_pos h in
    let wide : (node + 1) * 1 ≤ (node + 1) * 2 ^ h = mul-le-mul_left (node + 1) p in
    (let a = w.1 in omega arith, let a = w.1 in omega arith)
