-- The offsets of the crossing edges of some points, and of some more.
use Rattle.std.proofs.Common.{◌≡◌, ℕ, zero, suc, ◌+◌, ◌<◌, ◌≤◌, Bool, true, false, cond, List, [], ◌∷◌, ◌++◌, take, drop, set, length, get_or, refl, sym, ◌∙◌, ap, ap₂, arith, ◌-◌, add-zero, append-nil, append_assoc}
use Rattle.std.specs.List.{flat_map, range_with_len}
use Rattle.std.proofs.lemmas.List.{length-append, length-take-le, take-append-drop, take-set, take-take, take_at, take_more_set}
use Rattle.std.proofs.lemmas.List.Concat.{flat_map-append}
use Rattle.iso_defs.proofs.Ranges.{range_append}
use Rattle.row_bits.specs.Edges.{edges_among, edges_at}

-- 1 for true
abbrev pub bit : Bool → ℕ
bit b = cond b 1 0

-- an offset that is written where an edge is crossing, and written over where it is not
pub offset_put : (b : Bool) (xs : List ℕ) (at e k : ℕ) → k ≡ bit b → at < length xs → take (at + k) (set xs at e) ≡ take at xs ++ cond {A = List ℕ} b (e ∷ []) []
offset_put true xs at e k one h = ap (λ k. take (at + k) (set xs at e)) one ∙ take_more_set xs at e h
offset_put false xs at e k one h =
    ap (λ k. take (at + k) (set xs at e)) one ∙ (ap (λ n. take n (set xs at e)) (add-zero at) ∙ (take-set xs at e ∙ sym (append-nil (take at xs))))

-- a whole array was written, and its first numbers count
pub front_written : (old new numbers : List ℕ) (at count all : ℕ) → at ≤ length old → count ≤ all → length numbers ≡ all → take (at + all) new ≡ take at old ++ numbers
    → take (at + count) new ≡ take at old ++ take count numbers
front_written old new numbers at count all le few size w =
    let whole : take at old ++ numbers ≡ (take at old ++ take count numbers) ++ drop count numbers =
    ap (λ (l : List ℕ). take at old ++ l) (sym (take-append-drop count numbers)) ∙ sym (append_assoc (take at old) (take count numbers) (drop count numbers)) in
    let long : length (take at old ++ take count numbers) ≡ at + count =
    length-append (take at old) (take count numbers) ∙ omega (arith, length-take-le at old le, length-take-le count numbers (omega (arith, few, size))) in
    sym (take-take (at + count) (at + all) new (omega (arith, few))) ∙ (ap (take (at + count)) (w ∙ whole) ∙ take_at (take at old ++ take count numbers) (drop count numbers) (at + count) long)

-- the offsets of some points, and of some more
pub among_none : (flags : List ℕ) (a : ℕ) → edges_among flags a 0 ≡ []
unfolding edges_among
among_none flags a = refl

pub among_more : (flags : List ℕ) (a m n : ℕ) → edges_among flags a (m + n) ≡ edges_among flags a m ++ edges_among flags (a + m) n
unfolding edges_among
among_more flags a m n =
    ap (flat_map (λ x. edges_at (get_or flags x 0) x)) (range_append a m n)
    ∙ flat_map-append (λ x. edges_at (get_or flags x 0) x) (range_with_len a m) (range_with_len (a + m) n)

pub among_one : (flags : List ℕ) (x : ℕ) → edges_among flags x 1 ≡ edges_at (get_or flags x 0) x
unfolding edges_among
among_one flags x = append-nil (edges_at (get_or flags x 0) x)

-- points without flags have none
pub among_zeros : (flags : List ℕ) (a n : ℕ) → ((k : ℕ) → k < n → get_or flags (a + k) 0 ≡ 0) → edges_among flags a n ≡ []
among_zeros flags a zero zeros = among_none flags a
among_zeros flags a (suc n) zeros =
    let e : suc n ≡ n + 1 = omega arith in
    ap (edges_among flags a) e ∙ (among_more flags a n 1
    ∙ (ap (λ l. l ++ edges_among flags (a + n) 1) (among_zeros flags a n (λ k low. zeros k (omega arith)))
    ∙ (among_one flags (a + n) ∙ ap (λ f. edges_at f (a + n)) (zeros n (omega arith)))))

-- what is put behind a list
pub nothing_put : (xs ys : List ℕ) → ys ≡ [] → xs ≡ xs ++ ys
nothing_put xs ys none = sym (ap (λ l. xs ++ l) none ∙ append-nil xs)

pub put_three : (w0 w1 w2 w3 a b c : List ℕ) → w1 ≡ w0 ++ a → w2 ≡ w1 ++ b → w3 ≡ w2 ++ c → w3 ≡ w0 ++ (a ++ (b ++ c))
put_three w0 w1 w2 w3 a b c e f h =
    h ∙ (ap (λ l. l ++ c) (f ∙ ap (λ l. l ++ b) e) ∙ (append_assoc (w0 ++ a) b c ∙ append_assoc w0 a (b ++ c)))

pub put_none : (flags : List ℕ) (a n : ℕ) (xs : List ℕ) → n ≡ 0 → xs ≡ xs ++ edges_among flags a n
put_none flags a n xs none = nothing_put xs (edges_among flags a n) (ap (edges_among flags a) none ∙ among_none flags a)

pub put_one : (flags : List ℕ) (a x : ℕ) (w0 w1 w2 : List ℕ) → a ≤ x → w1 ≡ w0 ++ edges_among flags a (x - a) → w2 ≡ w1 ++ edges_at (get_or flags x 0) x → w2 ≡ w0 ++ edges_among flags a (x + 1 - a)
put_one flags a x w0 w1 w2 from before here =
    let count : x + 1 - a ≡ x - a + 1 = omega arith in
    let at : a + (x - a) ≡ x = omega arith in
    here ∙ (ap (λ l. l ++ edges_at (get_or flags x 0) x) before ∙ (append_assoc w0 (edges_among flags a (x - a)) (edges_at (get_or flags x 0) x)
    ∙ ap (λ l. w0 ++ l) (sym (ap (edges_among flags a) count ∙ (among_more flags a (x - a) 1
    ∙ ap (λ l. edges_among flags a (x - a) ++ l) (ap (λ k. edges_among flags k 1) at ∙ among_one flags x))))))

pub put_behind : (flags w1 w2 : List ℕ) (m at n k : ℕ) → m ≡ at → k ≡ m + n → w1 ≡ edges_among flags 0 m → w2 ≡ w1 ++ edges_among flags at n → w2 ≡ edges_among flags 0 k
put_behind flags w1 w2 m at n k here to before more =
    let zero_out : 0 + m ≡ at = omega arith in
    more ∙ (ap (λ l. l ++ edges_among flags at n) before
    ∙ sym (ap (edges_among flags 0) to ∙ (among_more flags 0 m n ∙ ap (λ k. edges_among flags 0 m ++ edges_among flags k n) zero_out)))

-- the same behind what stood in a list before
pub put_on : (flags : List ℕ) (a : ℕ) (w0 w1 w2 : List ℕ) (m at n k : ℕ) → at ≡ a + m → k ≡ m + n
    → w1 ≡ w0 ++ edges_among flags a m → w2 ≡ w1 ++ edges_among flags at n → w2 ≡ w0 ++ edges_among flags a k
put_on flags a w0 w1 w2 m at n k here to before more =
    more ∙ (ap₂ (λ l b. l ++ edges_among flags b n) before here ∙ (append_assoc w0 (edges_among flags a m) (edges_among flags (a + m) n)
    ∙ ap (λ l. w0 ++ l) (sym (ap (edges_among flags a) to ∙ among_more flags a m n))))
