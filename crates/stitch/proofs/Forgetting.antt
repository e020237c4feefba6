-- Lists that are let go.
use Rattle.std.proofs.Common.{◌≡◌, ℕ, ◌+◌, ◌*◌, ◌%◌, ◌^◌, ◌<◌, ◌≤◌, ◌⊎◌, List, drop, get_or, length, set, take, refl, sym, ◌∙◌, ap, ap₂, subst, arith, inl, inr}
use Rattle.std.proofs.lemmas.Bool.{cases_lt}
use Rattle.std.proofs.lemmas.List.{get_or-set_other, get_or-set_same, length-set}
use Rattle.stitch.specs.declared.recent.RecentLists.{RecentLists}
use Rattle.stitch.specs.Recent.{AreWithin, IsKept, IsWithoutKeys, numbers_in, numbers_of}

-- where lists begin: nowhere for the keys from one to before another, and as before or nowhere for the others
pub record AreStarts (from end : ℕ) (before after : List ℕ) : Type 0 where
  pub long : length after ≡ length before
  pub gone : (key : ℕ) → from ≤ key → key < end → get_or after (key % 49152) 0 ≡ 4294967295
  pub each : (k : ℕ) → (get_or after k 0 ≡ get_or before k 0) ⊎ (get_or after k 0 ≡ 4294967295)

pub none_gone : (from : ℕ) (starts : List ℕ) → AreStarts from from starts starts
none_gone from starts = record { long = refl; gone = λ key low high. absurd (omega (arith, low, high)); each = λ k. inl refl }

-- one more
pub one_gone : (from key : ℕ) (before mid after : List ℕ) → length mid ≡ 49152 → AreStarts from key before mid → after ≡ set mid (key % 49152) 4294967295
    → AreStarts from (key + 1) before after
one_gone from key before mid after long are now = record {
  long = ap length now ∙ (length-set mid (key % 49152) 4294967295 ∙ are.long);
  gone = λ k low high. elim (cases_lt k key) [
    | inl less ↦ last k (are.gone k low less)
    | inr least ↦ subst (λ k. get_or after (k % 49152) 0 ≡ 4294967295) (omega (arith, least, high)) here
  ];
  each = λ k. elim (cases_lt k (key % 49152)) [
    | inl less ↦ other k (λ e. omega (arith, less, e))
    | inr from ↦ elim (cases_lt (key % 49152) k) [
      | inl more ↦ other k (λ e. omega (arith, more, e))
      | inr to ↦ inr (subst (λ k. get_or after k 0 ≡ 4294967295) (omega (arith, from, to)) here)
    ]
  ];
}
  where
    here : get_or after (key % 49152) 0 ≡ 4294967295
    here = ap (λ l. get_or l (key % 49152) 0) now ∙ get_or-set_same mid (key % 49152) 4294967295 0 (omega (arith, long))

    stays : (k : ℕ) → (k ≡ key % 49152 → ⊥) → get_or after k 0 ≡ get_or mid k 0
    stays k apart = ap (λ l. get_or l k 0) now ∙ get_or-set_other mid (key % 49152) k 4294967295 0 apart

    other : (k : ℕ) → (k ≡ key % 49152 → ⊥) → (get_or after k 0 ≡ get_or before k 0) ⊎ (get_or after k 0 ≡ 4294967295)
    other k apart = elim (are.each k) [
      | inl same ↦ inl (stays k apart ∙ same)
      | inr none ↦ inr (stays k apart ∙ none)
    ]

    last : (k : ℕ) → get_or mid (k % 49152) 0 ≡ 4294967295 → get_or after (k % 49152) 0 ≡ 4294967295
    last k was = elim (cases_lt (k % 49152) (key % 49152)) [
      | inl less ↦ stays (k % 49152) (λ e. omega (arith, less, e)) ∙ was
      | inr from ↦ elim (cases_lt (key % 49152) (k % 49152)) [
        | inl more ↦ stays (k % 49152) (λ e. omega (arith, more, e)) ∙ was
        | inr to ↦ subst (λ k. get_or after k 0 ≡ 4294967295) (omega (arith, from, to)) here
      ]
    ]

-- the lists are those before, without these keys
pub all_gone : (from end : ℕ) (old new : RecentLists) → new.tags.value ≡ old.tags.value → new.counts.value ≡ old.counts.value → new.numbers ≡ old.numbers → new.most ≡ old.most
    → AreStarts from end old.starts.value new.starts.value → IsWithoutKeys from end old new
all_gone from end old new tags counts numbers most starts = record {
  within = λ was. record {
    tags = ap length tags ∙ was.tags;
    starts = starts.long ∙ was.starts;
    counts = ap length counts ∙ was.counts;
    most = subst (λ n. n < 2 ^ 31) (sym most) was.most;
    each = λ k low some.
        let same = start k some in
        subst (λ s. s + get_or new.counts.value k 0 ≤ length (numbers_of new)) (sym same)
        (subst (λ n. get_or old.starts.value k 0 + n ≤ length (numbers_of new)) (sym (ap (λ l. get_or l k 0) counts))
        (subst (λ (l : List ℕ). get_or old.starts.value k 0 + get_or old.counts.value k 0 ≤ length l) (sym (ap numbers_in numbers))
        (was.each k low (subst (λ s. s < 4294967295) same some))));
    few = subst (λ (l : List ℕ). length l ≤ new.most) (sym (ap numbers_in numbers)) (subst (λ n. length (numbers_of old) ≤ n) (sym most) was.few);
  };
  none = λ key list low high kept. omega (arith, kept.noted.some, starts.gone key low high);
  kept = λ key list kept.
      let place : ℕ = key % 49152 in
      let same = start place kept.noted.some in
      record {
        noted = record {
          tag = sym (ap (λ l. get_or l place 0) tags) ∙ kept.noted.tag;
          some = subst (λ s. s < 4294967295) same kept.noted.some;
        };
        list_is = kept.list_is ∙ (ap₂ (λ n s. take n (drop s (numbers_of new))) (ap (λ l. get_or l place 0) counts) same
            ∙ ap (λ l. take (get_or old.counts.value place 0) (drop (get_or old.starts.value place 0) l)) (ap numbers_in numbers));
      };
}
  where
    start : (k : ℕ) → get_or new.starts.value k 0 < 4294967295 → get_or new.starts.value k 0 ≡ get_or old.starts.value k 0
    start k some = elim (starts.each k) [
      | inl same ↦ same
      | inr none ↦ absurd (omega (arith, some, none))
    ]

-- ---- the lists of rows

-- no list of the rows from one along y to before another is kept any more in these slices of points, and each one that is was kept before
pub record AreWithoutRows (first_y end_y first_z end_z ny : ℕ) (before after : RecentLists) : Type 0 where
  pub within : AreWithin before → AreWithin after
  pub none : (y z key : ℕ) (list : List ℕ) → first_y ≤ y → y < end_y → first_z ≤ z → z < end_z
      → 3 * (y + ny * z) ≤ key → key < 3 * (y + ny * z) + 3 → IsKept after key list → ⊥
  pub kept : (key : ℕ) (list : List ℕ) → IsKept after key list → IsKept before key list

pub no_rows : (first_y end_y first_z ny : ℕ) (lists : RecentLists) → AreWithoutRows first_y end_y first_z first_z ny lists lists
no_rows first_y end_y first_z ny lists = record {
  within = λ h. h;
  none = λ y z key list from_y to_y from_z to_z low high kept. absurd (omega (arith, from_z, to_z));
  kept = λ key list kept. kept;
}

-- those of one slice more
pub rows_more : (first_y end_y first_z z ny : ℕ) (old mid new : RecentLists) → AreWithoutRows first_y end_y first_z z ny old mid
    → IsWithoutKeys (3 * (first_y + ny * z)) (3 * (end_y + ny * z)) mid new → AreWithoutRows first_y end_y first_z (z + 1) ny old new
rows_more first_y end_y first_z z ny old mid new are more = record {
  within = λ h. more.within (are.within h);
  none = λ y z' key list from_y to_y from_z to_z low high kept. elim (cases_lt z' z) [
    | inl less ↦ are.none y z' key list from_y to_y from_z less low high (more.kept key list kept)
    | inr least ↦ here y z' key list from_y to_y (omega (arith, least, to_z)) low high kept
  ];
  kept = λ key list kept. are.kept key list (more.kept key list kept);
}
  where
    here : (y z' key : ℕ) (list : List ℕ) → first_y ≤ y → y < end_y → z' ≡ z → 3 * (y + ny * z') ≤ key → key < 3 * (y + ny * z') + 3 → IsKept new key list → ⊥
    here y z' key list from_y to_y same low high kept =
        let first : 3 * (y + ny * z) ≤ key = subst (λ z. 3 * (y + ny * z) ≤ key) same low in
        let last : key < 3 * (y + ny * z) + 3 = subst (λ z. key < 3 * (y + ny * z) + 3) same high in
        more.none key list (omega (arith, first, from_y)) (omega (arith, last, to_y)) kept
