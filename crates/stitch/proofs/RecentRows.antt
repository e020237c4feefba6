-- Lists that are kept while others are put.
use Rattle.std.proofs.Common.{◌≡◌, ℕ, ◌+◌, ◌-◌, ◌/◌, ◌%◌, ◌<◌, ◌≤◌, ◌++◌, refl, List, drop, take, get_or, length, set, sym, ◌∙◌, ap, ap₂, subst, arith, inl, inr, ◌⊎◌}
use Rattle.std.proofs.lemmas.Bool.{cases_lt}
use Rattle.std.proofs.lemmas.List.{get_or-append_right, get_or_append_left, length-append, ext_get_or, get_or-drop, get_or-set_other, get_or-set_same, get_or-take, length-drop, length-take-le, length-set}
use Rattle.stitch.specs.declared.recent.RecentLists.{RecentLists}
use Rattle.stitch.specs.Recent.{AreWithin, IsKept, IsPut, numbers_of}

-- a part of a list that another one has too
pub same_part : (xs ys : List ℕ) (a n : ℕ) → a + n ≤ length xs → length xs ≤ length ys → ((i : ℕ) → i < n → get_or ys (a + i) 0 ≡ get_or xs (a + i) 0)
    → take n (drop a ys) ≡ take n (drop a xs)
same_part xs ys a n room longer each =
    let long : length (take n (drop a xs)) ≡ n = let d = length-drop a xs in length-take-le n (drop a xs) (omega (arith, d, room)) in
    let other : length (take n (drop a ys)) ≡ n = let d = length-drop a ys in length-take-le n (drop a ys) (omega (arith, d, room, longer)) in
    ext_get_or 0 (take n (drop a ys)) (take n (drop a xs)) (other ∙ sym long) (λ i low.
    let within : i < n = omega (arith, low, other) in
    get_or-take n (drop a ys) i 0 within ∙ (get_or-drop a ys i 0 ∙ (each i within ∙ (sym (get_or-drop a xs i 0) ∙ sym (get_or-take n (drop a xs) i 0 within)))))

-- one list more is put behind the others
module _ (old new : RecentLists) (key : ℕ) (list : List ℕ) (within : AreWithin old) (same_most : new.most ≡ old.most)
    (tags : new.tags.value ≡ set old.tags.value (key % 49152) (key / 49152)) (starts : new.starts.value ≡ set old.starts.value (key % 49152) (length (numbers_of old)))
    (counts : new.counts.value ≡ set old.counts.value (key % 49152) (length list))
    (room : length (numbers_of old) + length list ≤ old.most)
    (numbers : numbers_of new ≡ numbers_of old ++ list) where
  abbrev next : ℕ
  next = length (numbers_of old)

  long : length (numbers_of new) ≡ next + length list
  long = ap length numbers ∙ length-append (numbers_of old) list

  inside : (i : ℕ) → i < length list → get_or (numbers_of new) (next + i) 0 ≡ get_or list i 0
  inside i low =
      let back : next + i - next ≡ i = omega arith in
      ap (λ (l : List ℕ). get_or l (next + i) 0) numbers
      ∙ (get_or-append_right (numbers_of old) list next (next + i) 0 refl (omega arith) ∙ ap (λ (k : ℕ). get_or list k 0) back)

  before : (p : ℕ) → p < next → get_or (numbers_of new) p 0 ≡ get_or (numbers_of old) p 0
  before p low = ap (λ (l : List ℕ). get_or l p 0) numbers ∙ get_or_append_left (numbers_of old) list 0 p low

  abbrev place : ℕ → ℕ
  place k = k % 49152

  own_tag : get_or new.tags.value (place key) 0 ≡ key / 49152
  own_tag = ap (λ l. get_or l (place key) 0) tags ∙ get_or-set_same old.tags.value (place key) (key / 49152) 0 (omega (arith, within.tags))

  own_start : get_or new.starts.value (place key) 0 ≡ next
  own_start = ap (λ l. get_or l (place key) 0) starts ∙ get_or-set_same old.starts.value (place key) next 0 (omega (arith, within.starts))

  own_count : get_or new.counts.value (place key) 0 ≡ length list
  own_count = ap (λ l. get_or l (place key) 0) counts ∙ get_or-set_same old.counts.value (place key) (length list) 0 (omega (arith, within.counts))

  written : take (length list) (drop next (numbers_of new)) ≡ list
  written =
      let count : length (take (length list) (drop next (numbers_of new))) ≡ length list
      = let d = length-drop next (numbers_of new) in length-take-le (length list) (drop next (numbers_of new)) (omega (arith, d, long)) in
      ext_get_or 0 (take (length list) (drop next (numbers_of new))) list count (λ i low.
      let few : i < length list = omega (arith, low, count) in
      get_or-take (length list) (drop next (numbers_of new)) i 0 few ∙ (get_or-drop next (numbers_of new) i 0 ∙ inside i few))

  same_place : (k : ℕ) (l : List ℕ) → place k ≡ place key → IsKept new k l → IsPut key list k l
  same_place k l same kept =
      let tag : k / 49152 ≡ key / 49152 = sym kept.noted.tag ∙ (ap (λ p. get_or new.tags.value p 0) same ∙ own_tag) in
      let count : get_or new.counts.value (place k) 0 ≡ length list = ap (λ p. get_or new.counts.value p 0) same ∙ own_count in
      let start : get_or new.starts.value (place k) 0 ≡ next = ap (λ p. get_or new.starts.value p 0) same ∙ own_start in
      record {
        same_key = omega (arith, tag, same);
        same_list = kept.list_is ∙ (ap₂ (λ n s. take n (drop s (numbers_of new))) count start ∙ written);
      }

  same_start : (k : ℕ) → (k ≡ place key → ⊥) → get_or new.starts.value k 0 ≡ get_or old.starts.value k 0
  same_start k other = ap (λ l. get_or l k 0) starts ∙ get_or-set_other old.starts.value (place key) k _ 0 other

  same_count : (k : ℕ) → (k ≡ place key → ⊥) → get_or new.counts.value k 0 ≡ get_or old.counts.value k 0
  same_count k other = ap (λ l. get_or l k 0) counts ∙ get_or-set_other old.counts.value (place key) k _ 0 other

  other_place : (k : ℕ) (l : List ℕ) → (place k ≡ place key → ⊥) → IsKept new k l → IsKept old k l
  other_place k l other kept =
      let tag : get_or new.tags.value (place k) 0 ≡ get_or old.tags.value (place k) 0 = ap (λ l. get_or l (place k) 0) tags ∙ get_or-set_other old.tags.value (place key) (place k) _ 0 other in
      let start = same_start (place k) other in
      let count = same_count (place k) other in
      let s : ℕ = get_or old.starts.value (place k) 0 in
      let n : ℕ = get_or old.counts.value (place k) 0 in
      let some : s < 4294967295 = omega (arith, kept.noted.some, start) in
      let lies : s + n ≤ length (numbers_of old) = within.each (place k) (omega arith) some in
      record {
        noted = record { tag = sym tag ∙ kept.noted.tag; some = some };
        list_is = kept.list_is ∙ (ap₂ (λ n s. take n (drop s (numbers_of new))) count start
            ∙ same_part (numbers_of old) (numbers_of new) s n (omega (arith, lies)) (omega (arith, long)) (λ i low. before (s + i) (omega (arith, lies, low))));
      }

  pub put_each : (k : ℕ) (l : List ℕ) → IsKept new k l → IsPut key list k l ⊎ IsKept old k l
  put_each k l kept = elim (cases_lt (place k) (place key)) [
    | inl less ↦ inr (other_place k l (λ e. omega (arith, less, e)) kept)
    | inr from ↦ elim (cases_lt (place key) (place k)) [
      | inl more ↦ inr (other_place k l (λ e. omega (arith, more, e)) kept)
      | inr to ↦ inl (same_place k l (omega (arith, from, to)) kept)
    ]
  ]

  abbrev IsBefore : ℕ → Type 0
  IsBefore k = get_or new.starts.value k 0 < 4294967295 → get_or new.starts.value k 0 + get_or new.counts.value k 0 ≤ length (numbers_of new)

  before_at : (k : ℕ) → k < 49152 → IsBefore k
  before_at k low = elim (cases_lt k (place key)) [
    | inl less ↦ stays k low (λ e. omega (arith, less, e))
    | inr from ↦ elim (cases_lt (place key) k) [
      | inl more ↦ stays k low (λ e. omega (arith, more, e))
      | inr to ↦ subst IsBefore (omega (arith, from, to)) own
    ]
  ]
    where
      own : IsBefore (place key)
      own some = omega (arith, own_start, own_count, long)

      stays : (k : ℕ) → k < 49152 → (k ≡ place key → ⊥) → IsBefore k
      stays k low other some =
          let start = same_start k other in
          let count = same_count k other in
          let was = within.each k low (omega (arith, some, start)) in
          omega (arith, start, count, was, long)

  pub put_within : AreWithin new
  put_within = record {
    tags = ap length tags ∙ (length-set old.tags.value (place key) _ ∙ within.tags);
    starts = ap length starts ∙ (length-set old.starts.value (place key) _ ∙ within.starts);
    counts = ap length counts ∙ (length-set old.counts.value (place key) _ ∙ within.counts);
    most = omega (arith, within.most, same_most);
    each = before_at;
    few = omega (arith, long, room, same_most);
  }
