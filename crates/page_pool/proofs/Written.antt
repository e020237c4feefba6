-- Laws of lists of which a front was written.
use Rattle.std.proofs.Common.{◌≡◌, ℕ, suc, ◌+◌, ◌-◌, ◌<◌, ◌≤◌, List, [], ◌∷◌, ◌++◌, length, get_or, map, replicate, set, Option, None, Some, Bor, refl, sym, ◌∙◌, ap, subst, arith, length-append, length-set}
use Rattle.std.specs.List.{range_with_len, slice_get, HoldsAt}
use Rattle.std.specs.Option.{MatchOption}
use Rattle.std.proofs.lemmas.List.{set-append_left, append_assoc, get_or_append_left, get_or-append_right, ext_get_or, length-replicate, get_or-replicate}
use Rattle.std.proofs.lemmas.List.FromFn.{length-map-range_with_len, get_or-map-range_with_len}
use Rattle.std.proofs.lemmas.Option.{slice_get-get_or}
use Rattle.iso_defs.specs.Lists.{below}
use Rattle.page_pool.specs.Layout.{all_items}

module _ {A : Type 0} (blank : ℕ → A) where
  -- all items are there
  pub length-all_items : (written : List A) (total : ℕ) → length written ≤ total → length (all_items blank written total) ≡ total
  length-all_items written total low =
      let a = length-append written (map blank (range_with_len (length written) (total - length written))) in
      let b = length-map-range_with_len blank (length written) (total - length written) in
      omega arith

  -- one blank item that is written makes no difference
  pub items_reached : (written : List A) (total : ℕ) → length written < total
      → all_items blank (written ++ blank (length written) ∷ []) total ≡ all_items blank written total
  items_reached written total low =
      let n : ℕ = length written in
      let count : length (written ++ blank n ∷ []) ≡ n + 1 = (let a = length-append written (blank n ∷ []) in omega arith) in
      let left : total - n ≡ suc (total - (n + 1)) = omega arith in
      ap (λ m. (written ++ blank n ∷ []) ++ map blank (range_with_len m (total - m))) count
      ∙ (append_assoc written (blank n ∷ []) (map blank (range_with_len (n + 1) (total - (n + 1))))
      ∙ ap (λ m. written ++ map blank (range_with_len n m)) (sym left))

  -- an item that is written is that of all
  pub items_put : (written : List A) (at total : ℕ) (item : A) → at < length written
      → all_items blank (set written at item) total ≡ set (all_items blank written total) at item
  items_put written at total item low =
      ap (λ m. set written at item ++ map blank (range_with_len m (total - m))) (length-set written at item)
      ∙ sym (set-append_left written (map blank (range_with_len (length written) (total - length written))) at item low)

  -- an item behind those that were written is blank
  pub blank_item : (written all : List A) (at total : ℕ) → all_items blank written total ≡ all → length written ≤ at → at < total
      → slice_get all at ≡ Some (blank at)
  blank_item written all at total view past low = subst (λ l. slice_get l at ≡ Some (blank at)) view (
      let n : ℕ = length written in
      let count : length (all_items blank written total) ≡ total = length-all_items written total (omega arith) in
      slice_get-get_or (all_items blank written total) at (blank at) (omega arith)
      ∙ ap (λ x. Some x) (get_or-append_right written (map blank (range_with_len n (total - n))) n at (blank at) refl past
      ∙ get_or-map-range_with_len blank n (total - n) (at - n) at (blank at) (omega arith) (omega arith)))

  -- one that was written is that of all
  pub written_item : (written all : List A) (at total : ℕ) (item : A) → all_items blank written total ≡ all
      → at < length written → item ≡ get_or written at item → slice_get all at ≡ Some item
  written_item written all at total item view low is = subst (λ l. slice_get l at ≡ Some item) view (
      let rest : List A = map blank (range_with_len (length written) (total - length written)) in
      let size = length-append written rest in
      slice_get-get_or (all_items blank written total) at item (omega arith)
      ∙ ap (λ x. Some x) (get_or_append_left written rest item at low ∙ sym is))

  -- what a look-up among the written items tells of all
  pub found_item : (written all : List A) (at total : ℕ) (found : Option (Bor A)) → all_items blank written total ≡ all
      → at < total
      → MatchOption found (length written ≤ at) (λ x. (at < length written) × HoldsAt (λ y. x.now ≡ y) written at)
      → MatchOption found (slice_get all at ≡ Some (blank at)) (λ item. slice_get all at ≡ Some item.now)
  found_item written all at total None view low past =
      blank_item written all at total view past low
  found_item written all at total (Some x) view low here =
      written_item written all at total x.now view here.0 (here.1 x.now)

-- items that are the same at each place
pub same_items : {A : Type 0} (item : A) (n : ℕ) → map (λ _. item) (below n) ≡ replicate n item
same_items item n =
    let a = length-map-range_with_len (λ _. item) 0 n in
    let b = length-replicate n item in
    ext_get_or item (map (λ _. item) (below n)) (replicate n item) (a ∙ sym b)
    (λ i low. get_or-map-range_with_len (λ _. item) 0 n i i item (omega arith) (omega arith) ∙ sym (get_or-replicate n i item item (omega arith)))
