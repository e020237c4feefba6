-- How many bricks a write asks for, and how many wait after a refresh.
use Rattle.std.proofs.Common.{◌≡◌, ◌∙◌, ℕ, ◌≤◌, Bool, true, false, not, cond, List, [], ◌∷◌, length, refl, sym, ap, arith, ℤ, Option, Some, None}
use Rattle.std.specs.Prelude.{is_some}
use Rattle.std.proofs.lemmas.Bool.{and_parts}
use Rattle.iso_defs.specs.Grid.{Grid}
use Rattle.std.specs.List.{filter}
use Rattle.std.proofs.lemmas.List.Sums.{length-filter}
use Rattle.iso_defs.specs.Lists.{below}
use Rattle.iso_defs.specs.Bricks.{brick_count, is_active}
use Rattle.iso_base.specs.Volume.{field}
use Rattle.mesh_cache.specs.Cache.{Cache, kept_at}
use Rattle.mesh_cache.specs.Economy.{Refresh, is_fresh, is_waiting, waiting}
use Rattle.mesh_cache.proofs.Refreshing.{refresh_keeps}
use Rattle.brick_rows.specs.Named.{asked_among, is_asked}
use Rattle.cached_mesh.specs.Kept.{Kept, named_by}

-- the bricks that are asked for are those that wait
pub asked_wait : (k : Kept)
    → asked_among k.volume.grid (field k.volume.samples k.level) (named_by k) 0 (brick_count k.volume.grid) ≡ length (waiting k.volume.grid k.volume.samples k.level k.cache.items)
unfolding asked_among is_asked
asked_wait k = sym (length-filter (is_waiting k.volume.grid k.volume.samples k.level k.cache.items) (below (brick_count k.volume.grid)))

fewer : (p q : ℕ → Bool) → ((k : ℕ) → p k ≡ true → q k ≡ true) → (xs : List ℕ) → length (filter p xs) ≤ length (filter q xs)
fewer p q more [] = omega arith
fewer p q more (x ∷ xs) = by_tests (p x) (q x) refl refl (fewer p q more xs)
  where
    by_tests : (s t : Bool) → p x ≡ s → q x ≡ t → length (filter p xs) ≤ length (filter q xs)
        → length (cond s (x ∷ filter p xs) (filter p xs)) ≤ length (cond t (x ∷ filter q xs) (filter q xs))
    by_tests true true e f few = omega arith
    by_tests true false e f few = absurd (clash (sym (more x e) ∙ f))
      where
        clash : true ≡ false → ⊥
        clash h = cc
    by_tests false true e f few = omega arith
    by_tests false false e f few = few

-- no more bricks wait after a refresh than before
pub fewer_wait : (g : Grid) (samples : List ℤ) (level : ℤ) (before after : Cache) (bricks : List ℕ) → Refresh g samples level before bricks after
    → length (waiting g samples level after.items) ≤ length (waiting g samples level before.items)
fewer_wait g samples level before after bricks r =
    fewer (is_waiting g samples level after.items) (is_waiting g samples level before.items) (λ k h. waited k h) (below (brick_count g))
  where
    still : (k : ℕ) (o : Option (List ℕ)) → kept_at k level before.items ≡ o → not (is_some (kept_at k level after.items)) ≡ true → not (is_some o) ≡ true
    still k None e h = refl
    still k (Some kept) e h = ap (λ o. not (is_some o)) (sym (refresh_keeps g samples level k kept r e)) ∙ h

    waited : (k : ℕ) → is_waiting g samples level after.items k ≡ true → is_waiting g samples level before.items k ≡ true
    waited k h =
        let parts = and_parts (is_active g (field samples level) k) (not (is_fresh k level after.items)) h in
        rw (parts.0, still k (kept_at k level before.items) refl parts.1) refl
