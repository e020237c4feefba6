-- The case of a cell by a list of entries, one after the other.
use Rattle.std.proofs.Common.{◌≡◌, ◌∙◌, ℕ, suc, ◌+◌, ◌*◌, ◌/◌, ◌%◌, ◌<◌, ◌≤◌, ◌++◌, Bool, true, false, cond, List, [], ◌∷◌, length, get_or, take, drop, refl, sym, ap, subst, arith, eqb, ltb, ltb-true, ne_eqb, inl, inr}
use Rattle.std.specs.List.Sorted.{IsPartitionedBy}
use Rattle.std.proofs.lemmas.Bool.{cases_lt, lt-ltb}
use Rattle.std.proofs.lemmas.List.{get_or-drop, get_or-take, length-drop, length-take, take-append-drop, take_more}
use Rattle.cached_mesh.specs.Kept.{last_case}

-- one entry more
case_more : (other : ℕ) (es : List ℕ) (e cell : ℕ) → last_case other (es ++ e ∷ []) cell ≡ cond (eqb (e / 1024) cell) (e % 1024) (last_case other es cell)
case_more other [] e cell = refl
case_more other (x ∷ es) e cell = case_more (cond (eqb (x / 1024) cell) (x % 1024) other) es e cell

-- entries that are not of the cell
pub no_case : (other : ℕ) (es : List ℕ) (cell : ℕ) → ((k : ℕ) → k < length es → eqb (get_or es k 0 / 1024) cell ≡ false) → last_case other es cell ≡ other
no_case other [] cell none = refl
no_case other (x ∷ es) cell none =
    ap (λ t. last_case (cond t (x % 1024) other) es cell) (none 0 (omega arith)) ∙ no_case other es cell (λ k low. none (suc k) (omega arith))

-- one list behind another
case_join : (other : ℕ) (es fs : List ℕ) (cell : ℕ) → last_case other (es ++ fs) cell ≡ last_case (last_case other es cell) fs cell
case_join other [] fs cell = refl
case_join other (x ∷ es) fs cell = case_join (cond (eqb (x / 1024) cell) (x % 1024) other) es fs cell

-- where entries are parted, so are those of a part of them
module _ (p : ℕ → Bool) (es : List ℕ) (parted : IsPartitionedBy p es) (n : ℕ) where
  pub parted_take : IsPartitionedBy p (take n es)
  parted_take i j d order low is =
      let long = length-take n es in
      subst (λ e. p e ≡ true) (sym (get_or-take n es i d (omega arith)))
      (parted i j d order (omega arith) (subst (λ e. p e ≡ true) (get_or-take n es j d (omega arith)) is))

  pub parted_drop : IsPartitionedBy p (drop n es)
  parted_drop i j d order low is =
      let long = length-drop n es in
      subst (λ e. p e ≡ true) (sym (get_or-drop n es i d))
      (parted (n + i) (n + j) d (omega arith) (omega arith) (subst (λ e. p e ≡ true) (get_or-drop n es j d) is))

-- entries of slices behind some are of none of their cells
pub none_behind : (end : ℕ) (es : List ℕ) → IsPartitionedBy (λ e. ltb e (65536 * end)) es → (0 < length es → 65536 * end ≤ get_or es 0 0)
    → (other k : ℕ) → k < 64 * end → last_case other es k ≡ other
none_behind end es parted first other k low = no_case other es k (λ j there.
    let from : 65536 * end ≤ get_or es 0 0 = first (omega arith) in
    let behind : 65536 * end ≤ get_or es j 0 = elim (cases_lt (get_or es j 0) (65536 * end)) [
      | inl less ↦ absurd (let l = ltb-true _ _ (parted 0 j 0 (omega arith) there (lt-ltb _ _ less)) in omega (arith, l, from))
      | inr from ↦ from
    ] in
    ne_eqb (get_or es j 0 / 1024) k (omega (arith, behind, low)))

-- and so are those of slices before them
pub none_before : (first : ℕ) (es : List ℕ) → ((i : ℕ) → i < length es → get_or es i 0 < 65536 * first)
    → (other k : ℕ) → 64 * first ≤ k → last_case other es k ≡ other
none_before first es before other k from = no_case other es k (λ j there.
    ne_eqb (get_or es j 0 / 1024) k (omega (arith, before j there, from)))

-- one entry of a list more
pub case_next : (other : ℕ) (es : List ℕ) (at cell : ℕ) → at < length es
    → last_case (last_case other (take at es) cell) (get_or es at 0 ∷ []) cell ≡ last_case other (take (at + 1) es) cell
case_next other es at cell low =
    sym (ap (λ l. last_case other l cell) (take_more es at 0 low) ∙ case_more other (take at es) (get_or es at 0) cell)

-- a front of a list, and then the rest
pub case_rest : (other : ℕ) (es : List ℕ) (n cell : ℕ) → last_case (last_case other (take n es) cell) (drop n es) cell ≡ last_case other es cell
case_rest other es n cell = sym (case_join other (take n es) (drop n es) cell) ∙ ap (λ l. last_case other l cell) (take-append-drop n es)
