-- The sign bytes of a slice of cells of a brick, and the runs of entries up to a cell of it.
use Rattle.std.proofs.Common.{◌≡◌, ◌∙◌, ℕ, ◌+◌, ◌-◌, ◌*◌, ◌<◌, ◌≤◌, ◌++◌, ◌==◌, ◌&&◌, ◌||◌, Bool, true, false, not, cond, List, [], get_or, sym, ap, ap₂, subst, refl, inl, inr, arith, append-nil}
use Rattle.std.proofs.lemmas.Bool.{cases_Bool, cases_lt}
use Rattle.iso_defs.specs.Bricks.{bits_of, brick_cell, has_cell, is_mixed}
use Rattle.iso_defs.specs.Cell.{cell_signs}
use Rattle.brick_mesh.specs.Block.{BrickAt, IsCell, heights}
use Rattle.brick_mesh.specs.Entries.{entries_from}
use Rattle.brick_mesh.specs.Signs.{AreBytes, AreSlice}
use Rattle.brick_mesh.proofs.Mixed.{mixed_by_byte}
use Rattle.brick_mesh.proofs.Runs.{entries_join, entries_none, is_active_in}

-- a row of sign bytes behind those of the rows before it
pub slice_put : (b : BrickAt) (z y start : ℕ) (old new row : List ℕ) → start ≡ 8 * y → AreSlice b z (8 * y) old → AreBytes b (y + 8 * z) row
    → ((x : ℕ) → x < 8 → get_or new (start + x) 0 ≡ get_or row x 0) → ((k : ℕ) → k < start → get_or new k 0 ≡ get_or old k 0)
    → AreSlice b z (8 * (y + 1)) new
slice_put b z y start old new row at are is inside before k low there =
    elim (cases_lt k start) [
      | inl less ↦ ap (bits_of 8) (before k less) ∙ are k (omega (arith, less, at)) there
      | inr more ↦ (let x : ℕ = k - start in
          let here : start + x ≡ k = omega (arith, more) in
          let few : x < 8 = omega (arith, low, at, more) in
          let cell : 8 * (y + 8 * z) + x ≡ 64 * z + k = omega (arith, at, more) in
          let got : IsCell b (8 * (y + 8 * z) + x) = subst (IsCell b) (sym cell) there in
          ap (bits_of 8) (ap (λ j. get_or new j 0) (sym here) ∙ inside x few)
          ∙ (is x few got ∙ ap (λ q. cell_signs b.grid (heights b) (brick_cell b.grid b.brick q)) cell))
    ]

-- a cell that is not there has no entry
pub entry_gone : (b : BrickAt) (cell : ℕ) → has_cell b.grid b.brick cell ≡ false → entries_from b cell 1 ≡ []
entry_gone b cell gone =
    entries_none b cell 1 (λ k low high.
    (let here : cell ≡ k = omega arith in
    let none : has_cell b.grid b.brick k ≡ false = subst (λ j. has_cell b.grid b.brick j ≡ false) here gone in
    ap (λ h. h && is_mixed (cell_signs b.grid (heights b) (brick_cell b.grid b.brick k))) none))

-- nor has one whose byte is 0 or 255
pub slice_quiet : (b : BrickAt) (z k : ℕ) (bytes : List ℕ) → z < 8 → k < 64 → AreSlice b z 64 bytes → get_or bytes k 0 < 256
    → cond {A = ℕ} (get_or bytes k 0 == 0 || get_or bytes k 0 == 255) 0 1 ≡ 0 → is_active_in b (64 * z + k) ≡ false
slice_quiet b z k bytes slice low are small none =
    let cell : ℕ = 64 * z + k in
    let byte : ℕ = get_or bytes k 0 in
    elim (cases_Bool (has_cell b.grid b.brick cell)) [
      | inl there ↦ (let local : cell < 512 = omega (arith, slice, low) in
          let bits = are k low (record { local = local; there = there }) in
          ap₂ ◌&&◌ there (ap is_mixed (sym bits) ∙ (sym (mixed_by_byte byte small) ∙ alike (byte == 0) (byte == 255) none)))
      | inr not ↦ ap (λ h. h && is_mixed (cell_signs b.grid (heights b) (brick_cell b.grid b.brick cell))) not
    ]
  where
    alike : (p q : Bool) → cond {A = ℕ} (p || q) 0 1 ≡ 0 → (not p && not q) ≡ false
    alike true q e = refl
    alike false true e = refl
    alike false false e = absurd (omega (arith, e))

-- cells without an entry add nothing to a run
pub still_run : (b : BrickAt) (first count : ℕ) → ((k : ℕ) → k < count → is_active_in b (first + k) ≡ false)
    → entries_from b 0 first ≡ entries_from b 0 (first + count)
still_run b first count still =
    let none : entries_from b first count ≡ []
    = entries_none b first count (λ k low high.
    (let here : first + (k - first) ≡ k = omega (arith, low) in
    subst (λ j. is_active_in b j ≡ false) here (still (k - first) (omega (arith, low, high))))) in
    sym (entries_join b first count ∙ (ap (λ l. entries_from b 0 first ++ l) none ∙ append-nil (entries_from b 0 first)))

-- the entry of a cell behind a run, with cells between them that have none
pub next_run : (b : BrickAt) (first count cell : ℕ) (old new : List ℕ) → cell ≡ first + count → ((k : ℕ) → k < count → is_active_in b (first + k) ≡ false)
    → old ≡ entries_from b 0 first → new ≡ old ++ entries_from b cell 1 → new ≡ entries_from b 0 (first + count + 1)
next_run b first count cell old new at still is more =
    more ∙ (ap₂ (λ l k. l ++ entries_from b k 1) (is ∙ still_run b first count still) at ∙ sym (entries_join b (first + count) 1))
