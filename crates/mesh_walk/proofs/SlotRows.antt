-- What stands in the slots of the rows of points round a row of cells.
use Rattle.std.proofs.Common.{◌≡◌, ℕ, inl, inr, ◌+◌, ◌*◌, ◌%◌, ◌<◌, ◌≤◌, ◌⊎◌, List, [], ◌∷◌, get_or, true, refl, sym, ◌∙◌, ap, subst, arith}
use Rattle.std.proofs.lemmas.Bool.{cases_lt}
use Rattle.iso_defs.specs.Cell.{cell_edge}
use Rattle.iso_defs.specs.Grid.{is_crossing}
use Rattle.iso_base.specs.Volume.{IsGrid}
use Rattle.mesh_laws.proofs.Apart.{by_twelve}
use Rattle.flat_mesh.specs.Lattice.{Leveled, heights}
use Rattle.flat_mesh.specs.Rows.{row_start}
use Rattle.flat_mesh.specs.declared.centres.Cell.{Cell}
use Rattle.flat_mesh.specs.Centres.{IsCellAt}
use Rattle.mesh_walk.specs.Slots.{AreAround, AreLaid, AreLaidInBoth, IsReady, edge_slot, row_slot}
use Rattle.mesh_walk.proofs.CellRuns.{row_y, row_z}
use Rattle.mesh_walk.proofs.RankedRows.{few_rows, row_low}

-- the slots of the edges of the first cell of a row
pub slots_are : (y z near up far both : ℕ) → near ≡ row_slot y z → up ≡ row_slot (y + 1) z → far ≡ row_slot y (z + 1) → both ≡ row_slot (y + 1) (z + 1)
    → (slots : List ℕ)
    → slots ≡ near ∷ up ∷ far ∷ both ∷ (near + 1) ∷ (near + 4) ∷ (far + 1) ∷ (far + 4) ∷ (near + 2) ∷ (near + 5) ∷ (up + 2) ∷ (up + 5) ∷ []
    → (e : ℕ) → e < 12 → get_or slots e 0 ≡ edge_slot y z e
slots_are y z near up far both hn hu hf hb slots is e low =
    ap (λ l. get_or l e 0) is
    ∙ by_twelve (λ e. get_or (near ∷ up ∷ far ∷ both ∷ (near + 1) ∷ (near + 4) ∷ (far + 1) ∷ (far + 4) ∷ (near + 2) ∷ (near + 5) ∷ (up + 2) ∷ (up + 5) ∷ []) e 0 ≡ edge_slot y z e)
    (omega (arith, hn)) (omega (arith, hu)) (omega (arith, hf)) (omega (arith, hb))
    (omega (arith, hn)) (omega (arith, hn)) (omega (arith, hf)) (omega (arith, hf))
    (omega (arith, hn)) (omega (arith, hn)) (omega (arith, hu)) (omega (arith, hu)) e low

-- they lie within the slots of the four rows
pub slot_low : (y z e : ℕ) → e < 12 → edge_slot y z e ≤ 9239
slot_low y z =
    by_twelve (λ e. edge_slot y z e ≤ 9239)
    (omega arith) (omega arith) (omega arith) (omega arith) (omega arith) (omega arith) (omega arith) (omega arith) (omega arith) (omega arith) (omega arith) (omega arith)

module _ (at expected : ℕ → List ℕ) (v : Leveled) where
  -- nothing is known at first
  pub none_laid : (next : ℕ) → IsGrid v.grid → next ≡ 4294967295 → IsReady at expected v next
  none_laid next is none = record {
    next = λ y z hy hz e. absurd (let low = row_low v.grid y z (omega arith) (omega arith) in omega (arith, few_rows v.grid is, none, low, e));
  }

  -- a row stays when another one is laid, one that shares no slots with it
  pub laid_still : (new : ℕ → List ℕ) (y z y' z' : ℕ) → v.grid.nx ≤ 1026 → (row_slot y z + 3078 ≤ row_slot y' z') ⊎ (row_slot y' z' + 3078 ≤ row_slot y z)
      → ((i : ℕ) → i < row_slot y' z' → new i ≡ at i) → ((i : ℕ) → row_slot y' z' + 3078 ≤ i → new i ≡ at i) → AreLaid at expected v y z → AreLaid new expected v y z
  laid_still new y z y' z' width (inl apart) before behind laid = record { each = λ e low crossing. before (row_slot y z + e) (omega (arith, width, apart, low)) ∙ laid.each e low crossing }
  laid_still new y z y' z' width (inr apart) before behind laid = record { each = λ e low crossing. behind (row_slot y z + e) (omega (arith, apart)) ∙ laid.each e low crossing }

  -- the rows that are laid for the row of cells behind
  pub laid_next : (y z next : ℕ) → y + 1 < v.grid.ny → next ≡ y + v.grid.ny * z + 1 → AreAround at expected v y z → IsReady at expected v next
  laid_next y z next wide is are = record {
    next = λ b d hb hd e.
        let behind : y + 1 + v.grid.ny * z ≡ b + v.grid.ny * d = omega (arith, is, e) in
        let eb : y + 1 ≡ b = sym (row_y v.grid (y + 1) z (b + v.grid.ny * d) wide behind) ∙ row_y v.grid b d (b + v.grid.ny * d) (omega arith) refl in
        let ed : z ≡ d = sym (row_z v.grid (y + 1) z (b + v.grid.ny * d) wide behind) ∙ row_z v.grid b d (b + v.grid.ny * d) (omega arith) refl in
        subst (λ n. AreLaidInBoth at expected v n d) eb (subst (λ n. AreLaidInBoth at expected v (y + 1) n) ed (record { near = are.up; far = are.both }));
  }

  -- an edge of a row by its slot
  laid_at : (y z e slot name : ℕ) → AreLaid at expected v y z → e < 3 * v.grid.nx → slot ≡ row_slot y z + e → name ≡ 3 * row_start v.grid y z + e
      → is_crossing v.grid (heights v) name ≡ true → at slot ≡ expected name
  laid_at y z e slot name laid low there is crossing =
      ap at there ∙ (laid.each e low (subst (λ n. is_crossing v.grid (heights v) n ≡ true) is crossing) ∙ ap expected (sym is))

  -- what stands in the slot of a crossing edge of a cell
  pub edge_laid : (cell : Cell) → IsCellAt v.grid cell → AreAround at expected v cell.low.y cell.low.z → (e : ℕ) → e < 12
      → is_crossing v.grid (heights v) (cell_edge v.grid cell.index e) ≡ true
      → at (edge_slot cell.low.y cell.low.z e + 3 * cell.low.x) ≡ expected (cell_edge v.grid cell.index e)
  edge_laid cell is are e he =
      let i = is.index in
      let w = is.x in
      let x = cell.low.x in
      let y = cell.low.y in
      let z = cell.low.z in
      by_twelve (λ e. is_crossing v.grid (heights v) (cell_edge v.grid cell.index e) ≡ true → at (edge_slot y z e + 3 * x) ≡ expected (cell_edge v.grid cell.index e))
      (laid_at y z (3 * x) _ _ are.near (omega arith) (omega arith) (omega arith))
      (laid_at (y + 1) z (3 * x) _ _ are.up (omega arith) (omega arith) (omega arith))
      (laid_at y (z + 1) (3 * x) _ _ are.far (omega arith) (omega arith) (omega arith))
      (laid_at (y + 1) (z + 1) (3 * x) _ _ are.both (omega arith) (omega arith) (omega arith))
      (laid_at y z (3 * x + 1) _ _ are.near (omega arith) (omega arith) (omega arith))
      (laid_at y z (3 * x + 4) _ _ are.near (omega arith) (omega arith) (omega arith))
      (laid_at y (z + 1) (3 * x + 1) _ _ are.far (omega arith) (omega arith) (omega arith))
      (laid_at y (z + 1) (3 * x + 4) _ _ are.far (omega arith) (omega arith) (omega arith))
      (laid_at y z (3 * x + 2) _ _ are.near (omega arith) (omega arith) (omega arith))
      (laid_at y z (3 * x + 5) _ _ are.near (omega arith) (omega arith) (omega arith))
      (laid_at (y + 1) z (3 * x + 2) _ _ are.up (omega arith) (omega arith) (omega arith))
      (laid_at (y + 1) z (3 * x + 5) _ _ are.up (omega arith) (omega arith) (omega arith)) e he

-- the four rows round a row of cells, two of which were laid before the others
pub around_is : (first second third expected : ℕ → List ℕ) (v : Leveled) (y z : ℕ) → v.grid.nx ≤ 1026 → AreLaidInBoth first expected v y z
    → AreLaid second expected v (y + 1) z → ((i : ℕ) → i < row_slot (y + 1) z → second i ≡ first i) → ((i : ℕ) → row_slot (y + 1) z + 3078 ≤ i → second i ≡ first i)
    → AreLaid third expected v (y + 1) (z + 1) → ((i : ℕ) → i < row_slot (y + 1) (z + 1) → third i ≡ second i) → ((i : ℕ) → row_slot (y + 1) (z + 1) + 3078 ≤ i → third i ≡ second i)
    → AreAround third expected v y z
around_is first second third expected v y z width are up before behind both before' behind' =
    let still : (at new : ℕ → List ℕ) (a b c d : ℕ) → ¬ ((a + c) % 2 + (b + d) % 2 ≡ 0) → ((i : ℕ) → i < row_slot c d → new i ≡ at i)
    → ((i : ℕ) → row_slot c d + 3078 ≤ i → new i ≡ at i) → AreLaid at expected v a b → AreLaid new expected v a b
    = λ at new a b c d apart early late laid. laid_still at expected v new a b c d width (sides a b c d apart) early late laid in
    record {
      near = still second third y z (y + 1) (z + 1) (omega arith) before' behind' (still first second y z (y + 1) z (omega arith) before behind are.near);
      up = still second third (y + 1) z (y + 1) (z + 1) (omega arith) before' behind' up;
      far = still second third y (z + 1) (y + 1) (z + 1) (omega arith) before' behind' (still first second y (z + 1) (y + 1) z (omega arith) before behind are.far);
      both = both;
    }
  where
    sides : (a b c d : ℕ) → ¬ ((a + c) % 2 + (b + d) % 2 ≡ 0) → (row_slot a b + 3078 ≤ row_slot c d) ⊎ (row_slot c d + 3078 ≤ row_slot a b)
    sides a b c d apart = elim (cases_lt (row_slot a b) (row_slot c d)) [
      | inl low ↦ inl (omega (arith, low))
      | inr high ↦ inr (omega (arith, high, apart))
    ]
