-- What a loop more adds to the numbers of loops.
use Rattle.std.proofs.Common.{◌≡◌, ◌∙◌, ℕ, zero, suc, ◌+◌, pos, ◌+ℤ◌, Bool, cond, List, length, sym, ap, arith, ltb}
use Rattle.std.proofs.lemmas.Int.{ints}
use Rattle.std.proofs.lemmas.List.{length-map}
use Rattle.std.specs.List.{count_by}
use Rattle.iso_defs.specs.Cell.{cell_edge}
use Rattle.iso_defs.specs.Lists.{around}
use Rattle.iso_defs.specs.Manifold.{share_outer_plane}
use Rattle.iso_defs.specs.Scratch.{has_centre}
use Rattle.flat_mesh.specs.Lattice.{Leveled}
use Rattle.part_laws.specs.Loops.{Loop}
use Rattle.component_walk.specs.Counts.{counted, number}
use Rattle.component_walk.specs.Sums.{IsLoopIn, steps_on}
use Rattle.component_walk.specs.declared.tally.LoopCounts.{LoopCounts}
use Rattle.component_walk.proofs.BorderSteps.{steps_named}

pub plus_none : (a : ℕ) → a ≡ a + 0
plus_none a = omega arith

module _ (v : Leveled) (q : ℕ) (es : List ℕ) (l : Loop) (h : IsLoopIn v q es l) where
  long : length l.1 ≡ length es
  long = ap (λ (k : Loop). length k.1) h.is ∙ length-map es (cell_edge v.grid q)

  outer : steps_on v.grid q es ≡ count_by (λ (p : ℕ × ℕ). share_outer_plane v.grid p.0 p.1) (around l.1)
  outer = steps_named v.grid q es ∙ ap (λ (k : Loop). count_by (λ (p : ℕ × ℕ). share_outer_plane v.grid p.0 p.1) (around k.1)) (sym h.is)

  plus_is : (a b n : ℕ) → a ≡ b + n → pos a ≡ pos b +ℤ pos n
  plus_is a b n e = omega (arith, ints, e)

  pub counts_more : (old new : LoopCounts) (t : Bool) → ltb 3 (length es) ≡ t → new.threes ≡ old.threes + cond t 0 1 → new.centres ≡ old.centres + cond t 1 0
      → new.spokes ≡ old.spokes + cond t (length es) 0 → new.border ≡ old.border + steps_on v.grid q es → (i : ℕ) → number new i ≡ number old i +ℤ counted v i l
  counts_more old new t e threes centres spokes border zero =
      plus_is new.threes old.threes (cond (has_centre l) 0 1) (threes ∙ ap (λ b. old.threes + cond b 0 1) (sym (ap (ltb 3) long ∙ e)))
  counts_more old new t e threes centres spokes border (suc zero) =
      plus_is new.centres old.centres (cond (has_centre l) 1 0) (centres ∙ ap (λ b. old.centres + cond b 1 0) (sym (ap (ltb 3) long ∙ e)))
  counts_more old new t e threes centres spokes border (suc (suc zero)) =
      plus_is new.spokes old.spokes (cond (has_centre l) (length l.1) 0)
      (spokes ∙ (ap (λ b. old.spokes + cond b (length es) 0) (sym (ap (ltb 3) long ∙ e)) ∙ ap (λ n. old.spokes + cond (has_centre l) n 0) (sym long)))
  counts_more old new t e threes centres spokes border (suc (suc (suc zero))) =
      plus_is new.border old.border (count_by (λ (p : ℕ × ℕ). share_outer_plane v.grid p.0 p.1) (around l.1)) (border ∙ ap (λ n. old.border + n) outer)
  counts_more old new t e threes centres spokes border (suc (suc (suc (suc i)))) = plus_is 0 0 0 (omega arith)
