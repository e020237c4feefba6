-- A line step by step, for code that follows it.
use Rattle.std.proofs.Common.{◌≡◌, ℕ, false, List, [], ◌∷◌, length, refl, sym, ◌∙◌, ap, arith}
use Rattle.iso_defs.specs.Lists.{begins}
use Rattle.iso_defs.specs.Cell.{next_of}
use Rattle.iso_defs.specs.Contours.{trace}
use Rattle.triangle_laws.proofs.Lists.{In}
use Rattle.triangle_laws.proofs.Counts.{Distinct}
use Rattle.triangle_laws.proofs.FanWalk.{IsSingle, next_is, begins_from}
use Rattle.plane_laws.proofs.Walks.{Reached, Told, told, fresh, trace_on, trace_end, trace_back}

-- on the way from the start
pub record Going (ps : List (ℕ × ℕ)) (st e : ℕ) : Type 0 where
  pub pre : List ℕ
  pub reached : Reached ps st pre e
  pub differ : Distinct (e ∷ pre)

pub going_start : (ps : List (ℕ × ℕ)) (st : ℕ) → Going ps st st
going_start ps st = record { pre = []; reached = refl; differ = ((λ i. i), tt) }

module _ (ps : List (ℕ × ℕ)) (single : IsSingle ps) (st : ℕ) where
  pub going_on : (e n : ℕ) → Going ps st e → In (e, n) ps → (n ≡ st → ⊥) → Going ps st n
  going_on e n g i ne = record { pre = e ∷ g.pre; reached = (i, g.reached); differ = (fresh ps single st e g.pre n (i, g.reached) g.differ ne, g.differ) }

  pub goes : (e n : ℕ) → Going ps st e → In (e, n) ps → (n ≡ st → ⊥) → trace ps (length ps) st e ≡ e ∷ trace ps (length ps) st n
  goes e n g i ne =
      let q : next_of ps e ≡ n = next_is ps single st e n i in
      let t : Told ps single st (length ps) g.pre e = told ps single st (length ps) g.pre e g.reached g.differ (omega arith) in
      t.steady ∙ (trace_on ps single st (length ps) e (begins_from ps e n i) (λ k. ne (sym q ∙ k)) ∙ ap (λ z. e ∷ trace ps (length ps) st z) q)

  pub stops_back : (e : ℕ) → In (e, st) ps → trace ps (length ps) st e ≡ e ∷ []
  stops_back e i = trace_back ps single st (length ps) e (next_is ps single st e st i)

  pub stops_end : (e : ℕ) → begins ps e ≡ false → trace ps (length ps) st e ≡ e ∷ []
  stops_end e h = trace_end ps single st (length ps) e h
