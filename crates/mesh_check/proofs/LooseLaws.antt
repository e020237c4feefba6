-- The arcs that begin where none ends, against the edges that one triangle alone has.
use Rattle.std.proofs.Common.{◌≡◌, ℕ, zero, suc, ◌*◌, ◌<◌, ◌≤◌, Bool, true, not, length, List, refl, sym, ◌∙◌, ap, subst, inl, inr, arith, eqb}
use Rattle.std.specs.List.{count_by, AllByRecursion}
use Rattle.std.proofs.lemmas.Bool.{cases_Bool, eq-eqb, eqb-true, ne_eqb, both_ways}
use Rattle.std.proofs.lemmas.List.Sums.{length-filter, count_by-le-length}
use Rattle.iso_defs.specs.Lists.{ends}
use Rattle.iso_defs.specs.Cell.{Triangle}
use Rattle.iso_defs.specs.Manifold.{HasThreeCorners, arcs, all_runs, times_run}
use Rattle.iso_defs.specs.Verdict.{border_count}
use Rattle.iso_base.specs.Triangles.{IsBelow}
use Rattle.triangle_laws.proofs.Lists.{In}
use Rattle.triangle_laws.proofs.Counts.{count_some, count_none, count_agree}
use Rattle.triangle_laws.proofs.FanWalk.{ends_in, ends_from}
use Rattle.triangle_laws.proofs.FanDecided.{arcs_end}
use Rattle.arc_rings.proofs.ArcLaws.{total_below, total_is, times_ended, runs_three}
use Rattle.mesh_check.specs.Judged.{loose_at, loose_below}

-- an arc that begins where none ends is a pair that is run in one direction alone
module _ (ts : List Triangle) (d : AllByRecursion HasThreeCorners ts) where
  abbrev alone : ℕ × ℕ → Bool
  alone p = eqb (times_run ts p.1 p.0) 0

  not_ends : (v c : ℕ) → not (ends (arcs ts v) c) ≡ alone (v, c)
  not_ends v c =
      let f : ℕ × ℕ → Bool = λ (p : ℕ × ℕ). eqb p.1 c in
      elim (cases_Bool (ends (arcs ts v) c)) [
        | inl e ↦ (
            let w : (b : ℕ) × In (b, c) (arcs ts v) = ends_in (arcs ts v) c e in
            let l : 0 < count_by f (arcs ts v) = count_some f (arcs ts v) (w.0, c) w.1 (eq-eqb c c refl) in
            let m : count_by f (arcs ts v) ≤ times_run ts c v = arcs_end ts v c in
            ap not e ∙ sym (ne_eqb (times_run ts c v) 0 (λ q. absurd (omega arith))))
        | inr e ↦ (
            let z : count_by f (arcs ts v) ≡ 0 = count_none f (arcs ts v) (λ p i h. both_ways (ends (arcs ts v) c) e (subst (λ k. ends (arcs ts v) k ≡ true) (eqb-true p.1 c h) (ends_from (arcs ts v) p.0 p.1 i))) in
            let m : times_run ts c v ≤ count_by f (arcs ts v) = times_ended ts c v d in
            ap not e ∙ sym (eq-eqb (times_run ts c v) 0 (omega arith)))
      ]

  loose_total : (n : ℕ) → loose_below ts n ≡ total_below alone ts n
  loose_total zero = refl
  loose_total (suc v) =
      let k : loose_at (arcs ts v) ≡ count_by (λ (q : ℕ × ℕ). alone (v, q.0)) (arcs ts v)
      = count_agree (λ (p : ℕ × ℕ). not (ends (arcs ts v) p.0)) (λ (q : ℕ × ℕ). alone (v, q.0)) (arcs ts v) (λ p i. not_ends v p.0) in
      omega (arith, loose_total v, k)

  pub loose_is : (n : ℕ) → AllByRecursion (IsBelow n) ts → loose_below ts n ≡ border_count ts
  loose_is n b = loose_total n ∙ (total_is alone ts n d b ∙ sym (length-filter alone (all_runs ts)))

pub border_low : (ts : List Triangle) → border_count ts ≤ 3 * length ts
border_low ts =
    let p : ℕ × ℕ → Bool = λ (p : ℕ × ℕ). eqb (times_run ts p.1 p.0) 0 in
    let e : border_count ts ≡ count_by p (all_runs ts) = length-filter p (all_runs ts) in
    omega (arith, count_by-le-length p (all_runs ts), runs_three ts, e)
