-- From the vertices looked at one by one to the verdict.
use Rattle.std.proofs.Common.{◌≡◌, ℕ, suc, ◌+◌, ◌<◌, ◌≤◌, Bool, true, false, cond, List, refl, sym, ◌∙◌, ap, subst, inl, inr, arith, eqb, Option, Some, None, add-one}
use Rattle.std.specs.List.{AllByRecursion}
use Rattle.std.proofs.lemmas.Bool.{cases_eq, cases_lt, eqb-true, eqb-false}
use Rattle.iso_defs.specs.Cell.{Triangle}
use Rattle.iso_defs.specs.Manifold.{HasThreeCorners, IsFan, IsManifold, arcs, times_run}
use Rattle.iso_defs.specs.Verdict as laws
use Rattle.iso_defs.specs.Verdict.{IsBefore, border_count}
use Rattle.triangle_laws.proofs.FanDecided.{arcs_begin, fan_from}
use Rattle.triangle_laws.proofs.Verdicts.{fan_of_none}
use Rattle.mesh_check.specs.declared.fan.Fan.TheVariants.{Whole, Split}
use Rattle.iso_base.specs.declared.verdict.Verdict.TheVariants.{Closed, Border}
use Rattle.iso_base.specs.Triangles.{IsBelow}
use Rattle.mesh_check.specs.Marks.{IsLeastTwice, begun}
use Rattle.mesh_check.specs.Said.{said}
use Rattle.mesh_check.specs.Judged.{IsJudged, IsFanOf, IsFirstSplit, WalksAll, LeavesSome, first_split, loose_below, summed_of}
use Rattle.arc_rings.proofs.ArcLaws.{arcs_beyond, times_begun}
use Rattle.mesh_check.proofs.LooseLaws.{loose_is}

module _ (ts : List Triangle) where
  more_below : (P : ℕ → Type 0) (v : ℕ) → ((u : ℕ) → u < v → P u) → P v → (u : ℕ) → u < suc v → P u
  more_below P v all here u l = elim (cases_eq u v) [ inl e ↦ subst P (sym e) here | inr n ↦ all u (omega arith) ]

  later_split : (v s : ℕ) → IsFirstSplit ts v (Some s) → IsFirstSplit ts (suc v) (Some s)
  later_split v s h = (let l : s < v = h.0 in let k : s < suc v = omega arith in k, h.1, h.2)

  fan_first : (v : ℕ) (split : Option ℕ) → IsFirstSplit ts v split → WalksAll (arcs ts v) → IsFirstSplit ts (suc v) split
  fan_first v None h w = more_below (λ u. WalksAll (arcs ts u)) v h w
  fan_first v (Some s) h w = later_split v s h

  split_first : (v : ℕ) (split : Option ℕ) → IsFirstSplit ts v split → LeavesSome (arcs ts v) → IsFirstSplit ts (suc v) (first_split split v)
  split_first v None h w = (let k : v < suc v = omega arith in k, w, h)
  split_first v (Some s) h w = later_split v s h

  pub judged_fan : (v : ℕ) (split : Option ℕ) (loose n : ℕ) → IsJudged ts v split loose → IsFanOf (arcs ts v) (Whole n) → IsJudged ts (v + 1) split (loose + n)
  judged_fan v split loose n j r = subst (λ u. IsJudged ts u split (loose + n)) (sym (add-one v)) (record {
    once = more_below (λ u. IsLeastTwice (arcs ts u) None) v j.once r.0;
    first = fan_first v split j.first r.2;
    count = ap (λ k. k + n) j.count ∙ ap (λ k. loose_below ts v + k) r.1;
  })

  pub judged_split : (v : ℕ) (split : Option ℕ) (loose n : ℕ) → IsJudged ts v split loose → IsFanOf (arcs ts v) (Split n) → IsJudged ts (v + 1) (first_split split v) (loose + n)
  judged_split v split loose n j r = subst (λ u. IsJudged ts u (first_split split v) (loose + n)) (sym (add-one v)) (record {
    once = more_below (λ u. IsLeastTwice (arcs ts u) None) v j.once r.0;
    first = split_first v split j.first r.2;
    count = ap (λ k. k + n) j.count ∙ ap (λ k. loose_below ts v + k) r.1;
  })

  module _ (d : AllByRecursion HasThreeCorners ts) where
    pub judged_twice : (v : ℕ) (split : Option ℕ) (loose b : ℕ) → IsJudged ts v split loose → IsLeastTwice (arcs ts v) (Some b)
        → laws.IsVerdict ts (laws.Verdict.EdgeTwice v b)
    judged_twice v split loose b j h = (d, twice, before)
      where
        twice : 2 ≤ times_run ts v b
        twice = let l : 2 ≤ begun (arcs ts v) b = h.0 in let m : begun (arcs ts v) b ≤ times_run ts v b = arcs_begin ts v b in omega arith

        before : (c e : ℕ) → IsBefore (c, e) (v, b) → times_run ts c e ≤ 1
        before c e (inl l) = let m : begun (arcs ts c) e ≤ 1 = j.once c l e in let n : times_run ts c e ≤ begun (arcs ts c) e = times_begun ts c e d in omega arith
        before c e (inr l) =
            let m : begun (arcs ts v) e ≤ 1 = h.1 e l.1 in
            let n : times_run ts v e ≤ begun (arcs ts v) e = times_begun ts v e d in
            subst (λ z. times_run ts z e ≤ 1) (sym l.0) (omega arith)

    module _ (n : ℕ) (low : AllByRecursion (IsBelow n) ts) where
      once_all : ((u : ℕ) → u < n → IsLeastTwice (arcs ts u) None) → (a b : ℕ) → times_run ts a b ≤ 1
      once_all once a b =
          let k : times_run ts a b ≤ begun (arcs ts a) b = times_begun ts a b d in
          elim (cases_lt a n) [
            | inl l ↦ (let m : begun (arcs ts a) b ≤ 1 = once a l b in omega arith)
            | inr l ↦ (let m : begun (arcs ts a) b ≡ 0 = ap (λ ps. begun ps b) (arcs_beyond n ts a low l) in omega arith)
          ]

      fan_here : ((a b : ℕ) → times_run ts a b ≤ 1) → (u : ℕ) → WalksAll (arcs ts u) → IsFan ts u
      fan_here once u (inl e) = fan_of_none ts u e
      fan_here once u (inr w) = (fan_from ts once u w.0 w.1).0 w.2

      fan_any : ((a b : ℕ) → times_run ts a b ≤ 1) → ((u : ℕ) → u < n → WalksAll (arcs ts u)) → (u : ℕ) → IsFan ts u
      fan_any once all u = elim (cases_lt u n) [ inl l ↦ fan_here once u (all u l) | inr l ↦ fan_of_none ts u (arcs_beyond n ts u low l) ]

      pub judged_all : (split : Option ℕ) (loose : ℕ) → IsJudged ts n split loose → laws.IsVerdict ts (said (summed_of split loose))
      judged_all (Some s) loose j =
          let once : (a b : ℕ) → times_run ts a b ≤ 1 = once_all j.once in
          (d, once, (λ f. j.first.1.2 ((fan_from ts once s j.first.1.0 j.first.1.1).1 f)), (λ u l. fan_here once u (j.first.2 u l)))
      judged_all None loose j = go (eqb loose 0) refl
        where
          surface : IsManifold ts
          surface = record { corners = d; once = once_all j.once; fans = fan_any (once_all j.once) j.first }

          same : border_count ts ≡ loose
          same = sym (j.count ∙ loose_is ts d n low)

          go : (t : Bool) → eqb loose 0 ≡ t → laws.IsVerdict ts (said (cond t Closed (Border loose)))
          go true e = (surface, same ∙ eqb-true loose 0 e)
          go false e = (surface, same, (let z : loose ≡ 0 → ⊥ = eqb-false loose 0 e in let l : 0 < loose = omega arith in l))
