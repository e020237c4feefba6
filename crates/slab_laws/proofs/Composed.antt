-- Numbers in the whole by way of two steps: of a slab in what it is cut from, and of that in the whole.
use Rattle.std.proofs.Common.{◌≡◌, ℕ, zero, suc, ◌+◌, ◌-◌, ◌*◌, ◌/◌, ◌%◌, ◌<◌, ◌≤◌, Bool, true, false, cond, List, ◌∷◌, refl, sym, ap, ◌∙◌, subst, inl, inr, arith, ltb, ℤ, length, zero-add}
use Rattle.std.specs.List.{filter, range_with_len}
use Rattle.std.proofs.lemmas.Bool.{and_parts, and_from, ltb-true, lt-ltb, cases_lt}
use Rattle.iso_defs.specs.Grid.{Grid, stride, has_next, name_bound, is_edge, is_above, differ, is_crossing, IsSolid}
use Rattle.iso_defs.specs.Scratch.{crossing_edges}
use Rattle.mesh_laws.proofs.Padded.{by_three}
use Rattle.slab_laws.specs.Slabs.{slices, slice_size, renumbered}
use Rattle.slab_laws.proofs.Parts.{third, group}
use Rattle.slab_laws.proofs.Slices.{same_stride, height, whole_height}
use Rattle.slab_laws.proofs.EdgesCut.{cut}
use Rattle.slab_laws.proofs.Corners.{under, over}
use Rattle.std.proofs.lemmas.List.{length-append}

-- numbers of a lower slab
pub low_twice : (e total o p n : ℕ) → e ≤ total → renumbered total o p (renumbered e 0 total n) ≡ renumbered e o p n
low_twice e total o p n fits =
    elim (cases_lt n e) [
      | inl l ↦ ap (renumbered total o p) (under e 0 total n l ∙ zero-add n)
          ∙ (under total o p n (omega arith) ∙ sym (under e o p n l))
      | inr l ↦ (let k : n ≡ e + (n - e) = omega arith in
          subst (λ n. renumbered total o p (renumbered e 0 total n) ≡ renumbered e o p n) (sym k)
          (ap (renumbered total o p) (over e 0 total (n - e)) ∙ (over total o p (n - e) ∙ sym (over e o p (n - e)))))
    ]

-- and of what is above it
pub high_twice : (u d c total o p n : ℕ) → total ≡ d + u
    → renumbered total o p (renumbered u d (total + c) n) ≡ renumbered u (o + d) (p + c) n
high_twice u d c total o p n sum =
    elim (cases_lt n u) [
      | inl l ↦ ap (renumbered total o p) (under u d (total + c) n l)
          ∙ (under total o p (d + n) (omega arith) ∙ (group o d n ∙ sym (under u (o + d) (p + c) n l)))
      | inr l ↦ (let k : n ≡ u + (n - u) = omega arith in
          subst (λ n. renumbered total o p (renumbered u d (total + c) n) ≡ renumbered u (o + d) (p + c) n) (sym k)
          (ap (renumbered total o p) (over u d (total + c) (n - u) ∙ sym (group total c (n - u)))
          ∙ (over total o p (c + (n - u)) ∙ (group p c (n - u) ∙ sym (over u (o + d) (p + c) (n - u))))))
    ]

-- the whole's own numbers stay
pub unnumbered : (total n : ℕ) → renumbered total 0 total n ≡ n
unnumbered total n =
    elim (cases_lt n total) [
      | inl l ↦ under total 0 total n l ∙ zero-add n
      | inr l ↦ (let k : n ≡ total + (n - total) = omega arith in
          subst (λ n. renumbered total 0 total n ≡ n) (sym k) (over total 0 total (n - total)))
    ]

-- a list has no more elements that pass a test than pass a weaker one
fewer : (p q : ℕ → Bool) (b n : ℕ) → ((x : ℕ) → b ≤ x → x < b + n → q x ≡ true → p x ≡ true)
    → length (filter q (range_with_len b n)) ≤ length (filter p (range_with_len b n))
fewer p q b zero h = omega arith
fewer p q b (suc n) h =
    step (q b) (p b) (h b (omega arith) (omega arith)) (filter q (range_with_len (b + 1) n))
    (filter p (range_with_len (b + 1) n))
    (fewer p q (b + 1) n (λ x low high. h x (omega arith) (omega arith)))
  where
    step : (t u : Bool) → (t ≡ true → u ≡ true) → (xs ys : List ℕ) → length xs ≤ length ys
        → length (cond t (b ∷ xs) xs) ≤ length (cond u (b ∷ ys) ys)
    step true true h xs ys l = omega arith
    step true false h xs ys l = absurd (clash (h refl))
      where
        clash : false ≡ true → ⊥
        clash e = cc
    step false true h xs ys l = omega arith
    step false false h xs ys l = l

module _ (g : Grid) (solid : IsSolid g) (s : ℕ → ℤ) (n : ℕ) (fits : n ≤ g.nz) where
  still_next : (q a : ℕ) → q < n * slice_size g → a < 3 → has_next (slices g n) a q ≡ true → has_next g a q ≡ true
  still_next q a low small =
      by_three (λ a. has_next (slices g n) a q ≡ true → has_next g a q ≡ true) (λ e. e) (λ e. e)
      (λ e. (let k : q / slice_size g + 1 < n = ltb-true _ _ (ap (λ c. ltb (c + 1) n) (sym (height g solid n q low))
      ∙ e) in
      ap (λ c. ltb (c + 1) g.nz) (whole_height g solid n 0 (omega arith) q low) ∙ lt-ltb _ _ (omega arith))) a small

  still_crossing : (m : ℕ) → m / 3 < n * slice_size g → is_crossing (slices g n) s m ≡ true → is_crossing g s m ≡ true
  still_crossing m low h =
      let c : (is_edge (slices g n) m ≡ true) × (differ (is_above (s (m / 3)))
      (is_above (s (m / 3 + stride (slices g n) (m % 3)))) ≡ true)
      = and_parts _ _ h in
      let small : m % 3 < 3 = omega arith in
      and_from _ _ (still_next (m / 3) (m % 3) low small c.0)
      (ap (λ d. differ (is_above (s (m / 3))) (is_above (s (m / 3 + d)))) (sym (same_stride g n (m % 3) small)) ∙ c.1)

  -- some slices have no more crossing edges than the whole
  pub few_edges : length (crossing_edges (slices g n) s) ≤ length (crossing_edges g s)
  few_edges =
      let k : ℕ = name_bound (slices g n) in
      let r : ℕ = name_bound g - k in
      let whole : name_bound g ≡ k + r = total (g.nx * g.ny) n g.nz fits in
      let first : List ℕ = filter (is_crossing g s) (range_with_len 0 k) in
      let a : length (crossing_edges (slices g n) s) ≤ length first
      = fewer (is_crossing g s) (is_crossing (slices g n) s) 0 k
      (λ m _ l. still_crossing m (third (g.nx * g.ny) n m (omega arith))) in
      let b : length (crossing_edges g s) ≡ length first + length (filter (is_crossing g s) (range_with_len (0 + k) r))
      = ap (λ t. length (filter (is_crossing g s) (range_with_len 0 t))) whole
      ∙ (ap length (cut (is_crossing g s) k r) ∙ length-append first
      (filter (is_crossing g s) (range_with_len (0 + k) r))) in
      omega (arith, a, b)
    where
      total : (a n m : ℕ) → n ≤ m → 3 * (a * m) ≡ 3 * (a * n) + (3 * (a * m) - 3 * (a * n))
      total a n m l =
          let k : m ≡ n + (m - n) = omega arith in
          subst (λ m. 3 * (a * m) ≡ 3 * (a * n) + (3 * (a * m) - 3 * (a * n))) (sym k)
          (let e : a * (n + (m - n)) ≡ a * n + a * (m - n) = omega arith in omega arith)
