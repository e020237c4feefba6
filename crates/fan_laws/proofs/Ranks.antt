-- A vertex stands at the place that its number says.
use Rattle.std.proofs.Common.{◌≡◌, ℕ, zero, suc, ◌+◌, ◌<◌, cond, List, [], ◌∷◌, length, sym, ap, subst, inl, inr, arith, ltb, ℤ, get_or, refl}
use Rattle.std.specs.List.{count_by}
use Rattle.std.proofs.lemmas.Bool.{lt-ltb, le-ltb, ltb-true}
use Rattle.std.proofs.lemmas.List.{length-map}
use Rattle.iso_defs.specs.Grid.{Grid}
use Rattle.iso_defs.specs.Place.{Position}
use Rattle.iso_defs.specs.Scratch.{number_of, vertex_names, vertices}
use Rattle.triangle_laws.proofs.Lists.{In}
use Rattle.triangle_laws.proofs.Counts.{count-cons, count_none}
use Rattle.mesh_laws.proofs.Oriented.{Ascending, vertices_ascend}

there : (xs : List ℕ) (i : ℕ) → i < length xs → In (get_or xs i 0) xs
there [] i low = absurd (omega (arith, low))
there (x ∷ xs) zero low = inl refl
there (x ∷ xs) (suc i) low = inr (there xs i (omega (arith, low)))

-- in an ascending list as many are less than an element as stand before it
rank_at : (xs : List ℕ) (i : ℕ) → Ascending xs → i < length xs → count_by (λ u. ltb u (get_or xs i 0)) xs ≡ i
rank_at [] i a low = absurd (omega (arith, low))
rank_at (x ∷ xs) zero a low =
    let none : count_by (λ u. ltb u x) xs ≡ 0 = count_none (λ u. ltb u x) xs (λ y j h. (let l : x < y = a.0 y j in
    let m : y < x = ltb-true _ _ h in omega arith)) in
    let here : cond {A = ℕ} (ltb x x) 1 0 ≡ 0 = ap (λ b. cond {A = ℕ} b 1 0) (le-ltb x x (omega arith)) in
    let c : count_by (λ u. ltb u x) (x ∷ xs) ≡ cond {A = ℕ} (ltb x x) 1 0 + count_by (λ u. ltb u x) xs = count-cons (λ u. ltb u x) x xs in
    omega (arith, c, here, none)
rank_at (x ∷ xs) (suc i) a low =
    let shorter : i < length xs = omega (arith, low) in
    let v : ℕ = get_or xs i 0 in
    let here : cond {A = ℕ} (ltb x v) 1 0 ≡ 1 = ap (λ b. cond {A = ℕ} b 1 0) (lt-ltb x v (a.0 v (there xs i shorter))) in
    let c : count_by (λ u. ltb u v) (x ∷ xs) ≡ cond {A = ℕ} (ltb x v) 1 0 + count_by (λ u. ltb u v) xs = count-cons (λ u. ltb u v) x xs in
    let rest : count_by (λ u. ltb u v) xs ≡ i = rank_at xs i a.1 shorter in
    omega (arith, c, here, rest)

-- the number of a vertex is its place among all
pub place_is_number : (g : Grid) (s : ℕ → ℤ) (i : ℕ) → i < length (vertices g s) → number_of g s (get_or (vertex_names g s) i 0) ≡ i
place_is_number g s i low =
    rank_at (vertex_names g s) i (vertices_ascend g s) (subst (λ n. i < n) (sym (length-map (vertices g s) (λ (v : ℕ × Position). v.0))) low)
