-- At the end of the walk the starts are the least joined labels.
use Rattle.std.proofs.Common.{◌≡◌, ℕ, zero, suc, ◌<◌, ◌≤◌, List, [], ◌∷◌, cond, length, map, get_or, ltb, refl, sym, ap, ◌∙◌, subst, inl, inr, arith}
use Rattle.std.proofs.lemmas.Bool.{cases_lt, lt-ltb, le-ltb}
use Rattle.triangle_laws.proofs.Lists.{In, In-map}
use Rattle.part_laws.specs.Loops.{Loop}
use Rattle.part_laws.specs.Classes.{class_of}
use Rattle.part_laws.specs.Meets.{least_joined, pair_loop}
use Rattle.part_laws.proofs.ClassLaws.{class_told, one_class}
use Rattle.component_labels.specs.Chains.{ArePaired, begins_at, ends_at}
use Rattle.component_labels.specs.Walks.{AreClosed, IsLeast, IsSpread}
use Rattle.component_labels.proofs.WalkLaws.{seen_closed}

pub place_of : (p : ℕ × ℕ) (ps : List (ℕ × ℕ)) → In p ps → (i : ℕ) × (i < length ps) × (get_or ps i (0, 0) ≡ p)
place_of p [] h = absurd h
place_of p (q ∷ ps) (inl e) = (0, omega arith, sym e)
place_of p (q ∷ ps) (inr h) = let r = place_of p ps h in (suc r.0, omega (arith, r.1), r.2)

pub in_place : (ps : List (ℕ × ℕ)) (i : ℕ) → i < length ps → In (get_or ps i (0, 0)) ps
in_place [] i h = absurd (omega arith)
in_place (p ∷ ps) zero h = inl refl
in_place (p ∷ ps) (suc i) h = inr (in_place ps i (omega arith))

-- the ends of a pair are joined
pub ends_joined : (ps : List (ℕ × ℕ)) (i : ℕ) → i < length ps → least_joined ps (ends_at ps i) ≡ least_joined ps (begins_at ps i)
unfolding least_joined
ends_joined ps i h = one_class (map pair_loop ps) (pair_loop (get_or ps i (0, 0))) (ends_at ps i) (begins_at ps i) (in_map_pair ps i h) (inr (inl refl)) (inl refl)
  where
    in_map_pair : (ps : List (ℕ × ℕ)) (i : ℕ) → i < length ps → In (pair_loop (get_or ps i (0, 0))) (map pair_loop ps)
    in_map_pair [] i h = absurd (omega arith)
    in_map_pair (p ∷ ps) zero h = inl refl
    in_map_pair (p ∷ ps) (suc i) h = inr (in_map_pair ps i (omega arith))

module _ (ps : List (ℕ × ℕ)) (n : ℕ) (least queue : List ℕ) (walked : ℕ) (size : length least ≡ n) (paired : ArePaired n ps) (spread : IsSpread ps n least queue)
    (c : AreClosed ps n least queue walked) (all : walked ≡ length queue) where
  f : ℕ → ℕ
  f v = cond (ltb v n) (get_or least v 0) v

  f_low : (v : ℕ) → v < n → f v ≡ get_or least v 0
  unfolding f
  f_low v l = ap (λ b. cond b (get_or least v 0) v) (lt-ltb v n l)

  f_high : (v : ℕ) → n ≤ v → f v ≡ v
  unfolding f
  f_high v l = ap (λ b. cond b (get_or least v 0) v) (le-ltb v n l)

  pair_same : (i : ℕ) → i < length ps → f (begins_at ps i) ≡ f (ends_at ps i)
  pair_same i l =
      let b : begins_at ps i < n = paired.begins i l in
      let e : ends_at ps i < n = paired.ends i l in
      f_low (begins_at ps i) b
      ∙ (sym (seen_closed ps n least queue spread walked c all (begins_at ps i) (omega arith) (spread.before (begins_at ps i) b) i l refl) ∙ sym (f_low (ends_at ps i) e))

  same : (l : Loop) (v w : ℕ) → In l (map pair_loop ps) → In v l.1 → In w l.1 → f v ≡ f w
  same l v w i x y =
      let p : (p : ℕ × ℕ) × In p ps × (l ≡ pair_loop p) = In-map pair_loop l ps i in
      let r : (i : ℕ) × (i < length ps) × (get_or ps i (0, 0) ≡ p.0) = place_of p.0 ps p.1 in
      let e : f p.0.0 ≡ f p.0.1 = subst (λ (q : ℕ × ℕ). f q.0 ≡ f q.1) r.2 (pair_same r.0 r.1) in
      one p.0 e v w (subst (λ (l : Loop). In v l.1) p.2 x) (subst (λ (l : Loop). In w l.1) p.2 y)
    where
      one : (p : ℕ × ℕ) → f p.0 ≡ f p.1 → (v w : ℕ) → In v (p.0 ∷ p.1 ∷ []) → In w (p.0 ∷ p.1 ∷ []) → f v ≡ f w
      one p e v w (inl a) (inl b) = ap f (a ∙ sym b)
      one p e v w (inl a) (inr (inl b)) = ap f a ∙ (e ∙ ap f (sym b))
      one p e v w (inr (inl a)) (inl b) = ap f a ∙ (sym e ∙ ap f (sym b))
      one p e v w (inr (inl a)) (inr (inl b)) = ap f (a ∙ sym b)
      one p e v w (inr (inr z)) y = absurd z
      one p e v w (inl a) (inr (inr z)) = absurd z
      one p e v w (inr (inl a)) (inr (inr z)) = absurd z

  low : (v : ℕ) → f v ≤ v
  low v =
      elim (cases_lt v n) [
        | inl a ↦ omega (arith, f_low v a, spread.low v (omega arith) (spread.before v a))
        | inr a ↦ omega (arith, f_high v a)
      ]

  home : (v : ℕ) → class_of (map pair_loop ps) (f v) ≡ class_of (map pair_loop ps) v
  unfolding least_joined
  home v =
      elim (cases_lt v n) [
        | inl a ↦ ap (class_of (map pair_loop ps)) (f_low v a) ∙ spread.joined v (omega arith) (spread.before v a)
        | inr a ↦ ap (class_of (map pair_loop ps)) (f_high v a)
      ]

  pub least_is : IsLeast n ps least
  unfolding least_joined
  least_is = record { count = size; each = λ a l. sym (class_told (map pair_loop ps) f same low home a ∙ f_low a l) }
