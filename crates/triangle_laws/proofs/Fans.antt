-- A fan from parts that are linked end to end.
use Rattle.std.proofs.Common.{◌≡◌, ℕ, Bool, true, false, List, [], ◌∷◌, ◌++◌, refl, sym, ◌∙◌, ap, subst, ◌⊎◌, inl, inr, eqb, append_assoc}
use Rattle.std.specs.List.{flat_map}
use Rattle.std.proofs.lemmas.Bool.{eq-eqb, eqb-true}
use Rattle.iso_defs.specs.Lists.{has_pair, steps, around, closing, is_in, IsDistinct}
use Rattle.triangle_laws.proofs.Lists.{In, In-append, in_any, any_in}
use Rattle.triangle_laws.proofs.Counts.{pair_in, in_pair}

-- a path from its start to its stop
pub record Piece : Type 0 where
  pub start : ℕ
  pub middle : List ℕ
  pub stop : ℕ

-- the path without its stop
abbrev pub body : Piece → List ℕ
body a = a.start ∷ a.middle

-- the steps of the path
abbrev pub path : Piece → List (ℕ × ℕ)
path a = steps (a.start ∷ (a.middle ++ a.stop ∷ []))

-- each begins where the one before stops
abbrev pub Linked : Piece → List Piece → Type 0
Linked a [] = Unit {0}
Linked a (b ∷ ps) = (a.stop ≡ b.start) × Linked b ps

-- where the last of the paths stops
abbrev pub last_stop : Piece → List Piece → ℕ
last_stop a [] = a.stop
last_stop a (b ∷ ps) = last_stop b ps

pub append_nil : {A : Type 0} (xs : List A) → xs ++ [] ≡ xs
append_nil [] = refl
append_nil (x ∷ xs) = ap (λ l. x ∷ l) (append_nil xs)

steps_join : (xs : List ℕ) (y : ℕ) (ys : List ℕ) → steps (xs ++ y ∷ ys) ≡ steps (xs ++ y ∷ []) ++ steps (y ∷ ys)
steps_join [] y ys = refl
steps_join (x ∷ []) y ys = refl
steps_join (x ∷ z ∷ xs) y ys = ap (λ l. (x, z) ∷ l) (steps_join (z ∷ xs) y ys)

-- the steps of the whole are those of the parts
pub chain_steps : (a : Piece) (ps : List Piece) → Linked a ps →
    steps (flat_map body (a ∷ ps) ++ last_stop a ps ∷ []) ≡ flat_map path (a ∷ ps)
chain_steps a [] l = ap (λ xs. steps (xs ++ a.stop ∷ [])) (append_nil (body a)) ∙ sym (append_nil (path a))
chain_steps a (b ∷ ps) l =
    ap steps (append_assoc (body a) (flat_map body (b ∷ ps)) (last_stop b ps ∷ []))
    ∙ (steps_join (body a) b.start (b.middle ++ flat_map body ps ++ last_stop b ps ∷ [])
    ∙ (ap (λ y. steps (body a ++ y ∷ []) ++ steps (flat_map body (b ∷ ps) ++ last_stop b ps ∷ [])) (sym l.0)
    ∙ ap (λ zs. path a ++ zs) (chain_steps b ps l.1)))

pub closing_steps : (first v : ℕ) (ws : List ℕ) → closing first v ws ≡ steps (v ∷ (ws ++ first ∷ []))
closing_steps first v [] = refl
closing_steps first v (w ∷ ws) = ap (λ l. (v, w) ∷ l) (closing_steps first w ws)

pub cycle_steps : (a : Piece) (ps : List Piece) → Linked a ps → last_stop a ps ≡ a.start →
    around (flat_map body (a ∷ ps)) ≡ flat_map path (a ∷ ps)
cycle_steps a ps l e =
    closing_steps a.start a.start (a.middle ++ flat_map body ps)
    ∙ (ap (λ y. steps (flat_map body (a ∷ ps) ++ y ∷ [])) (sym e) ∙ chain_steps a ps l)

-- different elements
pub in_is_in : (x : ℕ) (xs : List ℕ) → is_in x xs ≡ true → In x xs
in_is_in x xs h =
    let r : (y : ℕ) × In y xs × (eqb y x ≡ true) = in_any (λ y. eqb y x) xs h in
    subst (λ y. In y xs) (eqb-true _ _ r.2) r.1

pub distinct_join : (xs ys : List ℕ) → IsDistinct xs → IsDistinct ys → ((x : ℕ) → In x xs → In x ys → ⊥) → IsDistinct (xs ++ ys)
distinct_join [] ys d e h = e
distinct_join (x ∷ xs) ys d e h = (
  (λ i. elim (In-append x xs ys (in_is_in x (xs ++ ys) i)) [
    | inl j ↦ d.0 (any_in (λ y. eqb y x) xs x j (eq-eqb x x refl))
    | inr j ↦ h x (inl refl) j
  ]),
  distinct_join xs ys d.1 e (λ y i j. h y (inr i) j),
)

same_from : (a b : Bool) → (a ≡ true → b ≡ true) → (b ≡ true → a ≡ true) → a ≡ b
same_from true b h k = sym (h refl)
same_from false true h k = k refl
same_from false false h k = refl

pub same_pairs_from : (xs ys : List (ℕ × ℕ)) → ((y : ℕ × ℕ) → In y xs → In y ys) → ((y : ℕ × ℕ) → In y ys → In y xs)
    → (b c : ℕ) → has_pair xs b c ≡ has_pair ys b c
same_pairs_from xs ys h k b c =
    same_from (has_pair xs b c) (has_pair ys b c)
    (λ e. in_pair ys b c (h (b, c) (pair_in xs b c e)))
    (λ e. in_pair xs b c (k (b, c) (pair_in ys b c e)))

-- arcs that are the steps of one path, or of one cycle
abbrev pub FanOf : List (ℕ × ℕ) → Type 0
FanOf arcs_here = (ws : List ℕ) × IsDistinct ws ×
    (((b c : ℕ) → has_pair arcs_here b c ≡ has_pair (steps ws) b c)
    ⊎ ((b c : ℕ) → has_pair arcs_here b c ≡ has_pair (around ws) b c))

pub fan_path : (arcs_here : List (ℕ × ℕ)) (a : Piece) (ps : List Piece) → Linked a ps
    → IsDistinct (flat_map body (a ∷ ps) ++ last_stop a ps ∷ [])
    → ((y : ℕ × ℕ) → In y arcs_here → In y (flat_map path (a ∷ ps)))
    → ((y : ℕ × ℕ) → In y (flat_map path (a ∷ ps)) → In y arcs_here)
    → FanOf arcs_here
fan_path arcs_here a ps l d h k =
    let e : steps (flat_map body (a ∷ ps) ++ last_stop a ps ∷ []) ≡ flat_map path (a ∷ ps) = chain_steps a ps l in (
      flat_map body (a ∷ ps) ++ last_stop a ps ∷ [],
      d,
      inl (same_pairs_from arcs_here (steps (flat_map body (a ∷ ps) ++ last_stop a ps ∷ []))
          (λ y i. subst (λ zs. In y zs) (sym e) (h y i)) (λ y i. k y (subst (λ zs. In y zs) e i))),
    )

pub fan_cycle : (arcs_here : List (ℕ × ℕ)) (a : Piece) (ps : List Piece) → Linked a ps → last_stop a ps ≡ a.start
    → IsDistinct (flat_map body (a ∷ ps))
    → ((y : ℕ × ℕ) → In y arcs_here → In y (flat_map path (a ∷ ps)))
    → ((y : ℕ × ℕ) → In y (flat_map path (a ∷ ps)) → In y arcs_here)
    → FanOf arcs_here
fan_cycle arcs_here a ps l c d h k =
    let e : around (flat_map body (a ∷ ps)) ≡ flat_map path (a ∷ ps) = cycle_steps a ps l c in (
      flat_map body (a ∷ ps),
      d,
      inr (same_pairs_from arcs_here (around (flat_map body (a ∷ ps)))
          (λ y i. subst (λ zs. In y zs) (sym e) (h y i)) (λ y i. k y (subst (λ zs. In y zs) e i))),
    )
