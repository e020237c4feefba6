-- A prefix of a text and what follows it.
use Rattle.std.proofs.Common.{◌≡◌, ℕ, Bool, true, false, cond, eqb, List, [], ◌∷◌, ◌++◌, Some, None, MatchOption, refl, sym, ap, ◌∙◌, Bor}
use Rattle.std.specs.Prelude.{Option, option_map}
use Rattle.std.proofs.lemmas.Bool.{eqb-true, eq-eqb}
use Rattle.arguments.specs.Words.{after_prefix}

step_none : (b : Bool) (x y : ℕ) (prefix text : List ℕ) → eqb x y ≡ b → ((rest : List ℕ) → y ∷ text ≡ x ∷ (prefix ++ rest) → ⊥) → (((rest : List ℕ) → text ≡ prefix ++ rest → ⊥) → None ≡ after_prefix prefix text) → None ≡ cond b (after_prefix prefix text) None
step_none true x y prefix text e h more = more (λ rest same. let heads : x ≡ y = eqb-true x y e in h rest cc)
step_none false x y prefix text e h more = refl

pub after_prefix-none : (prefix text : List ℕ) → ((rest : List ℕ) → text ≡ prefix ++ rest → ⊥) → None ≡ after_prefix prefix text
after_prefix-none [] text h = absurd (h text refl)
after_prefix-none (x ∷ prefix) [] h = refl
after_prefix-none (x ∷ prefix) (y ∷ text) h = step_none (eqb x y) x y prefix text refl h (after_prefix-none prefix text)

pub after_prefix-some : (prefix rest : List ℕ) → Some rest ≡ after_prefix prefix (prefix ++ rest)
after_prefix-some [] rest = refl
after_prefix-some (x ∷ prefix) rest = rw (eq-eqb x x refl) (after_prefix-some prefix rest)

pub after_prefix_is : (prefix text : List ℕ) (r : Option (Bor (List ℕ))) → MatchOption r ((rest : List ℕ) → text ≡ prefix ++ rest → ⊥) (λ x. text ≡ prefix ++ x.now) → option_map (λ x. x.now) r ≡ after_prefix prefix text
after_prefix_is prefix text None h = after_prefix-none prefix text h
after_prefix_is prefix text (Some x) h = after_prefix-some prefix x.now ∙ ap (after_prefix prefix) (sym h)
