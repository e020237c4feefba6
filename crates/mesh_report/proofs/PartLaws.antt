-- The components of a report, one behind the other.
use Rattle.std.proofs.Common.{◌≡◌, ℕ, ◌<◌, ◌≤◌, Bool, cond, List, [], ◌∷◌, ◌++◌, None, Some, refl, sym, subst, ap, ◌∙◌, arith, nat_eq}
use Rattle.std.specs.List.{All, AllByRecursion}
use Rattle.std.specs.Map.{lookup, keys_of, values_of}
use Rattle.std.proofs.lemmas.Bool.{ne_eqb}
use Rattle.std.proofs.lemmas.List.{map-append}
use Rattle.std.proofs.lemmas.List.Elements.{All-push, recursion_from_All}
use Rattle.mesh_report.specs.declared.part.Part.{Part}

-- a name that is greater than all is new
pub unnamed : (es : List (ℕ × Part)) (k : ℕ) → AllByRecursion (λ v. v < k) (keys_of es) → lookup (nat_eq k) es ≡ None
unnamed [] k h = refl
unnamed (e ∷ es) k h = ap (λ (b : Bool). cond b (Some e.1) (lookup (nat_eq k) es)) (ne_eqb k e.0 (λ p. omega (arith, p, h.0))) ∙ unnamed es k h.1

pub is_new : (es : List (ℕ × Part)) (k : ℕ) → All (λ v. v < k) (keys_of es) → lookup (nat_eq k) es ≡ None
is_new es k h = unnamed es k (recursion_from_All (λ v. v < k) (keys_of es) h)

pub values_push : (es : List (ℕ × Part)) (k : ℕ) (p : Part) → values_of (es ++ (k, p) ∷ []) ≡ values_of es ++ p ∷ []
values_push es k p = map-append (λ (e : ℕ × Part). e.1) es ((k, p) ∷ [])

pub keys_push : (es : List (ℕ × Part)) (k : ℕ) (p : Part) → All (λ v. v < k) (keys_of es) → All (λ v. v ≤ k) (keys_of (es ++ (k, p) ∷ []))
keys_push es k p h =
    subst (All (λ v. v ≤ k)) (sym (map-append (λ (e : ℕ × Part). e.0) es ((k, p) ∷ [])))
    (All-push (λ v. v ≤ k) (keys_of es) k (λ i d l. omega (arith, h i d l)) (omega arith))
