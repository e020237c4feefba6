-- One label more is known.
use Rattle.std.proofs.Common.{◌≡◌, ℕ, zero, suc, ◌+◌, ◌<◌, ◌≤◌, ℤ, pos, List, [], ◌∷◌, ◌++◌, length, get_or, refl, sym, ◌∙◌, ap, subst, inl, inr, arith}
use Rattle.std.proofs.lemmas.Bool.{cases_lt}
use Rattle.std.proofs.lemmas.List.{length-append}
use Rattle.component_walk.specs.Walks.{IsLonger}

pub push_before : {A : Type 0} (xs : List A) (x : A) (a : ℕ) (d : A) → a < length xs → get_or (xs ++ x ∷ []) a d ≡ get_or xs a d
push_before [] x a d l = absurd (omega arith)
push_before (y ∷ xs) x zero d l = refl
push_before (y ∷ xs) x (suc a) d l = push_before xs x a d (omega arith)

pub push_at : {A : Type 0} (xs : List A) (x : A) (d : A) → get_or (xs ++ x ∷ []) (length xs) d ≡ x
push_at [] x d = refl
push_at (y ∷ xs) x d = push_at xs x d

module _ {T : Type 0} (value : T → ℕ → ℤ) (fits : ℕ → T → Type 0) (n : ℕ) (ts : List T) (cs : List ℕ) where
  pub longer_none : length ts ≡ n → length cs ≡ n → IsLonger value fits n n ts ts cs cs
  longer_none size edge_size = record {
    size = size;
    edge_size = edge_size;
    same = λ a d l. refl;
    same_edges = λ a l. refl;
    values = λ a d i le l. absurd (omega (arith, le, l));
    fit = λ a d le l. absurd (omega (arith, le, l));
    zeros = λ a le l. absurd (omega (arith, le, l));
  }

  pub longer_more : (m : ℕ) (ts' : List T) (cs' : List ℕ) (t : T) → n ≤ m → IsLonger value fits n m ts ts' cs cs' → ((i : ℕ) → value t i ≡ pos 0) → fits 0 t
      → IsLonger value fits n (m + 1) ts (ts' ++ t ∷ []) cs (cs' ++ 0 ∷ [])
  longer_more m ts' cs' t le h nothing small = record {
    size = length-append ts' (t ∷ []) ∙ ap (λ k. k + 1) h.size;
    edge_size = length-append cs' (0 ∷ []) ∙ ap (λ k. k + 1) h.edge_size;
    same = λ a d l. push_before ts' t a d (omega (arith, l, le, h.size)) ∙ h.same a d l;
    same_edges = λ a l. push_before cs' 0 a 0 (omega (arith, l, le, h.edge_size)) ∙ h.same_edges a l;
    values = λ a d i k l.
        elim (cases_lt a m) [
          | inl b ↦ ap (λ z. value z i) (push_before ts' t a d (omega (arith, b, h.size))) ∙ h.values a d i k b
          | inr b ↦ ap (λ z. value (get_or (ts' ++ t ∷ []) z d) i) (let e : a ≡ length ts' = omega (arith, b, l, h.size) in e) ∙ (ap (λ z. value z i) (push_at ts' t d) ∙ nothing i)
        ];
    fit = λ a d k l.
        elim (cases_lt a m) [
          | inl b ↦ subst (fits 0) (sym (push_before ts' t a d (omega (arith, b, h.size)))) (h.fit a d k b)
          | inr b ↦ subst (λ z. fits 0 (get_or (ts' ++ t ∷ []) z d)) (let e : length ts' ≡ a = omega (arith, b, l, h.size) in e) (subst (fits 0) (sym (push_at ts' t d)) small)
        ];
    zeros = λ a k l.
        elim (cases_lt a m) [
          | inl b ↦ push_before cs' 0 a 0 (omega (arith, b, h.edge_size)) ∙ h.zeros a k b
          | inr b ↦ ap (λ z. get_or (cs' ++ 0 ∷ []) z 0) (let e : a ≡ length cs' = omega (arith, b, l, h.edge_size) in e) ∙ push_at cs' 0 0
        ];
  }
