-- A pair more is noted.
use Rattle.std.proofs.Common.{◌≡◌, ◌⊎◌, ℕ, ◌+◌, ◌<◌, ◌≤◌, List, [], ◌∷◌, ◌++◌, length, get_or, set, refl, sym, ap, ◌∙◌, subst, inl, inr, arith, length-append}
use Rattle.std.proofs.lemmas.Bool.{cases_eq, cases_lt}
use Rattle.std.proofs.lemmas.List.{append_assoc, get_or-set_same, get_or-set_other, length-set}
use Rattle.std.proofs.Math.ListN.{get_or-append}
use Rattle.std.proofs.Math.Seq.{get_or-append_seam}
use Rattle.part_laws.specs.Meets.{least_joined}
use Rattle.part_laws.proofs.LabelLaws.{joined_grows}
use Rattle.component_labels.specs.Chains.{begins_at, ends_at}
use Rattle.component_labels.proofs.LeastLaws.{ends_joined}
use Rattle.component_labels.specs.Labelling.{Adds, AreKnown, AreMet, IsOneOf}
use Rattle.component_labels.specs.Fronts.{Marks}

module _ (ps : List (ℕ × ℕ)) (met : List ℕ) (low high : ℕ) (h : AreMet ps met) (a : low < length met) (b : high < length met) (room : length ps + 2 ≤ 4294967294) where
  abbrev more : List (ℕ × ℕ)
  more = (low, high) ∷ (high, low) ∷ []

  abbrev ps' : List (ℕ × ℕ)
  ps' = ps ++ more

  abbrev met' : List ℕ
  met' = set met high low

  long : length ps' ≡ length ps + 2
  long = length-append ps more

  old : (i : ℕ) → i < length ps → get_or ps' i (0, 0) ≡ get_or ps i (0, 0)
  old i l = get_or-append ps more (0, 0) i l

  first : (i : ℕ) → i ≡ length ps → get_or ps' i (0, 0) ≡ (low, high)
  first i e = ap (λ k. get_or ps' k (0, 0)) e ∙ get_or-append_seam ps (low, high) ((high, low) ∷ []) (0, 0)

  second : (i : ℕ) → i ≡ length ps + 1 → get_or ps' i (0, 0) ≡ (high, low)
  second i e =
      let r : ps' ≡ (ps ++ (low, high) ∷ []) ++ (high, low) ∷ [] = sym (append_assoc ps ((low, high) ∷ []) ((high, low) ∷ [])) in
      let n : length (ps ++ (low, high) ∷ []) ≡ length ps + 1 = length-append ps ((low, high) ∷ []) in
      ap (λ qs. get_or qs i (0, 0)) r ∙ (ap (λ k. get_or ((ps ++ (low, high) ∷ []) ++ (high, low) ∷ []) k (0, 0)) (e ∙ sym n) ∙ get_or-append_seam (ps ++ (low, high) ∷ []) (high, low) [] (0, 0))

  -- a place is one of the old pairs', or one of the two
  which : (i : ℕ) → i < length ps' → (i < length ps) ⊎ ((i ≡ length ps) ⊎ (i ≡ length ps + 1))
  which i l =
      elim (cases_lt i (length ps)) [
        | inl k ↦ inl k
        | inr k ↦ elim (cases_eq i (length ps)) [ inl e ↦ inr (inl e) | inr d ↦ inr (inr (omega (arith, long, l))) ]
      ]

  pub both_joined : least_joined ps' low ≡ least_joined ps' high
  both_joined =
      let e : ends_at ps' (length ps) ≡ high = ap (λ (p : ℕ × ℕ). p.1) (first (length ps) refl) in
      let f : begins_at ps' (length ps) ≡ low = ap (λ (p : ℕ × ℕ). p.0) (first (length ps) refl) in
      ap (least_joined ps') (sym f) ∙ (sym (ends_joined ps' (length ps) (omega (arith, long))) ∙ ap (least_joined ps') e)

  pub more_met : AreMet ps' met'
  more_met = record {
    paired = record {
      begins = λ i l. subst (λ n. begins_at ps' i < n) (sym (length-set met high low)) (elim (which i l) [
        | inl k ↦ subst (λ (p : ℕ × ℕ). p.0 < length met) (sym (old i k)) (h.paired.begins i k)
        | inr (inl e) ↦ subst (λ (p : ℕ × ℕ). p.0 < length met) (sym (first i e)) a
        | inr (inr e) ↦ subst (λ (p : ℕ × ℕ). p.0 < length met) (sym (second i e)) b
      ]);
      ends = λ i l. subst (λ n. ends_at ps' i < n) (sym (length-set met high low)) (elim (which i l) [
        | inl k ↦ subst (λ (p : ℕ × ℕ). p.1 < length met) (sym (old i k)) (h.paired.ends i k)
        | inr (inl e) ↦ subst (λ (p : ℕ × ℕ). p.1 < length met) (sym (first i e)) b
        | inr (inr e) ↦ subst (λ (p : ℕ × ℕ). p.1 < length met) (sym (second i e)) a
      ]);
      back = λ i l. elim (which i l) [
        | inl k ↦ (
            let t = h.paired.back i k in (
              t.0,
              omega (arith, t.1, long),
              ap (λ (p : ℕ × ℕ). p.0) (old t.0 t.1) ∙ (t.2 ∙ ap (λ (p : ℕ × ℕ). p.1) (sym (old i k))),
              ap (λ (p : ℕ × ℕ). p.1) (old t.0 t.1) ∙ (t.3 ∙ ap (λ (p : ℕ × ℕ). p.0) (sym (old i k))),
            ))
        | inr (inl e) ↦ (
          length ps + 1,
          omega (arith, long),
          ap (λ (p : ℕ × ℕ). p.0) (second (length ps + 1) refl) ∙ ap (λ (p : ℕ × ℕ). p.1) (sym (first i e)),
          ap (λ (p : ℕ × ℕ). p.1) (second (length ps + 1) refl) ∙ ap (λ (p : ℕ × ℕ). p.0) (sym (first i e)),
        )
        | inr (inr e) ↦ (
          length ps,
          omega (arith, long),
          ap (λ (p : ℕ × ℕ). p.0) (first (length ps) refl) ∙ ap (λ (p : ℕ × ℕ). p.1) (sym (second i e)),
          ap (λ (p : ℕ × ℕ). p.1) (first (length ps) refl) ∙ ap (λ (p : ℕ × ℕ). p.0) (sym (second i e)),
        )
      ];
    };
    low = λ k l.
        elim (cases_eq k high) [
          | inl e ↦ omega (arith, ap (λ z. get_or met' z 0) e ∙ get_or-set_same met high low 0 b, length-set met high low)
          | inr d ↦ omega (arith, get_or-set_other met high k low 0 d, h.low k (omega (arith, l, length-set met high low)), length-set met high low)
        ];
    joined = λ k l.
        elim (cases_eq k high) [
          | inl e ↦ ap (least_joined ps') (ap (λ z. get_or met' z 0) e ∙ get_or-set_same met high low 0 b) ∙ (both_joined ∙ ap (least_joined ps') (sym e))
          | inr d ↦ ap (least_joined ps') (get_or-set_other met high k low 0 d)
              ∙ joined_grows ps more (get_or met k 0) k (h.joined k (omega (arith, l, length-set met high low)))
        ];
    few = omega (arith, h.few, length-set met high low);
    few_pairs = omega (arith, long);
  }

  pub more_added : Adds (IsOneOf low high) ps ps'
  more_added = record { more = more; behind = refl; each = ((inl refl, inr refl), ((inr refl, inl refl), tt)) }

-- none were added
pub none_added : (P : ℕ → Type 0) (ps : List (ℕ × ℕ)) → Adds P ps ps
none_added P ps = record { more = []; behind = sym (append_nil ps); each = tt }
  where
    append_nil : (qs : List (ℕ × ℕ)) → qs ++ [] ≡ qs
    append_nil [] = refl
    append_nil (q ∷ qs) = ap (λ rs. q ∷ rs) (append_nil qs)

-- a label more is known
pub label_more : (ps : List (ℕ × ℕ)) (met : List ℕ) → AreMet ps met → length met < 4294967294 → AreMet ps (met ++ length met ∷ [])
label_more ps met h room =
    let n : length (met ++ length met ∷ []) ≡ length met + 1 = length-append met (length met ∷ []) in
    record {
      paired = record {
        begins = λ i l. omega (arith, n, h.paired.begins i l);
        ends = λ i l. omega (arith, n, h.paired.ends i l);
        back = h.paired.back;
      };
      low = λ k l.
          elim (cases_lt k (length met)) [
            | inl a ↦ omega (arith, n, get_or-append met (length met ∷ []) 0 k a, h.low k a)
            | inr a ↦ (let e : k ≡ length met = omega (arith, n, l) in omega (arith, n, at k e))
          ];
      joined = λ k l.
          elim (cases_lt k (length met)) [
            | inl a ↦ ap (least_joined ps) (get_or-append met (length met ∷ []) 0 k a) ∙ h.joined k a
            | inr a ↦ (let e : k ≡ length met = omega (arith, n, l) in ap (least_joined ps) (at k e ∙ sym e))
          ];
      few = omega (arith, n, room);
      few_pairs = h.few_pairs;
    }
  where
    at : (k : ℕ) → k ≡ length met → get_or (met ++ length met ∷ []) k 0 ≡ length met
    at k e = ap (λ z. get_or (met ++ length met ∷ []) z 0) e ∙ get_or-append_seam met (length met) [] 0

pub known_more : (marks : Marks) (n : ℕ) → AreKnown marks n → AreKnown marks (n + 1)
known_more marks n h = record { size = h.size; low = λ k l d. omega (arith, h.low k l d) }
