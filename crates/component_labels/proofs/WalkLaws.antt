-- What a step of the walk keeps.
use Rattle.std.proofs.Common.{◌≡◌, ◌≢◌, ℕ, ◌+◌, ◌<◌, ◌≤◌, List, [], ◌∷◌, ◌++◌, cond, length, get_or, set, eqb, refl, sym, ap, ◌∙◌, subst, inl, inr, arith, length-append}
use Rattle.std.proofs.lemmas.Bool.{cases_eq, cases_lt, ne_eqb}
use Rattle.std.proofs.lemmas.List.{get_or-set_same, get_or-set_other, length-set}
use Rattle.std.proofs.Math.ListN.{get_or-append}
use Rattle.std.proofs.Math.Seq.{get_or-append_seam}
use Rattle.std.proofs.lemmas.List.Sums.{sum_by-set}
use Rattle.part_laws.specs.Meets.{least_joined}
use Rattle.component_labels.specs.Chains.{ArePaired, begins_at, ends_at}
use Rattle.component_labels.specs.Walks.{AreClosed, IsClosedAt, IsSpread, Keeps, none, unseen}

pub keeps_itself : (s : ℕ) (least queue : List ℕ) → Keeps s least queue least queue
keeps_itself s least queue = record {
  size = refl;
  same = λ v l h. refl;
  new = λ v l e n. absurd (n e);
  longer = omega arith;
  front = λ j l. refl;
  behind = λ j a b. absurd (omega arith);
  left = refl;
}

-- one fewer is unseen
unseen_less : (least : List ℕ) (v s : ℕ) → v < length least → get_or least v 0 ≡ none → s < none → unseen (set least v s) + 1 ≡ unseen least
unfolding unseen
unseen_less least v s l e low =
    let f : ℕ → ℕ = λ k. cond (eqb k none) 1 0 in
    let a = sum_by-set f least v s 0 l in
    let b : f (get_or least v 0) ≡ 1 = ap f e in
    let c : f s ≡ 0 = ap (λ b. cond b 1 0) (ne_eqb s none (λ q. absurd (omega arith))) in
    omega (arith, a, b, c)

module _ (s : ℕ) (least queue : List ℕ) (label : ℕ) (l : label < length least) (e : get_or least label 0 ≡ none) (low : s < none) where
  abbrev least' : List ℕ
  least' = set least label s

  abbrev queue' : List ℕ
  queue' = queue ++ label ∷ []

  here : get_or least' label 0 ≡ s
  here = get_or-set_same least label s 0 l

  other : (v : ℕ) → v ≢ label → get_or least' v 0 ≡ get_or least v 0
  other v d = get_or-set_other least label v s 0 d

  last : (j : ℕ) → length queue ≤ j → j < length queue' → get_or queue' j 0 ≡ label
  last j a b =
      let n : length queue' ≡ length queue + 1 = length-append queue (label ∷ []) in
      let at : j ≡ length queue = omega arith in
      ap (λ k. get_or queue' k 0) at ∙ get_or-append_seam queue label [] 0

  pub keeps_more : Keeps s least queue least' queue'
  keeps_more = record {
    size = length-set least label s;
    same = λ v k n. other v (λ q. n (ap (λ x. get_or least x 0) q ∙ e));
    new = λ v k z n.
        elim (cases_eq v label) [
          | inl q ↦ ap (λ x. get_or least' x 0) q ∙ here
          | inr d ↦ absurd (n (other v d ∙ z))
        ];
    longer = omega (arith, length-append queue (label ∷ []));
    front = λ j k. get_or-append queue (label ∷ []) 0 j k;
    behind = λ j a b. (subst (λ x. x < length least) (sym (last j a b)) l, ap (λ x. get_or least' x 0) (last j a b) ∙ here);
    left = omega (arith, unseen_less least label s l e low, length-append queue (label ∷ []));
  }

  pub spread_more : (ps : List (ℕ × ℕ)) → IsSpread ps s least queue → least_joined ps label ≡ least_joined ps s → IsSpread ps s least' queue'
  spread_more ps h same = record {
    before = λ v k.
        elim (cases_eq v label) [
          | inl q ↦ absurd (h.before v k (ap (λ x. get_or least x 0) q ∙ e))
          | inr d ↦ subst (λ z. z ≢ none) (sym (other v d)) (h.before v k)
        ];
    most = λ v k n. by (λ v x. x ≤ s) (omega arith) (λ v k n. h.most v k n) v k n;
    low = λ v k n. by (λ v x. x ≤ v) above (λ v k n. h.low v k n) v k n;
    joined = λ v k n. by (λ v x. least_joined ps x ≡ least_joined ps v) (sym same) (λ v k n. h.joined v k n) v k n;
    queued = λ v k n.
        elim (cases_eq v label) [
          | inl q ↦ (length queue, omega (arith, length-append queue (label ∷ [])), get_or-append_seam queue label [] 0 ∙ sym q)
          | inr d ↦ (
              let r = h.queued v (omega (arith, k, length-set least label s)) (subst (λ z. z ≢ none) (other v d) n) in
              (r.0, omega (arith, r.1, length-append queue (label ∷ [])), get_or-append queue (label ∷ []) 0 r.0 r.1 ∙ r.2))
        ];
    known = λ j k.
        elim (cases_lt j (length queue)) [
          | inl a ↦ (
              let r = h.known j a in
              let f : get_or queue' j 0 ≡ get_or queue j 0 = get_or-append queue (label ∷ []) 0 j a in
              let d : get_or queue j 0 ≢ label = λ q. r.1 (ap (λ x. get_or least x 0) q ∙ e) in (
                omega (arith, r.0, f, length-set least label s),
                subst (λ x. get_or least' x 0 ≢ none) (sym f) (subst (λ z. z ≢ none) (sym (other (get_or queue j 0) d)) r.1),
              ))
          | inr a ↦ (
              let f : get_or queue' j 0 ≡ label = last j a k in (
                omega (arith, f, l, length-set least label s),
                subst (λ x. get_or least' x 0 ≢ none) (sym f) (λ q. absurd (omega (arith, q, here, low))),
              ))
        ];
  }
    where
      -- labels before the start were seen
      above : s ≤ label
      above = elim (cases_lt label s) [ inl a ↦ absurd (h.before label a e) | inr b ↦ b ]

      by : (P : ℕ → ℕ → Type 0) → P label s → ((v : ℕ) → v < length least → get_or least v 0 ≢ none → P v (get_or least v 0))
          → (v : ℕ) → v < length least' → get_or least' v 0 ≢ none → P v (get_or least' v 0)
      by P p f v k n =
          elim (cases_eq v label) [
            | inl q ↦ subst (λ x. P x (get_or least' x 0)) (sym q) (subst (P label) (sym here) p)
            | inr d ↦ subst (P v) (sym (other v d)) (f v (omega (arith, k, length-set least label s)) (subst (λ z. z ≢ none) (other v d) n))
          ]

-- one step after another
module _ (s : ℕ) (low : s < none) (least queue least' queue' least'' queue'' : List ℕ) (h : Keeps s least queue least' queue') (k : Keeps s least' queue' least'' queue'') where
  stays : (v : ℕ) → v < length least → get_or least' v 0 ≢ none → get_or least'' v 0 ≡ get_or least' v 0
  stays v l n = k.same v (omega (arith, h.size)) n

  pub keeps_on : Keeps s least queue least'' queue''
  keeps_on = record {
    size = k.size ∙ h.size;
    same = λ v l n. stays v l (subst (λ z. z ≢ none) (sym (h.same v l n)) n) ∙ h.same v l n;
    new = λ v l e n.
        elim (cases_eq (get_or least' v 0) none) [
          | inl q ↦ k.new v (omega (arith, h.size)) q n
          | inr d ↦ stays v l d ∙ h.new v l e d
        ];
    longer = omega (arith, h.longer, k.longer);
    front = λ j l. k.front j (omega (arith, h.longer)) ∙ h.front j l;
    behind = λ j a b.
        elim (cases_lt j (length queue')) [
          | inl c ↦ (
              let r = h.behind j a c in
              let f : get_or queue'' j 0 ≡ get_or queue' j 0 = k.front j c in
              let n : get_or least' (get_or queue' j 0) 0 ≢ none = λ q. absurd (omega (arith, q, r.1)) in (
                omega (arith, f, r.0),
                ap (λ x. get_or least'' x 0) f ∙ (stays (get_or queue' j 0) r.0 n ∙ r.1),
              ))
          | inr c ↦ (let r = k.behind j c b in (omega (arith, r.0, h.size), r.1))
        ];
    left = k.left ∙ h.left;
  }

-- what was closed stays closed
module _ (ps : List (ℕ × ℕ)) (s : ℕ) (low : s < none) (least queue least' queue' : List ℕ) (paired : ArePaired (length least) ps) (h : Keeps s least queue least' queue')
    (known : (j : ℕ) → j < length queue → (get_or queue j 0 < length least) × (get_or least (get_or queue j 0) 0 ≢ none)) where
  closed_at : (v : ℕ) → v < length least → get_or least v 0 ≢ none → IsClosedAt ps least v → IsClosedAt ps least' v
  closed_at v l n c = λ i k b.
      (let a : get_or least (ends_at ps i) 0 ≡ get_or least v 0 = c i k b in
      h.same (ends_at ps i) (paired.ends i k) (subst (λ z. z ≢ none) (sym a) n) ∙ (a ∙ sym (h.same v l n)))

  pub closed_on : (walked : ℕ) → AreClosed ps s least queue walked → AreClosed ps s least' queue' walked
  closed_on walked c = record {
    older = λ v l k.
        elim (cases_eq (get_or least v 0) none) [
          | inl q ↦ (
              let n : get_or least' v 0 ≢ none = λ z. absurd (omega arith) in
              let e : get_or least' v 0 ≡ s = h.new v (omega (arith, h.size)) q n in
              absurd (omega arith))
          | inr d ↦ (
              let l' : v < length least = omega (arith, h.size) in
              closed_at v l' d (c.older v l' (omega (arith, h.same v l' d))))
        ];
    walked_is = omega (arith, c.walked_is, h.longer);
    first = λ j l.
        (let k : j < length queue = omega (arith, c.walked_is) in
        let r = known j k in
        subst (IsClosedAt ps least') (sym (h.front j k)) (closed_at (get_or queue j 0) r.0 r.1 (c.first j l)));
    ahead = λ j a b.
        elim (cases_lt j (length queue)) [
          | inl k ↦ (let r = known j k in ap (λ x. get_or least' x 0) (h.front j k) ∙ (h.same (get_or queue j 0) r.0 r.1 ∙ c.ahead j a k))
          | inr k ↦ (h.behind j k b).1
        ];
  }

  -- and the next in the queue is closed where all that its pairs lead to was seen
  pub closed_step : (walked : ℕ) → AreClosed ps s least queue walked → walked < length queue → IsSpread ps s least' queue'
      → ((i : ℕ) → i < length ps → begins_at ps i ≡ get_or queue walked 0 → get_or least' (ends_at ps i) 0 ≢ none) → AreClosed ps s least' queue' (walked + 1)
  closed_step walked c l spread seen =
      let on : AreClosed ps s least' queue' walked = closed_on walked c in
      record {
        older = on.older;
        walked_is = omega (arith, h.longer);
        first = λ j k.
            elim (cases_lt j walked) [
              | inl a ↦ on.first j a
              | inr a ↦ (let e : j ≡ walked = omega arith in subst (λ x. IsClosedAt ps least' (get_or queue' x 0)) (sym e) (subst (IsClosedAt ps least') (sym (h.front walked l)) step))
            ];
        ahead = λ j a b. on.ahead j (omega arith) b;
      }
    where
      from : get_or least (get_or queue walked 0) 0 ≡ s
      from = c.ahead walked (omega arith) l

      from' : get_or least' (get_or queue walked 0) 0 ≡ s
      from' = (let r = known walked l in h.same (get_or queue walked 0) r.0 r.1 ∙ from)

      step : IsClosedAt ps least' (get_or queue walked 0)
      step = λ i k b.
          (let e : ℕ = ends_at ps i in
          let low_e : e < length least = paired.ends i k in
          let n : get_or least' e 0 ≢ none = seen i k b in
          let m : get_or least' e 0 ≤ s = spread.most e (omega (arith, h.size)) n in
          elim (cases_lt (get_or least' e 0) s) [
            | inr a ↦ (let q : get_or least' e 0 ≡ s = omega arith in q ∙ sym from')
            | inl a ↦ (
                let d : get_or least e 0 ≢ none = λ z. (let q : get_or least' e 0 ≡ s = h.new e low_e z n in absurd (omega arith)) in
                let older : get_or least e 0 < s = omega (arith, h.same e low_e d) in
                let t = paired.back i k in
                let back : get_or least (ends_at ps t.0) 0 ≡ get_or least e 0 = c.older e low_e older t.0 t.1 t.2 in
                let there : get_or least (get_or queue walked 0) 0 ≡ get_or least e 0 = ap (λ x. get_or least x 0) (sym (t.3 ∙ b)) ∙ back in
                absurd (omega arith))
          ])

-- when all in the queue were walked, the next start comes
module _ (ps : List (ℕ × ℕ)) (s : ℕ) (least queue : List ℕ) (spread : IsSpread ps s least queue) (walked : ℕ) (c : AreClosed ps s least queue walked) (all : walked ≡ length queue) where
  pub seen_closed : (v : ℕ) → v < length least → get_or least v 0 ≢ none → IsClosedAt ps least v
  seen_closed v l n =
      let r = spread.queued v l n in
      subst (IsClosedAt ps least) r.2 (c.first r.0 (omega (arith, r.1)))

  pub next_spread : get_or least s 0 ≢ none → IsSpread ps (s + 1) least queue
  next_spread n = record {
    before = λ v l. elim (cases_eq v s) [ inl e ↦ subst (λ x. get_or least x 0 ≢ none) (sym e) n | inr d ↦ spread.before v (omega arith) ];
    most = λ v l k. omega (arith, spread.most v l k);
    low = spread.low;
    joined = spread.joined;
    queued = spread.queued;
    known = spread.known;
  }

  pub next_closed : s + 1 < none → AreClosed ps (s + 1) least queue walked
  next_closed b = record {
    older = λ v l k. seen_closed v l (λ e. absurd (omega arith));
    walked_is = c.walked_is;
    first = c.first;
    ahead = λ j a b. absurd (omega arith);
  }
