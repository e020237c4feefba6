-- What is put along runs of numbers.
use Rattle.std.proofs.Common.{◌≡◌, ℕ, ◌+◌, ◌-◌, ◌≤◌, Bool, List, [], ◌++◌, Ok, Err, sym, ◌∙◌, ap, subst, arith, append-nil}
use Rattle.byte_streams.specs.Seen.{Tape}
use Rattle.byte_streams.specs.declared.Failed.{Failed}
use Rattle.mesh_lines.specs.Blocks.{Adds, Gathered}
use Rattle.mesh_rows.specs.Counts.{span}
use Rattle.mesh_rows.proofs.SpanLaws.{span_more, span_none}
use Rattle.mesh_walk.proofs.Adding.{adds_as, adds_both, adds_front, adds_none}

-- how what is put grows along a run
module _ (f : ℕ → List ℕ) (p : ℕ → Bool) (a : ℕ) where
  pub run_none : {T : Type 0} (t : Tape) (b : Gathered) (x : T) → Adds t t b b (Ok x) (span f p a 0)
  run_none t b x = adds_as t t b b (Ok x) [] (span f p a 0) (sym (span_none f p a)) (adds_none t b x)

  pub run_more : {T U : Type 0} (t0 t1 t2 : Tape) (b0 b1 b2 : Gathered) (x : U) (y : T) (m n k c : ℕ) → c ≡ a + m → k ≡ m + n
      → Adds t0 t1 b0 b1 (Ok x) (span f p a m) → Adds t1 t2 b1 b2 (Ok y) (span f p c n) → Adds t0 t2 b0 b2 (Ok y) (span f p a k)
  run_more t0 t1 t2 b0 b1 b2 x y m n k c from to before here =
      let there = subst (λ c. Adds t1 t2 b1 b2 (Ok y) (span f p c n)) from here in
      adds_as t0 t2 b0 b2 (Ok y) (span f p a m ++ span f p (a + m) n) (span f p a k) (sym (span_more f p a m n) ∙ ap (span f p a) (sym to))
      (adds_both t0 t1 t2 b0 b1 b2 x (Ok y) (span f p a m) (span f p (a + m) n) before there)

  pub run_failed : {T U V : Type 0} (t0 t1 t2 : Tape) (b0 b1 b2 b3 : Gathered) (x : U) (e e' : Failed) (m n k c : ℕ) → c ≡ a + m → m + n ≤ k
      → Adds t0 t1 b0 b1 (Ok x) (span f p a m) → Adds {T = V} t1 t2 b1 b2 (Err e) (span f p c n) → Adds {T = T} t0 t2 b0 b3 (Err e') (span f p a k)
  run_failed {V = V} t0 t1 t2 b0 b1 b2 b3 x e e' m n k c from within before here =
      let there = subst (λ c. Adds {T = V} t1 t2 b1 b2 (Err e) (span f p c n)) from here in
      let rest : ℕ = k - (m + n) in
      let to : k ≡ m + n + rest = omega arith in
      let parts : span f p a k ≡ (span f p a m ++ span f p (a + m) n) ++ span f p (a + (m + n)) rest
      = ap (span f p a) to ∙ (span_more f p a (m + n) rest ∙ ap (λ l. l ++ span f p (a + (m + n)) rest) (span_more f p a m n)) in
      adds_front t0 t2 b0 b2 b3 e e' (span f p a m ++ span f p (a + m) n) (span f p (a + (m + n)) rest) (span f p a k) parts
      (adds_both t0 t1 t2 b0 b1 b2 x (Err e) (span f p a m) (span f p (a + m) n) before there)

  -- and passes over a run that gives nothing
  pub run_quiet : {T : Type 0} (t0 t1 : Tape) (b0 b1 : Gathered) (x : T) (m n : ℕ) → m ≤ n → span f p (a + m) (n - m) ≡ []
      → Adds t0 t1 b0 b1 (Ok x) (span f p a m) → Adds t0 t1 b0 b1 (Ok x) (span f p a n)
  run_quiet t0 t1 b0 b1 x m n within none before =
      let to : n ≡ m + (n - m) = omega arith in
      adds_as t0 t1 b0 b1 (Ok x) (span f p a m) (span f p a n)
      (sym (ap (span f p a) to ∙ (span_more f p a m (n - m) ∙ (ap (λ l. span f p a m ++ l) none ∙ append-nil (span f p a m))))) before
