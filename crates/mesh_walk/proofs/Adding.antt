-- Texts that are put one after the other.
use Rattle.std.proofs.Common.{◌≡◌, ℕ, ◌+◌, List, [], ◌++◌, length, Result, Ok, Err, refl, sym, ◌∙◌, ap, subst, arith, append_assoc, length-append}
use Rattle.std.proofs.lemmas.List.{append-nil}
use Rattle.byte_streams.specs.Seen.{Tape, Stages}
use Rattle.byte_streams.specs.declared.Failed.{Failed}
use Rattle.byte_streams.proofs.Known.{Appends-nil}
use Rattle.byte_streams.proofs.Staging.{nothing_staged, stages_both, stages_first}
use Rattle.mesh_lines.specs.Blocks.{Adds, Gathered, IsBehind, counted}

pub behind_none : (b : Gathered) → IsBehind b b []
behind_none b = record { waiting = sym (append-nil b.waiting); total = ap counted (none b.total) }
  where
    none : (n : ℕ) → n ≡ n + length {A = ℕ} []
    none n = omega arith

pub behind_both : (b0 b1 b2 : Gathered) (x y : List ℕ) → IsBehind b0 b1 x → IsBehind b1 b2 y → IsBehind b0 b2 (x ++ y)
behind_both b0 b1 b2 x y p q = record {
  waiting = q.waiting ∙ (ap (λ l. l ++ y) p.waiting ∙ append_assoc b0.waiting x y);
  total = sums b0.total b1.total b2.total (length x) (length y) (length (x ++ y)) (length-append x y) p.total q.total;
}
  where
    sums : (a b c m n k : ℕ) → k ≡ m + n → counted b ≡ counted (a + m) → counted c ≡ counted (b + n) → counted c ≡ counted (a + k)
    sums a b c m n k e p q = omega arith

pub behind_as : (b0 b1 : Gathered) (x y : List ℕ) → x ≡ y → IsBehind b0 b1 x → IsBehind b0 b1 y
behind_as b0 b1 x y e p = subst (IsBehind b0 b1) e p

-- nothing was put
pub adds_none : {T : Type 0} (t : Tape) (b : Gathered) (x : T) → Adds t t b b (Ok x) []
adds_none t b x = record { staged = nothing_staged t b.waiting x; total = (behind_none b).total }

-- one text behind what was put before
pub adds_both : {T U : Type 0} (t0 t1 t2 : Tape) (b0 b1 b2 : Gathered) (x : U) (r : Result T Failed) (a b : List ℕ) → Adds t0 t1 b0 b1 (Ok x) a → Adds t1 t2 b1 b2 r b → Adds t0 t2 b0 b2 r (a ++ b)
adds_both t0 t1 t2 b0 b1 b2 x (Ok y) a b p q = record {
  staged = stages_both t0 t1 t2 x (Ok y) b0.waiting b1.waiting b2.waiting a b p.staged q.staged;
  total = sums b0.total b1.total b2.total (length a) (length b) (length (a ++ b)) (length-append a b) p.total q.total;
}
  where
    sums : (a b c m n k : ℕ) → k ≡ m + n → counted b ≡ counted (a + m) → counted c ≡ counted (b + n) → counted c ≡ counted (a + k)
    sums a b c m n k e p q = omega arith
adds_both t0 t1 t2 b0 b1 b2 x (Err e) a b p q = record { staged = stages_both t0 t1 t2 x (Err e) b0.waiting b1.waiting b2.waiting a b p.staged q.staged; total = tt }

-- a text that is gathered alone
pub adds_behind : {T : Type 0} (t : Tape) (b0 b1 : Gathered) (x : T) (a : List ℕ) → IsBehind b0 b1 a → Adds t t b0 b1 (Ok x) a
adds_behind t b0 b1 x a p = record {
  staged = record { gained = ([], sym p.waiting, Appends-nil t.taken); beside = refl; cause = record { later = omega arith; failed = tt } };
  total = p.total;
}

-- a front of a text could not be put
pub adds_front : {T U : Type 0} (t0 t1 : Tape) (b0 b1 b1' : Gathered) (e e' : Failed) (a b whole : List ℕ) → whole ≡ a ++ b → Adds {T = U} t0 t1 b0 b1 (Err e) a → Adds {T = T} t0 t1 b0 b1' (Err e') whole
adds_front {T = T} t0 t1 b0 b1 b1' e e' a b whole parts p = record {
  staged = subst (λ (l : List ℕ). Stages {T = T} t0 t1 b0.waiting b1'.waiting (Err e') l) (sym parts) (stages_first t0 t1 e e' b0.waiting b1.waiting b1'.waiting a b p.staged);
  total = tt;
}

pub adds_as : {T : Type 0} (t0 t1 : Tape) (b0 b1 : Gathered) (r : Result T Failed) (a b : List ℕ) → a ≡ b → Adds t0 t1 b0 b1 r a → Adds t0 t1 b0 b1 r b
adds_as t0 t1 b0 b1 r a b e p = subst (Adds t0 t1 b0 b1 r) e p
