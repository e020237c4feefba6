-- The bytes of runs of a generated volume.
use Rattle.std.proofs.Common.{◌≡◌, ◌∙◌, ℕ, zero, suc, ◌<◌, ◌++◌, List, [], ◌∷◌, ℤ, pos, replicate, refl, sym, ap, ap₂}
use Rattle.std.specs.Prelude.{Result, Ok, Err}
use Rattle.std.proofs.Common.{subst}
use Rattle.std.proofs.Math.Nat.{mod-eq_of_lt}
use Rattle.std.proofs.lemmas.List.Concat.{flat_map-append}
use Rattle.iso_base.specs.declared.kind.SampleKind.TheVariants.{U8}
use Rattle.byte_streams.specs.Seen.{Stages, Tape}
use Rattle.byte_streams.proofs.Staging.{nothing_staged, stages_both, stages_first}
use Rattle.nrrd.specs.Writing.{samples_text}
use Rattle.iso_base.specs.SampleBytes.{sample_bytes}

pub samples_both : (a b : List ℤ) → samples_text U8 (a ++ b) ≡ samples_text U8 a ++ samples_text U8 b
samples_both a b = flat_map-append (sample_bytes U8) a b

-- so many equal samples
pub run_bytes : (n sample : ℕ) → sample < 256 → samples_text U8 (replicate n (pos sample)) ≡ replicate n sample
run_bytes zero sample low = refl
run_bytes (suc n) sample low = ap₂ (λ b bs. b ++ bs) (one_byte sample low) (run_bytes n sample low)
  where
    one_byte : (sample : ℕ) → sample < 256 → sample_bytes U8 (pos sample) ≡ sample ∷ []
    one_byte sample low = ap (λ b. b ∷ []) (mod-eq_of_lt low)

-- where there are no samples, none are staged
pub none_staged : {E : Type 0} (t : Tape) (waiting : List ℕ) (xs : List ℤ) → xs ≡ [] → Stages {T = Unit {0}} {E = E} t t waiting waiting (Ok tt) (samples_text U8 xs)
none_staged {E = E} t waiting xs e = subst (λ (l : List ℤ). Stages {T = Unit {0}} {E = E} t t waiting waiting (Ok tt) (samples_text U8 l)) (sym e) (nothing_staged t waiting tt)

-- samples were staged, and then more of them
pub more_staged : {E : Type 0} (t0 t1 t2 : Tape) (r : Result (Unit {0}) E) (w0 w1 w2 : List ℕ) (xs ys zs : List ℤ) → zs ≡ xs ++ ys
    → Stages {T = Unit {0}} {E = E} t0 t1 w0 w1 (Ok tt) (samples_text U8 xs) → Stages t1 t2 w1 w2 r (samples_text U8 ys) → Stages t0 t2 w0 w2 r (samples_text U8 zs)
more_staged t0 t1 t2 r w0 w1 w2 xs ys zs e a b =
    subst (λ (l : List ℕ). Stages t0 t2 w0 w2 r l) (sym (ap (samples_text U8) e ∙ samples_both xs ys)) (stages_both t0 t1 t2 tt r w0 w1 w2 _ _ a b)

-- samples were not staged, so neither are those that go on behind them
pub not_staged : {T U E E' : Type 0} (t0 t1 : Tape) (e : E) (e' : E') (w0 w1 w1' : List ℕ) (xs zs : List ℤ) → (rest : List ℤ) × (zs ≡ xs ++ rest)
    → Stages {T = U} t0 t1 w0 w1 (Err e) (samples_text U8 xs) → Stages {T = T} t0 t1 w0 w1' (Err e') (samples_text U8 zs)
not_staged {T = T} t0 t1 e e' w0 w1 w1' xs zs h s =
    subst (λ (l : List ℕ). Stages {T = T} t0 t1 w0 w1' (Err e') l) (sym (ap (samples_text U8) h.1 ∙ samples_both xs h.0)) (stages_first t0 t1 e e' w0 w1 w1' _ _ s)
