use Rattle.std.proofs.Common.{◌≡◌, ◌+◌, ◌%◌, ◌^◌, ℕ, List, [], ◌∷◌, map, refl, ap, ap₂, ◌∙◌, arith}
use Rattle.std.proofs.lemmas.List.{length-map}
use Rattle.std.proofs.lemmas.Simd.{zip2_splat}
use lib.Lanes.{zip2}
use Rattle.row_bits.proofs.edges.moved_on.Goals as goal

-- two sums of lanes are one
twice : (a b : ℕ) (l : List ℕ) → map (λ e. (e + b) % 2 ^ 16) (map (λ e. (e + a) % 2 ^ 16) l) ≡ map (λ e. (e + a + b) % 2 ^ 16) l
twice a b [] = refl
twice a b (e ∷ l) = let one : ((e + a) % 2 ^ 16 + b) % 2 ^ 16 ≡ (e + a + b) % 2 ^ 16 = omega arith in ap₂ ◌∷◌ one (twice a b l)

pub returns : goal.returns
returns c =
    let a = c.args.by in
    let b = c.args.from in
    let first = zip2_splat _ c.args.offsets.now 8 a c.told-offsets in
    ap (λ (l : List ℕ). zip2 (λ e n. (e + n) % 2 ^ 16) l (b ∷ b ∷ b ∷ b ∷ b ∷ b ∷ b ∷ b ∷ [])) first
    ∙ (zip2_splat (λ e n. (e + n) % 2 ^ 16) (map (λ e. (e + a) % 2 ^ 16) c.args.offsets.now) 8 b (length-map c.args.offsets.now _ ∙ c.told-offsets) ∙ twice a b c.args.offsets.now)
