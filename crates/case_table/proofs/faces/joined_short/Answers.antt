use Rattle.std.proofs.Common.{◌≡◌, ◌∙◌, ℕ, ◌&&◌, Bool, ap, cond, arith, lit<}
use Rattle.iso_defs.specs.Bricks.{number_of_bits}
use Rattle.iso_defs.specs.Cell.{face_is_joined, joined_of, signs_of}
use Rattle.iso_defs.specs.Face.{is_ambiguous}
use Rattle.face_decider.specs.Cycle.{cycle_joined}
use Rattle.case_table.proofs.Joined.{joined_is, known_is, read_cycle}
use Rattle.case_table.proofs.Masked.{kept, of_digits}
use Rattle.case_table.proofs.Short.{short_small}
use Rattle.case_table.proofs.faces.joined_short.Goals as goal

pub returns : goal.returns
returns c =
    let small = short_small c.args.values.now c.requires.short in
    let is = joined_is c.args.values.now c.told-values small in
    let set : ℕ → Bool = λ f. is_ambiguous (signs_of (read_cycle c.args.values.now f)) in
    let joined : ℕ → Bool = λ f. cycle_joined (read_cycle c.args.values.now f) in
    let digit : ℕ → ℕ = λ f. cond (joined f) 1 0 in
    let kept_bit : ℕ → ℕ = λ f. cond (set f && joined f) 1 0 in
    let bit : ℕ → ℕ = λ f. cond (face_is_joined c.args.values.now f) 1 0 in
    let mask = kept c.args.faces set joined (λ f h. known_is c.args.values.now c.told-values small c.args.faces f h c.requires.known) in
    let d0 : c.short_digit-d0.result ≡ digit 0 = c.short_digit-d0.ensures.value in
    let d1 : c.short_digit-d1.result ≡ digit 1 = c.short_digit-d1.ensures.value in
    let d2 : c.short_digit-d2.result ≡ digit 2 = c.short_digit-d2.ensures.value in
    let d3 : c.short_digit-d3.result ≡ digit 3 = c.short_digit-d3.ensures.value in
    let d4 : c.short_digit-d4.result ≡ digit 4 = c.short_digit-d4.ensures.value in
    let d5 : c.short_digit-d5.result ≡ digit 5 = c.short_digit-d5.ensures.value in
    let b0 : kept_bit 0 ≡ bit 0 = ap (λ b. cond b 1 0) (is 0 (lit< tt)) in
    let b1 : kept_bit 1 ≡ bit 1 = ap (λ b. cond b 1 0) (is 1 (lit< tt)) in
    let b2 : kept_bit 2 ≡ bit 2 = ap (λ b. cond b 1 0) (is 2 (lit< tt)) in
    let b3 : kept_bit 3 ≡ bit 3 = ap (λ b. cond b 1 0) (is 3 (lit< tt)) in
    let b4 : kept_bit 4 ≡ bit 4 = ap (λ b. cond b 1 0) (is 4 (lit< tt)) in
    let b5 : kept_bit 5 ≡ bit 5 = ap (λ b. cond b 1 0) (is 5 (lit< tt)) in
    let all : of_digits kept_bit ≡ number_of_bits (joined_of c.args.values.now) = omega arith in
    rw (d0, d1, d2, d3, d4, d5) (mask ∙ all)
