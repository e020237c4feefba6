use Rattle.std.proofs.Common.{◌≡◌, ◌∙◌, ◌-◌, true, ltb, lt-ltb, refl}
use Rattle.text_samples.proofs.HexFront.{byte_front}
use Rattle.text_samples.proofs.hex.byte_in_front.Goals as goal

pub returns-then-low-gt0-clause-value : goal.returns-then-low-gt0-clause-value
returns-then-low-gt0-clause-value c = λ wanted done.
    let high : ltb 0 c.digit_number-high.result ≡ true = lt-ltb _ _ c.if-high-gt0.true in
    let low : ltb 0 c.digit_number-low.result ≡ true = lt-ltb _ _ c.if-low-gt0.true in
    byte_front wanted done c.args.rest.now (c.digit_number-high.result - 1) (c.digit_number-low.result - 1) c.in-len2-up.len_at_least
    (c.digit_number-high.ensures.value ∙ rw high refl) (c.digit_number-low.ensures.value ∙ rw low refl)
