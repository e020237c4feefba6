use Rattle.std.proofs.Common.{◌≡◌, Result, Ok, Err, ap}
use Rattle.std.proofs.lemmas.Result.{err_from_is_err_and}
use Rattle.padded_samples.proofs.pad.Padded.new.Goals as goal

the_fault : {A E : Type 0} → E → Result A E → E
the_fault other (Ok value) = other
the_fault other (Err fault) = fault

abbrev refusal : (A : Type 0) {E : Type 0} → E → Result A E
refusal A fault = Err fault

-- what refuses one value refuses another
refused_alike : {A B E S : Type 0} (e fault : E)
    → ((refusal A e ≡ refusal A fault) → S) × (S → (refusal A e ≡ refusal A fault))
    → ((refusal B e ≡ refusal B fault) → S) × (S → (refusal B e ≡ refusal B fault))
unfolding the_fault
refused_alike {A} {B} e fault h =
    ((λ p. h.0 (ap (refusal A) (ap (the_fault e) p))), (λ s. ap (refusal B) (ap (the_fault e) (h.1 s))))

pub returns-in_err-slab-clause-size : goal.returns-in_err-slab-clause-size
returns-in_err-slab-clause-size g c = λ fault.
    let p = err_from_is_err_and c.from_residual.result c.from_residual.ensures.1 in
    rw (p.1, p.2) (refused_alike _ fault (c.in_err-slab.ensures.size fault))
