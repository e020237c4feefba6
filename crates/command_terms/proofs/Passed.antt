-- An error that `?` hands on.
use Rattle.std.proofs.Common.{◌≡◌, Ok, Err, IfErr, sym, subst}
use Rattle.std.specs.Prelude.{Result}
use Rattle.std.specs.Result.{IsErrAnd}

-- what holds of what a fault is turned into holds of what is answered
pub passed_on : {A E F : Type 0} (result : Result A E) (turned : F → E) (fault : F) (P : E → Type 0) → IsErrAnd result (λ e. e ≡ turned fault) → P (turned fault) → IfErr result P
passed_on (Ok x) turned fault P h p = absurd h
passed_on (Err e) turned fault P h p = subst P (sym h) p
