-- Counts of faults of the system's adapters.
use Rattle.std.proofs.Common.{◌≡◌, ℕ, if◌then◌else◌, Ok, Err, subst, arith, IfOk}
use Rattle.std.specs.Prelude.{Result, IsErrOf}
use Rattle.byte_streams.specs.Causes.{Rose}
use Rattle.byte_streams.specs.Causes.{one_more}
use Rattle.iso_io.specs.Shelves.{is_failed}
use Rattle.refusals.specs.declared.shelf.ShelfError.{ShelfError}
use Rattle.refusals.specs.declared.shelf.ShelfError.TheVariants.{Failed}

-- nothing is said of the bytes of a shelf that tells none
pub untold : {T E : Type 0} (r : Result T E) → IfOk r (λ _. Unit {0})
untold (Ok x) = tt
untold (Err e) = tt

same_count : (n m : ℕ) → m ≡ one_more n → Rose n m
same_count n m e = omega (arith, e)

pub rose_if_failed : {T : Type 0} (r : Result T ShelfError) (n m : ℕ) → m ≡ (if is_failed r then one_more n else n) → IsErrOf r Failed → Rose n m
rose_if_failed {T} r n m e failed = same_count n m (subst (λ (x : Result T ShelfError). m ≡ (if is_failed x then one_more n else n)) failed e)
