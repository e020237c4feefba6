-- One part of a text after another.
use Rattle.std.specs.Prelude.{Option, Some, None}

-- what follows a part, where there is that part
infixl 10 ◌>>=◌
abbrev pub ◌>>=◌ : {A B : Type 0} → Option A → (A → Option B) → Option B
None >>= f = None
(Some x) >>= f = f x
