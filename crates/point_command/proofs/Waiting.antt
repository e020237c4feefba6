-- A line that is put behind what waits.
use Rattle.std.proofs.Common.{◌≡◌, List, [], ◌++◌, ℕ, Ok, refl, sym, arith}
use Rattle.byte_streams.specs.Seen.{Tape, Stages}
use Rattle.byte_streams.proofs.Known.{Appends-nil}
use Rattle.byte_streams.proofs.Staging.{stages_both}

pub line_kept : {T E : Type 0} (t : Tape) (x : T) (w line after : List ℕ) → after ≡ w ++ line → Stages {E = E} t t w after (Ok x) line
line_kept t x w line after e = record { gained = ([], sym e, Appends-nil t.taken); beside = refl; cause = record { later = omega arith; failed = tt } }

-- room was made, and then a line was put behind what waits
pub line_behind : {T U E : Type 0} (t0 t1 : Tape) (x : T) (y : U) (w0 w1 line after : List ℕ) → Stages {E = E} t0 t1 w0 w1 (Ok x) [] → after ≡ w1 ++ line → Stages {E = E} t0 t1 w0 after (Ok y) line
line_behind {E = E} t0 t1 x y w0 w1 line after s e = stages_both t0 t1 t1 x (Ok y) w0 w1 after [] line s (line_kept {E = E} t1 y w1 line after e)
