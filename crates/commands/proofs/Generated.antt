-- A text was written, or a front of it, and nothing was read.
use Rattle.std.proofs.Common.{ℕ, List, Ok, Err}
use Rattle.byte_streams.specs.Seen.{Feed, Puts, Tape}
use Rattle.command_terms.specs.Outcome.{Streams, Writes, WritesFront}

abbrev unread : Feed → Tape → Tape → Streams
unread input old new = record { input = input; input_after = input; output = old; output_after = new }

pub wrote : {T E : Type 0} (input : Feed) (old new : Tape) (x : T) (text : List ℕ) → Puts {E = E} old new (Ok x) text → Writes (unread input old new) text
wrote input old new x text p = record { gained = p.gained; beside = p.beside }

pub wrote_front : {T E : Type 0} (input : Feed) (old new : Tape) (x : E) (text : List ℕ) → Puts {T = T} old new (Err x) text → WritesFront (unread input old new) text
wrote_front input old new x text p = record { cause = p.cause.failed; gained = p.gained; beside = p.beside }
