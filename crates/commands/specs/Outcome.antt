-- What a call of the program does to the outside, and by which answer it ends.
use Rattle.std.specs.Prelude.{◌≡◌, ℕ, Option, None}
use Rattle.byte_streams.specs.Seen.{Feed, Tape}
use Rattle.iso_io.specs.Shelves.{Store}
use Rattle.bench_core.specs.Keeping.{Workbench}
use Rattle.command_terms.specs.Outcome.{Streams, streams_between}
use Rattle.program.specs.declared.answer.Answer.{Answer}
use Rattle.program.specs.declared.answer.Answer.TheVariants as answers

-- the input and the output, the shelf, the bench that is left, and the counter of classified cells
pub record Call : Type 0 where
  pub streams : Streams
  pub store : Store
  pub store_after : Store
  pub left : Option Workbench
  pub steps : ℕ
  pub steps_after : ℕ

-- a call, by its streams, how its shelf is seen, and what is left
abbrev pub call_with : {H : Type 0} → Streams → (H → Store) → H → H → Option Workbench → ℕ → ℕ → Call
call_with streams store shelf shelf_after left steps steps_after = record {
  streams = streams;
  store = store shelf;
  store_after = store shelf_after;
  left = left;
  steps = steps;
  steps_after = steps_after;
}

-- a call, by how what it is given is seen, and what that is before it and after it
abbrev pub call_between : {S K H : Type 0} → (S → Feed) → (K → Tape) → (H → Store) → S → S → K → K → H → H →
    Option Workbench → ℕ → ℕ → Call
call_between feed tape store input input_after output output_after shelf shelf_after left steps steps_after =
    call_with (streams_between feed tape input input_after output output_after) store shelf shelf_after left steps
    steps_after

-- the shelf was not touched, no bench is left, and no cell was classified
pub record LeavesShelf (call : Call) : Type 0 where
  pub same : call.store_after ≡ call.store
  pub none : call.left ≡ None
  pub steps : call.steps_after ≡ call.steps

-- what is no command line is refused, and nothing is read, written or left
pub record Rejects (call : Call) (answer : Answer) : Type 0 where
  pub answer_is : answer ≡ answers.BadWords
  pub nothing_read : call.streams.input_after ≡ call.streams.input
  pub nothing_written : call.streams.output_after ≡ call.streams.output
  pub shelf : LeavesShelf call
