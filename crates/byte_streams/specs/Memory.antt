-- Sources and sinks in memory.
use Rattle.std.specs.Prelude.{◌⊎◌, ℕ, ◌+◌, ◌<◌, List, [], length, take, Option, None, Some, Contains}
use Rattle.byte_streams.specs.Causes.{one_more}
use Rattle.byte_streams.specs.Seen.{no_files, Feed, Tape}

-- the bytes still to come, the most that a read gives, the calls that fail, and how many calls there were, how many that
-- took nothing, how many of those after the last that took a byte, and how many faults
pub record FedBytes : Type 0 where
  pub left : List ℕ
  pub piece : ℕ
  pub failing : List ℕ
  pub calls : ℕ
  pub empty_reads : ℕ
  pub empty_at_end : ℕ
  pub faults : ℕ

-- the bytes taken, the room for all, the most that a write takes, where there is such a bound, the calls that fail, and how many
-- calls and faults there were
pub record KeptBytes : Type 0 where
  pub taken : List ℕ
  pub room : ℕ
  pub piece : Option ℕ
  pub failing : List ℕ
  pub calls : ℕ
  pub faults : ℕ

-- what a write takes of the bytes where there is room for it
abbrev pub taken_of : Option ℕ → List ℕ → List ℕ
taken_of None bytes = bytes
taken_of (Some piece) bytes = take piece bytes

abbrev pub feed_of : FedBytes → Feed
feed_of m = record {
  left = Some m.left;
  reads = m.calls;
  empty_reads = m.empty_reads;
  empty_at_end = m.empty_at_end;
  faults = m.faults;
}

abbrev pub tape_of : KeptBytes → Tape
tape_of m = record {
  taken = Some m.taken;
  faults = m.faults;
  beside = record { held = []; others = Some ([], no_files) };
}

-- the next write is one of those that fail, or what it takes does not fit
abbrev pub RefusesWrite : KeptBytes → List ℕ → Type 0
RefusesWrite m bytes = Contains m.failing (one_more m.calls)
    ⊎ (m.room < length m.taken + length (taken_of m.piece bytes))
