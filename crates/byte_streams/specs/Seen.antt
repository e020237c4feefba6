-- What is known of a source and of a sink, and what a call does to it.
use Rattle.std.specs.Prelude.{ℕ, List, ◌≡◌, ◌+◌, ◌<◌, ◌≤◌, [], ◌++◌, length, take, min, Option, Some, None, Result, Ok, Err, MatchResult, IfOk, IfSome}
use Rattle.std.specs.FinMap.{FinMap, empty, from_entries}
use Rattle.std.specs.Ordering.{nat_cmp}
use Rattle.std.specs.Cmp.Lexicographic.{slice_cmp}
use Rattle.std.specs.Io.KnownBytes.{Appends, Consumes, ReadConsumes, IsAtEnd}
use Rattle.std.specs.Borrow.{GName}
use Rattle.byte_streams.specs.Causes.{HasCause, one_more}

abbrev pub Files : Type 0
Files = FinMap (slice_cmp nat_cmp) (List ℕ)

abbrev pub no_files : Files
no_files = empty

-- the files of names with their bytes
abbrev pub files_of : List (List ℕ × List ℕ) → Files
files_of entries = from_entries entries

-- a source: the bytes still to come, where they are told, how often it was read, how many of these reads took nothing,
-- how many of those came after the last read that took a byte, and how often it failed
pub record Feed : Type 0 where
  pub left : Option (List ℕ)
  pub reads : ℕ
  pub empty_reads : ℕ
  pub empty_at_end : ℕ
  pub faults : ℕ

-- What lies beside the bytes of a sink, and no call changes: the shelf that it writes to, by the name of the loan,
-- with the file's name; and that name and the other files, where they are told.
pub record Side : Type 0 where
  pub held : List (GName × List ℕ)
  pub others : Option (List ℕ × Files)

-- a sink: the bytes so far, where they are told, how often it failed, and what lies beside it, a name and files
pub record Tape : Type 0 where
  pub taken : Option (List ℕ)
  pub faults : ℕ
  pub beside : Side

-- the counts of a source that tells nothing of its bytes, as in `Feed`
pub record Counts : Type 0 where
  pub reads : ℕ
  pub empty_reads : ℕ
  pub empty_at_end : ℕ
  pub faults : ℕ

-- a source and a sink that tell nothing of their bytes
abbrev pub untold_feed : Counts → Feed
untold_feed counts = record {
  left = None;
  reads = counts.reads;
  empty_reads = counts.empty_reads;
  empty_at_end = counts.empty_at_end;
  faults = counts.faults;
}

abbrev pub untold_tape : ℕ → Tape
untold_tape faults = record {
  taken = None;
  faults = faults;
  beside = record { held = []; others = Some ([], no_files) };
}

-- a front of the text was appended
abbrev pub AppendsFront : Option (List ℕ) → Option (List ℕ) → List ℕ → Type 0
AppendsFront old new text = (front : List ℕ) × (back : List ℕ) × (text ≡ front ++ back) × Appends old new front

-- how many bytes a read took
abbrev pub taken_by : {E : Type 0} → Result ℕ E → ℕ
taken_by (Ok n) = n
taken_by (Err e) = 0

-- one read, which took so many bytes, was counted
pub record CountsRead (old new : Feed) (count : ℕ) : Type 0 where
  pub reads : new.reads ≡ one_more old.reads
  pub some : 0 < count → (new.empty_reads ≡ old.empty_reads) × (new.empty_at_end ≡ 0)
  pub none : count ≡ 0 → (new.empty_reads ≡ one_more old.empty_reads)
      × (new.empty_at_end ≡ one_more old.empty_at_end)

-- one read
pub record Reads {E : Type 0} (old new : Feed) (result : Result ℕ E) (buffer : List ℕ) : Type 0 where
  pub bytes : ReadConsumes old.left new.left result buffer
  pub counted : CountsRead old new (taken_by result)
  pub cause : HasCause old.faults new.faults result

-- one write takes a front of the bytes, and at least one of them where there is one
pub record Writes {E : Type 0} (old new : Tape) (result : Result ℕ E) (bytes : List ℕ) : Type 0 where
  pub some : IfOk result (λ n. 0 < length bytes → 0 < n)
  pub gained : MatchResult result (λ n. Appends old.taken new.taken (take n bytes))
      (λ _. AppendsFront old.taken new.taken bytes)
  pub beside : new.beside ≡ old.beside
  pub cause : HasCause old.faults new.faults result

-- the whole text was appended, or the sink failed and a front of it was
pub record Puts {T E : Type 0} (old new : Tape) (result : Result T E) (text : List ℕ) : Type 0 where
  pub gained : MatchResult result (λ _. Appends old.taken new.taken text) (λ _. AppendsFront old.taken new.taken text)
  pub beside : new.beside ≡ old.beside
  pub cause : HasCause old.faults new.faults result

-- the whole text was appended
pub record PutAll (old new : Tape) (text : List ℕ) : Type 0 where
  pub gained : Appends old.taken new.taken text
  pub beside : new.beside ≡ old.beside
  pub later : old.faults ≤ new.faults

-- These bytes were taken from a source. Each read took at least one of them, but for so many last ones.
pub record Takes (last : ℕ) (old new : Feed) (bytes : List ℕ) : Type 0 where
  pub consumed : Consumes old.left new.left bytes
  pub reads : new.reads ≤ old.reads + length bytes + last
  pub empty : new.empty_reads ≤ old.empty_reads + min last new.empty_at_end

-- A source was read no further than the limit and one piece of 65,536 bytes, and each read but the last took at least one byte.
pub record ReadsWithin (limit : ℕ) (old new : Feed) : Type 0 where
  pub bytes : List ℕ
  pub takes : Takes 1 old new bytes
  pub within : length bytes ≤ limit + 65536

-- reading stopped at the first piece that passed the limit, and each read took at least one byte
pub record ReadsPast (limit : ℕ) (old new : Feed) : Type 0 where
  pub bytes : List ℕ
  pub takes : Takes 0 old new bytes
  pub past : limit < length bytes
  pub within : length bytes ≤ limit + 65536

-- everything that was left was read, and it is these bytes; each read but the last took at least one of them
pub record ReadsAll (old new : Feed) (bytes : List ℕ) : Type 0 where
  pub whole : IfSome old.left (λ all. bytes ≡ all)
  pub end : IsAtEnd new.left
  pub takes : Takes 1 old new bytes

-- one read took no more than so many bytes
pub record ReadsOnce (most : ℕ) (old new : Feed) : Type 0 where
  pub piece : List ℕ
  pub taken : Consumes old.left new.left piece
  pub few : length piece ≤ most
  pub once : CountsRead old new (length piece)

-- a piece of n bytes was read and appended to the bytes; there was none only at the end
pub record TakesPiece (old new : Feed) (before after : List ℕ) (n : ℕ) : Type 0 where
  pub piece : List ℕ
  pub parts : after ≡ before ++ piece
  pub count : length piece ≡ n
  pub taken : Consumes old.left new.left piece
  pub once : CountsRead old new n
  pub end : n ≡ 0 → IsAtEnd new.left

-- A text was put behind what waits in a buffer. What was written is a front of both, and the rest waits.
pub record Stages {T E : Type 0} (old new : Tape) (waiting after : List ℕ) (result : Result T E) (text : List ℕ)
    : Type 0 where
  pub gained : MatchResult result (λ _. (front : List ℕ) × (waiting ++ text ≡ front ++ after)
      × Appends old.taken new.taken front)
      (λ _. AppendsFront old.taken new.taken (waiting ++ text))
  pub beside : new.beside ≡ old.beside
  pub cause : HasCause old.faults new.faults result
