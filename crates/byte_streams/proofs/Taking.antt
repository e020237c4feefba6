-- What is left of a source is taken in several reads.
use Rattle.std.proofs.Common.{◌≡◌, ℕ, zero, suc, ◌+◌, ◌≤◌, ◌<◌, List, [], ◌++◌, length, Some, None, refl, sym, ap, subst, ◌∙◌, arith, IfSome}
use Rattle.std.specs.Prelude.{Option, min}
use Rattle.std.proofs.lemmas.List.{append-nil, length-append}
use Rattle.std.specs.Io.KnownBytes.{Consumes, IsAtEnd}
use Rattle.byte_streams.specs.Seen.{CountsRead, Feed, ReadsAll, ReadsOnce, ReadsPast, ReadsWithin, Takes, TakesPiece}
use Rattle.byte_streams.proofs.Known.{Consumes-nil, Consumes-trans}

-- these bytes were taken so far, by reads that each took some
pub record HasTaken (old new : Feed) (bytes : List ℕ) : Type 0 where
  pub takes : Takes 0 old new bytes
  pub later : old.faults ≤ new.faults

pub takes_none : (last : ℕ) (f : Feed) → Takes last f f []
takes_none last f = record { consumed = Consumes-nil f.left; reads = omega arith; empty = omega arith }

-- each read took at least one byte, so each but the last did
pub takes_least : (last : ℕ) (old new : Feed) (bytes : List ℕ) → Takes 0 old new bytes → Takes last old new bytes
takes_least last old new bytes t = record { consumed = t.consumed; reads = omega (arith, t.reads); empty = omega (arith, t.empty) }

-- a read is empty only where it may be the last
pub counted_empty : (last : ℕ) (old new : Feed) (n : ℕ) → CountsRead old new n → 1 ≤ n + last → new.empty_reads ≤ old.empty_reads + min last new.empty_at_end
counted_empty last old new zero c some = let e = c.none refl in omega (arith, e.0, e.1, some)
counted_empty last old new (suc n) c some = let e = c.some (omega arith) in omega (arith, e.0)

pub taken_none : (f : Feed) → HasTaken f f []
taken_none f = record { takes = takes_none 0 f; later = omega arith }

pub all_taken : (a b : Option (List ℕ)) (bytes : List ℕ) → Consumes a b bytes → IsAtEnd b → IfSome a (λ all. bytes ≡ all)
all_taken None b bytes p e = tt
all_taken (Some x) None bytes p e = absurd p
all_taken (Some x) (Some y) bytes p e = sym (append-nil bytes) ∙ ap (λ (l : List ℕ). bytes ++ l) (sym e) ∙ sym p

pub more_than : (a b : Option (List ℕ)) (bytes : List ℕ) (limit : ℕ) → Consumes a b bytes → limit < length bytes → IfSome a (λ all. limit < length all)
more_than None b bytes limit p lt = tt
more_than (Some x) None bytes limit p lt = absurd p
more_than (Some x) (Some y) bytes limit p lt = omega (arith, ap length p, length-append bytes y)

-- bytes behind those taken, by one more read
pub takes_more : (last : ℕ) (old mid new : Feed) (bytes piece : List ℕ) → Takes 0 old mid bytes → Consumes mid.left new.left piece → CountsRead mid new (length piece) → 1 ≤ length piece + last → Takes last old new (bytes ++ piece)
takes_more last old mid new bytes piece t c one some = record {
  consumed = Consumes-trans old.left mid.left new.left bytes piece t.consumed c;
  reads = omega (arith, t.reads, one.reads, some, length-append bytes piece);
  empty = omega (arith, t.empty, counted_empty last mid new (length piece) one some);
}

pub taken_more : (old mid new : Feed) (bytes after : List ℕ) (n : ℕ) → HasTaken old mid bytes → TakesPiece mid new bytes after n → (n ≡ 0 → ⊥) → mid.faults ≤ new.faults → HasTaken old new after
taken_more old mid new bytes after n h p some later = record {
  takes = subst (λ (l : List ℕ). Takes 0 old new l) (sym p.parts) (takes_more 0 old mid new bytes p.piece h.takes p.taken (subst (λ (k : ℕ). CountsRead mid new k) (sym p.count) p.once) (omega (arith, p.count, some)));
  later = omega (arith, h.later, later);
}

pub reads_all : (old mid new : Feed) (bytes after : List ℕ) (n : ℕ) → HasTaken old mid bytes → TakesPiece mid new bytes after n → n ≡ 0 → ReadsAll old new after
reads_all old mid new bytes after n h p none =
    let takes = subst (λ (l : List ℕ). Takes 1 old new l) (sym p.parts) (takes_more 1 old mid new bytes p.piece h.takes p.taken (subst (λ (k : ℕ). CountsRead mid new k) (sym p.count) p.once) (omega arith)) in
    record { whole = all_taken old.left new.left after takes.consumed (p.end none); end = p.end none; takes = takes }

pub reads_past : (limit : ℕ) (old new : Feed) (bytes : List ℕ) → HasTaken old new bytes → limit < length bytes → length bytes ≤ limit + 65536 → ReadsPast limit old new
reads_past limit old new bytes h past within = record { bytes = bytes; takes = h.takes; past = past; within = within }

-- ---- no further than the limit and one piece

pub reads_nothing : (limit : ℕ) (f : Feed) → ReadsWithin limit f f
reads_nothing limit f = record { bytes = []; takes = takes_none 1 f; within = omega arith }

pub all_within : (limit : ℕ) (old new : Feed) (bytes : List ℕ) → ReadsAll old new bytes → length bytes ≤ limit → ReadsWithin limit old new
all_within limit old new bytes r few = record { bytes = bytes; takes = r.takes; within = omega (arith, few) }

pub past_within : (limit : ℕ) (old new : Feed) → ReadsPast limit old new → ReadsWithin limit old new
past_within limit old new r = record { bytes = r.bytes; takes = takes_least 1 old new r.bytes r.takes; within = r.within }

pub stopped_within : (limit most : ℕ) (old mid new : Feed) (bytes : List ℕ) → HasTaken old mid bytes → length bytes ≤ limit → most ≤ 65536 → ReadsOnce most mid new → ReadsWithin limit old new
stopped_within limit most old mid new bytes h few small r = record {
  bytes = bytes ++ r.piece;
  takes = takes_more 1 old mid new bytes r.piece h.takes r.taken r.once (omega arith);
  within = omega (arith, few, small, r.few, length-append bytes r.piece);
}
