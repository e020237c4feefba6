-- Samples that are gathered from rows and put into a sink.
use Rattle.std.proofs.Common.{◌≡◌, ◌⊎◌, inl, inr, ℕ, ◌+◌, ◌-◌, ◌*◌, ◌≤◌, List, [], ◌++◌, length, take, drop, Result, Ok, Err, sym, ap, subst, ◌∙◌, append_assoc, arith, All, ℤ, pos, length-append}
use Rattle.std.proofs.lemmas.List.{take-append-drop, take-append-le, get_or-take, drop-drop, drop_all, length-take-le, length-drop}
use Rattle.std.proofs.Math.Seq.{take-append-add}
use borrow.Rule.Slice.PartMut.{put_mid}
use Rattle.std.proofs.lemmas.List.Elements.{All-append, All-drop, All-take}
use Rattle.std.proofs.lemmas.Grind.{flat_map-append}
use Rattle.std.proofs.Math.Nat.{mul-le-mul_left}
use Rattle.byte_streams.specs.Seen.{Tape, Puts}
use Rattle.byte_streams.proofs.Putting.{HasPut, has_none, has_put, has_all, put_failed}
use Rattle.iso_base.specs.Volume.{IsOfKind}
use Rattle.iso_base.specs.declared.kind.SampleKind.{SampleKind}
use Rattle.iso_base.specs.SampleBytes.{sample_bytes}
use Rattle.nrrd.specs.Writing.{samples_text}
use Rattle.unpadded_volume.specs.Rows.{AreSamples}
use Rattle.unpadded_volume.proofs.InnerSamples.{row_taken}

-- the texts of two lists of samples, one after the other
pub samples_both : (kind : SampleKind) (a b : List ℤ) → samples_text kind (a ++ b) ≡ samples_text kind a ++ samples_text kind b
samples_both kind a b = flat_map-append (sample_bytes kind) a b

-- a text that is the same
pub same_text : {T E : Type 0} (old new : Tape) (r : Result T E) (a b : List ℕ) → a ≡ b → Puts old new r a → Puts old new r b
same_text old new r a b e p = subst (λ (l : List ℕ). Puts old new r l) e p

-- of a kind that is the same
pub same_kind : {T E : Type 0} (old new : Tape) (r : Result T E) (kind kind' : SampleKind) (all : List ℤ) → kind ≡ kind' → Puts old new r (samples_text kind all) → Puts old new r (samples_text kind' all)
same_kind old new r kind kind' all e p = subst (λ (k : SampleKind). Puts old new r (samples_text k all)) e p

-- all samples but those that a block holds, and those from a place on, were put
pub record HasRows (old new : Tape) (kind : SampleKind) (all block : List ℤ) (held at : ℕ) : Type 0 where
  pub put : HasPut old new (samples_text kind all) (samples_text kind (take held block ++ drop at all))
  pub each : All (IsOfKind kind) (take held block)
  pub room : held ≤ length block

pub rows_none : (t : Tape) (kind : SampleKind) (all block : List ℤ) → HasRows t t kind all block 0 0
rows_none t kind all block = record { put = has_none t (samples_text kind all); each = λ k d lt. absurd (omega arith); room = omega arith }

-- what a block held was put, or nothing was
pub room_made : (old mid new : Tape) (kind : SampleKind) (all block : List ℤ) (held at n : ℕ) {E : Type 0} → HasRows old mid kind all block held at
    → (n ≡ 0) ⊎ (n ≡ held) → Puts {E = E} mid new (Ok n) (samples_text kind (take (held - n) block))
    → HasPut old new (samples_text kind all) (samples_text kind (take n block ++ drop at all))
room_made old mid new kind all block held at n h (inl e) p =
    let all_held : held - n ≡ held = omega arith in
    let piece : take (held - n) block ≡ take held block = ap (λ k. take k block) all_held in
    let rest : samples_text kind (take n block ++ drop at all) ≡ samples_text kind (drop at all) = ap (λ k. samples_text kind (take k block ++ drop at all)) e in
    let before : samples_text kind (take held block ++ drop at all) ≡ samples_text kind (take (held - n) block) ++ samples_text kind (drop at all)
    = samples_both kind (take held block) (drop at all) ∙ ap (λ l. samples_text kind l ++ samples_text kind (drop at all)) (sym piece) in
    subst (HasPut old new (samples_text kind all)) (sym rest)
    (has_put old mid new (samples_text kind all) (samples_text kind (take (held - n) block)) (samples_text kind (drop at all)) n
    (subst (HasPut old mid (samples_text kind all)) before h.put) p)
room_made old mid new kind all block held at n h (inr e) p =
    let none_held : held - n ≡ 0 = omega arith in
    let piece : take (held - n) block ≡ [] = ap (λ k. take k block) none_held in
    let before : samples_text kind (take held block ++ drop at all) ≡ samples_text kind (take (held - n) block) ++ samples_text kind (take n block ++ drop at all)
    = ap (λ k. samples_text kind (take k block ++ drop at all)) (sym e) ∙ ap (λ l. samples_text kind l ++ samples_text kind (take n block ++ drop at all)) (sym piece) in
    has_put old mid new (samples_text kind all) (samples_text kind (take (held - n) block)) (samples_text kind (take n block ++ drop at all)) n
    (subst (HasPut old mid (samples_text kind all)) before h.put) p

-- rows were gathered
pub rows_gathered : (old new : Tape) (kind : SampleKind) (all block after rows : List ℤ) (n at count next : ℕ)
    → HasPut old new (samples_text kind all) (samples_text kind (take n block ++ drop at all)) → rows ≡ take count (drop at all) → next ≡ at + count
    → take (n + count) after ≡ take n block ++ rows
    → HasPut old new (samples_text kind all) (samples_text kind (take (n + count) after ++ drop next all))
rows_gathered old new kind all block after rows n at count next h is e put =
    let rest : drop next all ≡ drop count (drop at all) = ap (λ k. drop k all) e ∙ sym (drop-drop count at all) in
    let both : take n block ++ drop at all ≡ take (n + count) after ++ drop next all
    = ap (λ l. take n block ++ l) (sym (take-append-drop count (drop at all)) ∙ ap (λ l. l ++ drop count (drop at all)) (sym is))
    ∙ (sym (append_assoc (take n block) rows (drop count (drop at all)))
    ∙ (ap (λ l. l ++ drop count (drop at all)) (sym put) ∙ ap (λ l. take (n + count) after ++ l) (sym rest))) in
    subst (λ l. HasPut old new (samples_text kind all) (samples_text kind l)) both h

-- the first of a piece that was put into a block, behind what it holds
pub piece_held : (block piece : List ℤ) (n k count : ℕ) → n + k ≤ length block → length piece ≡ k → count ≤ k
    → take (n + count) (put_mid n k block piece) ≡ take n block ++ take count piece
piece_held block piece n k count fits size few =
    subst (λ m. take (m + count) (put_mid n k block piece) ≡ take n block ++ take count (piece ++ drop k (drop n block))) (length-take-le n block (omega arith))
    (take-append-add (take n block) (piece ++ drop k (drop n block)) count)
    ∙ ap (λ l. take n block ++ l) (take-append-le count piece (drop k (drop n block)) (omega (arith, size, few)))

-- rows more
pub rows_more : {E : Type 0} (old mid new : Tape) (kind : SampleKind) (all block piece : List ℤ) (held n at count next k : ℕ) → HasRows old mid kind all block held at
    → (n ≡ 0) ⊎ (n ≡ held) → Puts {E = E} mid new (Ok n) (samples_text kind (take (held - n) block)) → n + k ≤ length block
    → length piece ≡ k → count ≤ k → AreSamples all at count piece → at + count ≤ length all → All (IsOfKind kind) all → next ≡ at + count
    → HasRows old new kind all (put_mid n k block piece) (n + count) next
rows_more old mid new kind all block piece held n at count next k h either put fits size few are ends each e =
    let front : take (n + count) (put_mid n k block piece) ≡ take n block ++ take count piece = piece_held block piece n k count fits size few in
    record {
      put = rows_gathered old new kind all block (put_mid n k block piece) (take count piece) n at count next (room_made old mid new kind all block held at n h either put) is e front;
      each = subst (All (IsOfKind kind)) (sym front) (All-append (IsOfKind kind) (take n block) (take count piece) (before either) (subst (All (IsOfKind kind)) (sym is) (All-take (IsOfKind kind) count (drop at all) (All-drop (IsOfKind kind) at all each))));
      room = omega (arith, length-put_mid, fits, few);
    }
  where
    is : take count piece ≡ take count (drop at all)
    is = row_taken all (take count piece) at count (length-take-le count piece (omega (arith, size, few))) ends (λ i lt. get_or-take count piece i (pos 0) lt ∙ are i lt)

    before : (n ≡ 0) ⊎ (n ≡ held) → All (IsOfKind kind) (take n block)
    before (inl e) = λ i d lt. absurd (omega (arith, ap (λ m. length (take m block)) e))
    before (inr e) = subst (λ m. All (IsOfKind kind) (take m block)) (sym e) h.each

    length-put_mid : length (put_mid n k block piece) ≡ length block
    length-put_mid =
        length-append (take n block) (piece ++ drop k (drop n block))
        ∙ omega (arith, length-append piece (drop k (drop n block)), length-drop k (drop n block), length-drop n block, length-take-le n block (omega arith), size)

-- what a block held could not be put
pub rows_failed : {T U E E' : Type 0} (old mid new : Tape) (kind : SampleKind) (all block : List ℤ) (held at : ℕ) (e : E) (e' : E') → HasRows old mid kind all block held at
    → Puts {T = U} mid new (Err e) (samples_text kind (take held block)) → Puts {T = T} old new (Err e') (samples_text kind all)
rows_failed old mid new kind all block held at e e' h p =
    put_failed old mid new (samples_text kind all) (samples_text kind (take held block)) (samples_text kind (drop at all)) e e'
    (subst (HasPut old mid (samples_text kind all)) (samples_both kind (take held block) (drop at all)) h.put) p

-- the last block
pub rows_all : {T E : Type 0} (old mid new : Tape) (kind : SampleKind) (all block : List ℤ) (held at : ℕ) (r : Result T E) → HasRows old mid kind all block held at
    → length all ≤ at → Puts mid new r (samples_text kind (take held block)) → Puts old new r (samples_text kind all)
rows_all old mid new kind all block held at (Ok x) h le p =
    let rest : samples_text kind (drop at all) ≡ [] = ap (samples_text kind) (drop_all at all le) in
    has_all old new (samples_text kind all) x
    (subst (HasPut old new (samples_text kind all)) rest
    (has_put old mid new (samples_text kind all) (samples_text kind (take held block)) (samples_text kind (drop at all)) x
    (subst (HasPut old mid (samples_text kind all)) (samples_both kind (take held block) (drop at all)) h.put) p))
rows_all old mid new kind all block held at (Err e) h le p = rows_failed old mid new kind all block held at e e h p

-- past the last row
pub rows_end : (a b c r : ℕ) → b * c ≤ r → a * b * c ≤ r * a
rows_end a b c r h =
    let l : a * (b * c) ≤ a * r = mul-le-mul_left a h in
    omega arith

-- the rows before one, and those up to another
pub rows_joined : (a r e : ℕ) → r ≤ e → e * a ≡ r * a + (e - r) * a
rows_joined a r e le = by_count (e - r) (omega arith)
  where
    by_count : (d : ℕ) → r + d ≡ e → e * a ≡ r * a + d * a
    by_count d s = subst (λ m. m * a ≡ r * a + d * a) s (omega arith)

-- these are among the samples
pub rows_fit : (a b c r e : ℕ) → r ≤ e → e ≤ b * c → r * a + (e - r) * a ≤ a * b * c
rows_fit a b c r e le ends =
    let l : a * e ≤ a * (b * c) = mul-le-mul_left a ends in
    omega (arith, rows_joined a r e le)
