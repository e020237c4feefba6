-- What follows a header is a part of what the header stands in.
use Rattle.std.proofs.Common.{ℕ, suc, ◌≤◌, eqb, ◌&&◌, List, [], ◌∷◌, length, arith}
use Rattle.text_lines.specs.Lines.{Line, lines_of, joined, begins_feed}
use Rattle.text_lines.proofs.Places.{decide}
use Rattle.nrrd_read.specs.Fields.{sample_bytes}

-- at most n bytes follow each line
abbrev AreWithin : ℕ → List Line → Type 0
AreWithin n [] = Unit {0}
AreWithin n (l ∷ ls) = (length l.after ≤ n) × AreWithin n ls

within_more : (n : ℕ) (ls : List Line) → AreWithin n ls → AreWithin (suc n) ls
within_more n [] h = tt
within_more n (l ∷ ls) h = (omega (arith, h.0), within_more n ls h.1)

within_joined : (b n : ℕ) (ls : List Line) → AreWithin n ls → AreWithin n (joined b ls)
within_joined b n [] h = (omega arith, tt)
within_joined b n (l ∷ ls) h = h

lines_within : (bs : List ℕ) → AreWithin (length bs) (lines_of bs)
lines_within [] = tt
lines_within (b ∷ bs) =
    let ih = within_more (length bs) (lines_of bs) (lines_within bs) in
    decide (eqb b 10) (λ t. rw t (omega arith, ih))
    (λ f. decide (eqb b 13 && begins_feed bs) (λ t. rw (f, t) ih) (λ g. rw (f, g) (within_joined b (suc (length bs)) (lines_of bs) ih)))

within_samples : (n : ℕ) (ls : List Line) → AreWithin n ls → length (sample_bytes ls) ≤ n
within_samples n [] h = omega arith
within_samples n (l ∷ ls) h = decide (eqb (length l.text) 0) (λ t. rw t h.0) (λ f. rw f (within_samples n ls h.1))

pub samples_within : (bs : List ℕ) → length (sample_bytes (lines_of bs)) ≤ length bs
samples_within bs = within_samples (length bs) (lines_of bs) (lines_within bs)
