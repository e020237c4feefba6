-- The first line, by the place of the first line feed.
use Rattle.std.proofs.Common.{◌≡◌, ℕ, zero, suc, ◌+◌, Bool, false, cond, eqb, ◌&&◌, List, [], ◌∷◌, length, get_or, take, drop, Some, None, refl, sym, ap, ◌∙◌, arith}
use Rattle.text_lines.specs.Lines.{Line, lines_of, joined, begins_feed, text_end}
use Rattle.std.specs.Prelude.{position}
use Rattle.std.proofs.lemmas.Bool.{false≢true}
use Rattle.text_lines.proofs.Places.{decide, FirstAt, NonePass, first_at, none_pass}

abbrev pub is_feed : ℕ → Bool
is_feed b = eqb b 10

abbrev first_of : List ℕ → ℕ → List Line
first_of bs i = record { text = take (text_end bs i) bs; after = drop (suc i) bs } ∷ lines_of (drop (suc i) bs)

-- a byte that is no feed stands before a line whose text is not empty
abbrev onto : ℕ → List ℕ → List Line → List Line
onto b bs ls = cond (eqb b 13 && begins_feed bs) ls (joined b ls)

pub line_at : (bs : List ℕ) (i : ℕ) → FirstAt is_feed bs i → lines_of bs ≡ first_of bs i
line_at [] i h = absurd h
line_at (b ∷ bs) zero h = rw h refl
line_at (b ∷ []) (suc i) h = absurd h.1
line_at (b ∷ c ∷ bs) (suc zero) h =
    decide (eqb b 13) (λ t. rw (h.0, t, h.1) refl) (λ f. rw (h.0, f, h.1) refl)
line_at (b ∷ c ∷ bs) (suc (suc i)) h =
    let ih = line_at (c ∷ bs) (suc i) h.1 in
    let step : lines_of (b ∷ c ∷ bs) ≡ joined b (lines_of (c ∷ bs)) = decide (eqb b 13) (λ t. rw (h.0, t, h.1.0) refl) (λ f. rw (h.0, f) refl) in
    step ∙ ap (joined b) ih ∙ decide (eqb (get_or (c ∷ bs) i 0) 13) (λ t. rw t refl) (λ f. rw f refl)

pub line_alone : (b : ℕ) (bs : List ℕ) → NonePass is_feed (b ∷ bs) → lines_of (b ∷ bs) ≡ record { text = b ∷ bs; after = [] } ∷ []
line_alone b [] h = decide (eqb b 13) (λ t. rw (h.0, t) refl) (λ f. rw (h.0, f) refl)
line_alone b (c ∷ bs) h =
    let ih = line_alone c bs h.1 in
    let step : lines_of (b ∷ c ∷ bs) ≡ joined b (lines_of (c ∷ bs)) = decide (eqb b 13) (λ t. rw (h.0, t, h.1.0) refl) (λ f. rw (h.0, f) refl) in
    step ∙ ap (joined b) ih

pub line_is : (bytes : List ℕ) (end t : ℕ) (rest : List ℕ) → position is_feed bytes ≡ Some end → t ≡ text_end bytes end → rest ≡ drop (end + 1) bytes → lines_of bytes ≡ record { text = take t bytes; after = rest } ∷ lines_of rest
line_is bytes end t rest at text-is rest-is =
    let k : end + 1 ≡ suc end = omega arith in
    rw (text-is, rest-is, k) (line_at bytes end (first_at is_feed bytes end at))

pub line_none : (bytes rest : List ℕ) → position is_feed bytes ≡ None → eqb (length bytes) 0 ≡ false → rest ≡ [] → lines_of bytes ≡ record { text = bytes; after = rest } ∷ lines_of rest
line_none [] rest none some rest-is = absurd (false≢true (sym some))
line_none (b ∷ bs) rest none some rest-is = rw rest-is (line_alone b bs (none_pass is_feed (b ∷ bs) none))
