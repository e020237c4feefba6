-- The first word of a text, by the place of the first separator behind those at the front.
use Rattle.std.proofs.Common.{◌≡◌, ℕ, zero, suc, true, false, eqb, List, [], ◌∷◌, length, take, drop, Some, None, refl, sym, ap, ◌∙◌, arith}
use Rattle.std.specs.Prelude.{position}
use Rattle.std.proofs.lemmas.Bool.{false≢true, eqb-true}
use Rattle.text_lines.proofs.Places.{decide, FirstAt, NonePass, first_at, none_pass}
use Rattle.text_samples.specs.Text.{is_separator, longer_word, words_in, skip_separators}

words_skip : (bs : List ℕ) → words_in (skip_separators bs) ≡ words_in bs
words_skip [] = refl
words_skip (b ∷ bs) =
    decide (is_separator b)
    (λ t. let s : skip_separators (b ∷ bs) ≡ skip_separators bs = rw t refl in
    let w : words_in (b ∷ bs) ≡ words_in bs = rw t refl in
    ap words_in s ∙ words_skip bs ∙ sym w)
    (λ f. let s : skip_separators (b ∷ bs) ≡ b ∷ bs = rw f refl in ap words_in s)

-- a byte before another of its word
pub words_longer : (b c : ℕ) (bs : List ℕ) → is_separator b ≡ false → is_separator c ≡ false → words_in (b ∷ c ∷ bs) ≡ longer_word b (words_in (c ∷ bs))
words_longer b c bs f g = rw (f, g) refl

word_at : (bs : List ℕ) (i : ℕ) → FirstAt is_separator bs (suc i)
    → words_in bs ≡ record { text = take (suc i) bs; after = drop (suc i) bs } ∷ words_in (drop (suc i) bs)
word_at [] i h = absurd h
word_at (b ∷ []) i h = absurd h.1
word_at (b ∷ c ∷ bs) zero h =
    let after : words_in (c ∷ bs) ≡ words_in bs = rw h.1 refl in
    rw (h.0, h.1) refl
word_at (b ∷ c ∷ bs) (suc i) h = words_longer b c bs h.0 h.1.0 ∙ ap (longer_word b) (word_at (c ∷ bs) i h.1)

word_alone : (b : ℕ) (bs : List ℕ) → NonePass is_separator (b ∷ bs) → words_in (b ∷ bs) ≡ record { text = b ∷ bs; after = [] } ∷ []
word_alone b [] h = rw h.0 refl
word_alone b (c ∷ bs) h = words_longer b c bs h.0 h.1.0 ∙ ap (longer_word b) (word_alone c bs h.1)

-- behind the separators at the front none comes first
skipped_first : (text : List ℕ) (b : ℕ) (bs : List ℕ) → skip_separators text ≡ b ∷ bs → is_separator b ≡ false
skipped_first [] b bs e = absurd cc
skipped_first (x ∷ xs) b bs e =
    decide (is_separator x)
    (λ t. skipped_first xs b bs (sym (rw t refl) ∙ e))
    (λ f. let e' : x ∷ xs ≡ b ∷ bs = sym (rw f refl) ∙ e in let same : x ≡ b = cc in rw (← same) f)

word_is : (text : List ℕ) (b : ℕ) (bs : List ℕ) (end : ℕ) → text ≡ b ∷ bs → is_separator b ≡ false → FirstAt is_separator text end
    → words_in text ≡ record { text = take end text; after = drop end text } ∷ words_in (drop end text)
word_is [] b bs end e f h = absurd h
word_is (c ∷ cs) b bs zero e f h = let same : c ≡ b = cc in let bad : true ≡ false = sym h ∙ ap is_separator same ∙ f in absurd (false≢true (sym bad))
word_is (c ∷ cs) b bs (suc end) e f h = word_at (c ∷ cs) end h

-- where there are separators alone
pub no_words : (text skipped : List ℕ) → skipped ≡ skip_separators text → eqb (length skipped) 0 ≡ true → words_in text ≡ []
no_words text [] e t = sym (words_skip text) ∙ ap words_in (sym e)
no_words text (b ∷ bs) e t = absurd (omega (arith, eqb-true _ _ t))

-- where a separator follows
pub next_is : (text skipped : List ℕ) (end : ℕ) (rest : List ℕ) → skipped ≡ skip_separators text → eqb (length skipped) 0 ≡ false
    → position is_separator skipped ≡ Some end → rest ≡ drop end skipped → words_in text ≡ record { text = take end skipped; after = rest } ∷ words_in rest
next_is text [] end rest e some at rest-is = absurd (false≢true (sym some))
next_is text (b ∷ bs) end rest e some at rest-is =
    rw rest-is (sym (words_skip text) ∙ ap words_in (sym e)
    ∙ word_is (b ∷ bs) b bs end refl (skipped_first text b bs (sym e)) (first_at is_separator (b ∷ bs) end at))

-- where none does
pub last_is : (text skipped rest : List ℕ) → skipped ≡ skip_separators text → eqb (length skipped) 0 ≡ false
    → position is_separator skipped ≡ None → rest ≡ [] → words_in text ≡ record { text = skipped; after = rest } ∷ words_in rest
last_is text [] rest e some none rest-is = absurd (false≢true (sym some))
last_is text (b ∷ bs) rest e some none rest-is =
    rw rest-is (sym (words_skip text) ∙ ap words_in (sym e) ∙ word_alone b bs (none_pass is_separator (b ∷ bs) none))
