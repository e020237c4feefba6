-- Words and blanks at the ends.
use Rattle.std.proofs.Common.{◌≡◌, ℕ, zero, suc, ◌-◌, ◌<◌, ◌≤◌, true, false, eqb, List, [], ◌∷◌, ◌++◌, length, get_or, take, drop, Some, None, refl, sym, ap, ◌∙◌, arith}
use Rattle.std.proofs.Math.Seq.{take-suc}
use Rattle.text_lines.specs.Words.{is_blank, skip_blanks, kept, trim_end, longer, words_of}
use Rattle.std.specs.Prelude.{position}
use Rattle.std.proofs.lemmas.Bool.{false≢true, eqb-true}
use Rattle.text_lines.proofs.Places.{decide, FirstAt, NonePass, first_at, none_pass}

pub words_skip : (bs : List ℕ) → words_of (skip_blanks bs) ≡ words_of bs
words_skip [] = refl
words_skip (b ∷ bs) = decide (is_blank b)
    (λ t. let s : skip_blanks (b ∷ bs) ≡ skip_blanks bs = rw t refl in let w : words_of (b ∷ bs) ≡ words_of bs = rw t refl in ap words_of s ∙ words_skip bs ∙ sym w)
    (λ f. let s : skip_blanks (b ∷ bs) ≡ b ∷ bs = rw f refl in ap words_of s)

-- a byte before another of its word
pub words_longer : (b c : ℕ) (bs : List ℕ) → is_blank b ≡ false → is_blank c ≡ false → words_of (b ∷ c ∷ bs) ≡ longer b (words_of (c ∷ bs))
words_longer b c bs f g = rw (f, g) refl

pub word_at : (bs : List ℕ) (i : ℕ) → FirstAt is_blank bs (suc i) → words_of bs ≡ take (suc i) bs ∷ words_of (drop (suc i) bs)
word_at [] i h = absurd h
word_at (b ∷ []) i h = absurd h.1
word_at (b ∷ c ∷ bs) zero h = rw (h.0, h.1) refl
word_at (b ∷ c ∷ bs) (suc i) h =
    words_longer b c bs h.0 h.1.0 ∙ ap (longer b) (word_at (c ∷ bs) i h.1)

pub word_alone : (b : ℕ) (bs : List ℕ) → NonePass is_blank (b ∷ bs) → words_of (b ∷ bs) ≡ (b ∷ bs) ∷ []
word_alone b [] h = rw h.0 refl
word_alone b (c ∷ bs) h =
    words_longer b c bs h.0 h.1.0 ∙ ap (longer b) (word_alone c bs h.1)

-- after the blanks at the front no blank comes first
pub skipped_first : (text : List ℕ) (b : ℕ) (bs : List ℕ) → skip_blanks text ≡ b ∷ bs → is_blank b ≡ false
skipped_first [] b bs e = absurd cc
skipped_first (x ∷ xs) b bs e = decide (is_blank x) (λ t. skipped_first xs b bs (sym (rw t refl) ∙ e)) (λ f. let e' : x ∷ xs ≡ b ∷ bs = sym (rw f refl) ∙ e in let same : x ≡ b = cc in rw (← same) f)

pub trim_blank : (front : List ℕ) (b : ℕ) → is_blank b ≡ true → trim_end (front ++ b ∷ []) ≡ trim_end front
trim_blank [] b t = rw t refl
trim_blank (x ∷ front) b t = ap (kept x) (trim_blank front b t)

pub trim_other : (front : List ℕ) (b : ℕ) → is_blank b ≡ false → trim_end (front ++ b ∷ []) ≡ front ++ b ∷ []
trim_other [] b f = rw f refl
trim_other (x ∷ []) b f = ap (kept x) (trim_other [] b f)
trim_other (x ∷ y ∷ front) b f = ap (kept x) (trim_other (y ∷ front) b f)

-- the word at the front of a text that begins with no blank
pub word_is : (text : List ℕ) (b : ℕ) (bs : List ℕ) (end : ℕ) (rest : List ℕ) → text ≡ b ∷ bs → is_blank b ≡ false → position is_blank text ≡ Some end → rest ≡ drop end text → words_of text ≡ take end text ∷ words_of rest
word_is text b bs end rest e f at rest-is = rw rest-is (by_end end text (first_at is_blank text end at) e) where
  by_end : (end : ℕ) (text : List ℕ) → FirstAt is_blank text end → text ≡ b ∷ bs → words_of text ≡ take end text ∷ words_of (drop end text)
  by_end end [] h e = absurd h
  by_end zero (c ∷ cs) h e = let same : c ≡ b = cc in let bad : true ≡ false = sym h ∙ ap is_blank same ∙ f in absurd (false≢true (sym bad))
  by_end (suc end) (c ∷ cs) h e = word_at (c ∷ cs) end h

pub word_none : (text : List ℕ) (b : ℕ) (bs rest : List ℕ) → text ≡ b ∷ bs → position is_blank text ≡ None → rest ≡ [] → words_of text ≡ text ∷ words_of rest
word_none text b bs rest e none rest-is =
    let none' : position is_blank (b ∷ bs) ≡ None = sym (ap (position is_blank) e) ∙ none in
    rw (e, rest-is) (word_alone b bs (none_pass is_blank (b ∷ bs) none'))

pub cut_blank : (text : List ℕ) (n : ℕ) → n < length text → is_blank (get_or text n 0) ≡ true → trim_end (take (suc n) text) ≡ trim_end (take n text)
cut_blank text n lt t = ap trim_end (take-suc text n 0 lt) ∙ trim_blank (take n text) (get_or text n 0) t

pub cut_other : (text : List ℕ) (n : ℕ) → n < length text → is_blank (get_or text n 0) ≡ false → trim_end (take (suc n) text) ≡ take (suc n) text
cut_other text n lt f = let e = take-suc text n 0 lt in rw e (trim_other (take n text) (get_or text n 0) f)

-- what the code's places say
pub cut_step : (text : List ℕ) (end b : ℕ) → 0 < end → end ≤ length text → b ≡ get_or text (end - 1) 0 → is_blank b ≡ true → trim_end (take end text) ≡ trim_end text → trim_end (take (end - 1) text) ≡ trim_end text
cut_step text zero b some within e t so_far = absurd (omega arith)
cut_step text (suc n) b some within e t so_far =
    let k : suc n - 1 ≡ n = omega arith in
    let e' : b ≡ get_or text n 0 = e ∙ ap (λ (j : ℕ). get_or text j 0) k in
    rw k (sym (cut_blank text n (omega arith) (sym (ap is_blank e') ∙ t)) ∙ so_far)

pub cut_end : (text : List ℕ) (end b : ℕ) → 0 < end → end ≤ length text → b ≡ get_or text (end - 1) 0 → is_blank b ≡ false → trim_end (take end text) ≡ trim_end text → take end text ≡ trim_end text
cut_end text zero b some within e t so_far = absurd (omega arith)
cut_end text (suc n) b some within e t so_far =
    let k : suc n - 1 ≡ n = omega arith in
    let e' : b ≡ get_or text n 0 = e ∙ ap (λ (j : ℕ). get_or text j 0) k in
    sym (cut_other text n (omega arith) (sym (ap is_blank e') ∙ t)) ∙ so_far

pub no_words : (text skipped : List ℕ) → skipped ≡ skip_blanks text → eqb (length skipped) 0 ≡ true → words_of text ≡ []
no_words text [] e t = sym (words_skip text) ∙ ap words_of (sym e)
no_words text (b ∷ bs) e t = absurd (omega (arith, eqb-true _ _ t))

pub next_is : (text skipped : List ℕ) (end : ℕ) (rest : List ℕ) → skipped ≡ skip_blanks text → eqb (length skipped) 0 ≡ false → position is_blank skipped ≡ Some end → rest ≡ drop end skipped → words_of text ≡ take end skipped ∷ words_of rest
next_is text [] end rest e some at rest-is = absurd (false≢true (sym some))
next_is text (b ∷ bs) end rest e some at rest-is = sym (words_skip text) ∙ ap words_of (sym e) ∙ word_is (b ∷ bs) b bs end rest refl (skipped_first text b bs (sym e)) at rest-is

pub last_is : (text skipped : List ℕ) (rest : List ℕ) → skipped ≡ skip_blanks text → eqb (length skipped) 0 ≡ false → position is_blank skipped ≡ None → rest ≡ [] → words_of text ≡ skipped ∷ words_of rest
last_is text [] rest e some none rest-is = absurd (false≢true (sym some))
last_is text (b ∷ bs) rest e some none rest-is = sym (words_skip text) ∙ ap words_of (sym e) ∙ word_none (b ∷ bs) b bs rest refl none rest-is

pub cut_none : (text : List ℕ) (end : ℕ) → end ≤ 0 → trim_end (take end text) ≡ trim_end text → take end text ≡ trim_end text
cut_none text zero none so_far = so_far
cut_none text (suc n) none so_far = absurd (omega arith)
