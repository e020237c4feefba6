-- Lines, words and numbers that are written are read again.
use Rattle.std.proofs.Common.{◌≡◌, ℕ, ◌+◌, ◌/◌, ◌%◌, ◌^◌, ◌<◌, ◌≤◌, Bool, true, false, not, eqb, leb, ◌&&◌, List, [], ◌∷◌, ◌++◌, length, fold, Some, refl, sym, ap, ◌∙◌, arith, decimal}
use Rattle.std.specs.List.{list_all}
use Rattle.std.proofs.lemmas.Bool.{false≢true}
use Rattle.std.proofs.lemmas.Bool.Decides.{nat_tests}
use Rattle.std.proofs.lemmas.List.{length-append}
use Rattle.std.proofs.lemmas.List.Folds.{list_all-append}
use Rattle.std.proofs.lemmas.Grind.{fold-append}
use Rattle.std.proofs.lemmas.Fmt.{decimal_by_steps, length-decimal-le}
use Rattle.text_lines.specs.Lines.{lines_of, joined}
use Rattle.text_lines.specs.Words.{is_blank, kept, trim_end, words_of, longer}
use Rattle.text_lines.proofs.WordLaws.{words_longer}
use Rattle.text_lines.specs.Numbers.{is_digit, with_digit, digits_value, whole_of}

pub both_true : (a b : Bool) → (a && b) ≡ true → (a ≡ true) × (b ≡ true)
both_true true b e = (refl, e)
both_true false b e = absurd (false≢true e)

pub not_true : (b : Bool) → not b ≡ true → b ≡ false
not_true true e = sym e
not_true false e = refl

pub all_weaker : (p q : ℕ → Bool) → ((b : ℕ) → p b ≡ true → q b ≡ true) → (xs : List ℕ) → list_all p xs ≡ true → list_all q xs ≡ true
all_weaker p q h [] e = refl
all_weaker p q h (x ∷ xs) e =
    let b = both_true (p x) (list_all p xs) e in
    rw (h x b.0, all_weaker p q h xs b.1) refl

-- a byte that ends no line
abbrev pub is_quiet : ℕ → Bool
is_quiet b = not (eqb b 10) && not (eqb b 13)

pub line_text : (text rest : List ℕ) → list_all is_quiet text ≡ true → lines_of (text ++ 10 ∷ rest) ≡ record { text = text; after = rest } ∷ lines_of rest
line_text [] rest quiet = refl
line_text (b ∷ bs) rest quiet =
    let q = both_true (is_quiet b) (list_all is_quiet bs) quiet in
    let r = both_true (not (eqb b 10)) (not (eqb b 13)) q.0 in
    let feed = not_true (eqb b 10) r.0 in
    let back = not_true (eqb b 13) r.1 in
    let step : lines_of (b ∷ (bs ++ 10 ∷ rest)) ≡ joined b (lines_of (bs ++ 10 ∷ rest)) = rw (feed, back) refl in
    step ∙ ap (joined b) (line_text bs rest q.1)

-- a byte of a word
abbrev pub is_solid : ℕ → Bool
is_solid b = not (is_blank b)

pub solid_first : (b : ℕ) (bs : List ℕ) → list_all is_solid (b ∷ bs) ≡ true → (is_blank b ≡ false) × (list_all is_solid bs ≡ true)
solid_first b bs e = let h = both_true (is_solid b) (list_all is_solid bs) e in (not_true (is_blank b) h.0, h.1)

pub word_before : (b : ℕ) (bs rest : List ℕ) → list_all is_solid (b ∷ bs) ≡ true → words_of ((b ∷ bs) ++ 32 ∷ rest) ≡ (b ∷ bs) ∷ words_of rest
word_before b [] rest e = let h = solid_first b [] e in rw h.0 refl
word_before b (c ∷ bs) rest e =
    let h = solid_first b (c ∷ bs) e in
    let k = solid_first c bs h.1 in
    words_longer b c (bs ++ 32 ∷ rest) h.0 k.0 ∙ ap (longer b) (word_before c bs rest h.1)

pub word_last : (b : ℕ) (bs : List ℕ) → list_all is_solid (b ∷ bs) ≡ true → words_of (b ∷ bs) ≡ (b ∷ bs) ∷ []
word_last b [] e = let h = solid_first b [] e in rw h.0 refl
word_last b (c ∷ bs) e =
    let h = solid_first b (c ∷ bs) e in
    let k = solid_first c bs h.1 in
    words_longer b c bs h.0 k.0 ∙ ap (longer b) (word_last c bs h.1)

trim_solid : (w : List ℕ) → list_all is_solid w ≡ true → trim_end w ≡ w
trim_solid [] e = refl
trim_solid (b ∷ []) e = let h = solid_first b [] e in rw h.0 refl
trim_solid (b ∷ c ∷ bs) e = let h = solid_first b (c ∷ bs) e in ap (kept b) (trim_solid (c ∷ bs) h.1)

-- a text that ends in a word has no blanks at its end
pub trim_behind : (a : List ℕ) (b : ℕ) (bs : List ℕ) → list_all is_solid (b ∷ bs) ≡ true → trim_end (a ++ b ∷ bs) ≡ a ++ b ∷ bs
trim_behind [] b bs e = trim_solid (b ∷ bs) e
trim_behind (x ∷ []) b bs e = ap (kept x) (trim_solid (b ∷ bs) e)
trim_behind (x ∷ y ∷ a) b bs e = ap (kept x) (trim_behind (y ∷ a) b bs e)

-- a number in print
pub record IsNumber (n : ℕ) (ds : List ℕ) : Type 0 where
  pub all : list_all is_digit ds ≡ true
  pub value : fold with_digit 0 ds ≡ n
  pub some : 0 < length ds

pub decimal_is : (n : ℕ) → n < 2 ^ 64 → IsNumber n (decimal n)
decimal_is = decimal_by_steps IsNumber one more where
  digit : (n : ℕ) → n < 10 → is_digit (48 + n) ≡ true
  digit n lt = grind (arith, nat_tests)

  one : (n : ℕ) → n < 10 → IsNumber n ((48 + n) ∷ [])
  one n lt = record { all = rw (digit n lt) refl; value = omega arith; some = omega arith }

  more : (n : ℕ) (ds : List ℕ) → 10 ≤ n → IsNumber (n / 10) ds → IsNumber n (ds ++ ((48 + n % 10) ∷ []))
  more n ds ge h =
      let d = digit (n % 10) (omega arith) in
      record {
        all = list_all-append is_digit ds ((48 + n % 10) ∷ []) ∙ rw (h.all, d) refl;
        value = fold-append with_digit 0 ds ((48 + n % 10) ∷ []) ∙ omega (arith, h.value);
        some = omega (arith, length-append ds ((48 + n % 10) ∷ []));
      }

pub digit_quiet : (b : ℕ) → is_digit b ≡ true → is_quiet b ≡ true
digit_quiet b e = grind (arith, nat_tests)

pub digit_solid : (b : ℕ) → is_digit b ≡ true → is_solid b ≡ true
digit_solid b e = grind (arith, nat_tests)

digit_no_minus : (b : ℕ) → is_digit b ≡ true → eqb b 45 ≡ false
digit_no_minus b e = grind (arith, nat_tests)

number_again : (n : ℕ) (ds : List ℕ) → IsNumber n ds → length ds ≤ 18 → whole_of ds ≡ Some n
number_again n [] h short = absurd (omega (arith, h.some))
number_again n (b ∷ bs) h short =
    let first = both_true (is_digit b) (list_all is_digit bs) h.all in
    let minus = digit_no_minus b first.0 in
    let low : leb 1 (length (b ∷ bs)) ≡ true = grind (arith, nat_tests) in
    let high : leb (length (b ∷ bs)) 18 ≡ true = grind (arith, nat_tests) in
    let value : digits_value (b ∷ bs) ≡ Some n = rw (low, high, h.all, h.value) refl in
    rw (minus, value) refl

pub whole_again : (n : ℕ) → n < 10 ^ 18 → whole_of (decimal n) ≡ Some n
whole_again n lt = number_again n (decimal n) (decimal_is n (omega arith)) (length-decimal-le 18 n (omega arith) lt (omega arith))
