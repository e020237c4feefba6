-- Numbers and faces at the front of a text.
use Rattle.std.proofs.Common.{◌≡◌, ℕ, ◌+◌, ◌*◌, ◌-◌, ◌^◌, ◌<◌, ◌≤◌, true, leb, List, [], ◌∷◌, ◌++◌, length, get_or, take, drop, fold, Some, Ok, refl, sym, ap, ◌∙◌, arith, add-one, pow-suc, append_assoc, nat_lt, length-append}
use Rattle.std.specs.List.{list_all}
use Rattle.std.proofs.Math.Seq.{take-suc, drop-cons}
use Rattle.std.proofs.lemmas.Bool.{lt-ltb}
use Rattle.std.proofs.lemmas.Bool.Decides.{nat_tests}
use Rattle.std.proofs.lemmas.List.{take-take, get_or-take, take-append-drop, length-take-le}
use Rattle.std.proofs.lemmas.List.Folds.{list_all-append}
use Rattle.std.proofs.lemmas.Grind.{fold-append}
use Rattle.text_lines.specs.Lines.{lines_of}
use Rattle.text_lines.specs.Words.{words_of}
use Rattle.text_lines.specs.Numbers.{is_digit, with_digit, digits_value}
use Rattle.text_lines.proofs.Written.{all_weaker, is_quiet, is_solid, digit_quiet, digit_solid, line_text, word_before, word_last}
use Rattle.mesh_read.specs.Plain.{BeginsNumber, BeginsFace}
use Rattle.mesh_read.specs.Ply as ply
use Rattle.mesh_read.specs.Ply.{face_of}

-- so many digits begin a text, and their value
pub record AreDigits (xs : List ℕ) (count value : ℕ) : Type 0 where
  pub number : value ≡ fold with_digit 0 (take count xs)
  pub digits : list_all is_digit (take count xs) ≡ true
  pub bound : value < 10 ^ count

pub digit_more : (xs : List ℕ) (i value next : ℕ) → i < length xs → 48 ≤ get_or xs i 0 → get_or xs i 0 ≤ 57 → next + 48 ≡ 10 * value + get_or xs i 0 → AreDigits xs i value → AreDigits xs (i + 1) next
digit_more xs i value next lt low high e h =
    let b = get_or xs i 0 in
    let more : take (i + 1) xs ≡ take i xs ++ b ∷ [] = rw (add-one, take-suc xs i 0) refl in
    let folded : fold with_digit 0 (take (i + 1) xs) ≡ 10 * fold with_digit 0 (take i xs) + (b - 48) = ap (fold with_digit 0) more ∙ fold-append with_digit 0 (take i xs) (b ∷ []) in
    let d : is_digit b ≡ true = grind (arith, nat_tests) in
    let power : 10 ^ (i + 1) ≡ 10 * 10 ^ i = rw (add-one, pow-suc) (omega arith) in
    record {
      number = omega (arith, folded, h.number);
      digits = ap (list_all is_digit) more ∙ list_all-append is_digit (take i xs) (b ∷ []) ∙ rw (h.digits, d) refl;
      bound = omega (arith, h.bound, power);
    }

-- the byte behind digits
pub number_here : (bytes front : List ℕ) (mark value i : ℕ) (after : List ℕ) → 11 ≤ length bytes → front ≡ take 11 bytes → i < 11 → 0 < i → get_or front i 0 ≡ mark → AreDigits front i value → after ≡ drop (i + 1) bytes → BeginsNumber bytes mark value after
number_here bytes front mark value i after long same lt some at h rest =
    let word : take i front ≡ take i bytes = ap (take i) same ∙ take-take i 11 bytes (omega arith) in
    let byte : get_or bytes i 0 ≡ mark = sym (get_or-take 11 bytes i 0 lt) ∙ ap (λ (l : List ℕ). get_or l i 0) (sym same) ∙ at in
    let behind : drop i bytes ≡ mark ∷ after = drop-cons bytes i 0 (omega arith) ∙ rw (byte, rest, add-one) refl in
    let count : length (take i front) ≡ i = ap length word ∙ length-take-le i bytes (omega arith) in
    let low : leb 1 (length (take i front)) ≡ true = grind (arith, nat_tests) in
    let high : leb (length (take i front)) 18 ≡ true = grind (arith, nat_tests) in
    record {
      word = take i front;
      split = sym (take-append-drop i bytes) ∙ rw (behind, word) refl;
      digits = h.digits;
      number = rw (low, high, h.digits) (ap (λ (n : ℕ). Some n) (sym h.number));
    }

pub number_shorter : (bytes : List ℕ) (mark value : ℕ) (after : List ℕ) → BeginsNumber bytes mark value after → length after + 1 ≤ length bytes
number_shorter bytes mark value after h = omega (arith, ap length h.split ∙ length-append h.word (mark ∷ after))

solid : (word : List ℕ) → list_all is_digit word ≡ true → list_all is_solid word ≡ true
solid word h = all_weaker is_digit is_solid digit_solid word h

first_word : (word rest : List ℕ) (value : ℕ) → digits_value word ≡ Some value → list_all is_digit word ≡ true → words_of (word ++ 32 ∷ rest) ≡ word ∷ words_of rest
first_word [] rest value e h = absurd cc
first_word (b ∷ bs) rest value e h = word_before b bs rest (solid (b ∷ bs) h)

last_word : (word : List ℕ) (value : ℕ) → digits_value word ≡ Some value → list_all is_digit word ≡ true → words_of word ≡ word ∷ []
last_word [] value e h = absurd cc
last_word (b ∷ bs) value e h = word_last b bs (solid (b ∷ bs) h)

-- the text of a face line
abbrev face_text : (a b c : List ℕ) → List ℕ
face_text a b c = 51 ∷ 32 ∷ (a ++ 32 ∷ (b ++ 32 ∷ c))

quiet : (a b c : List ℕ) → list_all is_digit a ≡ true → list_all is_digit b ≡ true → list_all is_digit c ≡ true → list_all is_quiet (face_text a b c) ≡ true
quiet a b c x y z =
    let p = all_weaker is_digit is_quiet digit_quiet a x in
    let q = all_weaker is_digit is_quiet digit_quiet b y in
    let r = all_weaker is_digit is_quiet digit_quiet c z in
    let behind : list_all is_quiet (b ++ 32 ∷ c) ≡ true = list_all-append is_quiet b (32 ∷ c) ∙ rw (q, r) refl in
    list_all-append is_quiet a (32 ∷ (b ++ 32 ∷ c)) ∙ rw (p, behind) refl

face_is : (n line : ℕ) (a b c : List ℕ) (x y z : ℕ) → digits_value a ≡ Some x → digits_value b ≡ Some y → digits_value c ≡ Some z → x < n → y < n → z < n → face_of n (line, (51 ∷ []) ∷ a ∷ b ∷ c ∷ []) ≡ Ok (x ∷ y ∷ z ∷ [])
unfolding ply.corners_of
face_is n line a b c x y z p q r i j k =
    let s : nat_lt x n ≡ true = lt-ltb x n i in
    let t : nat_lt y n ≡ true = lt-ltb y n j in
    let u : nat_lt z n ≡ true = lt-ltb z n k in
    rw (p, q, r, s, t, u) refl

pub face_begins : (n : ℕ) (bytes one two three after : List ℕ) (x y z : ℕ) → bytes ≡ 51 ∷ 32 ∷ one → BeginsNumber one 32 x two → BeginsNumber two 32 y three → BeginsNumber three 10 z after → x < n → y < n → z < n → BeginsFace n bytes (x ∷ y ∷ z ∷ []) after
face_begins n bytes one two three after x y z e p q r i j k =
    let a = p.word in
    let b = q.word in
    let c = r.word in
    let all : bytes ≡ 51 ∷ 32 ∷ (a ++ 32 ∷ (b ++ 32 ∷ (c ++ 10 ∷ after))) = rw (e, p.split, q.split, r.split) refl in
    let joined : face_text a b c ++ 10 ∷ after ≡ 51 ∷ 32 ∷ (a ++ 32 ∷ (b ++ 32 ∷ (c ++ 10 ∷ after))) = simp append_assoc refl in
    record {
      text = face_text a b c;
      word = 51 ∷ [];
      words = a ∷ b ∷ c ∷ [];
      line = ap lines_of (all ∙ sym joined) ∙ line_text (face_text a b c) after (quiet a b c p.digits q.digits r.digits);
      split =
          ap (λ (ws : List (List ℕ)). (51 ∷ []) ∷ ws) (first_word a (b ++ 32 ∷ c) x p.number p.digits
          ∙ ap (λ (ws : List (List ℕ)). a ∷ ws) (first_word b c y q.number q.digits
          ∙ ap (λ (ws : List (List ℕ)). b ∷ ws) (last_word c z r.number r.digits)));
      face = λ line. face_is n line a b c x y z p.number q.number r.number i j k;
    }
