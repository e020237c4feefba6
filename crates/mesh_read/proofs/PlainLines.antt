-- The end of a short line at the front of a text, and its words.
use Rattle.std.proofs.Common.{◌≡◌, ◌≢◌, ℕ, zero, suc, ◌+◌, ◌^◌, ◌<◌, ◌≤◌, true, false, eqb, not, List, [], ◌∷◌, length, get_or, take, drop, map, refl, sym, ap, ◌∙◌, arith, w64, inl, inr, add-one, zero-add}
use lib.Count.{count_trailing_zeros}
use lib.Lanes.{mask_l}
use Rattle.std.specs.List.{prefix_len}
use Rattle.std.proofs.lemmas.Bool.{cases_lt, eqb-true, eq-eqb, ne_eqb, false≢true}
use Rattle.std.proofs.lemmas.Bool.Decides.{nat_tests}
use Rattle.std.proofs.lemmas.List.{length-map, length-take-le}
use Rattle.std.proofs.lemmas.Nat.Bits.{bit_at-trailing_zeros, bit_at_above}
use Rattle.std.proofs.lemmas.Simd.{mask_l-lt, first_set_mask_l, run_in_chunk_fails, run_in_chunk_stops}
use Rattle.text_lines.specs.Lines.{text_end}
use Rattle.text_lines.specs.Words.{words_of, is_blank, longer}
use Rattle.text_lines.proofs.Places.{decide, FirstAt}
use Rattle.text_lines.proofs.LineLaws.{is_feed, line_at}
use Rattle.text_lines.proofs.WordLaws.{words_longer}
use Rattle.mesh_read.specs.Plain.{IsFirstFeed, BeginsLine}

-- the lowest bit of a mask of line feeds
pub lowest_feed : (bytes : List ℕ) (mask : ℕ) → 32 ≤ length bytes → mask ≡ mask_l (map is_feed (take 32 bytes)) → mask ≢ 0 → IsFirstFeed bytes (count_trailing_zeros 64 mask)
lowest_feed bytes mask long is some =
    let front = take 32 bytes in
    let size : length front ≡ 32 = length-take-le 32 bytes long in
    let lanes : length (map is_feed front) ≡ 32 = length-map front is_feed ∙ size in
    let place = count_trailing_zeros 64 mask in
    let small : mask < 2 ^ 32 = omega (arith, is, mask_l-lt (map is_feed front), ap (λ n. 2 ^ n) lanes) in
    let bit = bit_at-trailing_zeros w64 mask (omega (arith, some)) (omega (arith, small)) in
    let low : place < 32 = elim (cases_lt place 32) [
      | inl lt ↦ lt
      | inr ge ↦ absurd (omega (arith, bit.1, bit_at_above mask 32 place small ge))
    ] in
    let set : eqb (mask_l (map is_feed front)) 0 ≡ false = ap (λ n. eqb n 0) (sym is) ∙ ne_eqb mask 0 some in
    let run : place ≡ prefix_len (λ x. not (is_feed x)) front = ap (count_trailing_zeros 64) is ∙ sym (rw set refl) ∙ first_set_mask_l is_feed front 32 size (omega arith) in
    let stop : is_feed (get_or bytes place 0) ≡ true = ap (λ k. is_feed (get_or bytes k 0)) (sym (zero-add place)) ∙ run_in_chunk_stops is_feed bytes 0 32 place 0 long run low in
    record {
      within = omega (arith, low, long);
      here = eqb-true (get_or bytes place 0) 10 stop;
      first = λ k lt e. false≢true (sym (run_in_chunk_fails is_feed bytes 0 32 place 0 long run k (omega arith) (omega (arith, lt))) ∙ eq-eqb (get_or bytes k 0) 10 e);
    }

first_feed : (bytes : List ℕ) (place : ℕ) → place < length bytes → get_or bytes place 0 ≡ 10 → ((k : ℕ) → k < place → get_or bytes k 0 ≢ 10) → FirstAt is_feed bytes place
first_feed [] place lt at before = absurd (omega arith)
first_feed (b ∷ bs) zero lt at before = eq-eqb b 10 at
first_feed (b ∷ bs) (suc place) lt at before =
    (ne_eqb b 10 (before 0 (omega arith)), first_feed bs place (omega arith) at (λ k low. before (suc k) (omega arith)))

-- a text that begins with a byte that is no blank has a word
record HasWord (text : List ℕ) : Type 0 where
  word : List ℕ
  words : List (List ℕ)
  split : words_of text ≡ word ∷ words

has_word : (b : ℕ) (bs : List ℕ) → is_blank b ≡ false → HasWord (b ∷ bs)
has_word b [] f = record { word = b ∷ []; words = []; split = rw f refl }
has_word b (c ∷ bs) f = decide (is_blank c)
    (λ t. record { word = b ∷ []; words = words_of (c ∷ bs); split = rw (f, t) refl })
    (λ g. let more = has_word c bs g in record { word = b ∷ more.word; words = more.words; split = words_longer b c bs f g ∙ ap (longer b) more.split })

above_blank : (b : ℕ) → 33 ≤ b → is_blank b ≡ false
above_blank b low = grind (arith, nat_tests)

text_some : (b : ℕ) (bs : List ℕ) (place : ℕ) → 33 ≤ b → HasWord (take (text_end (b ∷ bs) (suc place)) (b ∷ bs))
text_some b bs zero low =
    let back : eqb b 13 ≡ false = ne_eqb b 13 (λ e. omega arith) in
    rw back (has_word b [] (above_blank b low))
text_some b bs (suc place) low = decide (eqb (get_or bs place 0) 13)
    (λ t. rw t (has_word b (take place bs) (above_blank b low)))
    (λ f. rw f (has_word b (take (suc place) bs) (above_blank b low)))

pub plain_line : (bytes : List ℕ) (place : ℕ) (after : List ℕ) → 33 ≤ get_or bytes 0 0 → IsFirstFeed bytes place → after ≡ drop (place + 1) bytes → BeginsLine bytes after
plain_line [] place after low h rest = absurd (omega (arith, low))
plain_line (b ∷ bs) zero after low h rest = absurd (omega (arith, low, h.here))
plain_line (b ∷ bs) (suc place) after low h rest =
    let some = text_some b bs place low in
    let behind : drop (suc (suc place)) (b ∷ bs) ≡ after = sym (rest ∙ rw add-one refl) in
    let line = line_at (b ∷ bs) (suc place) (first_feed (b ∷ bs) (suc place) h.within h.here h.first) in
    record {
      text = take (text_end (b ∷ bs) (suc place)) (b ∷ bs);
      word = some.word;
      words = some.words;
      line = rw (← behind) line;
      split = some.split;
    }
