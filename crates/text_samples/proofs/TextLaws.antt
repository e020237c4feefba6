-- The samples of a text, word by word.
use Rattle.std.proofs.Common.{◌≡◌, ℕ, zero, suc, ◌+◌, ◌-◌, ◌<◌, ◌≤◌, true, false, cond, ltb, ℤ, List, [], ◌∷◌, ◌++◌, length, get_or, map, take, Some, None, Result, Ok, Err, refl, sym, ap, ◌∙◌, arith, add-zero, All}
use Rattle.std.proofs.lemmas.Bool.{le-ltb, lt-ltb}
use Rattle.std.proofs.lemmas.Bool.Decides.{nat_tests}
use Rattle.std.proofs.lemmas.List.{append_assoc, append-nil}
use Rattle.std.proofs.lemmas.List.Elements.{All-nil}
use Rattle.std.specs.List.{enumerate_from}
use Rattle.iso_base.specs.Volume.{IsOfKind}
use Rattle.iso_base.specs.declared.kind.SampleKind.{SampleKind}
use Rattle.text_samples.specs.declared.fault.SampleFault.{SampleFault}
use Rattle.text_samples.specs.declared.fault.SampleFault.TheVariants.{Bad, Short}
use Rattle.text_samples.specs.Text.{Word, words_in, sample_said, said_at, text_samples}
use Rattle.text_lines.specs.Lines.{◌>>=◌, all_or_first}

-- the samples that words say, the first of which is at this place, or the first word that says none
abbrev pub samples_said : SampleKind → ℕ → List Word → Result (List ℤ) SampleFault
samples_said kind place words = all_or_first (map (said_at kind) (enumerate_from place words))

-- the bytes after so many words
abbrev pub after_words : ℕ → List ℕ → List Word → List ℕ
after_words zero bytes words = bytes
after_words (suc n) bytes [] = []
after_words (suc n) bytes (w ∷ words) = after_words n w.after words

-- how many they are
number_after : (n : ℕ) (bytes : List ℕ) (words : List Word)
    → get_or (length bytes ∷ map (λ (w : Word). length w.after) words) n 0 ≡ length (after_words n bytes words)
number_after zero bytes words = refl
number_after (suc n) bytes [] = refl
number_after (suc n) bytes (w ∷ words) = number_after n w.after words

-- what is read on from a place: these samples stand before it, and so many are still wanted
unfoldable pub onward : SampleKind → List ℤ → ℕ → ℕ → List ℕ → List Word → Result (List ℤ × ℕ) SampleFault
onward kind done place n rest words = do
  more ← samples_said kind place (take n words)
  cond (ltb (length words) n) (Err (Short (place + n) (place + length words))) (Ok (done ++ more, length (after_words n rest words)))

pub at_first : (kind : SampleKind) (count : ℕ) (bytes : List ℕ) → text_samples kind count bytes ≡ onward kind [] 0 count bytes (words_in bytes)
unfolding text_samples onward
at_first kind count bytes =
    let e : 0 + count ≡ count = omega arith in
    let f : 0 + length (words_in bytes) ≡ length (words_in bytes) = omega arith in
    ap (λ (a : ℕ). samples_said kind 0 (take count (words_in bytes)) >>= (λ more. cond {A = Result (List ℤ × ℕ) SampleFault} (ltb (length (words_in bytes)) count) (Err (Short count (length (words_in bytes)))) (Ok (more, a)))) (number_after count bytes (words_in bytes))
    ∙ ap (λ a. samples_said kind 0 (take count (words_in bytes)) >>= (λ more. cond (ltb (length (words_in bytes)) count) (Err (Short a (length (words_in bytes)))) (Ok (more, length (after_words count bytes (words_in bytes)))))) (sym e)
    ∙ ap (λ a. samples_said kind 0 (take count (words_in bytes)) >>= (λ more. cond (ltb (length (words_in bytes)) count) (Err (Short (0 + count) a)) (Ok (more, length (after_words count bytes (words_in bytes)))))) (sym f)

-- the two ends of a reading
abbrev finished : ℕ → List ℤ → Result (List ℤ × ℕ) SampleFault
finished n samples = Ok (samples, n)

abbrev too_few : ℕ → ℕ → Result (List ℤ × ℕ) SampleFault
too_few needed present = Err (Short needed present)

-- at the end
pub at_end : (kind : SampleKind) (done : List ℤ) (place : ℕ) (rest : List ℕ) (words : List Word) → onward kind done place 0 rest words ≡ Ok (done, length rest)
unfolding onward
at_end kind done place rest words =
    let f : ltb (length words) 0 ≡ false = le-ltb (length words) 0 (omega arith) in
    rw f (ap (finished (length rest)) (append-nil done))

-- where no word is left
at_none : (kind : SampleKind) (done : List ℤ) (place n : ℕ) (rest : List ℕ) → onward kind done place (suc n) rest [] ≡ Err (Short (place + suc n) place)
unfolding onward
at_none kind done place n rest =
    let t : ltb 0 (suc n) ≡ true = lt-ltb 0 (suc n) (omega arith) in
    rw t (ap (too_few (place + suc n)) (add-zero place))

-- where a word says no sample
at_bad : (kind : SampleKind) (done : List ℤ) (place n : ℕ) (rest : List ℕ) (w : Word) (words : List Word) → sample_said kind w.text ≡ None
    → onward kind done place (suc n) rest (w ∷ words) ≡ Err (Bad place)
unfolding onward
at_bad kind done place n rest w words bad = rw bad refl

-- the end of a reading, by what the words say
abbrev ending : ℕ → ℕ → List ℤ → List ℕ → ℕ → List Word → List ℤ → Result (List ℤ × ℕ) SampleFault
ending place n done rest present words more =
    cond (ltb (length words) n) (too_few (place + n) (place + present)) (finished (length (after_words n rest words)) (done ++ more))

one_further : (place n : ℕ) (done : List ℤ) (v : ℤ) (rest : List ℕ) (words : List Word) (r : Result (List ℤ) SampleFault)
    → ((r >>= (λ xs. Ok (v ∷ xs))) >>= ending place n done rest (length words) words) ≡ (r >>= ending place n (done ++ v ∷ []) rest (length words) words)
one_further place n done v rest words (Err e) = refl
one_further place n done v rest words (Ok xs) =
    ap (λ (l : List ℤ). cond (ltb (length words) n) (too_few (place + n) (place + length words)) (finished (length (after_words n rest words)) l))
    (sym (append_assoc done (v ∷ []) xs))

-- where it says one
pub at_sample : (kind : SampleKind) (done : List ℤ) (place n : ℕ) (rest : List ℕ) (w : Word) (words : List Word) (v : ℤ) → sample_said kind w.text ≡ Some v
    → onward kind done place (suc n) rest (w ∷ words) ≡ onward kind (done ++ v ∷ []) (place + 1) n w.after words
unfolding onward
at_sample kind done place n rest w words v good =
    let a : ltb (suc (length words)) (suc n) ≡ ltb (length words) n = grind (arith, nat_tests) in
    let b : place + suc n ≡ place + 1 + n = omega arith in
    let c : place + suc (length words) ≡ place + 1 + length words = omega arith in
    rw (good, a, b, c) (one_further (place + 1) n done v w.after words (samples_said kind (place + 1) (take n words)))

-- the same by the place and the number of samples wanted
module _ (kind : SampleKind) (done : List ℤ) (place count : ℕ) (rest : List ℕ) where
  pub ends_here : count ≤ place → onward kind done place (count - place) rest (words_in rest) ≡ Ok (done, length rest)
  ends_here h =
      let e : count - place ≡ 0 = omega arith in
      ap (λ n. onward kind done place n rest (words_in rest)) e ∙ at_end kind done place rest (words_in rest)

  pub ends_short : place < count → words_in rest ≡ [] → onward kind done place (count - place) rest (words_in rest) ≡ Err (Short count place)
  ends_short h none =
      let e : count - place ≡ suc (count - (place + 1)) = omega arith in
      let f : place + suc (count - (place + 1)) ≡ count = omega arith in
      ap (λ n. onward kind done place n rest (words_in rest)) e
      ∙ (ap (onward kind done place (suc (count - (place + 1))) rest) none
      ∙ (at_none kind done place (count - (place + 1)) rest ∙ ap (λ a. Err (Short a place)) f))

  pub ends_bad : (w : Word) (words : List Word) → place < count → words_in rest ≡ w ∷ words → sample_said kind w.text ≡ None
      → onward kind done place (count - place) rest (words_in rest) ≡ Err (Bad place)
  ends_bad w words h next bad =
      let e : count - place ≡ suc (count - (place + 1)) = omega arith in
      ap (λ n. onward kind done place n rest (words_in rest)) e
      ∙ (ap (onward kind done place (suc (count - (place + 1))) rest) next ∙ at_bad kind done place (count - (place + 1)) rest w words bad)

  pub goes_on : (w : Word) (v : ℤ) → place < count → words_in rest ≡ w ∷ words_in w.after → sample_said kind w.text ≡ Some v
      → onward kind done place (count - place) rest (words_in rest) ≡ onward kind (done ++ v ∷ []) (place + 1) (count - (place + 1)) w.after (words_in w.after)
  goes_on w v h next good =
      let e : count - place ≡ suc (count - (place + 1)) = omega arith in
      ap (λ n. onward kind done place n rest (words_in rest)) e
      ∙ (ap (onward kind done place (suc (count - (place + 1))) rest) next ∙ at_sample kind done place (count - (place + 1)) rest w (words_in w.after) v good)

-- what holds while a text is read
pub record IsReading (kind : SampleKind) (count : ℕ) (bytes : List ℕ) (place : ℕ) (done : List ℤ) (rest : List ℕ) : Type 0 where
  pub read : text_samples kind count bytes ≡ onward kind done place (count - place) rest (words_in rest)
  pub each : All (IsOfKind kind) done
  pub number : length done ≡ place

-- it holds at the start, where nothing is read yet
pub begins : (kind : SampleKind) (count : ℕ) (bytes : List ℕ) → IsReading kind count bytes 0 [] bytes
begins kind count bytes =
    let e : count ≡ count - 0 = omega arith in
    record {
      read = at_first kind count bytes ∙ ap (λ n. onward kind [] 0 n bytes (words_in bytes)) e;
      each = All-nil (IsOfKind kind);
      number = refl;
    }
