-- Hex digits one after the other, against the list of all of them.
use Rattle.std.proofs.Common.{◌≡◌, ℕ, zero, suc, ◌+◌, ◌-◌, ◌*◌, ◌/◌, ◌<◌, ◌≤◌, Bool, true, false, cond, ltb, ℤ, List, [], ◌∷◌, ◌++◌, length, get_or, map, take, drop, Option, Some, None, Result, Ok, Err, refl, sym, ap, ◌∙◌, arith, add-zero, All, inl, inr}
use Rattle.std.specs.Prelude.{ok_or}
use Rattle.std.proofs.lemmas.Bool.{cases_Bool, lt-ltb, le-ltb}
use Rattle.std.proofs.lemmas.Bool.Decides.{nat_tests}
use Rattle.std.proofs.lemmas.List.{append_assoc, append-nil}
use Rattle.std.proofs.Math.ListN.{get_or-append}
use Rattle.std.proofs.lemmas.List.Elements.{All-nil}
use Rattle.std.proofs.Math.Seq.{drop-append-add}
use Rattle.std.specs.List.{enumerate_from, range_with_len}
use Rattle.byteorder.specs.Endian.{big_from, little_from}
use Rattle.iso_base.specs.Volume.{IsOfKind, width_of}
use Rattle.iso_base.specs.declared.kind.SampleKind.{SampleKind}
use Rattle.text_samples.specs.declared.fault.SampleFault.{SampleFault}
use Rattle.text_samples.specs.declared.fault.SampleFault.TheVariants.{Bad, Short, Memory}
use Rattle.text_samples.specs.declared.hex.Wanted.{Wanted}
use Rattle.text_lines.specs.Lines.{◌>>=◌, all_or_first}
use Rattle.text_samples.specs.Answers.{Fails}
use Rattle.text_samples.specs.Text.{is_separator}
use Rattle.text_samples.specs.Hex.{Mark, marks_in, hex_value, digit_at, paired, digits_needed, hex_samples}
use Rattle.text_samples.specs.HexScan.{digit_of, digit_read, byte_read, bytes_read, number_read, sample_read}
use Rattle.iso_base.specs.SampleBytes.{as_kind, number_in, sample_of, samples_in}

-- steps that follow one another
then_then : {A B C : Type 0} (r : Result A SampleFault) (f : A → Result B SampleFault) (g : B → Result C SampleFault)
    → ((r >>= f) >>= g) ≡ (r >>= (λ x. f x >>= g))
then_then (Ok x) f g = refl
then_then (Err e) f g = refl

then_agree : {A B : Type 0} (r : Result A SampleFault) (f g : A → Result B SampleFault) → ((x : A) → f x ≡ g x) → (r >>= f) ≡ (r >>= g)
then_agree (Ok x) f g h = h x
then_agree (Err e) f g h = refl

-- behind a mark come the marks in the bytes after it
marks_behind : (bs : List ℕ) (m : Mark) (marks : List Mark) → marks_in bs ≡ m ∷ marks → marks ≡ marks_in m.after
marks_behind [] m marks e = absurd cc
marks_behind (b ∷ bs) m marks e =
    elim (cases_Bool (is_separator b)) [
      | inl t ↦ (let f : marks_in (b ∷ bs) ≡ marks_in bs = rw t refl in marks_behind bs m marks (sym f ∙ e))
      | inr t ↦ (let f : marks_in (b ∷ bs) ≡ record { byte = b; after = bs } ∷ marks_in bs = rw t refl in
          let k : record { byte = b; after = bs } ∷ marks_in bs ≡ m ∷ marks = sym f ∙ e in
          let first : record { byte = b; after = bs } ≡ m = cc in
          let rest : marks_in bs ≡ marks = cc in
          sym rest ∙ ap (λ (m : Mark). marks_in m.after) first)
    ]

-- so many digits, one after the other
abbrev digits_read : ℕ → Wanted → ℕ → List ℕ → Result (List ℕ × List ℕ) SampleFault
digits_read zero wanted done rest = Ok ([], rest)
digits_read (suc n) wanted done rest = do
  first ← digit_read wanted done rest
  more ← digits_read n wanted (done + 1) first.1
  Ok (first.0 ∷ more.0, more.1)

-- the digits that these bytes are, the first of which is at this place, or the first that is none
abbrev pub digits_said : ℕ → ℕ → List Mark → Result (List ℕ) SampleFault
digits_said each place marks = all_or_first (map (digit_at each) (enumerate_from place marks))

-- the bytes after so many that are no separators
abbrev pub after_marks : ℕ → List ℕ → List Mark → List ℕ
after_marks zero bytes marks = bytes
after_marks (suc n) bytes [] = []
after_marks (suc n) bytes (m ∷ marks) = after_marks n m.after marks

-- how many they are
number_after : (n : ℕ) (bytes : List ℕ) (marks : List Mark)
    → get_or (length bytes ∷ map (λ (m : Mark). length m.after) marks) n 0 ≡ length (after_marks n bytes marks)
number_after zero bytes marks = refl
number_after (suc n) bytes [] = refl
number_after (suc n) bytes (m ∷ marks) = number_after n m.after marks

-- the digits of the first marks, so many, and the bytes after them
abbrev digits_among : ℕ → Wanted → ℕ → List ℕ → List Mark → Result (List ℕ × List ℕ) SampleFault
digits_among n wanted done rest marks = do
  digits ← digits_said wanted.each done (take n marks)
  cond (ltb (length marks) n) (Err (Short wanted.needed (done + length marks))) (Ok (digits, after_marks n rest marks))

-- a digit or a byte before others
abbrev pub before : {A : Type 0} → A → List A × List ℕ → Result (List A × List ℕ) SampleFault
before v more = Ok (v ∷ more.0, more.1)

abbrev before_alone : ℕ → List ℕ → Result (List ℕ) SampleFault
before_alone v digits = Ok (v ∷ digits)

-- the end of a reading of digits
abbrev ended : Bool → SampleFault → List ℕ → List ℕ → Result (List ℕ × List ℕ) SampleFault
ended few fault after digits = cond few (Err fault) (Ok (digits, after))

before_others : (few : Bool) (e : SampleFault) (v : ℕ) (after : List ℕ) (r : Result (List ℕ) SampleFault)
    → ((r >>= ended few e after) >>= before v) ≡ ((r >>= before_alone v) >>= ended few e after)
before_others few e v after (Err f) = refl
before_others true e v after (Ok ds) = refl
before_others false e v after (Ok ds) = refl

digits_are : (n : ℕ) (wanted : Wanted) (done : ℕ) (rest : List ℕ) (marks : List Mark) → marks_in rest ≡ marks
    → digits_read n wanted done rest ≡ digits_among n wanted done rest marks
digits_are zero wanted done rest marks e =
    let f : ltb (length marks) 0 ≡ false = le-ltb (length marks) 0 (omega arith) in
    rw f refl
digits_are (suc n) wanted done rest [] e =
    let t : ltb 0 (suc n) ≡ true = lt-ltb 0 (suc n) (omega arith) in
    let read : digit_read wanted done rest ≡ Err (Short wanted.needed done) = none e in
    rw (read, t) (ap (too_few wanted.needed) (sym (add-zero done)))
  where
    none : marks_in rest ≡ [] → digit_read wanted done rest ≡ Err (Short wanted.needed done)
    none e = unfold digit_read in ap (digit_of wanted done) e

    too_few : ℕ → ℕ → Result (List ℕ × List ℕ) SampleFault
    too_few needed present = Err (Short needed present)
digits_are (suc n) wanted done rest (m ∷ marks) e =
    by_value (hex_value m.byte) (digits_are n wanted (done + 1) m.after marks (sym (marks_behind rest m marks e))) refl
  where
    read : digit_read wanted done rest ≡ (ok_or (hex_value m.byte) (Bad (done / wanted.each)) >>= (λ v. Ok (v, m.after)))
    read = unfold digit_read in ap (digit_of wanted done) e

    by_value : (o : Option ℕ) → digits_read n wanted (done + 1) m.after ≡ digits_among n wanted (done + 1) m.after marks → hex_value m.byte ≡ o → digits_read (suc n) wanted done rest ≡ digits_among (suc n) wanted done rest (m ∷ marks)
    by_value None ih h = rw (read, h) refl
    by_value (Some v) ih h =
        let a : ltb (suc (length marks)) (suc n) ≡ ltb (length marks) n = grind (arith, nat_tests) in
        let c : done + suc (length marks) ≡ done + 1 + length marks = omega arith in
        rw (read, h, a, c, ih)
        (before_others (ltb (length marks) n) (Short wanted.needed (done + 1 + length marks)) v (after_marks n m.after marks) (digits_said wanted.each (done + 1) (take n marks)))

-- bytes are pairs of digits
abbrev in_pairs : List ℕ × List ℕ → Result (List ℕ × List ℕ) SampleFault
in_pairs ds = Ok (paired ds.0, ds.1)

bytes_are : (n : ℕ) (wanted : Wanted) (done : ℕ) (rest : List ℕ) → bytes_read n wanted done rest ≡ (digits_read (2 * n) wanted done rest >>= in_pairs)
bytes_are zero wanted done rest = refl
bytes_are (suc n) wanted done rest =
    let e : 2 * suc n ≡ suc (suc (2 * n)) = omega arith in
    rw e (by_first (digit_read wanted done rest) (λ done rest. bytes_are n wanted done rest) refl)
  where
    byte_is : byte_read wanted done rest ≡ (digit_read wanted done rest >>= (λ h. digit_read wanted (done + 1) h.1 >>= (λ l. Ok (16 * h.0 + l.0, l.1))))
    byte_is = unfold byte_read in refl

    by_more : (h l : ℕ) (r : Result (List ℕ × List ℕ) SampleFault)
        → ((r >>= in_pairs) >>= before (16 * h + l))
        ≡ (((r >>= before l) >>= before h) >>= in_pairs)
    by_more h l (Ok ds) = refl
    by_more h l (Err f) = refl

    by_second : (h : ℕ × List ℕ) (r : Result (ℕ × List ℕ) SampleFault) → ((done : ℕ) (rest : List ℕ) → bytes_read n wanted done rest ≡ (digits_read (2 * n) wanted done rest >>= in_pairs))
        → ((r >>= (λ (l : ℕ × List ℕ). Ok (16 * h.0 + l.0, l.1))) >>= (λ (first : ℕ × List ℕ). bytes_read n wanted (done + 2) first.1 >>= before first.0))
        ≡ (((r >>= (λ (l : ℕ × List ℕ). digits_read (2 * n) wanted (done + 1 + 1) l.1 >>= before l.0)) >>= before h.0) >>= in_pairs)
    by_second h (Err f) ih = refl
    by_second h (Ok l) ih =
        let two : done + 2 ≡ done + 1 + 1 = omega arith in
        rw (two, ih (done + 1 + 1) l.1) (by_more h.0 l.0 (digits_read (2 * n) wanted (done + 1 + 1) l.1))

    by_first : (r : Result (ℕ × List ℕ) SampleFault) → ((done : ℕ) (rest : List ℕ) → bytes_read n wanted done rest ≡ (digits_read (2 * n) wanted done rest >>= in_pairs))
        → digit_read wanted done rest ≡ r → bytes_read (suc n) wanted done rest ≡ (digits_read (suc (suc (2 * n))) wanted done rest >>= in_pairs)
    by_first (Err f) ih e = rw (byte_is, e) refl
    by_first (Ok h) ih e = rw (byte_is, e) (by_second h (digit_read wanted (done + 1) h.1) ih)

-- a run of bytes in two parts
abbrev joined_to : List ℕ → List ℕ × List ℕ → Result (List ℕ × List ℕ) SampleFault
joined_to xs more = Ok (xs ++ more.0, more.1)

bytes_split : (a b : ℕ) (wanted : Wanted) (done : ℕ) (rest : List ℕ)
    → bytes_read (a + b) wanted done rest ≡ (bytes_read a wanted done rest >>= (λ x. bytes_read b wanted (done + 2 * a) x.1 >>= joined_to x.0))
bytes_split zero b wanted done rest =
    let e : 0 + b ≡ b = omega arith in
    let f : done + 2 * 0 ≡ done = omega arith in
    rw (e, f) (same (bytes_read b wanted done rest))
  where
    same : (r : Result (List ℕ × List ℕ) SampleFault) → r ≡ (r >>= joined_to [])
    same (Ok x) = refl
    same (Err f) = refl
bytes_split (suc a) b wanted done rest =
    let e : suc a + b ≡ suc (a + b) = omega arith in
    rw e (by_first (byte_read wanted done rest) (λ rest. bytes_split a b wanted (done + 2) rest))
  where
    by_more : (v : ℕ) (xs : List ℕ) (r : Result (List ℕ × List ℕ) SampleFault)
        → ((r >>= joined_to xs) >>= before v) ≡ (r >>= joined_to (v ∷ xs))
    by_more v xs (Ok x) = refl
    by_more v xs (Err f) = refl

    by_part : (v : ℕ) (r : Result (List ℕ × List ℕ) SampleFault)
        → ((r >>= (λ x. bytes_read b wanted (done + 2 + 2 * a) x.1 >>= joined_to x.0)) >>= before v)
        ≡ ((r >>= before v) >>= (λ x. bytes_read b wanted (done + 2 * suc a) x.1 >>= joined_to x.0))
    by_part v (Err f) = refl
    by_part v (Ok x) =
        let e : done + 2 * suc a ≡ done + 2 + 2 * a = omega arith in
        rw e (by_more v x.0 (bytes_read b wanted (done + 2 + 2 * a) x.1))

    by_first : (r : Result (ℕ × List ℕ) SampleFault)
        → ((rest : List ℕ) → bytes_read (a + b) wanted (done + 2) rest ≡ (bytes_read a wanted (done + 2) rest >>= (λ x. bytes_read b wanted (done + 2 + 2 * a) x.1 >>= joined_to x.0)))
        → (r >>= (λ (first : ℕ × List ℕ). bytes_read (a + b) wanted (done + 2) first.1 >>= before first.0))
        ≡ ((r >>= (λ (first : ℕ × List ℕ). bytes_read a wanted (done + 2) first.1 >>= before first.0))
        >>= (λ x. bytes_read b wanted (done + 2 * suc a) x.1 >>= joined_to x.0))
    by_first (Err f) ih = refl
    by_first (Ok first) ih = rw (ih first.1) (by_part first.0 (bytes_read a wanted (done + 2) first.1))

-- as many bytes as are read
bytes_length : (n : ℕ) (wanted : Wanted) (done : ℕ) (rest : List ℕ) (x : List ℕ × List ℕ) → bytes_read n wanted done rest ≡ Ok x → length x.0 ≡ n
bytes_length zero wanted done rest x e = let f : ◌≡◌ {A = List ℕ × List ℕ} ([], rest) x = cc in ap (λ (x : List ℕ × List ℕ). length x.0) (sym f)
bytes_length (suc n) wanted done rest x e = by_first (byte_read wanted done rest) (λ done rest y. bytes_length n wanted done rest y) refl e
  where
    by_more : (v : ℕ) (r : Result (List ℕ × List ℕ) SampleFault) (done : ℕ) (rest : List ℕ)
        → ((done : ℕ) (rest : List ℕ) (y : List ℕ × List ℕ) → bytes_read n wanted done rest ≡ Ok y → length y.0 ≡ n)
        → bytes_read n wanted done rest ≡ r → (r >>= before v) ≡ Ok x → length x.0 ≡ suc n
    by_more v (Err f) done rest ih h e = absurd cc
    by_more v (Ok y) done rest ih h e =
        let f : ◌≡◌ {A = List ℕ × List ℕ} (v ∷ y.0, y.1) x = cc in
        ap (λ (x : List ℕ × List ℕ). length x.0) (sym f) ∙ ap suc (ih done rest y h)

    by_first : (r : Result (ℕ × List ℕ) SampleFault)
        → ((done : ℕ) (rest : List ℕ) (y : List ℕ × List ℕ) → bytes_read n wanted done rest ≡ Ok y → length y.0 ≡ n)
        → byte_read wanted done rest ≡ r → (r >>= (λ (first : ℕ × List ℕ). bytes_read n wanted (done + 2) first.1 >>= before first.0)) ≡ Ok x → length x.0 ≡ suc n
    by_first (Err f) ih h e = absurd cc
    by_first (Ok first) ih h e = by_more first.0 (bytes_read n wanted (done + 2) first.1) (done + 2) first.1 ih refl e

-- the number in the first bytes does not see those behind them
big_before : (i n : ℕ) (xs ys : List ℕ) → i + n ≤ length xs → big_from i n (xs ++ ys) ≡ big_from i n xs
big_before i zero xs ys h = refl
big_before i (suc n) xs ys h =
    let here : get_or (xs ++ ys) i 0 ≡ get_or xs i 0 = get_or-append xs ys 0 i (omega arith) in
    rw (here, big_before (suc i) n xs ys (omega arith)) refl

little_before : (i n : ℕ) (xs ys : List ℕ) → i + n ≤ length xs → little_from i n (xs ++ ys) ≡ little_from i n xs
little_before i zero xs ys h = refl
little_before i (suc n) xs ys h =
    let here : get_or (xs ++ ys) i 0 ≡ get_or xs i 0 = get_or-append xs ys 0 i (omega arith) in
    rw (here, little_before (suc i) n xs ys (omega arith)) refl

number_before : (big_endian : Bool) (n : ℕ) (xs ys : List ℕ) → n ≤ length xs → number_in big_endian n (xs ++ ys) ≡ number_in big_endian n xs
number_before true n xs ys h = big_before 0 n xs ys (omega arith)
number_before false n xs ys h = little_before 0 n xs ys (omega arith)

-- the first sample and those behind it
samples_split : (kind : SampleKind) (big_endian : Bool) (n : ℕ) (xs ys : List ℕ) → length xs ≡ width_of kind
    → samples_in kind big_endian (xs ++ ys) (suc n) ≡ as_kind kind (number_in big_endian (width_of kind) xs) ∷ samples_in kind big_endian ys n
samples_split kind big_endian n xs ys e =
    let none : width_of kind * 0 ≡ 0 = omega arith in
    let first : sample_of kind big_endian (xs ++ ys) 0 ≡ as_kind kind (number_in big_endian (width_of kind) xs)
    = ap (λ k. as_kind kind (number_in big_endian (width_of kind) (drop k (xs ++ ys)))) none ∙ ap (as_kind kind) (number_before big_endian (width_of kind) xs ys (omega arith)) in
    ap (λ v. v ∷ map (sample_of kind big_endian (xs ++ ys)) (range_with_len 1 n)) first
    ∙ ap (λ vs. as_kind kind (number_in big_endian (width_of kind) xs) ∷ vs) (shifted 0 n)
  where
    there : (i : ℕ) → sample_of kind big_endian (xs ++ ys) (i + 1) ≡ sample_of kind big_endian ys i
    there i =
        let k : width_of kind * (i + 1) ≡ length xs + width_of kind * i = omega (arith, e) in
        ap (λ k. as_kind kind (number_in big_endian (width_of kind) (drop k (xs ++ ys)))) k
        ∙ ap (λ bs. as_kind kind (number_in big_endian (width_of kind) bs)) (drop-append-add xs ys (width_of kind * i))

    shifted : (a n : ℕ) → map (sample_of kind big_endian (xs ++ ys)) (range_with_len (a + 1) n) ≡ map (sample_of kind big_endian ys) (range_with_len a n)
    shifted a zero = refl
    shifted a (suc n) = rw (there a, shifted (a + 1) n) refl

-- so many samples, one after the other
abbrev pub samples_read : ℕ → SampleKind → Bool → Wanted → ℕ → List ℕ → Result (List ℤ × List ℕ) SampleFault
samples_read zero kind big_endian wanted done rest = Ok ([], rest)
samples_read (suc n) kind big_endian wanted done rest = do
  first ← sample_read kind big_endian wanted done rest
  more ← samples_read n kind big_endian wanted (done + 2 * width_of kind) first.1
  Ok (first.0 ∷ more.0, more.1)

abbrev as_samples : SampleKind → Bool → ℕ → List ℕ × List ℕ → Result (List ℤ × List ℕ) SampleFault
as_samples kind big_endian n bytes = Ok (samples_in kind big_endian bytes.0 n, bytes.1)

samples_are : (n : ℕ) (kind : SampleKind) (big_endian : Bool) (wanted : Wanted) (done : ℕ) (rest : List ℕ)
    → samples_read n kind big_endian wanted done rest ≡ (bytes_read (width_of kind * n) wanted done rest >>= as_samples kind big_endian n)
samples_are zero kind big_endian wanted done rest = let e : width_of kind * 0 ≡ 0 = omega arith in rw e refl
samples_are (suc n) kind big_endian wanted done rest =
    let e : width_of kind * suc n ≡ width_of kind + width_of kind * n = omega arith in
    rw (e, bytes_split (width_of kind) (width_of kind * n) wanted done rest, sample_is)
    (by_first (bytes_read (width_of kind) wanted done rest) (λ rest. samples_are n kind big_endian wanted (done + 2 * width_of kind) rest) refl)
  where
    sample_is : sample_read kind big_endian wanted done rest
        ≡ ((bytes_read (width_of kind) wanted done rest >>= (λ (bytes : List ℕ × List ℕ). Ok (number_in big_endian (width_of kind) bytes.0, bytes.1)))
        >>= (λ (number : ℕ × List ℕ). Ok (as_kind kind number.0, number.1)))
    sample_is = unfold sample_read number_read in refl

    by_more : (xs : List ℕ) → length xs ≡ width_of kind → (r : Result (List ℕ × List ℕ) SampleFault)
        → ((r >>= as_samples kind big_endian n) >>= before (as_kind kind (number_in big_endian (width_of kind) xs)))
        ≡ ((r >>= joined_to xs) >>= as_samples kind big_endian (suc n))
    by_more xs e (Err f) = refl
    by_more xs e (Ok y) = ap (λ (l : List ℤ). Ok (l, y.1)) (sym (samples_split kind big_endian n xs y.0 e))

    by_first : (r : Result (List ℕ × List ℕ) SampleFault)
        → ((rest : List ℕ) → samples_read n kind big_endian wanted (done + 2 * width_of kind) rest ≡ (bytes_read (width_of kind * n) wanted (done + 2 * width_of kind) rest >>= as_samples kind big_endian n))
        → bytes_read (width_of kind) wanted done rest ≡ r → (((r >>= (λ (bytes : List ℕ × List ℕ). Ok (number_in big_endian (width_of kind) bytes.0, bytes.1)))
        >>= (λ (number : ℕ × List ℕ). Ok (as_kind kind number.0, number.1)))
        >>= (λ (first : ℤ × List ℕ). samples_read n kind big_endian wanted (done + 2 * width_of kind) first.1 >>= before first.0))
        ≡ ((r >>= (λ x. bytes_read (width_of kind * n) wanted (done + 2 * width_of kind) x.1 >>= joined_to x.0)) >>= as_samples kind big_endian (suc n))
    by_first (Err f) ih h = refl
    by_first (Ok x) ih h =
        rw (ih x.1)
        (by_more x.0 (bytes_length (width_of kind) wanted done rest x h) (bytes_read (width_of kind * n) wanted (done + 2 * width_of kind) x.1))

-- what is wanted of a text
abbrev pub wanted_of : SampleKind → ℕ → Wanted
wanted_of kind count = record { needed = digits_needed kind count; each = 2 * width_of kind }

-- the end of a reading
abbrev pub behind_done : List ℤ → List ℤ × List ℕ → Result (List ℤ × ℕ) SampleFault
behind_done done more = Ok (done ++ more.0, length more.1)

-- what is read on from a place: these samples stand before it, and so many are still wanted
unfoldable pub decoding : SampleKind → Bool → ℕ → List ℤ → ℕ → ℕ → List ℕ → Result (List ℤ × ℕ) SampleFault
decoding kind big_endian count done place n rest =
    samples_read n kind big_endian (wanted_of kind count) (2 * width_of kind * place) rest >>= behind_done done

-- what holds while a text is read
pub record IsDecoding (kind : SampleKind) (big_endian : Bool) (count : ℕ) (bytes : List ℕ) (place : ℕ) (done : List ℤ) (rest : List ℕ) : Type 0 where
  pub read : hex_samples kind big_endian count bytes ≡ decoding kind big_endian count done place (count - place) rest
  pub each : All (IsOfKind kind) done
  pub number : length done ≡ place

-- it holds at the start, where nothing is read yet
all_digits : (kind : SampleKind) (big_endian : Bool) (count : ℕ) (few : Bool) (fault : SampleFault) (after : List ℕ) (r : Result (List ℕ) SampleFault)
    → ((((r >>= ended few fault after) >>= in_pairs) >>= as_samples kind big_endian count) >>= behind_done [])
    ≡ (r >>= (λ digits. cond {A = Result (List ℤ × ℕ) SampleFault} few (Err fault) (Ok (samples_in kind big_endian (paired digits) count, length after))))
all_digits kind big_endian count few fault after (Err f) = refl
all_digits kind big_endian count true fault after (Ok ds) = refl
all_digits kind big_endian count false fault after (Ok ds) = refl

pub at_first : (kind : SampleKind) (big_endian : Bool) (count : ℕ) (bytes : List ℕ) → hex_samples kind big_endian count bytes ≡ decoding kind big_endian count [] 0 count bytes
unfolding hex_samples decoding
at_first kind big_endian count bytes =
    let w : Wanted = wanted_of kind count in
    let none : 2 * width_of kind * 0 ≡ 0 = omega arith in
    let needed : 2 * (width_of kind * count) ≡ digits_needed kind count = omega arith in
    let all : 0 + length (marks_in bytes) ≡ length (marks_in bytes) = omega arith in
    let few : Bool = ltb (length (marks_in bytes)) (digits_needed kind count) in
    let read : samples_read count kind big_endian w (2 * width_of kind * 0) bytes
    ≡ ((digits_among (digits_needed kind count) w 0 bytes (marks_in bytes) >>= in_pairs) >>= as_samples kind big_endian count)
    = ap (λ n. samples_read count kind big_endian w n bytes) none
    ∙ (samples_are count kind big_endian w 0 bytes
    ∙ ap (λ r. r >>= as_samples kind big_endian count) (bytes_are (width_of kind * count) w 0 bytes
    ∙ ap (λ r. r >>= in_pairs) (ap (λ n. digits_read n w 0 bytes) needed ∙ digits_are (digits_needed kind count) w 0 bytes (marks_in bytes) refl))) in
    sym (ap (λ r. r >>= behind_done []) read
    ∙ (all_digits kind big_endian count few (Short (digits_needed kind count) (0 + length (marks_in bytes))) (after_marks (digits_needed kind count) bytes (marks_in bytes))
    (digits_said (2 * width_of kind) 0 (take (digits_needed kind count) (marks_in bytes)))
    ∙ ap (λ n. digits_said (2 * width_of kind) 0 (take (digits_needed kind count) (marks_in bytes)) >>= (λ digits. cond {A = Result (List ℤ × ℕ) SampleFault} few
    (Err (Short (digits_needed kind count) n)) (Ok (samples_in kind big_endian (paired digits) count, length (after_marks (digits_needed kind count) bytes (marks_in bytes))))))
    all)
    ∙ ap (λ (n : ℕ). digits_said (2 * width_of kind) 0 (take (digits_needed kind count) (marks_in bytes)) >>= (λ digits. cond {A = Result (List ℤ × ℕ) SampleFault} few
    (Err (Short (digits_needed kind count) (length (marks_in bytes)))) (Ok (samples_in kind big_endian (paired digits) count, n))))
    (sym (number_after (digits_needed kind count) bytes (marks_in bytes))))

pub begins : (kind : SampleKind) (big_endian : Bool) (count : ℕ) (bytes : List ℕ) → IsDecoding kind big_endian count bytes 0 [] bytes
begins kind big_endian count bytes =
    let e : count ≡ count - 0 = omega arith in
    record {
      read = at_first kind big_endian count bytes ∙ ap (λ n. decoding kind big_endian count [] 0 n bytes) e;
      each = All-nil (IsOfKind kind);
      number = refl;
    }

-- at the end
abbrev finished : ℕ → List ℤ → Result (List ℤ × ℕ) SampleFault
finished n samples = Ok (samples, n)

pub ends_here : (kind : SampleKind) (big_endian : Bool) (count : ℕ) (done : List ℤ) (place : ℕ) (rest : List ℕ) → count ≤ place
    → decoding kind big_endian count done place (count - place) rest ≡ Ok (done, length rest)
unfolding decoding
ends_here kind big_endian count done place rest h =
    let e : count - place ≡ 0 = omega arith in
    ap (λ n. samples_read n kind big_endian (wanted_of kind count) (2 * width_of kind * place) rest >>= behind_done done) e
    ∙ ap (finished (length rest)) (append-nil done)

-- the next sample, or why there is none
module _ (kind : SampleKind) (big_endian : Bool) (count : ℕ) (done : List ℤ) (place : ℕ) (rest : List ℕ) (h : place < count)
    (wanted : Wanted) (k : ℕ) (asked : wanted ≡ wanted_of kind count) (at : k ≡ 2 * width_of kind * place) where
  one_more : count - place ≡ suc (count - (place + 1))
  one_more = omega arith

  read_is : sample_read kind big_endian wanted k rest ≡ sample_read kind big_endian (wanted_of kind count) (2 * width_of kind * place) rest
  read_is = ap (λ (w : Wanted). sample_read kind big_endian w k rest) asked ∙ ap (λ k. sample_read kind big_endian (wanted_of kind count) k rest) at

  abbrev more : ℕ → ℤ × List ℕ → Result (List ℤ × List ℕ) SampleFault
  more n first = samples_read n kind big_endian (wanted_of kind count) (2 * width_of kind * place + 2 * width_of kind) first.1 >>= before first.0

  pub ends_bad : (fault : SampleFault) → sample_read kind big_endian wanted k rest ≡ Err fault → decoding kind big_endian count done place (count - place) rest ≡ Err fault
  unfolding decoding
  ends_bad fault bad =
      ap (λ n. samples_read n kind big_endian (wanted_of kind count) (2 * width_of kind * place) rest >>= behind_done done) one_more
      ∙ ap (λ r. (r >>= more (count - (place + 1))) >>= behind_done done) (sym read_is ∙ bad)

  behind_one : (v : ℤ) (r : Result (List ℤ × List ℕ) SampleFault) → ((r >>= before v) >>= behind_done done) ≡ (r >>= behind_done (done ++ v ∷ []))
  behind_one v (Err f) = refl
  behind_one v (Ok x) = ap (λ (l : List ℤ). behind_done [] (l, x.1)) (sym (append_assoc done (v ∷ []) x.0))

  pub goes_on : (v : ℤ) (after : List ℕ) → sample_read kind big_endian wanted k rest ≡ Ok (v, after)
      → decoding kind big_endian count done place (count - place) rest ≡ decoding kind big_endian count (done ++ v ∷ []) (place + 1) (count - (place + 1)) after
  unfolding decoding
  goes_on v after good =
      let next : 2 * width_of kind * place + 2 * width_of kind ≡ 2 * width_of kind * (place + 1) = omega arith in
      ap (λ n. samples_read n kind big_endian (wanted_of kind count) (2 * width_of kind * place) rest >>= behind_done done) one_more
      ∙ (ap (λ r. (r >>= more (count - (place + 1))) >>= behind_done done) (sym read_is ∙ good)
      ∙ (ap (λ n. (samples_read (count - (place + 1)) kind big_endian (wanted_of kind count) n after >>= before v) >>= behind_done done) next
      ∙ behind_one v (samples_read (count - (place + 1)) kind big_endian (wanted_of kind count) (2 * width_of kind * (place + 1)) after)))

-- a refusal that is read
pub fails_at : {A : Type 0} (fault : SampleFault) (read : Result A SampleFault) → read ≡ Err fault → Fails fault read
fails_at (Bad place) read e = e
fails_at (Short needed present) read e = e
fails_at Memory read e = tt
