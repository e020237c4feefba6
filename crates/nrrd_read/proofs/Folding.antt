-- The lines in order, and the filters by name.
use Rattle.std.proofs.Common.{◌≡◌, ℕ, ◌+◌, ◌-◌, true, false, cond, List, [], ◌∷◌, ◌++◌, length, map, take, append_assoc, Some, None, Ok, Err, refl, sym, ap, ◌∙◌, arith}
use Rattle.std.specs.Prelude.{Option, Result, is_some, filter_map}
use Rattle.std.specs.Option.{option_or}
use Rattle.std.specs.List.{slice_get, cons_option, enumerate_from}
use Rattle.std.proofs.lemmas.Bool.{false≢true}
use Rattle.std.proofs.lemmas.List.{append-nil, length-append}
use Rattle.std.proofs.Math.Seq.{take-append_seam}
use Rattle.text_lines.proofs.Places.{decide}
use Rattle.refusals.specs.declared.nrrd.Field.{Field}
use Rattle.refusals.specs.declared.nrrd.Field.TheVariants.{Dimension, Kind, Sizes, Encoding, Endian, LineSkip, ByteSkip}
use Rattle.refusals.specs.declared.nrrd.NrrdFault.{NrrdFault}
use Rattle.nrrd_read.specs.Fields.{Saying, IsBad, IsUnread, NamesFile, Gives, same_field, value_for, value, fault_at, first_fault, meaning_of}
use Rattle.text_lines.specs.Lines.{◌>>=◌, unless_fault}
use Rattle.nrrd_read.specs.Scanning.{Fields, fields_in, get_field, put_field, no_fields, after_line, after_lines}

get_put : (h : Fields) (g f : Field) (v : List ℕ) → get_field (put_field h g v) f ≡ cond (same_field f g) (Some v) (get_field h f)
get_put h Dimension Dimension v = refl
get_put h Dimension Kind v = refl
get_put h Dimension Sizes v = refl
get_put h Dimension Encoding v = refl
get_put h Dimension Endian v = refl
get_put h Dimension LineSkip v = refl
get_put h Dimension ByteSkip v = refl
get_put h Kind Dimension v = refl
get_put h Kind Kind v = refl
get_put h Kind Sizes v = refl
get_put h Kind Encoding v = refl
get_put h Kind Endian v = refl
get_put h Kind LineSkip v = refl
get_put h Kind ByteSkip v = refl
get_put h Sizes Dimension v = refl
get_put h Sizes Kind v = refl
get_put h Sizes Sizes v = refl
get_put h Sizes Encoding v = refl
get_put h Sizes Endian v = refl
get_put h Sizes LineSkip v = refl
get_put h Sizes ByteSkip v = refl
get_put h Encoding Dimension v = refl
get_put h Encoding Kind v = refl
get_put h Encoding Sizes v = refl
get_put h Encoding Encoding v = refl
get_put h Encoding Endian v = refl
get_put h Encoding LineSkip v = refl
get_put h Encoding ByteSkip v = refl
get_put h Endian Dimension v = refl
get_put h Endian Kind v = refl
get_put h Endian Sizes v = refl
get_put h Endian Encoding v = refl
get_put h Endian Endian v = refl
get_put h Endian LineSkip v = refl
get_put h Endian ByteSkip v = refl
get_put h LineSkip Dimension v = refl
get_put h LineSkip Kind v = refl
get_put h LineSkip Sizes v = refl
get_put h LineSkip Encoding v = refl
get_put h LineSkip Endian v = refl
get_put h LineSkip LineSkip v = refl
get_put h LineSkip ByteSkip v = refl
get_put h ByteSkip Dimension v = refl
get_put h ByteSkip Kind v = refl
get_put h ByteSkip Sizes v = refl
get_put h ByteSkip Encoding v = refl
get_put h ByteSkip Endian v = refl
get_put h ByteSkip LineSkip v = refl
get_put h ByteSkip ByteSkip v = refl

get_same : (h : Fields) (f g : Field) → same_field f g ≡ true → get_field h f ≡ get_field h g
get_same h Dimension Dimension e = refl
get_same h Dimension Kind e = absurd (false≢true e)
get_same h Dimension Sizes e = absurd (false≢true e)
get_same h Dimension Encoding e = absurd (false≢true e)
get_same h Dimension Endian e = absurd (false≢true e)
get_same h Dimension LineSkip e = absurd (false≢true e)
get_same h Dimension ByteSkip e = absurd (false≢true e)
get_same h Kind Dimension e = absurd (false≢true e)
get_same h Kind Kind e = refl
get_same h Kind Sizes e = absurd (false≢true e)
get_same h Kind Encoding e = absurd (false≢true e)
get_same h Kind Endian e = absurd (false≢true e)
get_same h Kind LineSkip e = absurd (false≢true e)
get_same h Kind ByteSkip e = absurd (false≢true e)
get_same h Sizes Dimension e = absurd (false≢true e)
get_same h Sizes Kind e = absurd (false≢true e)
get_same h Sizes Sizes e = refl
get_same h Sizes Encoding e = absurd (false≢true e)
get_same h Sizes Endian e = absurd (false≢true e)
get_same h Sizes LineSkip e = absurd (false≢true e)
get_same h Sizes ByteSkip e = absurd (false≢true e)
get_same h Encoding Dimension e = absurd (false≢true e)
get_same h Encoding Kind e = absurd (false≢true e)
get_same h Encoding Sizes e = absurd (false≢true e)
get_same h Encoding Encoding e = refl
get_same h Encoding Endian e = absurd (false≢true e)
get_same h Encoding LineSkip e = absurd (false≢true e)
get_same h Encoding ByteSkip e = absurd (false≢true e)
get_same h Endian Dimension e = absurd (false≢true e)
get_same h Endian Kind e = absurd (false≢true e)
get_same h Endian Sizes e = absurd (false≢true e)
get_same h Endian Encoding e = absurd (false≢true e)
get_same h Endian Endian e = refl
get_same h Endian LineSkip e = absurd (false≢true e)
get_same h Endian ByteSkip e = absurd (false≢true e)
get_same h LineSkip Dimension e = absurd (false≢true e)
get_same h LineSkip Kind e = absurd (false≢true e)
get_same h LineSkip Sizes e = absurd (false≢true e)
get_same h LineSkip Encoding e = absurd (false≢true e)
get_same h LineSkip Endian e = absurd (false≢true e)
get_same h LineSkip LineSkip e = refl
get_same h LineSkip ByteSkip e = absurd (false≢true e)
get_same h ByteSkip Dimension e = absurd (false≢true e)
get_same h ByteSkip Kind e = absurd (false≢true e)
get_same h ByteSkip Sizes e = absurd (false≢true e)
get_same h ByteSkip Encoding e = absurd (false≢true e)
get_same h ByteSkip Endian e = absurd (false≢true e)
get_same h ByteSkip LineSkip e = absurd (false≢true e)
get_same h ByteSkip ByteSkip e = refl

get_none : (f : Field) → get_field no_fields f ≡ None
get_none Dimension = refl
get_none Kind = refl
get_none Sizes = refl
get_none Encoding = refl
get_none Endian = refl
get_none LineSkip = refl
get_none ByteSkip = refl

abbrev made : (a b c d i j l : Option (List ℕ)) → Fields
made a b c d i j l = record { dimension = a; kind = b; sizes = c; encoding = d; endian = i; line_skip = j; byte_skip = l }

pub same_fields : (h k : Fields) → ((f : Field) → get_field h f ≡ get_field k f) → h ≡ k
same_fields h k e =
    let a : h.dimension ≡ k.dimension = e Dimension in
    let b : h.kind ≡ k.kind = e Kind in
    let c : h.sizes ≡ k.sizes = e Sizes in
    let d : h.encoding ≡ k.encoding = e Encoding in
    let i : h.endian ≡ k.endian = e Endian in
    let j : h.line_skip ≡ k.line_skip = e LineSkip in
    let l : h.byte_skip ≡ k.byte_skip = e ByteSkip in
    ap (λ (x : Option (List ℕ)). made x h.kind h.sizes h.encoding h.endian h.line_skip h.byte_skip) a
    ∙ ap (λ (x : Option (List ℕ)). made k.dimension x h.sizes h.encoding h.endian h.line_skip h.byte_skip) b
    ∙ ap (λ (x : Option (List ℕ)). made k.dimension k.kind x h.encoding h.endian h.line_skip h.byte_skip) c
    ∙ ap (λ (x : Option (List ℕ)). made k.dimension k.kind k.sizes x h.endian h.line_skip h.byte_skip) d
    ∙ ap (λ (x : Option (List ℕ)). made k.dimension k.kind k.sizes k.encoding x h.line_skip h.byte_skip) i
    ∙ ap (λ (x : Option (List ℕ)). made k.dimension k.kind k.sizes k.encoding k.endian x h.byte_skip) j
    ∙ ap (λ (x : Option (List ℕ)). made k.dimension k.kind k.sizes k.encoding k.endian k.line_skip x) l

is_none_from : {A : Type 0} (o : Option A) → is_some o ≡ false → o ≡ None
is_none_from None e = refl
is_none_from (Some x) e = absurd (false≢true (sym e))

some_or : {A : Type 0} (o a b : Option A) → is_some o ≡ true → option_or o a ≡ option_or o b
some_or None a b e = absurd (false≢true e)
some_or (Some x) a b e = refl

or_none : {A : Type 0} (o : Option A) → o ≡ option_or o None
or_none None = refl
or_none (Some x) = refl

or_assoc : {A : Type 0} (o a b : Option A) → option_or (option_or o a) b ≡ option_or o (option_or a b)
or_assoc None a b = refl
or_assoc (Some x) a b = refl

or_value : (a b : Option (List ℕ)) (r : List (List ℕ)) → slice_get (cons_option a r) 0 ≡ option_or a (slice_get r 0)
or_value None b r = refl
or_value (Some x) b r = refl

value-append : (f : Field) (xs ys : List Saying) → value f (xs ++ ys) ≡ option_or (value f xs) (value f ys)
value-append f [] ys = refl
value-append f (x ∷ xs) ys =
    or_value (value_for f x) None (filter_map (value_for f) (xs ++ ys)) ∙ ap (option_or (value_for f x)) (value-append f xs ys)
    ∙ sym (or_assoc (value_for f x) (value f xs) (value f ys)) ∙ ap (λ (o : Option (List ℕ)). option_or o (value f ys)) (sym (or_value (value_for f x) None (filter_map (value_for f) xs)))

-- a field that has no value yet takes it
value_put : (h : Fields) (g : Field) (v : List ℕ) (says : List Saying) (f : Field) → is_some (get_field h g) ≡ false → option_or (get_field (put_field h g v) f) (value f says) ≡ option_or (get_field h f) (value f (Gives g v ∷ says))
value_put h g v says f none = rw (get_put h g f v) (decide (same_field f g)
    (λ e. let gone : get_field h f ≡ None = get_same h f g e ∙ is_none_from (get_field h g) none in rw (e, gone) refl)
    (λ e. rw e refl))

-- the values are the first ones of the lines before
abbrev Agrees : Fields → List Saying → Type 0
Agrees h before = (f : Field) → get_field h f ≡ value f before

agrees_unread : (h : Fields) (before : List Saying) → Agrees h before → Agrees h (before ++ IsUnread ∷ [])
agrees_unread h before agrees f = agrees f ∙ or_none (value f before) ∙ sym (value-append f before (IsUnread ∷ []))

agrees_put : (h : Fields) (before : List Saying) (g : Field) (v : List ℕ) → is_some (get_field h g) ≡ false → Agrees h before → Agrees (put_field h g v) (before ++ Gives g v ∷ [])
agrees_put h before g v none agrees f =
    or_none (get_field (put_field h g v) f) ∙ value_put h g v [] f none
    ∙ ap (λ (o : Option (List ℕ)). option_or o (value f (Gives g v ∷ []))) (agrees f) ∙ sym (value-append f before (Gives g v ∷ []))

-- what is wrong with a line, by all of them
abbrev fault_in : List Saying → ℕ × Saying → Option NrrdFault
fault_in all l = fault_at (take (l.0 - 2) all) l.0 l.1

fault_here : (before says : List Saying) (s : Saying) → fault_in (before ++ s ∷ says) (length before + 2, s) ≡ fault_at before (length before + 2) s
fault_here before says s =
    let n : length before + 2 - 2 ≡ length before = omega arith in
    ap (λ (k : ℕ). fault_at (take k (before ++ s ∷ says)) (length before + 2) s) n
    ∙ ap (λ (l : List Saying). fault_at l (length before + 2) s) (take-append_seam before (s ∷ says))

first_or : {A : Type 0} (o : Option A) (xs : List A) → slice_get (cons_option o xs) 0 ≡ option_or o (slice_get xs 0)
first_or None xs = refl
first_or (Some x) xs = refl

-- the first fault of these lines among all, of which the first is line n
abbrev faults_from : List Saying → ℕ → List Saying → Option NrrdFault
faults_from all n says = slice_get (filter_map (fault_in all) (enumerate_from n says)) 0

-- the values of all lines, unless one of these has a fault
abbrev left : List Saying → ℕ → List Saying → Result Fields NrrdFault
left all n says = unless_fault (faults_from all n says) (Ok (fields_in all))

left_here : (before says : List Saying) (s : Saying) → left (before ++ s ∷ says) (length before + 2) (s ∷ says) ≡ unless_fault (option_or (fault_at before (length before + 2) s) (faults_from (before ++ s ∷ says) (length before + 2 + 1) says)) (Ok (fields_in (before ++ s ∷ says)))
left_here before says s =
    let all = before ++ s ∷ says in
    let rest = filter_map (fault_in all) (enumerate_from (length before + 2 + 1) says) in
    ap (λ (o : Option NrrdFault). unless_fault o (Ok (fields_in all))) (first_or (fault_in all (length before + 2, s)) rest)
    ∙ ap (λ (o : Option NrrdFault). unless_fault (option_or o (slice_get rest 0)) (Ok (fields_in all))) (fault_here before says s)

by_saying : (before says : List Saying) (s : Saying) (h : Fields) → Agrees h before
    → ((h' : Fields) → Agrees h' (before ++ s ∷ []) → after_lines h' (length before + 2 + 1) says ≡ left (before ++ s ∷ says) (length before + 2 + 1) says)
    → after_lines h (length before + 2) (s ∷ says) ≡ unless_fault (option_or (fault_at before (length before + 2) s) (faults_from (before ++ s ∷ says) (length before + 2 + 1) says)) (Ok (fields_in (before ++ s ∷ says)))
by_saying before says IsBad h agrees later = refl
by_saying before says NamesFile h agrees later = refl
by_saying before says IsUnread h agrees later = later h (agrees_unread h before agrees)
by_saying before says (Gives g v) h agrees later = decide (is_some (get_field h g))
    (λ some. let e : is_some (value g before) ≡ true = sym (ap is_some (agrees g)) ∙ some in rw (some, e) refl)
    (λ none. let e : is_some (value g before) ≡ false = sym (ap is_some (agrees g)) ∙ none in rw (none, e) (later (put_field h g v) (agrees_put h before g v none agrees)))

agrees_all : (h : Fields) (says : List Saying) → Agrees h says → h ≡ fields_in says
agrees_all h says agrees = same_fields h (fields_in says) (λ f. agrees f ∙ by_field f) where
  by_field : (f : Field) → value f says ≡ get_field (fields_in says) f
  by_field Dimension = refl
  by_field Kind = refl
  by_field Sizes = refl
  by_field Encoding = refl
  by_field Endian = refl
  by_field LineSkip = refl
  by_field ByteSkip = refl

lines_left : (before says : List Saying) (h : Fields) → Agrees h before → after_lines h (length before + 2) says ≡ left (before ++ says) (length before + 2) says
lines_left before [] h agrees =
    ap (λ (x : Fields). Ok x) (agrees_all h before agrees) ∙ ap (λ (l : List Saying). Ok (fields_in l)) (sym (append-nil before))
lines_left before (s ∷ says) h agrees =
    let before' = before ++ s ∷ [] in
    let all = before ++ s ∷ says in
    let same : before' ++ says ≡ all = append_assoc before (s ∷ []) says in
    let n : length before' ≡ length before + 1 = length-append before (s ∷ []) in
    let m : length before' + 2 ≡ length before + 2 + 1 = omega (arith, n) in
    let later : (h' : Fields) → Agrees h' before' → after_lines h' (length before + 2 + 1) says ≡ left all (length before + 2 + 1) says =
    λ h' a. ap (λ (k : ℕ). after_lines h' k says) (sym m) ∙ lines_left before' says h' a
    ∙ ap (λ (l : List Saying). left l (length before' + 2) says) same
    ∙ ap (λ (k : ℕ). left all k says) m in
    by_saying before says s h agrees later ∙ sym (left_here before says s)

-- the lines in order give the first values, or the first fault
pub all_lines : (says : List Saying) → after_lines no_fields 2 says ≡ unless_fault (first_fault says) (Ok (fields_in says))
all_lines says = lines_left [] says no_fields get_none

-- one line of the pass
pub next_lines : (h : Fields) (n : ℕ) (text : List ℕ) (texts more : List (List ℕ)) (all : Result Fields NrrdFault) → texts ≡ text ∷ more → after_lines h n (map meaning_of texts) ≡ all → after_line h n (meaning_of text) >>= (λ (h' : Fields). after_lines h' (n + 1) (map meaning_of more)) ≡ all
next_lines h n text texts more all e so_far = sym (ap (λ (l : List (List ℕ)). after_lines h n (map meaning_of l)) e) ∙ so_far

-- the first fault of a line is the answer
pub refused_line : (h : Fields) (n : ℕ) (text : List ℕ) (texts more : List (List ℕ)) (fault : NrrdFault) (all : Result Fields NrrdFault) → texts ≡ text ∷ more → after_line h n (meaning_of text) ≡ Err fault → after_lines h n (map meaning_of texts) ≡ all → all ≡ Err fault
refused_line h n text texts more fault all e here so_far =
    sym (next_lines h n text texts more all e so_far) ∙ ap (λ (r : Result Fields NrrdFault). r >>= (λ (h' : Fields). after_lines h' (n + 1) (map meaning_of more))) here
