-- The written head is read again as its sizes and its kind.
use Rattle.std.proofs.Common.{◌≡◌, ℕ, ◌+◌, ◌-◌, ◌<◌, ◌≤◌, Bool, true, false, cond, eqb, ltb, List, [], ◌∷◌, ◌++◌, length, map, None, Ok, refl, sym, ap, ◌∙◌, arith, append_assoc, decimal, codes}
use Rattle.std.specs.Prelude.{flat_map}
use Rattle.std.specs.List.{list_all}
use Rattle.std.proofs.lemmas.Bool.{eqb-true, le-ltb, lt-ltb}
use Rattle.std.proofs.lemmas.List.{length-append}
use Rattle.std.proofs.lemmas.List.Folds.{list_all-append}
use Rattle.std.proofs.lemmas.Fmt.{length-decimal-le}
use Rattle.iso_defs.specs.Grid.{Grid, point_count}
use Rattle.iso_base.specs.Volume.{sized, IsGrid, IsAxis, Voxels, IsVoxels}
use Rattle.iso_base.specs.declared.kind.SampleKind.{SampleKind}
use Rattle.iso_base.specs.declared.kind.SampleKind.TheVariants.{I8, U8, I16, U16, I32, U32}
use Rattle.refusals.specs.declared.nrrd.Field.TheVariants as fields
use Rattle.refusals.specs.declared.nrrd.Field.TheVariants.{Dimension, Kind, Sizes, Endian}
use Rattle.nrrd_read.specs.declared.encoding.Encoding.{Encoding}
use Rattle.nrrd_read.specs.declared.encoding.Encoding.TheVariants.{Raw, Text, Hex}
use Rattle.nrrd_read.specs.Checks.{has_order, layout_of, grid_of, encoding_named, kind_named, big_endian_of, is_one_of}
use Rattle.text_lines.specs.Lines.{lines_of}
use Rattle.text_lines.specs.Words.{skip_blanks, three_in, trim_end, trimmed, words_of, is_word}
use Rattle.text_lines.specs.Numbers.{is_digit}
use Rattle.nrrd_read.specs.Fields.{Saying, Gives, meaning_of, field_line, field_named, first_fault, value}
use Rattle.nrrd_read.specs.Nrrd.{split_of, is_first, nrrd_of, voxels_of}
use Rattle.nrrd.specs.Writing.{coded_by, coded_head_text, coded_line, coded_save, encoding_text, head_in, head_text, kind_text, order_text, rows_of, sizes_text, samples_text, save_text}
use Rattle.nrrd_read.proofs.Agreeing.{grid_by, grid_is, read_again}
use Rattle.nrrd_read.specs.Scanning.{numbers_of}
use Rattle.nrrd.proofs.RowsAgain.{printed_again}
use Rattle.nrrd.proofs.SamplesAgain.{raw_again}
use Rattle.text_lines.proofs.Places.{decide}
use Rattle.nrrd.proofs.Again as again
use Rattle.nrrd.proofs.Again.{text_of, AreLines}
use Rattle.text_lines.proofs.Written.{all_weaker, is_quiet, is_solid, solid_first, word_before, word_last, trim_behind, line_text, IsNumber, decimal_is, digit_quiet, digit_solid, whole_again}

spaced : List ℕ → List ℕ → List ℕ → List ℕ
spaced x y z = x ++ 32 ∷ (y ++ 32 ∷ z)

three_words : (x y z : List ℕ) → list_all is_solid x ≡ true → list_all is_solid y ≡ true → list_all is_solid z ≡ true → 0 < length x → 0 < length y → 0 < length z → words_of (spaced x y z) ≡ x ∷ y ∷ z ∷ []
unfolding spaced
three_words [] y z p q r a b c = absurd (omega arith)
three_words (x ∷ xs) [] z p q r a b c = absurd (omega arith)
three_words (x ∷ xs) (y ∷ ys) [] p q r a b c = absurd (omega arith)
three_words (x ∷ xs) (y ∷ ys) (z ∷ zs) p q r a b c =
    word_before x xs ((y ∷ ys) ++ 32 ∷ (z ∷ zs)) p ∙ ap (λ (l : List (List ℕ)). (x ∷ xs) ∷ l) (word_before y ys (z ∷ zs) q ∙ ap (λ (l : List (List ℕ)). (y ∷ ys) ∷ l) (word_last z zs r))

trimmed_spaced : (x y z : List ℕ) → list_all is_solid x ≡ true → list_all is_solid z ≡ true → 0 < length x → 0 < length z → trimmed (32 ∷ spaced x y z) ≡ spaced x y z
unfolding spaced
trimmed_spaced [] y z p r a c = absurd (omega arith)
trimmed_spaced (x ∷ xs) y [] p r a c = absurd (omega arith)
trimmed_spaced (x ∷ xs) y (z ∷ zs) p r a c =
    let h = solid_first x xs p in
    let skipped : skip_blanks (32 ∷ (x ∷ xs) ++ 32 ∷ (y ++ 32 ∷ (z ∷ zs))) ≡ (x ∷ xs) ++ 32 ∷ (y ++ 32 ∷ (z ∷ zs)) = rw h.0 refl in
    let regrouped : (x ∷ xs) ++ 32 ∷ (y ++ 32 ∷ (z ∷ zs)) ≡ ((x ∷ xs) ++ 32 ∷ (y ++ 32 ∷ [])) ++ (z ∷ zs) = simp append_assoc in
    ap trim_end (skipped ∙ regrouped) ∙ trim_behind ((x ∷ xs) ++ 32 ∷ (y ++ 32 ∷ [])) z zs r ∙ sym regrouped

solid_digits : (ds : List ℕ) → list_all is_digit ds ≡ true → list_all is_solid ds ≡ true
solid_digits ds e = all_weaker is_digit is_solid digit_solid ds e

quiet_digits : (ds : List ℕ) → list_all is_digit ds ≡ true → list_all is_quiet ds ≡ true
quiet_digits ds e = all_weaker is_digit is_quiet digit_quiet ds e

sizes_spaced : (e : Grid) → sizes_text e ≡ spaced (decimal e.nx) (decimal e.ny) (decimal e.nz)
unfolding sizes_text spaced
sizes_spaced e = simp append_assoc

axis : (n : ℕ) → IsAxis n → IsNumber n (decimal n)
axis n h = decimal_is n (omega (arith, h.most))

sizes_line : (s : List ℕ) → trimmed (32 ∷ s) ≡ s → meaning_of (codes "sizes: " ++ s) ≡ Gives Sizes s
unfolding meaning_of field_line field_named is_word
sizes_line s e =
    let t : ltb 5 (length (codes "sizes: " ++ s)) ≡ true = lt-ltb 5 (length (codes "sizes: " ++ s)) (omega arith) in
    rw t (ap (Gives Sizes) e)

sized_grid : (e : Grid) → IsGrid e → sized e ≡ Ok e
sized_grid e g =
    let a = le-ltb e.nx 2 g.x.least in
    let b = le-ltb e.ny 2 g.y.least in
    let c = le-ltb e.nz 2 g.z.least in
    let d = le-ltb 1026 e.nx g.x.most in
    let f = le-ltb 1026 e.ny g.y.most in
    let h = le-ltb 1026 e.nz g.z.most in
    let i = le-ltb 160000000 (point_count e) g.count in
    rw (a, b, c, d, f, h, i) refl

grid_again : (e : Grid) → IsGrid e → grid_of (sizes_text e) ≡ Ok e
grid_again e g =
    let x = axis e.nx g.x in
    let y = axis e.ny g.y in
    let z = axis e.nz g.z in
    let words = ap words_of (sizes_spaced e) ∙ three_words (decimal e.nx) (decimal e.ny) (decimal e.nz) (solid_digits (decimal e.nx) x.all) (solid_digits (decimal e.ny) y.all) (solid_digits (decimal e.nz) z.all) x.some y.some z.some in
    let taken : grid_by (numbers_of (three_in (words_of (sizes_text e)))) ≡ Ok e
    = rw (words, whole_again e.nx (omega (arith, g.x.most)), whole_again e.ny (omega (arith, g.y.most)), whole_again e.nz (omega (arith, g.z.most))) (rw (sized_grid e g) refl) in
    grid_is (sizes_text e) ∙ taken

-- the lines of the head behind the first
tail_lines : Bool → Encoding → List (List ℕ)
tail_lines ordered encoding = cond ordered
    (codes "endian: little" ∷ (codes "encoding: " ++ encoding_text encoding) ∷ [])
    ((codes "encoding: " ++ encoding_text encoding) ∷ [])

lines_for : Bool → Encoding → SampleKind → Grid → List (List ℕ)
lines_for ordered encoding kind e = (codes "type: " ++ kind_text kind) ∷ codes "dimension: 3" ∷ (codes "sizes: " ++ sizes_text e) ∷ tail_lines ordered encoding

abbrev head_with : Bool → Encoding → Grid → SampleKind → List ℕ
head_with ordered encoding e kind =
    codes "NRRD0004\ntype: " ++ kind_text kind ++ codes "\ndimension: 3\nsizes: " ++ sizes_text e
    ++ order_text ordered ++ codes "\nencoding: " ++ encoding_text encoding ++ codes "\n\n"

head_lines : (ordered : Bool) (encoding : Encoding) (kind : SampleKind) (e : Grid) (body : List ℕ)
    → head_with ordered encoding e kind ++ body ≡ text_of (codes "NRRD0004" ∷ lines_for ordered encoding kind e) (10 ∷ body)
unfolding lines_for tail_lines
head_lines true encoding kind e body = simp append_assoc
head_lines false encoding kind e body = simp append_assoc

nonzero : (n : ℕ) → 0 < n → eqb n 0 ≡ false
nonzero n some = decide (eqb n 0) (λ t. absurd (omega (arith, eqb-true n 0 t))) (λ f. f)

quiet_sizes : (e : Grid) → IsGrid e → list_all is_quiet (sizes_text e) ≡ true
unfolding sizes_text
quiet_sizes e g =
    let x = quiet_digits (decimal e.nx) (axis e.nx g.x).all in
    let y = quiet_digits (decimal e.ny) (axis e.ny g.y).all in
    let z = quiet_digits (decimal e.nz) (axis e.nz g.z).all in
    simp (list_all-append, x, y, z)

quiet_type : (kind : SampleKind) → list_all is_quiet (codes "type: " ++ kind_text kind) ≡ true
unfolding kind_text
quiet_type I8 = refl
quiet_type U8 = refl
quiet_type I16 = refl
quiet_type U16 = refl
quiet_type I32 = refl
quiet_type U32 = refl

quiet_encoding : (encoding : Encoding) → list_all is_quiet (codes "encoding: " ++ encoding_text encoding) ≡ true
unfolding encoding_text
quiet_encoding Raw = refl
quiet_encoding Text = refl
quiet_encoding Hex = refl

are_lines : (ordered : Bool) (encoding : Encoding) (kind : SampleKind) (e : Grid) → IsGrid e → AreLines (lines_for ordered encoding kind e)
unfolding lines_for tail_lines
are_lines true encoding kind e g =
    (quiet_type kind, nonzero _ (omega arith), (refl, refl, (quiet_sizes e g, nonzero _ (omega arith), (refl, refl, (quiet_encoding encoding, nonzero _ (omega arith), tt)))))
are_lines false encoding kind e g =
    (quiet_type kind, nonzero _ (omega arith), (refl, refl, (quiet_sizes e g, nonzero _ (omega arith), (quiet_encoding encoding, nonzero _ (omega arith), tt))))

tail_says : Bool → Encoding → List Saying
tail_says ordered encoding = cond ordered
    (Gives Endian (codes "little") ∷ Gives fields.Encoding (encoding_text encoding) ∷ [])
    (Gives fields.Encoding (encoding_text encoding) ∷ [])

pub says_for : Bool → Encoding → SampleKind → Grid → List Saying
says_for ordered encoding kind e = Gives Kind (kind_text kind) ∷ Gives Dimension (codes "3") ∷ Gives Sizes (sizes_text e) ∷ tail_says ordered encoding

type_line : (kind : SampleKind) → meaning_of (codes "type: " ++ kind_text kind) ≡ Gives Kind (kind_text kind)
unfolding meaning_of field_line field_named is_word kind_text
type_line I8 = refl
type_line U8 = refl
type_line I16 = refl
type_line U16 = refl
type_line I32 = refl
type_line U32 = refl

encoding_line : (encoding : Encoding) → meaning_of (codes "encoding: " ++ encoding_text encoding) ≡ Gives fields.Encoding (encoding_text encoding)
unfolding meaning_of field_line field_named is_word encoding_text
encoding_line Raw = refl
encoding_line Text = refl
encoding_line Hex = refl

fixed_lines : (meaning_of (codes "dimension: 3") ≡ Gives Dimension (codes "3")) × (meaning_of (codes "endian: little") ≡ Gives Endian (codes "little"))
unfolding meaning_of field_line field_named is_word
fixed_lines = (refl, refl)

sizes_said : (e : Grid) → IsGrid e → meaning_of (codes "sizes: " ++ sizes_text e) ≡ Gives Sizes (sizes_text e)
sizes_said e g =
    let x = axis e.nx g.x in
    let z = axis e.nz g.z in
    let s = sizes_spaced e in
    sizes_line (sizes_text e) (ap (λ (t : List ℕ). trimmed (32 ∷ t)) s ∙ trimmed_spaced (decimal e.nx) (decimal e.ny) (decimal e.nz) (solid_digits (decimal e.nx) x.all) (solid_digits (decimal e.nz) z.all) x.some z.some ∙ sym s)

tail_said : (ordered : Bool) (encoding : Encoding) → map meaning_of (tail_lines ordered encoding) ≡ tail_says ordered encoding
unfolding tail_lines tail_says
tail_said true encoding = rw (fixed_lines.1, encoding_line encoding) refl
tail_said false encoding = rw (encoding_line encoding) refl

all_said : (ordered : Bool) (encoding : Encoding) (kind : SampleKind) (e : Grid) → IsGrid e → map meaning_of (lines_for ordered encoding kind e) ≡ says_for ordered encoding kind e
unfolding lines_for says_for
all_said ordered encoding kind e g =
    let t = type_line kind in
    let d = fixed_lines.0 in
    let s = sizes_said e g in
    let o = tail_said ordered encoding in
    rw (t, d, s, o) refl

no_fault : (ordered : Bool) (encoding : Encoding) (kind : SampleKind) (e : Grid) → first_fault (says_for ordered encoding kind e) ≡ None
unfolding says_for tail_says
no_fault true encoding kind e = refl
no_fault false encoding kind e = refl

kind_again : (kind : SampleKind) → kind_named (kind_text kind) ≡ Ok kind
unfolding kind_text kind_named is_one_of is_word
kind_again I8 = refl
kind_again U8 = refl
kind_again I16 = refl
kind_again U16 = refl
kind_again I32 = refl
kind_again U32 = refl

encoding_again : (encoding : Encoding) → encoding_named (encoding_text encoding) ≡ Ok encoding
unfolding encoding_text encoding_named is_word
encoding_again Raw = refl
encoding_again Text = refl
encoding_again Hex = refl

pub layout_again : (ordered : Bool) (encoding : Encoding) (kind : SampleKind) (e : Grid) → has_order encoding kind ≡ ordered → IsGrid e
    → layout_of (λ f. value f (says_for ordered encoding kind e)) ≡ Ok (record { sizes = e; kind = kind; encoding = encoding; big_endian = false })
unfolding layout_of says_for tail_says big_endian_of is_word
layout_again true encoding kind e h g = rw (kind_again kind, encoding_again encoding, grid_again e g, h) refl
layout_again false encoding kind e h g = rw (kind_again kind, encoding_again encoding, grid_again e g, h) refl

kind_short : (kind : SampleKind) → length (kind_text kind) ≤ 6
unfolding kind_text
kind_short I8 = omega arith
kind_short U8 = omega arith
kind_short I16 = omega arith
kind_short U16 = omega arith
kind_short I32 = omega arith
kind_short U32 = omega arith

encoding_short : (encoding : Encoding) → length (encoding_text encoding) ≤ 4
unfolding encoding_text
encoding_short Raw = omega arith
encoding_short Text = omega arith
encoding_short Hex = omega arith

order_short : (ordered : Bool) → length (order_text ordered) ≤ 15
order_short true = omega arith
order_short false = omega arith

head_short : (encoding : Encoding) (kind : SampleKind) (e : Grid) → IsGrid e → length (head_in encoding e kind) ≤ 65536
unfolding head_in sizes_text
head_short encoding kind e g =
    let x : length (decimal e.nx) ≤ 4 = length-decimal-le 4 e.nx (omega arith) (omega (arith, g.x.most)) (omega (arith, g.x.most)) in
    let y : length (decimal e.ny) ≤ 4 = length-decimal-le 4 e.ny (omega arith) (omega (arith, g.y.most)) (omega (arith, g.y.most)) in
    let z : length (decimal e.nz) ≤ 4 = length-decimal-le 4 e.nz (omega arith) (omega (arith, g.z.most)) (omega (arith, g.z.most)) in
    by_parts (kind_short kind) (encoding_short encoding) (order_short (has_order encoding kind)) x y z where
      by_parts : length (kind_text kind) ≤ 6 → length (encoding_text encoding) ≤ 4 → length (order_text (has_order encoding kind)) ≤ 15
          → length (decimal e.nx) ≤ 4 → length (decimal e.ny) ≤ 4 → length (decimal e.nz) ≤ 4 → length (head_in encoding e kind) ≤ 65536
      by_parts k n o x y z = simp length-append (omega arith)

first_again : is_first (codes "NRRD0004") ≡ true
unfolding is_first
first_again = refl

pub split_again : (encoding : Encoding) (kind : SampleKind) (e : Grid) (body : List ℕ) → IsGrid e
    → split_of (head_in encoding e kind ++ body) ≡ Ok (says_for (has_order encoding kind) encoding kind e, body)
unfolding split_of
split_again encoding kind e body g =
    let ls = lines_for (has_order encoding kind) encoding kind e in
    let more = text_of ls (10 ∷ body) in
    let lines : lines_of (head_in encoding e kind ++ body) ≡ record { text = codes "NRRD0004"; after = more } ∷ lines_of more
    = ap lines_of (head_is encoding kind e body) ∙ line_text (codes "NRRD0004") more refl in
    let texts = again.texts_again ls body (are_lines (has_order encoding kind) encoding kind e g) in
    let samples = again.samples_again ls body (are_lines (has_order encoding kind) encoding kind e g) in
    let short : ltb 65536 (length (head_in encoding e kind ++ body) - length body) ≡ false
    = le-ltb _ _ (omega (arith, head_short encoding kind e g, length-append (head_in encoding e kind) body)) in
    let first = first_again in
    let says = all_said (has_order encoding kind) encoding kind e g in
    let none = no_fault (has_order encoding kind) encoding kind e in
    rw (lines, first, samples, short, texts, says, none) refl
  where
    head_is : (encoding : Encoding) (kind : SampleKind) (e : Grid) (body : List ℕ)
        → head_in encoding e kind ++ body ≡ text_of (codes "NRRD0004" ∷ lines_for (has_order encoding kind) encoding kind e) (10 ∷ body)
    head_is encoding kind e body = unfold head_in in head_lines (has_order encoding kind) encoding kind e body

pub save_again : (v : Voxels) (rest : List ℕ) → IsVoxels v → nrrd_of (save_text v ++ rest) ≡ Ok (v, length rest)
save_again v rest h =
    let regrouped = append_assoc (head_text v.grid v.kind) (samples_text v.kind v.samples) rest in
    let split = split_again Raw v.kind v.grid (samples_text v.kind v.samples ++ rest) h.grid in
    let layout = layout_again (has_order Raw v.kind) Raw v.kind v.grid refl h.grid in
    ap nrrd_of regrouped ∙ read_again _ _ _ _ split layout ∙ ap (voxels_of v.grid v.kind) (raw_again v rest h)

-- samples in print are read by the lines of the rows
pub coded_again : (hex : Bool) (v : Voxels) (rest : List ℕ) → IsVoxels v → nrrd_of (coded_save hex v ++ rest) ≡ Ok (v, length rest + 1)
coded_again hex v rest h =
    let body : List ℕ = flat_map (coded_line hex v.kind) (rows_of v) in
    let regrouped = append_assoc (coded_head_text v.grid v.kind hex) body rest in
    let split = split_again (coded_by hex) v.kind v.grid (body ++ rest) h.grid in
    let layout = layout_again (has_order (coded_by hex) v.kind) (coded_by hex) v.kind v.grid refl h.grid in
    ap nrrd_of regrouped ∙ read_again _ _ _ _ split layout ∙ ap (voxels_of v.grid v.kind) (printed_again hex v rest h)
