-- The definitions that a reader sees agree with those that the code's parts have.
use Rattle.std.proofs.Common.{◌≡◌, ℕ, Bool, true, false, cond, ltb, List, [], ◌∷◌, length, map, Option, Some, None, Result, Ok, Err, refl, sym, ap, ◌∙◌, arith}
use Rattle.std.specs.Prelude.{ok_or}
use Rattle.std.specs.List.{filter, onto_first, slice_split}
use Rattle.std.specs.Option.{option_and_then}
use Rattle.std.specs.Result.{result_map_both}
use Rattle.std.proofs.lemmas.Bool.{lt-ltb}
use Rattle.iso_defs.specs.Grid.{Grid}
use Rattle.refusals.specs.declared.nrrd.Field.TheVariants.{Sizes}
use Rattle.refusals.specs.declared.nrrd.NrrdFault.{NrrdFault}
use Rattle.refusals.specs.declared.nrrd.NrrdFault.TheVariants.{BadValue, Size}
use Rattle.text_lines.specs.Lines.{◌>>=◌}
use Rattle.text_lines.specs.Numbers.{whole_of}
use Rattle.text_lines.specs.Words.{is_blank, longer, three_in, words_of}
use Rattle.text_lines.proofs.Places.{decide}
use Rattle.iso_base.specs.Volume.{Voxels, sized}
use Rattle.nrrd_read.specs.declared.layout.Layout.{Layout}
use Rattle.nrrd_read.specs.Fields.{Saying, value}
use Rattle.nrrd_read.specs.Checks.{grid_of, layout_of, three_numbers, words_by_blanks}
use Rattle.nrrd_read.specs.Nrrd.{nrrd_of, split_of}
use Rattle.nrrd_read.specs.Scanning.{Fields, fields_and_bytes, fields_in, get_field, map_ok, measured, numbers_of}

-- ---- words

abbrev solid_parts : List (List ℕ) → List (List ℕ)
solid_parts parts = filter (λ word. ltb 0 (length word)) parts

part_stays : (b : ℕ) (part : List ℕ) (parts : List (List ℕ)) → solid_parts ((b ∷ part) ∷ parts) ≡ (b ∷ part) ∷ solid_parts parts
part_stays b part parts =
    ap (λ (t : Bool). cond t ((b ∷ part) ∷ solid_parts parts) (solid_parts parts)) (lt-ltb 0 (length (b ∷ part)) (omega arith))

onto_two : (b c : ℕ) (parts : List (List ℕ)) → solid_parts (onto_first b (onto_first c parts)) ≡ longer b (solid_parts (onto_first c parts))
onto_two b c [] = part_stays b (c ∷ []) [] ∙ sym (ap (longer b) (part_stays c [] []))
onto_two b c (part ∷ parts) = part_stays b (c ∷ part) parts ∙ sym (ap (longer b) (part_stays c part parts))

pub words_agree : (text : List ℕ) → words_by_blanks text ≡ words_of text
words_agree [] = refl
words_agree (b ∷ []) = decide (is_blank b) (λ t. rw t refl) (λ f. rw f (part_stays b [] []))
words_agree (b ∷ c ∷ cs) =
    let parts = slice_split is_blank (c ∷ cs) in
    let words = words_of (c ∷ cs) in
    let more = words_agree (c ∷ cs) in
    decide (is_blank b)
    (λ t. ap (λ (q : Bool). solid_parts (cond q ([] ∷ parts) (onto_first b parts))) t ∙ more
    ∙ sym (ap (λ (q : Bool). cond q words (cond (is_blank c) ((b ∷ []) ∷ words) (longer b words))) t))
    (λ f. ap (λ (q : Bool). solid_parts (cond q ([] ∷ parts) (onto_first b parts))) f
    ∙ behind (is_blank c) refl more
    ∙ sym (ap (λ (q : Bool). cond q words (cond (is_blank c) ((b ∷ []) ∷ words) (longer b words))) f))
  where
    behind : (blank : Bool) → is_blank c ≡ blank → words_by_blanks (c ∷ cs) ≡ words_of (c ∷ cs)
        → solid_parts (onto_first b (slice_split is_blank (c ∷ cs))) ≡ cond (is_blank c) ((b ∷ []) ∷ words_of (c ∷ cs)) (longer b (words_of (c ∷ cs)))
    behind true e more =
        let rest = slice_split is_blank cs in
        let here : slice_split is_blank (c ∷ cs) ≡ [] ∷ rest = ap (λ (q : Bool). cond q ([] ∷ rest) (onto_first c rest)) e in
        ap (λ (l : List (List ℕ)). solid_parts (onto_first b l)) here ∙ part_stays b [] rest
        ∙ ap (λ (l : List (List ℕ)). (b ∷ []) ∷ l) (sym (ap solid_parts here) ∙ more)
        ∙ sym (ap (λ (q : Bool). cond q ((b ∷ []) ∷ words_of (c ∷ cs)) (longer b (words_of (c ∷ cs)))) e)
    behind false e more =
        let rest = slice_split is_blank cs in
        let here : slice_split is_blank (c ∷ cs) ≡ onto_first c rest = ap (λ (q : Bool). cond q ([] ∷ rest) (onto_first c rest)) e in
        ap (λ (l : List (List ℕ)). solid_parts (onto_first b l)) here ∙ onto_two b c rest
        ∙ ap (longer b) (sym (ap solid_parts here) ∙ more)
        ∙ sym (ap (λ (q : Bool). cond q ((b ∷ []) ∷ words_of (c ∷ cs)) (longer b (words_of (c ∷ cs)))) e)

-- ---- three numbers

one_number : (o : Option ℕ) → three_numbers (o ∷ []) ≡ None
one_number None = refl
one_number (Some x) = refl

two_numbers : (o p : Option ℕ) → three_numbers (o ∷ p ∷ []) ≡ None
two_numbers None p = refl
two_numbers (Some x) None = refl
two_numbers (Some x) (Some y) = refl

just_three : (o p q : Option ℕ) → three_numbers (o ∷ p ∷ q ∷ [])
    ≡ option_and_then (λ nx. option_and_then (λ ny. option_and_then (λ nz. Some (record { nx = nx; ny = ny; nz = nz })) q) p) o
just_three None p q = refl
just_three (Some x) None q = refl
just_three (Some x) (Some y) None = refl
just_three (Some x) (Some y) (Some z) = refl

more_numbers : (o p q r : Option ℕ) (os : List (Option ℕ)) → three_numbers (o ∷ p ∷ q ∷ r ∷ os) ≡ None
more_numbers None p q r os = refl
more_numbers (Some x) None q r os = refl
more_numbers (Some x) (Some y) None r os = refl
more_numbers (Some x) (Some y) (Some z) r os = refl

numbers_agree : (words : List (List ℕ)) → three_numbers (map whole_of words) ≡ numbers_of (three_in words)
numbers_agree [] = refl
numbers_agree (x ∷ []) = one_number (whole_of x)
numbers_agree (x ∷ y ∷ []) = two_numbers (whole_of x) (whole_of y)
numbers_agree (x ∷ y ∷ z ∷ []) = just_three (whole_of x) (whole_of y) (whole_of z)
numbers_agree (x ∷ y ∷ z ∷ w ∷ words) = more_numbers (whole_of x) (whole_of y) (whole_of z) (whole_of w) (map whole_of words)

-- the sizes by the words as they are taken one by one
abbrev pub grid_by : Option Grid → Result Grid NrrdFault
grid_by numbers = ok_or numbers (BadValue Sizes) >>= (λ grid. result_map_both (λ g. g) Size (sized grid))

pub grid_is : (text : List ℕ) → grid_of text ≡ grid_by (numbers_of (three_in (words_of text)))
unfolding grid_of
grid_is text = ap grid_by (ap (λ words. three_numbers (map whole_of words)) (words_agree text) ∙ numbers_agree (words_of text))

-- ---- fields

-- what is read of the bytes, by the fields as the code holds them
abbrev pub volume_by : Result (Fields × List ℕ) NrrdFault → Result (Voxels × ℕ) NrrdFault
volume_by split = split >>= (λ parts. layout_of (get_field parts.0) >>= (λ layout. measured layout parts.1))

layout_is : (says : List Saying) → layout_of (λ f. value f says) ≡ layout_of (get_field (fields_in says))
unfolding layout_of
layout_is says = refl

pub volume_is : (bytes : List ℕ) → nrrd_of bytes ≡ volume_by (map_ok fields_and_bytes (split_of bytes))
unfolding nrrd_of
volume_is bytes = by_split (split_of bytes)
  where
    by_split : (split : Result (List Saying × List ℕ) NrrdFault)
        → (split >>= (λ parts. layout_of (λ f. value f parts.0) >>= (λ layout. measured layout parts.1))) ≡ volume_by (map_ok fields_and_bytes split)
    by_split (Ok parts) = ap (λ (r : Result Layout NrrdFault). r >>= (λ layout. measured layout parts.1)) (layout_is parts.0)
    by_split (Err fault) = refl

-- the volume by what the lines say and the layout that they say
pub read_again : (bytes body : List ℕ) (says : List Saying) (layout : Layout) → split_of bytes ≡ Ok (says, body) → layout_of (λ f. value f says) ≡ Ok layout
    → nrrd_of bytes ≡ measured layout body
unfolding nrrd_of
read_again bytes body says layout split is =
    ap (λ (r : Result (List Saying × List ℕ) NrrdFault). r >>= (λ parts. layout_of (λ f. value f parts.0) >>= (λ layout. measured layout parts.1))) split
    ∙ ap (λ (r : Result Layout NrrdFault). r >>= (λ layout. measured layout body)) is
