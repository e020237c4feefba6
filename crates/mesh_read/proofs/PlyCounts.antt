-- The bounds on counts, and the mesh by what a header says.
use Rattle.std.proofs.Common.{◌≡◌, ℕ, ◌+◌, ◌*◌, ◌<◌, ◌≤◌, Bool, List, [], ◌∷◌, length, drop, true, Some, None, Err, refl, sym, ap, ◌∙◌, arith, nat_lt}
use Rattle.std.specs.Prelude.{Option, filter_map, option_map}
use Rattle.std.specs.Option.{option_or}
use Rattle.std.specs.List.{slice_get, list_any}
use Rattle.std.proofs.lemmas.Bool.{ltb-false}
use Rattle.std.proofs.lemmas.Option.{none-some}
use Rattle.refusals.specs.declared.mesh.MeshFault.{MeshFault}
use Rattle.refusals.specs.declared.mesh.MeshFault.TheVariants.{TooMany}
use Rattle.mesh_read.specs.Ply.{Heading, IsUnread, IsAscii, IsBinary, IsElement, IsProperty, IsEnd, IsOther, is_end, is_face, is_vertex, elements, up_to_end, too_many, count_of, total, before_faces, header_fault, mesh_of, body_of, with_words, numbered, lines_mesh}
use Rattle.mesh_read.specs.SeenPly.{Told, start, all_told, bad_header, late_fault, fault_told}
use Rattle.text_lines.proofs.Places.{decide}
use Rattle.mesh_read.proofs.PlyFolding.{fault_is, elements_told, number_told}

abbrev NoneMany : List (List ℕ × ℕ) → Type 0
NoneMany es = slice_get (filter_map too_many es) 0 ≡ None

first_few : (e : List ℕ × ℕ) (es : List (List ℕ × ℕ)) → NoneMany (e ∷ es) → (e.1 ≤ 1073741824) × NoneMany es
first_few e es h = decide (nat_lt 1073741824 e.1)
    (λ t. let some : slice_get (filter_map too_many (e ∷ es)) 0 ≡ Some (TooMany e.1) = rw t refl in absurd (none-some (TooMany e.1) (sym h ∙ some)))
    (λ f. (ltb-false 1073741824 e.1 f, sym (rw f refl) ∙ h))

total_bound : (es : List (List ℕ × ℕ)) → NoneMany es → total es ≤ 1073741824 * length es
total_bound [] h = omega arith
total_bound (e ∷ es) h =
    let few = first_few e es h in
    omega (arith, few.0, total_bound es few.1)

count_bound : (p : List ℕ → Bool) (es : List (List ℕ × ℕ)) → NoneMany es → count_of p es ≤ 1073741824
count_bound p [] h = omega arith
count_bound p (e ∷ es) h =
    let few = first_few e es h in
    decide (p e.0) (λ t. rw t few.0) (λ f. rw f (count_bound p es few.1))

pub faces_within : (es : List (List ℕ × ℕ)) → before_faces es + count_of is_face es ≤ total es
faces_within [] = omega arith
faces_within (e ∷ es) = decide (is_face e.0) (λ t. rw t (omega arith)) (λ f. rw f (omega (arith, faces_within es)))

elements_fewer : (heads : List Heading) → length (elements heads) ≤ length heads
elements_fewer [] = omega arith
elements_fewer (IsElement name n ∷ heads) = omega (arith, elements_fewer heads)
elements_fewer (IsUnread ∷ heads) = omega (arith, elements_fewer heads)
elements_fewer (IsAscii ∷ heads) = omega (arith, elements_fewer heads)
elements_fewer (IsBinary ∷ heads) = omega (arith, elements_fewer heads)
elements_fewer (IsProperty corners ∷ heads) = omega (arith, elements_fewer heads)
elements_fewer (IsEnd ∷ heads) = omega (arith, elements_fewer heads)
elements_fewer (IsOther ∷ heads) = omega (arith, elements_fewer heads)

fault_known : (t : Told) (ended : Bool) (heads : List Heading) → t ≡ all_told start (up_to_end heads) → ended ≡ list_any is_end heads → fault_told t ended ≡ header_fault heads
fault_known t ended heads e f = rw (e, f) (fault_is heads)

-- a fault of the header is the answer
pub refused_header : (lines : List (List (List ℕ))) (heads : List Heading) (fault : MeshFault) → header_fault heads ≡ Some fault → lines_mesh lines heads ≡ Err fault
refused_header lines heads fault e = rw e refl

-- what the pass tells where no line has a fault and there is an end
pub late_known : (t : Told) (heads : List Heading) → t ≡ all_told start (up_to_end heads) → t.fault ≡ None → list_any is_end heads ≡ true → late_fault t ≡ header_fault heads
late_known t heads e none ended = sym (rw none refl) ∙ fault_known t true heads e (sym ended)

last_none : (a b : Option MeshFault) → option_or a b ≡ None → b ≡ None
last_none None b h = h
last_none (Some x) b h = absurd cc

none_many : (t : Told) → None ≡ late_fault t → NoneMany t.elements
none_many t h = last_none (option_map bad_header (option_or t.bad_face t.open_face)) (slice_get (filter_map too_many t.elements) 0) (sym h)

pub vertices_fit : (t : Told) → None ≡ late_fault t → count_of is_vertex t.elements ≤ 1073741824
vertices_fit t h = count_bound is_vertex t.elements (none_many t h)

pub total_fits : (t : Told) (heads : List Heading) → t ≡ all_told start (up_to_end heads) → None ≡ late_fault t → t.number < 4294967296 → total t.elements < 18446744073709551616
total_fits t heads e h lt =
    let a = total_bound t.elements (none_many t h) in
    let b : t.elements ≡ elements (up_to_end heads) = ap (λ (x : Told). x.elements) e ∙ elements_told (up_to_end heads) in
    let c : t.number ≡ length (up_to_end heads) + 2 = ap (λ (x : Told). x.number) e ∙ number_told (up_to_end heads) in
    let d = elements_fewer (up_to_end heads) in
    let f : length t.elements ≡ length (elements (up_to_end heads)) = ap length b in
    omega (arith, a, c, d, f, lt)

pub mesh_known : (t : Told) (heads : List Heading) (lines body : List (List (List ℕ))) → t ≡ all_told start (up_to_end heads) → t.fault ≡ None → list_any is_end heads ≡ true → None ≡ late_fault t → body ≡ drop (length (up_to_end heads)) lines → mesh_of t.elements (with_words (numbered t.number body)) ≡ lines_mesh lines heads
mesh_known t heads lines body e fault ended h g =
    let none : header_fault heads ≡ None = sym (h ∙ late_known t heads e fault ended) in
    let b : t.elements ≡ elements (up_to_end heads) = ap (λ (x : Told). x.elements) e ∙ elements_told (up_to_end heads) in
    let c : t.number ≡ length (up_to_end heads) + 2 = ap (λ (x : Told). x.number) e ∙ number_told (up_to_end heads) in
    rw (none, b, c, g) refl

pub as_mesh : (es es' : List (List ℕ × ℕ)) (n before count all : ℕ) (lines : List (ℕ × List (List ℕ))) → es' ≡ es → n ≡ count_of is_vertex es' → before ≡ before_faces es' → count ≡ count_of is_face es' → all ≡ total es' → body_of n before count all lines ≡ mesh_of es lines
as_mesh es es' n before count all lines e a b c d = rw (a, b, c, d, e) refl
