-- One pass over the lines of a header, and its faults by filters.
use Rattle.std.proofs.Common.{◌≡◌, ℕ, suc, ◌+◌, Bool, true, false, not, ◌||◌, List, [], ◌∷◌, ◌++◌, length, drop, append_assoc, Some, None, refl, sym, ap, subst, ◌∙◌, arith, if◌then◌else◌}
use Rattle.std.specs.Prelude.{Option, filter_map, option_map}
use Rattle.std.specs.Option.{option_or}
use Rattle.std.specs.List.{slice_get, cons_option, range_with_len, list_any}
use Rattle.std.proofs.lemmas.List.{length-append, append-nil}
use Rattle.std.proofs.Math.Seq.{take-append_seam}
use Rattle.std.proofs.lemmas.List.Elements.{filter_map-append}
use Rattle.refusals.specs.declared.mesh.MeshFault.{MeshFault}
use Rattle.mesh_read.specs.Ply.{Heading, IsUnread, IsAscii, IsBinary, IsElement, IsProperty, IsEnd, IsOther, is_end, is_format, is_face, element_in, elements, bad_if, fault_of, up_to_end, fault_at, corners_in, begins_corners, face_fault_of, face_fault_at, header_fault}
use Rattle.mesh_read.specs.SeenPly.{Told, start, fault_now, format_now, elements_now, open_now, bad_now, after_heading, all_told, bad_header, fault_told}
use Rattle.std.proofs.lemmas.Bool.{false≢true}
use Rattle.text_lines.proofs.Places.{decide}

or_none : {A : Type 0} (o : Option A) → o ≡ option_or o None
or_none None = refl
or_none (Some x) = refl

or_assoc : {A : Type 0} (o a b : Option A) → option_or (option_or o a) b ≡ option_or o (option_or a b)
or_assoc None a b = refl
or_assoc (Some x) a b = refl

first_or : {A : Type 0} (o : Option A) (xs : List A) → slice_get (cons_option o xs) 0 ≡ option_or o (slice_get xs 0)
first_or None xs = refl
first_or (Some x) xs = refl

any_more : (p : Heading → Bool) (before : List Heading) (h : Heading) → list_any p (before ++ h ∷ []) ≡ list_any p before || p h
any_more p [] h = decide (p h) (λ t. rw t refl) (λ f. rw f refl)
any_more p (x ∷ before) h = decide (p x) (λ t. rw t refl) (λ f. rw f (any_more p before h))

or_true : (b : Bool) → b || true ≡ true
or_true true = refl
or_true false = refl

or_false_is : (b : Bool) → b || false ≡ b
or_false_is true = refl
or_false_is false = refl

elements_more : (before : List Heading) (h : Heading) → elements (before ++ h ∷ []) ≡ elements before ++ elements (h ∷ [])
elements_more before h = filter_map-append element_in before (h ∷ [])

-- what was seen is what stands before
pub record Agrees (t : Told) (before : List Heading) : Type 0 where
  pub format : t.format ≡ list_any is_format before
  pub elements : t.elements ≡ elements before
  pub number : t.number ≡ length before + 2

agrees_start : Agrees start []
agrees_start = record { format = refl; elements = refl; number = refl }

format_step : (t : Told) (before : List Heading) (h : Heading) → t.format ≡ list_any is_format before → format_now t h ≡ list_any is_format before || is_format h
format_step t before IsAscii e = sym (or_true (list_any is_format before))
format_step t before IsUnread e = e ∙ sym (or_false_is (list_any is_format before))
format_step t before IsBinary e = e ∙ sym (or_false_is (list_any is_format before))
format_step t before (IsElement name n) e = e ∙ sym (or_false_is (list_any is_format before))
format_step t before (IsProperty corners) e = e ∙ sym (or_false_is (list_any is_format before))
format_step t before IsEnd e = e ∙ sym (or_false_is (list_any is_format before))
format_step t before IsOther e = e ∙ sym (or_false_is (list_any is_format before))

elements_step : (t : Told) (before : List Heading) (h : Heading) → t.elements ≡ elements before → elements_now t h ≡ elements before ++ elements (h ∷ [])
elements_step t before IsAscii e = e ∙ sym (append-nil (elements before))
elements_step t before IsUnread e = e ∙ sym (append-nil (elements before))
elements_step t before IsBinary e = e ∙ sym (append-nil (elements before))
elements_step t before (IsElement name n) e = ap (λ (l : List (List ℕ × ℕ)). l ++ (name, n) ∷ []) e
elements_step t before (IsProperty corners) e = e ∙ sym (append-nil (elements before))
elements_step t before IsEnd e = e ∙ sym (append-nil (elements before))
elements_step t before IsOther e = e ∙ sym (append-nil (elements before))

agrees_step : (t : Told) (before : List Heading) (h : Heading) → Agrees t before → Agrees (after_heading t h) (before ++ h ∷ [])
agrees_step t before h a = record {
  format = format_step t before h a.format ∙ sym (any_more is_format before h);
  elements = elements_step t before h a.elements ∙ sym (elements_more before h);
  number = omega (arith, a.number, length-append before (h ∷ []));
}

all_agree : (t : Told) (before heads : List Heading) → Agrees t before → Agrees (all_told t heads) (before ++ heads)
all_agree t before [] a = subst (λ (l : List Heading). Agrees t l) (sym (append-nil before)) a
all_agree t before (h ∷ heads) a = subst (λ (l : List Heading). Agrees (all_told (after_heading t h) heads) l) (append_assoc before (h ∷ []) heads) (all_agree (after_heading t h) (before ++ h ∷ []) heads (agrees_step t before h a))

fault_step : (t : Told) (before : List Heading) (h : Heading) → Agrees t before → fault_now t h ≡ fault_of before (length before + 2) h
fault_step t before IsUnread a = refl
fault_step t before IsAscii a = let f = a.format in let n = a.number in rw (f, n) refl
fault_step t before IsBinary a = refl
fault_step t before (IsElement name c) a = let f = a.format in let n = a.number in let e = a.elements in rw (f, n, e) refl
fault_step t before (IsProperty corners) a = let n = a.number in let e = a.elements in rw (n, e) refl
fault_step t before IsEnd a = let f = a.format in let n = a.number in rw (f, n) refl
fault_step t before IsOther a = let n = a.number in rw n refl

slice_get_at : (before heads : List Heading) (h : Heading) → slice_get (before ++ h ∷ heads) (length before) ≡ Some h
slice_get_at [] heads h = refl
slice_get_at (x ∷ before) heads h = slice_get_at before heads h

drop_at : (before heads : List Heading) (h : Heading) → drop (length before + 1) (before ++ h ∷ heads) ≡ heads
drop_at [] heads h = refl
drop_at (x ∷ before) heads h = let k : suc (length before) + 1 ≡ suc (length before + 1) = omega arith in rw k (drop_at before heads h)

fault_here : (before heads : List Heading) (h : Heading) → fault_at (before ++ h ∷ heads) (length before) ≡ fault_of before (length before + 2) h
fault_here before heads h =
    let front = take-append_seam before (h ∷ heads) in
    let one = slice_get_at before heads h in
    rw (front, one) refl

face_here : (before heads : List Heading) (h : Heading) → face_fault_at (before ++ h ∷ heads) (length before) ≡ face_fault_of heads (length before + 2) h
face_here before heads h =
    let back = drop_at before heads h in
    let one = slice_get_at before heads h in
    rw (back, one) refl

-- the first of the indices from k on
abbrev from : (ℕ → Option MeshFault) → ℕ → ℕ → Option MeshFault
from f k n = slice_get (filter_map f (range_with_len k n)) 0

told_fault : (before : List Heading) (t : Told) (heads : List Heading) → Agrees t before → (all_told t heads).fault ≡ option_or t.fault (from (fault_at (before ++ heads)) (length before) (length heads))
told_fault before t [] a = or_none t.fault
told_fault before t (h ∷ heads) a =
    let before' = before ++ h ∷ [] in
    let all = before ++ h ∷ heads in
    let same : before' ++ heads ≡ all = append_assoc before (h ∷ []) heads in
    let n : length before' ≡ length before + 1 = length-append before (h ∷ []) in
    let here : fault_now t h ≡ fault_at all (length before) = fault_step t before h a ∙ sym (fault_here before heads h) in
    told_fault before' (after_heading t h) heads (agrees_step t before h a)
    ∙ ap (λ (l : List Heading). option_or (after_heading t h).fault (from (fault_at l) (length before') (length heads))) same
    ∙ ap (λ (k : ℕ). option_or (after_heading t h).fault (from (fault_at all) k (length heads))) n
    ∙ or_assoc t.fault (fault_now t h) (from (fault_at all) (length before + 1) (length heads))
    ∙ ap (λ (o : Option MeshFault). option_or t.fault (option_or o (from (fault_at all) (length before + 1) (length heads)))) here
    ∙ ap (option_or t.fault) (sym (first_or (fault_at all (length before)) (filter_map (fault_at all) (range_with_len (length before + 1) (length heads)))))

-- the face element's fault, where it is still open and these lines follow
abbrev open_fault : Option ℕ → List Heading → Option MeshFault
open_fault None heads = None
open_fault (Some line) heads = bad_if line (not (begins_corners heads))

abbrev settled : Option ℕ → Option MeshFault
settled o = option_map bad_header o

settled_or : (a b : Option ℕ) → settled (option_or a b) ≡ option_or (settled a) (settled b)
settled_or None b = refl
settled_or (Some x) b = refl

open_none : (o : Option ℕ) → settled o ≡ open_fault o []
open_none None = refl
open_none (Some line) = refl

open_past : (o : Option ℕ) (h : Heading) (heads : List Heading) → corners_in h ≡ None → open_fault o (h ∷ heads) ≡ open_fault o heads
open_past None h heads e = refl
open_past (Some line) h heads e = rw e refl

open_ended : (o : Option ℕ) (h : Heading) (heads : List Heading) → corners_in h ≡ Some false → open_fault o (h ∷ heads) ≡ settled o
open_ended None h heads e = refl
open_ended (Some line) h heads e = rw e refl

open_good : (o : Option ℕ) (h : Heading) (heads : List Heading) → corners_in h ≡ Some true → open_fault o (h ∷ heads) ≡ None
open_good None h heads e = refl
open_good (Some line) h heads e = rw e refl

open_new : (name : List ℕ) (n line : ℕ) (heads : List Heading) → open_fault (if is_face name then Some line else None) heads ≡ face_fault_of heads line (IsElement name n)
open_new name n line heads = decide (is_face name) (λ t. rw t refl) (λ f. rw f refl)

-- with what is settled, what is open, and the line itself
face_step : (t : Told) (h : Heading) (heads : List Heading) → option_or (settled (bad_now t h)) (open_fault (open_now t h) heads) ≡ option_or (option_or (settled t.bad_face) (open_fault t.open_face (h ∷ heads))) (face_fault_of heads t.number h)
face_step t IsUnread heads = ap (option_or (settled t.bad_face)) (sym (open_past t.open_face IsUnread heads refl)) ∙ or_none (option_or (settled t.bad_face) (open_fault t.open_face (IsUnread ∷ heads)))
face_step t IsAscii heads = ap (option_or (settled t.bad_face)) (sym (open_past t.open_face IsAscii heads refl)) ∙ or_none (option_or (settled t.bad_face) (open_fault t.open_face (IsAscii ∷ heads)))
face_step t IsBinary heads = ap (option_or (settled t.bad_face)) (sym (open_past t.open_face IsBinary heads refl)) ∙ or_none (option_or (settled t.bad_face) (open_fault t.open_face (IsBinary ∷ heads)))
face_step t (IsElement name n) heads =
    ap (λ (o : Option MeshFault). option_or o (open_fault (open_now t (IsElement name n)) heads)) (settled_or t.bad_face t.open_face ∙ ap (option_or (settled t.bad_face)) (sym (open_ended t.open_face (IsElement name n) heads refl)))
    ∙ ap (option_or (option_or (settled t.bad_face) (open_fault t.open_face (IsElement name n ∷ heads)))) (open_new name n t.number heads)
face_step t (IsProperty true) heads =
    ap (option_or (settled t.bad_face)) (sym (open_good t.open_face (IsProperty true) heads refl)) ∙ or_none (option_or (settled t.bad_face) (open_fault t.open_face (IsProperty true ∷ heads)))
face_step t (IsProperty false) heads =
    ap (λ (o : Option MeshFault). option_or o None) (settled_or t.bad_face t.open_face ∙ ap (option_or (settled t.bad_face)) (sym (open_ended t.open_face (IsProperty false) heads refl)))
face_step t IsEnd heads = ap (option_or (settled t.bad_face)) (sym (open_past t.open_face IsEnd heads refl)) ∙ or_none (option_or (settled t.bad_face) (open_fault t.open_face (IsEnd ∷ heads)))
face_step t IsOther heads = ap (option_or (settled t.bad_face)) (sym (open_past t.open_face IsOther heads refl)) ∙ or_none (option_or (settled t.bad_face) (open_fault t.open_face (IsOther ∷ heads)))

told_face : (before : List Heading) (t : Told) (heads : List Heading) → Agrees t before → settled (option_or (all_told t heads).bad_face (all_told t heads).open_face) ≡ option_or (option_or (settled t.bad_face) (open_fault t.open_face heads)) (from (face_fault_at (before ++ heads)) (length before) (length heads))
told_face before t [] a = settled_or t.bad_face t.open_face ∙ ap (option_or (settled t.bad_face)) (open_none t.open_face) ∙ or_none (option_or (settled t.bad_face) (open_fault t.open_face []))
told_face before t (h ∷ heads) a =
    let before' = before ++ h ∷ [] in
    let all = before ++ h ∷ heads in
    let same : before' ++ heads ≡ all = append_assoc before (h ∷ []) heads in
    let n : length before' ≡ length before + 1 = length-append before (h ∷ []) in
    let now = option_or (settled (bad_now t h)) (open_fault (open_now t h) heads) in
    let was = option_or (settled t.bad_face) (open_fault t.open_face (h ∷ heads)) in
    let here : face_fault_of heads t.number h ≡ face_fault_at all (length before) = ap (λ (k : ℕ). face_fault_of heads k h) a.number ∙ sym (face_here before heads h) in
    told_face before' (after_heading t h) heads (agrees_step t before h a)
    ∙ ap (λ (l : List Heading). option_or now (from (face_fault_at l) (length before') (length heads))) same
    ∙ ap (λ (k : ℕ). option_or now (from (face_fault_at all) k (length heads))) n
    ∙ ap (λ (o : Option MeshFault). option_or o (from (face_fault_at all) (length before + 1) (length heads))) (face_step t h heads ∙ ap (option_or was) here)
    ∙ or_assoc was (face_fault_at all (length before)) (from (face_fault_at all) (length before + 1) (length heads))
    ∙ ap (option_or was) (sym (first_or (face_fault_at all (length before)) (filter_map (face_fault_at all) (range_with_len (length before + 1) (length heads)))))

length_up_to : (heads : List Heading) → list_any is_end heads ≡ false → up_to_end heads ≡ heads
length_up_to [] e = refl
length_up_to (h ∷ heads) e = decide (is_end h) (λ t. absurd (false≢true (sym (sym (rw t refl) ∙ e)))) (λ f. rw f (ap (λ (l : List Heading). h ∷ l) (length_up_to heads (sym (rw f refl) ∙ e))))

pub elements_told : (heads : List Heading) → (all_told start heads).elements ≡ elements heads
elements_told heads = (all_agree start [] heads agrees_start).elements

pub number_told : (heads : List Heading) → (all_told start heads).number ≡ length heads + 2
number_told heads = (all_agree start [] heads agrees_start).number

wanting : (heads : List Heading) (number : ℕ) → number ≡ length (up_to_end heads) + 2 → bad_if number (not (list_any is_end heads)) ≡ bad_if (length heads + 2) (not (list_any is_end heads))
wanting heads number e = decide (list_any is_end heads) (λ t. rw t refl) (λ f. let k : number ≡ length heads + 2 = e ∙ ap (λ (l : List Heading). length l + 2) (length_up_to heads f) in rw k refl)

pub fault_is : (heads : List Heading) → fault_told (all_told start (up_to_end heads)) (list_any is_end heads) ≡ header_fault heads
fault_is heads =
    let t = all_told start (up_to_end heads) in
    let a = told_fault [] start (up_to_end heads) agrees_start in
    let b = wanting heads t.number (number_told (up_to_end heads)) in
    let c = told_face [] start (up_to_end heads) agrees_start in
    let d = elements_told (up_to_end heads) in
    rw (a, b, c, d) refl

fault_stays : (t : Told) (f : MeshFault) (heads : List Heading) → t.fault ≡ Some f → (all_told t heads).fault ≡ Some f
fault_stays t f [] e = e
fault_stays t f (h ∷ heads) e = fault_stays (after_heading t h) f heads (rw e refl)

faulted_here : (t : Told) (h : Heading) (heads : List Heading) (f : MeshFault) → t.fault ≡ None → fault_now t h ≡ Some f → (all_told t (up_to_end (h ∷ heads))).fault ≡ Some f
faulted_here t h heads f none e =
    let here : (after_heading t h).fault ≡ Some f = rw (none, e) refl in
    decide (is_end h) (λ y. rw y here) (λ n. rw n (fault_stays (after_heading t h) f (up_to_end heads) here))

-- the first fault of a line is the header's
pub refused_line : (t : Told) (h : Heading) (heads after all : List Heading) (f : MeshFault) → heads ≡ h ∷ after → t.fault ≡ None → fault_now t h ≡ Some f → all_told t (up_to_end heads) ≡ all_told start (up_to_end all) → header_fault all ≡ Some f
refused_line t h heads after all f first none e folded =
    let here : (all_told start (up_to_end all)).fault ≡ Some f =
    ap (λ (x : Told). x.fault) (sym folded) ∙ ap (λ (l : List Heading). (all_told t (up_to_end l)).fault) first ∙ faulted_here t h after f none e in
    sym (fault_is all) ∙ rw here refl

-- a header without an end is refused at its next line
pub refused_end : (t : Told) (heads all : List Heading) → heads ≡ [] → t.fault ≡ None → all_told t (up_to_end heads) ≡ all_told start (up_to_end all) → list_any is_end heads ≡ list_any is_end all → header_fault all ≡ Some (bad_header t.number)
refused_end t heads all over none folded ended =
    let same : all_told start (up_to_end all) ≡ t = sym folded ∙ ap (λ (l : List Heading). all_told t (up_to_end l)) over in
    let no_end : list_any is_end all ≡ false = sym ended ∙ ap (list_any is_end) over in
    sym (fault_is all) ∙ rw (same, no_end, none) refl
