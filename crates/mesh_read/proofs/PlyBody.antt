-- One pass over the lines behind a header, and the list of faces.
use Rattle.std.proofs.Common.{◌≡◌, ℕ, zero, suc, ◌+◌, ◌-◌, ◌<◌, ◌≤◌, true, false, List, [], ◌∷◌, ◌++◌, length, take, drop, map, append_assoc, All, Ok, Err, Result, refl, sym, ap, subst, ◌∙◌, arith, nat_lt, if◌then◌else◌}
use Rattle.std.proofs.lemmas.List.{append-nil}
use Rattle.std.proofs.lemmas.List.Elements.{All-append}
use Rattle.std.proofs.lemmas.Bool.{ltb-true, ltb-false, lt-ltb, le-ltb}
use Rattle.iso_base.specs.Triangles.{Mesh}
use Rattle.mesh_read.specs.Corners.{IsInside}
use Rattle.refusals.specs.declared.mesh.MeshFault.{MeshFault}
use Rattle.refusals.specs.declared.mesh.MeshFault.TheVariants.{ShortMesh}
use Rattle.mesh_read.specs.Answers.{◌>>=◌, all_or_first}
use Rattle.mesh_read.specs.Ply.{face_of, body_of, numbered, with_words}
use Rattle.text_lines.specs.Lines.{lines_of}
use Rattle.text_lines.specs.Words.{words_of}
use Rattle.mesh_read.specs.Ply.{ply_words}
use Rattle.mesh_read.specs.SeenPly.{inside}
use Rattle.mesh_read.specs.Plain.{BeginsLine, BeginsFace}
use Rattle.mesh_read.proofs.PlyLines.{words_first, words_none}
use Rattle.text_lines.proofs.Places.{decide}

abbrev pub Words : Type 0
Words = List (List ℕ)

abbrev pub short_or : ℕ → ℕ → ℕ → List (List ℕ) → Result Mesh MeshFault
short_or n all present triangles = if nat_lt present all then Err (ShortMesh all present) else Ok (record { vertex_count = n; triangles = triangles })

-- the pass: lines lo to hi are faces, i lines came, and these triangles
abbrev pub go : ℕ → ℕ → ℕ → ℕ → ℕ → List (List ℕ) → List (ℕ × Words) → Result Mesh MeshFault
go n lo hi all i done [] = short_or n all i done
go n lo hi all i done (l ∷ ls) =
    if nat_lt i all then (if inside lo hi i then face_of n l >>= (λ t. go n lo hi all (i + 1) (done ++ t ∷ []) ls) else go n lo hi all (i + 1) done ls)
    else Ok (record { vertex_count = n; triangles = done })

abbrev window : ℕ → ℕ → ℕ → List (ℕ × Words) → List (ℕ × Words)
window lo hi i ls = take ((hi - i) - (lo - i)) (drop (lo - i) ls)

window_before : (lo hi i : ℕ) (l : ℕ × Words) (ls : List (ℕ × Words)) → i < lo → window lo hi i (l ∷ ls) ≡ window lo hi (i + 1) ls
window_before lo hi i l ls lt =
    let a : lo - i ≡ suc (lo - (i + 1)) = omega arith in
    let b : (hi - i) - suc (lo - (i + 1)) ≡ (hi - (i + 1)) - (lo - (i + 1)) = omega arith in
    rw (a, b) refl

window_in : (lo hi i : ℕ) (l : ℕ × Words) (ls : List (ℕ × Words)) → lo ≤ i → i < hi → window lo hi i (l ∷ ls) ≡ l ∷ window lo hi (i + 1) ls
window_in lo hi i l ls le lt =
    let a : lo - i ≡ 0 = omega arith in
    let a' : lo - (i + 1) ≡ 0 = omega arith in
    let b : (hi - i) - 0 ≡ suc ((hi - (i + 1)) - 0) = omega arith in
    rw (a, a', b) refl

window_after : (lo hi i : ℕ) (ls : List (ℕ × Words)) → hi ≤ i → window lo hi i ls ≡ []
window_after lo hi i ls le =
    let b : (hi - i) - (lo - i) ≡ 0 = omega arith in
    rw b refl

abbrev no_lines : List (ℕ × Words)
no_lines = []

drop_none : (k : ℕ) → drop k no_lines ≡ no_lines
drop_none zero = refl
drop_none (suc k) = refl

take_none : (k : ℕ) → take k no_lines ≡ no_lines
take_none zero = refl
take_none (suc k) = refl

window_none : (lo hi i : ℕ) → window lo hi i [] ≡ []
window_none lo hi i = ap (take ((hi - i) - (lo - i))) (drop_none (lo - i)) ∙ take_none ((hi - i) - (lo - i))

abbrev closing : ℕ → ℕ → ℕ → List (List ℕ) → Result (List (List ℕ)) MeshFault → Result Mesh MeshFault
closing n all present done r = r >>= (λ ts. short_or n all present (done ++ ts))

abbrev finish : ℕ → ℕ → ℕ → List (List ℕ) → List (ℕ × Words) → Result Mesh MeshFault
finish n all present done ls = closing n all present done (all_or_first (map (face_of n) ls))

closing_more : (n all present : ℕ) (done : List (List ℕ)) (t : List ℕ) (r : Result (List (List ℕ)) MeshFault) → closing n all present (done ++ t ∷ []) r ≡ closing n all present done (r >>= (λ ts. Ok (t ∷ ts)))
closing_more n all present done t (Ok ts) = ap (short_or n all present) (append_assoc done (t ∷ []) ts)
closing_more n all present done t (Err e) = refl

by_face : (r : Result (List ℕ) MeshFault) (n all present : ℕ) (done : List (List ℕ)) (rs : List (Result (List ℕ) MeshFault)) (next : List ℕ → Result Mesh MeshFault) → ((t : List ℕ) → next t ≡ closing n all present (done ++ t ∷ []) (all_or_first rs)) → r >>= next ≡ closing n all present done (all_or_first (r ∷ rs))
by_face (Ok t) n all present done rs next h = h t ∙ closing_more n all present done t (all_or_first rs)
by_face (Err e) n all present done rs next h = refl

finish_none : (n all present : ℕ) (done : List (List ℕ)) → finish n all present done [] ≡ short_or n all present done
finish_none n all present done = ap (short_or n all present) (append-nil done)

-- where enough lines came
short_done : (n all present : ℕ) (done : List (List ℕ)) → all ≤ present → short_or n all present done ≡ Ok (record { vertex_count = n; triangles = done })
short_done n all present done le = let f : nat_lt present all ≡ false = le-ltb present all le in rw f refl

gone : (n lo hi all : ℕ) → hi ≤ all → (ls : List (ℕ × Words)) (i : ℕ) (done : List (List ℕ)) → go n lo hi all i done ls ≡ finish n all (i + length ls) done (window lo hi i ls)
gone n lo hi all within [] i done =
    let k : i + 0 ≡ i = omega arith in
    sym (ap (λ (j : ℕ). finish n all j done (window lo hi i [])) k ∙ ap (finish n all i done) (window_none lo hi i) ∙ finish_none n all i done)
gone n lo hi all within (l ∷ ls) i done =
    let k : i + 1 + length ls ≡ i + suc (length ls) = omega arith in
    let ih : (done' : List (List ℕ)) → go n lo hi all (i + 1) done' ls ≡ finish n all (i + suc (length ls)) done' (window lo hi (i + 1) ls) =
    λ done'. gone n lo hi all within ls (i + 1) done' ∙ ap (λ (j : ℕ). finish n all j done' (window lo hi (i + 1) ls)) k in
    decide (nat_lt i all)
    (λ more. decide (nat_lt i lo)
    (λ before. rw (more, before) (ih done ∙ ap (finish n all (i + suc (length ls)) done) (sym (window_before lo hi i l ls (ltb-true i lo before)))))
    (λ not_before. decide (nat_lt i hi)
    (λ within_hi. rw (more, not_before, within_hi)
    (by_face (face_of n l) n all (i + suc (length ls)) done (map (face_of n) (window lo hi (i + 1) ls)) (λ t. go n lo hi all (i + 1) (done ++ t ∷ []) ls) (λ t. ih (done ++ t ∷ []))
    ∙ ap (finish n all (i + suc (length ls)) done) (sym (window_in lo hi i l ls (ltb-false i lo not_before) (ltb-true i hi within_hi)))))
    (λ behind. rw (more, not_before, behind)
    (ih done ∙ ap (finish n all (i + suc (length ls)) done) (window_after lo hi (i + 1) ls (omega (arith, ltb-false i hi behind)) ∙ sym (window_after lo hi i (l ∷ ls) (ltb-false i hi behind)))))))
    (λ enough. rw enough
    (sym (ap (finish n all (i + suc (length ls)) done) (window_after lo hi i (l ∷ ls) (omega (arith, within, ltb-false i all enough)))
    ∙ finish_none n all (i + suc (length ls)) done ∙ short_done n all (i + suc (length ls)) done (omega (arith, ltb-false i all enough)))))

pub go_all : (n before count all : ℕ) (ls : List (ℕ × Words)) → before + count ≤ all → go n before (before + count) all 0 [] ls ≡ body_of n before count all ls
go_all n before count all ls within =
    let a : (before + count) - 0 - (before - 0) ≡ count = omega arith in
    let b : before - 0 ≡ before = omega arith in
    let c : 0 + length ls ≡ length ls = omega arith in
    gone n before (before + count) all within ls 0 []
    ∙ ap (λ (j : ℕ). finish n all j [] (window before (before + count) 0 ls)) c
    ∙ ap (λ (j : ℕ). finish n all (length ls) [] (take j (drop (before - 0) ls))) a
    ∙ ap (λ (j : ℕ). finish n all (length ls) [] (take count (drop j ls))) b

go_done : (n lo hi all i : ℕ) (done : List (List ℕ)) (ls : List (ℕ × Words)) → all ≤ i → go n lo hi all i done ls ≡ Ok (record { vertex_count = n; triangles = done })
go_done n lo hi all i done [] le = short_done n all i done le
go_done n lo hi all i done (l ∷ ls) le = let f : nat_lt i all ≡ false = le-ltb i all le in rw f refl

abbrev pub lines_from : ℕ → List ℕ → List (ℕ × Words)
lines_from k rest = with_words (numbered k (ply_words rest))

first_line : (k : ℕ) (rest text after : List ℕ) → lines_of rest ≡ record { text = text; after = after } ∷ lines_of after → lines_from k rest ≡ with_words ((k, words_of text) ∷ numbered (k + 1) (ply_words after))
first_line k rest text after e = ap (λ (ws : List Words). with_words (numbered k ws)) (words_first rest text after e)

pub now_short : (n lo count all i k : ℕ) (done : List (List ℕ)) (rest : List ℕ) (ls : List (ℕ × Words)) → lines_of rest ≡ [] → i < all → lo + count ≤ all → go n lo (lo + count) all i done (lines_from k rest) ≡ go n lo (lo + count) all 0 [] ls → body_of n lo count all ls ≡ Err (ShortMesh all i)
now_short n lo count all i k done rest ls none lt within h =
    let e : lines_from k rest ≡ [] = ap (λ (ws : List Words). with_words (numbered k ws)) (words_none rest none) in
    let t : nat_lt i all ≡ true = lt-ltb i all lt in
    sym (go_all n lo count all ls within) ∙ sym h ∙ ap (go n lo (lo + count) all i done) e ∙ rw t refl

pub now_done : (n lo count all i : ℕ) (done : List (List ℕ)) (left ls : List (ℕ × Words)) → all ≤ i → lo + count ≤ all → go n lo (lo + count) all i done left ≡ go n lo (lo + count) all 0 [] ls → body_of n lo count all ls ≡ Ok (record { vertex_count = n; triangles = done })
now_done n lo count all i done left ls le within h = sym (go_all n lo count all ls within) ∙ sym h ∙ go_done n lo (lo + count) all i done left le

pub no_word : (n lo hi all i k : ℕ) (done : List (List ℕ)) (rest text after : List ℕ) (so_far : Result Mesh MeshFault) → lines_of rest ≡ record { text = text; after = after } ∷ lines_of after → words_of text ≡ [] → go n lo hi all i done (lines_from k rest) ≡ so_far → go n lo hi all i done (lines_from (k + 1) after) ≡ so_far
no_word n lo hi all i k done rest text after so_far e none h =
    let f = first_line k rest text after e ∙ ap (λ (w : Words). with_words ((k, w) ∷ numbered (k + 1) (ply_words after))) none in
    sym (ap (go n lo hi all i done) f) ∙ h

abbrev go_word : (n lo hi all i k : ℕ) (done : List (List ℕ)) (word : List ℕ) (words : Words) (after : List ℕ) → Result Mesh MeshFault
go_word n lo hi all i k done word words after = go n lo hi all i done ((k, word ∷ words) ∷ lines_from (k + 1) after)

pub a_word : (n lo hi all i k : ℕ) (done : List (List ℕ)) (rest text after word : List ℕ) (words : Words) (so_far : Result Mesh MeshFault) → lines_of rest ≡ record { text = text; after = after } ∷ lines_of after → words_of text ≡ word ∷ words → go n lo hi all i done (lines_from k rest) ≡ so_far → go_word n lo hi all i k done word words after ≡ so_far
a_word n lo hi all i k done rest text after word words so_far e some h =
    let f = first_line k rest text after e ∙ ap (λ (w : Words). with_words ((k, w) ∷ numbered (k + 1) (ply_words after))) some in
    sym (ap (go n lo hi all i done) f) ∙ h

pub outside : (n lo hi all i k : ℕ) (done : List (List ℕ)) (word : List ℕ) (words : Words) (after : List ℕ) (so_far : Result Mesh MeshFault) → i < all → inside lo hi i ≡ false → go_word n lo hi all i k done word words after ≡ so_far → go n lo hi all (i + 1) done (lines_from (k + 1) after) ≡ so_far
outside n lo hi all i k done word words after so_far lt out h =
    let t : nat_lt i all ≡ true = lt-ltb i all lt in
    sym (rw (t, out) refl) ∙ h

pub taken : (n lo hi all i k : ℕ) (done : List (List ℕ)) (word : List ℕ) (words : Words) (after : List ℕ) (corners : List ℕ) (so_far : Result Mesh MeshFault) → i < all → inside lo hi i ≡ true → face_of n (k, word ∷ words) ≡ Ok corners → go_word n lo hi all i k done word words after ≡ so_far → go n lo hi all (i + 1) (done ++ corners ∷ []) (lines_from (k + 1) after) ≡ so_far
taken n lo hi all i k done word words after corners so_far lt is e h =
    let t : nat_lt i all ≡ true = lt-ltb i all lt in
    sym (rw (t, is, e) refl) ∙ h

pub refused : (n lo count all i k : ℕ) (done : List (List ℕ)) (word : List ℕ) (words : Words) (after : List ℕ) (fault : MeshFault) (ls : List (ℕ × Words)) → lo + count ≤ all → i < all → inside lo (lo + count) i ≡ true → face_of n (k, word ∷ words) ≡ Err fault → go_word n lo (lo + count) all i k done word words after ≡ go n lo (lo + count) all 0 [] ls → body_of n lo count all ls ≡ Err fault
refused n lo count all i k done word words after fault ls within lt is e h =
    let t : nat_lt i all ≡ true = lt-ltb i all lt in
    sym (go_all n lo count all ls within) ∙ sym h ∙ rw (t, is, e) refl

one_inside : (n : ℕ) (t : List ℕ) → IsInside n t → All (IsInside n) (t ∷ [])
one_inside n t ht zero d lt = ht
one_inside n t ht (suc k) d lt = absurd (omega (arith, lt))

pub more_inside : (n : ℕ) (done : List (List ℕ)) (t : List ℕ) (items : List (List ℕ)) → items ≡ done ++ t ∷ [] → All (IsInside n) done → IsInside n t → All (IsInside n) items
more_inside n done t items e h ht = subst (λ (ts : List (List ℕ)). All (IsInside n) ts) (sym e) (All-append (IsInside n) done (t ∷ []) h (one_inside n t ht))

-- what is known between two lines: how many lines with words came, the number of the next line, the faces so far and what is left
pub record IsRead (n before faces needed first : ℕ) (bytes : List ℕ) (present number : ℕ) (done : List (List ℕ)) (rest : List ℕ) : Type 0 where
  pub walked : go n before (before + faces) needed present done (lines_from number rest) ≡ go n before (before + faces) needed 0 [] (lines_from first bytes)
  pub within : All (IsInside n) done
  pub line : number + length rest ≤ first + length bytes

-- one more face, and it is in the plain form
pub plain_taken : (n before faces needed first : ℕ) (bytes : List ℕ) (present number : ℕ) (done : List (List ℕ)) (rest triangle after left : List ℕ) (more : List (List ℕ)) → present < needed → inside before (before + faces) present ≡ true → BeginsFace n rest triangle after → IsInside n triangle → length after + 1 ≤ length rest → more ≡ done ++ triangle ∷ [] → left ≡ after → IsRead n before faces needed first bytes present number done rest → IsRead n before faces needed first bytes (present + 1) (number + 1) more left
plain_taken n before faces needed first bytes present number done rest triangle after left more lt is face low shorter items same h =
    let hi = before + faces in
    let start = go n before hi needed 0 [] (lines_from first bytes) in
    let some = a_word n before hi needed present number done rest face.text after face.word face.words start face.line face.split h.walked in
    record {
      walked = rw (items, same) (taken n before hi needed present number done face.word face.words after triangle start lt is (face.face number) some);
      within = more_inside n done triangle more items h.within low;
      line = omega (arith, h.line, ap length same);
    }

-- one more line that is no face
pub plain_passed : (n before faces needed first : ℕ) (bytes : List ℕ) (present number : ℕ) (done : List (List ℕ)) (rest after left : List ℕ) (more : List (List ℕ)) → present < needed → inside before (before + faces) present ≡ false → BeginsLine rest after → length after + 1 ≤ length rest → more ≡ done → left ≡ after → IsRead n before faces needed first bytes present number done rest → IsRead n before faces needed first bytes (present + 1) (number + 1) more left
plain_passed n before faces needed first bytes present number done rest after left more lt is line shorter items same h =
    let hi = before + faces in
    let start = go n before hi needed 0 [] (lines_from first bytes) in
    let some = a_word n before hi needed present number done rest line.text after line.word line.words start line.line line.split h.walked in
    record {
      walked = rw (items, same) (outside n before hi needed present number done line.word line.words after start lt is some);
      within = subst (λ (ts : List (List ℕ)). All (IsInside n) ts) (sym items) h.within;
      line = omega (arith, h.line, ap length same);
    }
