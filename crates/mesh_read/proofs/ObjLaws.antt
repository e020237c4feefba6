-- One pass over the lines of an OBJ text, and its list of faces.
use Rattle.std.proofs.Common.{◌≡◌, ℕ, suc, ◌+◌, List, [], ◌∷◌, ◌++◌, length, map, append_assoc, Some, Ok, Err, Result, refl, sym, ap, ◌∙◌, arith, All}
use Rattle.std.specs.Prelude.{Option, filter_map}
use Rattle.std.specs.List.{slice_get, cons_option, range_with_len}
use Rattle.std.proofs.lemmas.List.{length-append, append-nil}
use Rattle.std.proofs.Math.Seq.{take-append_seam}
use Rattle.iso_base.specs.Triangles.{Mesh}
use Rattle.mesh_read.specs.Corners.{IsInside}
use Rattle.refusals.specs.declared.mesh.MeshFault.{MeshFault}
use Rattle.text_lines.specs.Lines.{Line, lines_of}
use Rattle.text_lines.specs.Words.{words_of}
use Rattle.mesh_read.specs.Answers.{◌>>=◌, all_or_first}
use Rattle.mesh_read.specs.Obj.{Saying, IsVertex, IsFace, IsUnread, saying_of, vertices, face_of, if_face, face_at, sayings, mesh_said, obj_of}

-- the mesh with these triangles and those to come, or the first refusal
abbrev pub ended : ℕ → List (List ℕ) → List (Result (List ℕ) MeshFault) → Result Mesh MeshFault
ended n done rs = all_or_first rs >>= (λ ts. Ok (record { vertex_count = n; triangles = done ++ ts }))

ended_none : (n : ℕ) (done : List (List ℕ)) → Ok (record { vertex_count = n; triangles = done }) ≡ ended n done []
ended_none n done = ap (λ (l : List (List ℕ)). Ok (record { vertex_count = n; triangles = l })) (sym (append-nil done))

abbrev closed : ℕ → List (List ℕ) → Result (List (List ℕ)) MeshFault → Result Mesh MeshFault
closed n done r = r >>= (λ ts. Ok (record { vertex_count = n; triangles = done ++ ts }))

closed_more : (n : ℕ) (done : List (List ℕ)) (t : List ℕ) (r : Result (List (List ℕ)) MeshFault) → closed n (done ++ t ∷ []) r ≡ closed n done (r >>= (λ ts. Ok (t ∷ ts)))
closed_more n done t (Ok ts) = ap (λ (l : List (List ℕ)). Ok (record { vertex_count = n; triangles = l })) (append_assoc done (t ∷ []) ts)
closed_more n done t (Err e) = refl

ended_more : (n : ℕ) (done : List (List ℕ)) (t : List ℕ) (rs : List (Result (List ℕ) MeshFault)) → ended n (done ++ t ∷ []) rs ≡ ended n done (Ok t ∷ rs)
ended_more n done t rs = closed_more n done t (all_or_first rs)

-- the pass: the number of the line, the vertices so far and the triangles so far
abbrev pub walk : ℕ → ℕ → List (List ℕ) → List Saying → Result Mesh MeshFault
walk line n done [] = Ok (record { vertex_count = n; triangles = done })
walk line n done (IsVertex ∷ says) = walk (line + 1) (n + 1) done says
walk line n done (IsUnread ∷ says) = walk (line + 1) n done says
walk line n done (IsFace references ∷ says) = face_of n line references >>= (λ t. walk (line + 1) n (done ++ t ∷ []) says)

slice_get_at : (before says : List Saying) (s : Saying) → slice_get (before ++ s ∷ says) (length before) ≡ Some s
slice_get_at [] says s = refl
slice_get_at (x ∷ before) says s = slice_get_at before says s

face_here : (before says : List Saying) (s : Saying) → face_at (before ++ s ∷ says) (length before) ≡ if_face (vertices before) (length before + 1) (Some s)
face_here before says s =
    let front = take-append_seam before (s ∷ says) in
    let one = slice_get_at before says s in
    rw (front, one) refl

-- the vertices behind one more line
abbrev pub behind : ℕ → Saying → ℕ
behind n IsVertex = n + 1
behind n (IsFace references) = n
behind n IsUnread = n

behind_suc : (n : ℕ) (s : Saying) → suc (behind n s) ≡ behind (suc n) s
behind_suc n IsVertex = omega arith
behind_suc n (IsFace references) = refl
behind_suc n IsUnread = refl

vertices_one : (s : Saying) → vertices (s ∷ []) ≡ behind 0 s
vertices_one IsVertex = refl
vertices_one (IsFace references) = refl
vertices_one IsUnread = refl

vertices_more : (before : List Saying) (s : Saying) → vertices (before ++ s ∷ []) ≡ behind (vertices before) s
vertices_more [] s = vertices_one s
vertices_more (IsVertex ∷ before) s = ap suc (vertices_more before s) ∙ behind_suc (vertices before) s
vertices_more (IsFace r ∷ before) s = vertices_more before s
vertices_more (IsUnread ∷ before) s = vertices_more before s

abbrev faces_from : List Saying → ℕ → ℕ → List (Result (List ℕ) MeshFault)
faces_from all k n = filter_map (face_at all) (range_with_len k n)

-- what is left to say, behind the lines before
abbrev left : List Saying → ℕ → ℕ → List (List ℕ) → Result Mesh MeshFault
left all k n done = ended (vertices all) done (faces_from all k n)

by_face : (r : Result (List ℕ) MeshFault) (n : ℕ) (done : List (List ℕ)) (rs : List (Result (List ℕ) MeshFault)) (go : List ℕ → Result Mesh MeshFault) → ((t : List ℕ) → go t ≡ ended n (done ++ t ∷ []) rs) → r >>= go ≡ ended n done (r ∷ rs)
by_face (Ok t) n done rs go h = h t ∙ ended_more n done t rs
by_face (Err e) n done rs go h = refl

walked : (before says : List Saying) (done : List (List ℕ)) → walk (length before + 1) (vertices before) done says ≡ left (before ++ says) (length before) (length says) done
walked before [] done =
    ended_none (vertices before) done ∙ ap (λ (l : List Saying). ended (vertices l) done []) (sym (append-nil before))
walked before (s ∷ says) done =
    let before' = before ++ s ∷ [] in
    let all = before ++ s ∷ says in
    let same : before' ++ says ≡ all = append_assoc before (s ∷ []) says in
    let n : length before' ≡ length before + 1 = length-append before (s ∷ []) in
    let ih : (done' : List (List ℕ)) → walk (length before + 1 + 1) (behind (vertices before) s) done' says ≡ left all (length before + 1) (length says) done' =
    λ done'. ap (λ (k : ℕ). walk (k + 1) (behind (vertices before) s) done' says) (sym n)
    ∙ ap (λ (k : ℕ). walk (length before' + 1) k done' says) (sym (vertices_more before s))
    ∙ walked before' says done'
    ∙ ap (λ (l : List Saying). left l (length before') (length says) done') same
    ∙ ap (λ (k : ℕ). left all k (length says) done') n in
    by_saying before s says done ih
    ∙ ap (λ (o : Option (Result (List ℕ) MeshFault)). ended (vertices all) done (cons_option o (faces_from all (length before + 1) (length says)))) (sym (face_here before says s)) where
      by_saying : (before : List Saying) (s : Saying) (says : List Saying) (done : List (List ℕ))
          → ((done' : List (List ℕ)) → walk (length before + 1 + 1) (behind (vertices before) s) done' says ≡ left (before ++ s ∷ says) (length before + 1) (length says) done')
          → walk (length before + 1) (vertices before) done (s ∷ says) ≡ ended (vertices (before ++ s ∷ says)) done (cons_option (if_face (vertices before) (length before + 1) (Some s)) (faces_from (before ++ s ∷ says) (length before + 1) (length says)))
      by_saying before IsVertex says done ih = ih done
      by_saying before IsUnread says done ih = ih done
      by_saying before (IsFace references) says done ih =
          by_face (face_of (vertices before) (length before + 1) references) (vertices (before ++ IsFace references ∷ says)) done (faces_from (before ++ IsFace references ∷ says) (length before + 1) (length says)) (λ t. walk (length before + 1 + 1) (vertices before) (done ++ t ∷ []) says) (λ t. ih (done ++ t ∷ []))

pub walk_all : (says : List Saying) → walk 1 0 [] says ≡ mesh_said says
walk_all says = walked [] says []

-- the first line
pub said : (rest text after : List ℕ) → lines_of rest ≡ record { text = text; after = after } ∷ lines_of after → sayings rest ≡ saying_of (words_of text) ∷ sayings after
said rest text after e = ap (λ (ls : List Line). map (λ (t : List ℕ). saying_of (words_of t)) (map (λ (l : Line). l.text) ls)) e

pub wider : (n : ℕ) (ts : List (List ℕ)) → All (IsInside n) ts → All (IsInside (n + 1)) ts
wider n ts h = λ k d lt. let t = h k d lt in (omega (arith, t.0), omega (arith, t.1), omega (arith, t.2))

pub stepped : (bytes rest text after : List ℕ) (line n : ℕ) (done : List (List ℕ)) (s : Saying) → lines_of rest ≡ record { text = text; after = after } ∷ lines_of after → s ≡ saying_of (words_of text) → walk line n done (sayings rest) ≡ walk 1 0 [] (sayings bytes) → walk line n done (s ∷ sayings after) ≡ walk 1 0 [] (sayings bytes)
stepped bytes rest text after line n done s e is h = ap (λ (x : Saying). walk line n done (x ∷ sayings after)) is ∙ sym (ap (walk line n done) (said rest text after e)) ∙ h

pub stepped_face : (bytes after : List ℕ) (line n : ℕ) (done : List (List ℕ)) (references : List (List ℕ)) (t : List ℕ) → face_of n line references ≡ Ok t → walk line n done (IsFace references ∷ sayings after) ≡ walk 1 0 [] (sayings bytes) → walk (line + 1) n (done ++ t ∷ []) (sayings after) ≡ walk 1 0 [] (sayings bytes)
stepped_face bytes after line n done references t e h = sym (rw e refl) ∙ h

pub refused : (bytes after : List ℕ) (line n : ℕ) (done : List (List ℕ)) (references : List (List ℕ)) (fault : MeshFault) → face_of n line references ≡ Err fault → walk line n done (IsFace references ∷ sayings after) ≡ walk 1 0 [] (sayings bytes) → obj_of bytes ≡ Err fault
refused bytes after line n done references fault e h = sym (walk_all (sayings bytes)) ∙ sym h ∙ rw e refl

pub all_said : (bytes rest : List ℕ) (line n : ℕ) (done : List (List ℕ)) → lines_of rest ≡ [] → walk line n done (sayings rest) ≡ walk 1 0 [] (sayings bytes) → obj_of bytes ≡ Ok (record { vertex_count = n; triangles = done })
all_said bytes rest line n done e h =
    let none : sayings rest ≡ [] = ap (λ (ls : List Line). map (λ (t : List ℕ). saying_of (words_of t)) (map (λ (l : Line). l.text) ls)) e in
    sym (walk_all (sayings bytes)) ∙ sym h ∙ ap (walk line n done) none
