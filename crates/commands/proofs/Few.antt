-- A mesh text has no more triangles than bytes.
use Rattle.std.proofs.Common.{◌≡◌, ℕ, suc, ◌+◌, ◌-◌, ◌≤◌, nat_lt, Bool, true, false, cond, eqb, ◌&&◌, min, List, [], ◌∷◌, length, map, take, drop, Some, None, Ok, Err, refl, arith, subst}
use Rattle.std.specs.Prelude.{Option, Result}
use Rattle.std.specs.List.{filter, filter_map, range_with_len, count_by}
use Rattle.std.proofs.lemmas.List.{length-take, length-drop, length-map}
use Rattle.std.proofs.lemmas.List.Sums.{length-filter, count_by-le-length}
use Rattle.std.proofs.lemmas.List.FromFn.{length-range_with_len}
use Rattle.std.proofs.lemmas.Slice.Zip.{length-zip}
use Rattle.iso_base.specs.Triangles.{Mesh}
use Rattle.text_lines.specs.Lines.{Line, lines_of, texts_of, joined, begins_feed}
use Rattle.text_lines.specs.Words.{words_of}
use Rattle.mesh_text.specs.declared.format.TwoWayFormat.{TwoWayFormat}
use Rattle.mesh_text.specs.declared.format.TwoWayFormat.TheVariants.{Ply, Obj}
use Rattle.commands.specs.Checks.{mesh_in}
use Rattle.mesh_read.specs.Answers.{◌>>=◌, all_or_first, unless_fault}
use Rattle.mesh_read.specs.Obj as objs
use Rattle.mesh_read.specs.Ply as plys
use Rattle.refusals.specs.declared.mesh.MeshFault.{MeshFault}
use Rattle.refusals.specs.declared.mesh.MeshFault.TheVariants.{NotMesh, ShortMesh}

-- ---- lines

joined_length : (b : ℕ) (ls : List Line) → length (joined b ls) ≤ length ls + 1
joined_length b [] = omega arith
joined_length b (l ∷ ls) = omega arith

few_chosen : (s t : Bool) (n : ℕ) (x y z : List Line) → length x ≤ n → length y ≤ n → length z ≤ n → length (cond s x (cond t y z)) ≤ n
few_chosen true t n x y z p q r = p
few_chosen false true n x y z p q r = q
few_chosen false false n x y z p q r = r

pub few_lines : (bytes : List ℕ) → length (lines_of bytes) ≤ length bytes
few_lines [] = omega arith
few_lines (b ∷ bs) =
    let ih : length (lines_of bs) ≤ length bs = few_lines bs in
    let j : length (joined b (lines_of bs)) ≤ length (lines_of bs) + 1 = joined_length b (lines_of bs) in
    few_chosen (eqb b 10) (eqb b 13 && begins_feed bs) (length (b ∷ bs)) (record { text = []; after = bs } ∷ lines_of bs) (lines_of bs) (joined b (lines_of bs)) (omega (arith, ih)) (omega (arith, ih)) (omega (arith, ih, j))

few_texts : (bytes : List ℕ) → length (texts_of bytes) ≤ length bytes
few_texts bytes = let e : length (texts_of bytes) ≡ length (lines_of bytes) = length-map (lines_of bytes) (λ (l : Line). l.text) in let f = few_lines bytes in omega (arith, e, f)

-- ---- refusals left out

abbrev ok_of : {A : Type 0} → A → Result A MeshFault
ok_of x = Ok x

same_ok : {A : Type 0} (x y : A) → ok_of x ≡ Ok y → x ≡ y
same_ok x y e = cc

longer : {A : Type 0} (r : Result (List A) MeshFault) (x : A) (xs : List A) (n : ℕ) → ((ys : List A) → r ≡ Ok ys → length ys ≤ n) → (r >>= (λ ys. Ok (x ∷ ys))) ≡ Ok xs → length xs ≤ suc n
longer (Err fault) x xs n h e = absurd cc
longer (Ok ys) x xs n h e = let l : length ys ≤ n = h ys refl in subst (λ (zs : _). length zs ≤ suc n) (same_ok (x ∷ ys) xs e) (omega (arith, l))

all_few : {A : Type 0} (rs : List (Result A MeshFault)) (xs : List A) → all_or_first rs ≡ Ok xs → length xs ≤ length rs
all_few [] xs e = subst (λ (zs : _). length zs ≤ 0) (same_ok [] xs e) (omega arith)
all_few (Err fault ∷ rs) xs e = absurd cc
all_few (Ok x ∷ rs) xs e = longer (all_or_first rs) x xs (length rs) (λ ys same. all_few rs ys same) e

few_maps_step : {X Y : Type 0} (f : X → Option Y) (x : X) (xs : List X) (o : Option Y) → f x ≡ o → length (filter_map f xs) ≤ length xs → length (filter_map f (x ∷ xs)) ≤ length (x ∷ xs)
few_maps_step f x xs None e ih = rw e (omega (arith, ih))
few_maps_step f x xs (Some y) e ih = rw e (omega (arith, ih))

few_maps : {X Y : Type 0} (f : X → Option Y) (xs : List X) → length (filter_map f xs) ≤ length xs
few_maps f [] = omega arith
few_maps f (x ∷ xs) = few_maps_step f x xs (f x) refl (few_maps f xs)

-- ---- the mesh of a text

obj_mesh : (vertices : ℕ) (r : Result (List (List ℕ)) MeshFault) (m : Mesh) (n : ℕ) → ((ts : List (List ℕ)) → r ≡ Ok ts → length ts ≤ n) → (r >>= (λ ts. Ok (record { vertex_count = vertices; triangles = ts }))) ≡ Ok m → length m.triangles ≤ n
obj_mesh vertices (Err fault) m n h e = absurd cc
obj_mesh vertices (Ok ts) m n h e = subst (λ (x : Mesh). length x.triangles ≤ n) (same_ok (record { vertex_count = vertices; triangles = ts }) m e) (h ts refl)

pub few_in_obj : (bytes : List ℕ) (m : Mesh) → objs.obj_of bytes ≡ Ok m → length m.triangles ≤ length bytes
few_in_obj bytes m e =
    let says = objs.sayings bytes in
    let s : length says ≡ length (texts_of bytes) = length-map (texts_of bytes) (λ text. objs.saying_of (words_of text)) in
    let t = few_texts bytes in
    let f = few_maps (objs.face_at says) (range_with_len 0 (length says)) in
    let r : length (range_with_len 0 (length says)) ≡ length says = length-range_with_len 0 (length says) in
    obj_mesh (objs.vertices says) (all_or_first (objs.faces says)) m (length bytes) (λ ts same. let a = all_few (objs.faces says) ts same in omega (arith, s, t, f, r, a)) e

whole : (b : Bool) (n : ℕ) (fault : MeshFault) (ts : List (List ℕ)) (m : Mesh) (k : ℕ) → length ts ≤ k → cond b (Err fault) (Ok (record { vertex_count = n; triangles = ts })) ≡ Ok m → length m.triangles ≤ k
whole true n fault ts m k h e = absurd cc
whole false n fault ts m k h e = subst (λ (x : Mesh). length x.triangles ≤ k) (same_ok (record { vertex_count = n; triangles = ts }) m e) h

body_mesh : (n all : ℕ) (lines : List (ℕ × List (List ℕ))) (r : Result (List (List ℕ)) MeshFault) (m : Mesh) (k : ℕ) → ((ts : List (List ℕ)) → r ≡ Ok ts → length ts ≤ k)
    → (r >>= (λ ts. cond (nat_lt (length lines) all) (Err (ShortMesh all (length lines))) (Ok (record { vertex_count = n; triangles = ts })))) ≡ Ok m → length m.triangles ≤ k
body_mesh n all lines (Err fault) m k h e = absurd cc
body_mesh n all lines (Ok ts) m k h e = whole (nat_lt (length lines) all) n (ShortMesh all (length lines)) ts m k (h ts refl) e

filter_few : {X : Type 0} (p : X → Bool) (xs : List X) → length (filter p xs) ≤ length xs
filter_few p xs = let e : length (filter p xs) ≡ count_by p xs = length-filter p xs in let f = count_by-le-length p xs in omega (arith, e, f)

few_in_body : (n before count all : ℕ) (lines : List (ℕ × List (List ℕ))) (m : Mesh) → plys.body_of n before count all lines ≡ Ok m → length m.triangles ≤ length lines
few_in_body n before count all lines m e =
    let taken = take count (drop before lines) in
    let d : length (drop before lines) ≡ length lines - before = length-drop before lines in
    let t : length taken ≡ min count (length (drop before lines)) = length-take count (drop before lines) in
    let g : length (map (plys.face_of n) taken) ≡ length taken = length-map taken (plys.face_of n) in
    body_mesh n all lines (all_or_first (map (plys.face_of n) taken)) m (length lines) (λ ts same. let a = all_few (map (plys.face_of n) taken) ts same in omega (arith, d, t, g, a)) e

few_unless : (fault : Option MeshFault) (r : Result Mesh MeshFault) (m : Mesh) → unless_fault fault r ≡ Ok m → r ≡ Ok m
few_unless None r m e = e
few_unless (Some fault) r m e = absurd cc

few_in_lines : (lines : List (List (List ℕ))) (heads : List plys.Heading) (m : Mesh) → plys.lines_mesh lines heads ≡ Ok m → length m.triangles ≤ length lines
few_in_lines lines heads m e =
    let ended = length (plys.up_to_end heads) in
    let body = drop ended lines in
    let count = plys.numbered (ended + 2) body in
    let b : length body ≡ length lines - ended = length-drop ended lines in
    let z : length count ≡ min (length (range_with_len (ended + 2) (length body))) (length body) = length-zip (range_with_len (ended + 2) (length body)) body in
    let f : length (plys.with_words count) ≤ length count = filter_few (λ (l : ℕ × List (List ℕ)). plys.has_words l.1) count in
    let es = plys.elements (plys.up_to_end heads) in
    let h = few_in_body (plys.count_of plys.is_vertex es) (plys.before_faces es) (plys.count_of plys.is_face es) (plys.total es) (plys.with_words count) m (few_unless (plys.header_fault heads) _ m e) in
    omega (arith, b, z, f, h)

few_by : (b : Bool) (texts : List (List ℕ)) (m : Mesh) → cond b (plys.lines_mesh (map words_of texts) (map plys.heading_of (map words_of texts))) (Err NotMesh) ≡ Ok m → length m.triangles ≤ length texts
few_by false texts m e = absurd cc
few_by true texts m e = let w : length (map words_of texts) ≡ length texts = length-map texts words_of in let h = few_in_lines (map words_of texts) (map plys.heading_of (map words_of texts)) m e in omega (arith, w, h)

few_by_texts : (texts : List (List ℕ)) (m : Mesh) → plys.by_texts texts ≡ Ok m → length m.triangles ≤ length texts
few_by_texts [] m e = absurd cc
few_by_texts (first ∷ texts) m e = let h = few_by (plys.is_ply first) texts m e in omega (arith, h)

pub few_in_ply : (bytes : List ℕ) (m : Mesh) → plys.ply_of bytes ≡ Ok m → length m.triangles ≤ length bytes
few_in_ply bytes m e = let h = few_by_texts (texts_of bytes) m e in let t = few_texts bytes in omega (arith, h, t)

pub few_in_mesh : (format : TwoWayFormat) (bytes : List ℕ) (m : Mesh) → mesh_in format bytes ≡ Ok m → length bytes ≤ 1073741824 → length m.triangles ≤ 1073741824
few_in_mesh Ply bytes m e l = let f = few_in_ply bytes m e in omega (arith, f, l)
few_in_mesh Obj bytes m e l = let f = few_in_obj bytes m e in omega (arith, f, l)
