use Rattle.std.proofs.Common.{rules, Vec, Global, Bor, length, subst, ℕ, List, [], ◌∷◌, ◌++◌, All, ◌≡◌, ◌+◌, ◌<◌, Ok, ap, sym, ◌∙◌, arith}
use Rattle.iso_base.specs.Triangles.{Mesh}
use Rattle.mesh_read.specs.Corners.{IsInside}
use Rattle.text_lines.specs.Words.{words_of}
use Rattle.mesh_read.specs.Ply.{body_of}
use Rattle.mesh_read.proofs.AnswerLaws.{fails_with}
use Rattle.mesh_read.proofs.PlyBody.{now_short, now_done, no_word, a_word, outside, taken, refused, lines_from, more_inside, plain_taken, plain_passed}
use Rattle.mesh_read.proofs.body.read_body.Goals.{in-Some-next_word, in_default-next_word, then-is_face_line+in_ok-face+in_ok-push, else-is_face_line, then-is_face_line-2+in-Some-plain_face+in_ok-push-2, else-is_face_line-2+in-Some-behind_plain_line}
use Rattle.mesh_read.proofs.body.read_body.Goals as goal

pub returns-in_default : goal.returns-in_default
returns-in_default c = now_short c.args.vertices c.args.before c.args.faces c.args.needed c.loop-present.present c.loop-present.number c.loop-present.triangles.items c.loop-present.rest.now (lines_from c.args.first c.args.bytes.now) c.in_default.ensures.line (omega (arith, c.loop-present-test.true)) c.requires.parts c.loop-present.invariant.walked

pub returns-in_err-face : goal.returns-in_err-face
returns-in_err-face c =
    let fault = c.in_err-face.field-0.0 in
    let hi = c.args.before + c.args.faces in
    let words = words_of c.in-Some-next_word.words.now in
    let before = a_word c.args.vertices c.args.before hi c.args.needed c.loop-present.present c.loop-present.number c.loop-present.triangles.items c.loop-present.rest.now c.in-Some.text.now c.in-Some.after.now c.in-Some-next_word.word.now words _ c.in-Some.ensures.line c.in-Some-next_word.ensures c.loop-present.invariant.walked in
    let read = refused c.args.vertices c.args.before c.args.faces c.args.needed c.loop-present.present c.loop-present.number c.loop-present.triangles.items c.in-Some-next_word.word.now words c.in-Some.after.now fault (lines_from c.args.first c.args.bytes.now) c.requires.parts (omega (arith, c.loop-present-test.true)) (sym c.is_face_line.ensures ∙ c.if-is_face_line.true) (sym c.in_err-face.ensures.value) before in
    let fails = fails_with fault (body_of c.args.vertices c.args.before c.args.faces c.args.needed (lines_from c.args.first c.args.bytes.now)) read in
    grind (fails, rules)

pub returns : goal.returns
returns c = now_done c.args.vertices c.args.before c.args.faces c.args.needed c.loop-present.present c.loop-present.triangles.items (lines_from c.loop-present.number c.loop-present.rest.now) (lines_from c.args.first c.args.bytes.now) (omega (arith, c.loop-present-test.false)) c.requires.parts c.loop-present.invariant.walked ∙ ap (λ (m : Mesh). Ok m) (sym c.new.ensures)

pub plain-init : goal.plain-init
plain-init c =
    let n = c.args.vertices in
    let lo = c.args.before in
    let hi = c.args.before + c.args.faces in
    let all = c.args.needed in
    let i = c.loop-present.present in
    let k = c.loop-present.number in
    let done = c.loop-present.triangles.items in
    let after = c.in-Some.after.now in
    let lt : i < all = omega (arith, c.loop-present-test.true) in
    elim c.match-next_word.branch [
      | in-Some-next_word w ↦
          let word = w.in-Some-next_word.word.now in
          let words = words_of w.in-Some-next_word.words.now in
          let before = a_word n lo hi all i k done c.loop-present.rest.now c.in-Some.text.now after word words _ c.in-Some.ensures.line w.in-Some-next_word.ensures c.loop-present.invariant.walked in
          elim w.if-is_face_line.branch [
            | then-is_face_line+in_ok-face+in_ok-push v ↦
                let walked = taken n lo hi all i k done word words after v.in_ok-face.field-0 _ lt (sym w.is_face_line.ensures ∙ v.if-is_face_line.true) (sym v.in_ok-face.ensures.value) before in
                let items : c.match-next_word.triangles.items ≡ done ++ v.in_ok-face.field-0 ∷ [] = ap (λ (x : Vec (List ℕ) Global). x.items) (w.triangles-is ∙ v.triangles-is) ∙ v.in_ok-push.ensures.items in
                let next : c.match-next_word.present ≡ i + 1 = w.present-is in
                record { shorter = omega arith; read = record { walked = rw (items, next) walked; within = more_inside n done v.in_ok-face.field-0 _ items c.loop-present.invariant.within v.in_ok-face.ensures.inside; line = omega (arith, c.in-Some.ensures.shorter, c.loop-present.invariant.line) } }
            | else-is_face_line v ↦
                let walked = outside n lo hi all i k done word words after _ lt (sym w.is_face_line.ensures ∙ v.if-is_face_line.false) before in
                let items : c.match-next_word.triangles.items ≡ done = ap (λ (x : Vec (List ℕ) Global). x.items) (w.triangles-is ∙ v.triangles-is) in
                let next : c.match-next_word.present ≡ i + 1 = w.present-is in
                record { shorter = omega arith; read = record { walked = rw (items, next) walked; within = subst (λ (ts : List (List ℕ)). All (IsInside n) ts) (sym items) c.loop-present.invariant.within; line = omega (arith, c.in-Some.ensures.shorter, c.loop-present.invariant.line) } }
          ]
      | in_default-next_word w ↦
          let walked = no_word n lo hi all i k done c.loop-present.rest.now c.in-Some.text.now after _ c.in-Some.ensures.line w.in_default-next_word.ensures c.loop-present.invariant.walked in
          let items : c.match-next_word.triangles.items ≡ done = ap (λ (x : Vec (List ℕ) Global). x.items) w.triangles-is in
          let next : c.match-next_word.present ≡ i = w.present-is in
          record { shorter = omega arith; read = record { walked = rw (items, next) walked; within = subst (λ (ts : List (List ℕ)). All (IsInside n) ts) (sym items) c.loop-present.invariant.within; line = omega (arith, c.in-Some.ensures.shorter, c.loop-present.invariant.line) } }
    ]

pub plain-preserved : goal.plain-preserved
plain-preserved c =
    let n = c.args.vertices in
    let lo = c.args.before in
    let all = c.args.needed in
    let bytes = c.args.bytes.now in
    let i = c.plain.present in
    let k = c.plain.number in
    let done = c.plain.triangles.items in
    let rest = c.plain.rest.now in
    let left = c.if-is_face_line-2.behind.now in
    let more = c.if-is_face_line-2.triangles.items in
    let lt : i < all = omega (arith, c.plain-test.true) in
    elim c.if-is_face_line-2.branch [
      | then-is_face_line-2+in-Some-plain_face+in_ok-push-2 w ↦
          let face = w.in-Some-plain_face.line in
          let said = w.in-Some-plain_face.ensures in
          let items : more ≡ done ++ face.0 ∷ [] = ap (λ (x : Vec (List ℕ) Global). x.items) w.triangles-is ∙ w.in_ok-push-2.ensures.items in
          let same : left ≡ face.1.now = ap (λ (b : Bor (List ℕ)). b.now) w.behind-is in
          let is = sym c.is_face_line-in-plain.ensures ∙ w.if-is_face_line-2.true in
          record {
            read = plain_taken n lo c.args.faces all c.args.first bytes i k done rest face.0 face.1.now left more lt is said.face said.inside said.shorter items same c.plain.invariant.read;
            shorter = omega (arith, said.shorter, c.plain.invariant.shorter, ap length same);
          }
      | else-is_face_line-2+in-Some-behind_plain_line w ↦
          let after = w.in-Some-behind_plain_line.behind.now in
          let said = w.in-Some-behind_plain_line.ensures in
          let items : more ≡ done = ap (λ (x : Vec (List ℕ) Global). x.items) w.triangles-is in
          let same : left ≡ after = ap (λ (b : Bor (List ℕ)). b.now) w.behind-is in
          let is = sym c.is_face_line-in-plain.ensures ∙ w.if-is_face_line-2.false in
          record {
            read = plain_passed n lo c.args.faces all c.args.first bytes i k done rest after left more lt is said.line said.shorter items same c.plain.invariant.read;
            shorter = omega (arith, said.shorter, c.plain.invariant.shorter, ap length same);
          }
    ]
