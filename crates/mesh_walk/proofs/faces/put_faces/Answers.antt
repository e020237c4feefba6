use Rattle.std.proofs.Common.{◌≡◌, ◌+◌, ◌*◌, ◌≤◌, ◌++◌, [], ◌∙◌, ap, sym, arith, append-nil, length, get_or, take, drop}
use Rattle.std.proofs.lemmas.List.{take-append-drop, take_all}
use Rattle.std.proofs.lemmas.Result.{err_from_is_err_and}
use Rattle.mesh_text.specs.Numbers.{text_at}
use Rattle.mesh_walk.specs.Spans.{face_lines}
use Rattle.mesh_walk.proofs.Adding.{adds_as, adds_behind, adds_both, adds_front, adds_none}
use Rattle.mesh_walk.proofs.FaceLines.{lines_append, lines_none, texts_put}
use Rattle.mesh_walk.proofs.RowFaces.{corner_at, faces_count, taken_more}
use Rattle.mesh_walk.proofs.faces.put_faces.Goals as goal

pub loop-i-init : goal.loop-i-init
loop-i-init g c = record {
  adds = λ faces three same. adds_as _ _ _ _ _ _ _ (sym (lines_none c.args.style.format)) (adds_none _ c.args.block.now tt);
  bytes = omega arith;
}

pub returns-in_err-reserve-clause-adds : goal.returns-in_err-reserve-clause-adds
returns-in_err-reserve-clause-adds g c = λ faces three same.
    let p = err_from_is_err_and c.from_residual.result c.from_residual.ensures.1 in
    let i = c.loop-i.i in
    let format = c.args.style.format in
    let parts : face_lines format faces ≡ (face_lines format (take i faces) ++ []) ++ face_lines format (drop i faces)
    = ap (face_lines format) (sym (take-append-drop i faces)) ∙ (lines_append format (take i faces) (drop i faces) ∙ ap (λ l. l ++ face_lines format (drop i faces)) (sym (append-nil (face_lines format (take i faces))))) in
    rw p.1 (adds_front _ _ _ _ _ _ _ _ _ _ parts (adds_both _ _ _ _ _ _ _ _ _ _ (c.loop-i.invariant.adds faces three same) c.in_err-reserve.ensures.put))

pub loop-i-preserved : goal.loop-i-preserved
loop-i-preserved g c =
    let slots = c.args.slots.now in
    let texts = c.args.texts.now in
    let i = c.loop-i.i in
    let format = c.args.style.format in
    record {
      adds = λ faces three same.
          let count = faces_count texts format slots faces three same in
          let low : i + 1 ≤ length faces = omega (arith, c.loop-i-test.true, count) in
          let corner = corner_at texts format slots faces three same i low in
          let start : 3 * i ≡ 3 * i + 0 = omega arith in
          let one = texts_put format _ _ _ _ _ (get_or (get_or faces i []) 0 0) (get_or (get_or faces i []) 1 0) (get_or (get_or faces i []) 2 0)
          (c.text_of-a.ensures.text ∙ (ap (λ k. text_at texts (get_or slots k 0)) start ∙ corner 0 (omega arith))) (c.text_of-b.ensures.text ∙ corner 1 (omega arith)) (c.text_of-c.ensures.text ∙ corner 2 (omega arith)) c.push_texts.ensures.put in
          adds_as _ _ _ _ _ _ _
          (sym (ap (face_lines format) (taken_more faces three i low) ∙ lines_append format (take i faces) _))
          (adds_both _ _ _ _ _ _ _ _ _ _ (c.loop-i.invariant.adds faces three same) (adds_both _ _ _ _ _ _ _ _ [] _ c.in_ok-reserve.ensures.put (adds_behind _ _ _ tt _ one)));
      bytes = omega (arith, c.loop-i.invariant.bytes, c.in_ok-reserve.ensures.bytes, c.push_texts.ensures.bytes);
    }

pub returns-clause-adds : goal.returns-clause-adds
returns-clause-adds g c = λ faces three same.
    let count = faces_count c.args.texts.now c.args.style.format c.args.slots.now faces three same in
    let all : length faces ≤ c.loop-i.i = omega (arith, c.loop-i-test.false, count) in
    adds_as _ _ _ _ _ _ _ (ap (face_lines c.args.style.format) (take_all c.loop-i.i faces all)) (c.loop-i.invariant.adds faces three same)
