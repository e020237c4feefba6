use Rattle.std.proofs.Common.{◌++◌, ◌∙◌, [], ap, sym, append_assoc, refl}
use Rattle.std.proofs.lemmas.List.{append-nil}
use Rattle.std.proofs.lemmas.Result.{err_from_is_err_and}
use Rattle.flat_mesh.specs.Lattice.{Leveled}
use Rattle.mesh_lines.specs.Lines.{middle_of}
use Rattle.mesh_walk.specs.Spans.{lines_text, own_numbers, owned_centres_text, owned_edges_text, owned_faces_text}
use Rattle.mesh_walk.proofs.Adding.{adds_as, adds_both, adds_front}
use Rattle.mesh_walk.proofs.write.write_lines.Goals as goal

pub returns-in_err-write_edges-clause-adds : goal.returns-in_err-write_edges-clause-adds
returns-in_err-write_edges-clause-adds g c =
    let v = g.R.Heights.leveled c.args.rows.now in
    let style = c.args.walk.style in
    let es = owned_edges_text style v v.grid.nz in
    let cs = owned_centres_text style v v.grid.nz in
    let ms = middle_of style.format c.args.faces in
    let fs = owned_faces_text style.format (own_numbers v) v v.grid.nz in
    let p = err_from_is_err_and c.from_residual.result c.from_residual.ensures.1 in
    rw p.1 (adds_front _ _ _ _ _ _ _ es (cs ++ (ms ++ fs)) _ refl (adds_as _ _ _ _ _ _ _ (ap (owned_edges_text style v) c.requires.whole.slices_are) c.in_err-write_edges.ensures.adds))

pub returns-in_err-write_centres-clause-adds : goal.returns-in_err-write_centres-clause-adds
returns-in_err-write_centres-clause-adds g c =
    let v = g.R.Heights.leveled c.args.rows.now in
    let style = c.args.walk.style in
    let es = owned_edges_text style v v.grid.nz in
    let cs = owned_centres_text style v v.grid.nz in
    let ms = middle_of style.format c.args.faces in
    let fs = owned_faces_text style.format (own_numbers v) v v.grid.nz in
    let centres = adds_as _ _ _ _ _ _ _ (ap (λ (v : Leveled). owned_centres_text style v c.args.walk.slices) c.in_ok-write_edges.ensures.volume ∙ ap (owned_centres_text style v) c.requires.whole.slices_are) c.in_err-write_centres.ensures.adds in
    let p = err_from_is_err_and c.from_residual-in_err-write_centres.result c.from_residual-in_err-write_centres.ensures.1 in
    rw p.1 (adds_front _ _ _ _ _ _ _ (es ++ cs) (ms ++ fs) _ (sym (append_assoc es cs (ms ++ fs))) (adds_both _ _ _ _ _ _ _ _ es cs (adds_as _ _ _ _ _ _ _ (ap (owned_edges_text style v) c.requires.whole.slices_are) c.in_ok-write_edges.ensures.adds) centres))

pub returns-in_err-write_middle-clause-adds : goal.returns-in_err-write_middle-clause-adds
returns-in_err-write_middle-clause-adds g c =
    let v = g.R.Heights.leveled c.args.rows.now in
    let style = c.args.walk.style in
    let es = owned_edges_text style v v.grid.nz in
    let cs = owned_centres_text style v v.grid.nz in
    let ms = middle_of style.format c.args.faces in
    let fs = owned_faces_text style.format (own_numbers v) v v.grid.nz in
    let centres = adds_as _ _ _ _ _ _ _ (ap (λ (v : Leveled). owned_centres_text style v c.args.walk.slices) c.in_ok-write_edges.ensures.volume ∙ ap (owned_centres_text style v) c.requires.whole.slices_are) c.in_ok-write_centres.ensures.adds in
    let p = err_from_is_err_and c.from_residual-in_err-write_middle.result c.from_residual-in_err-write_middle.ensures.1 in
    let parts = ap (λ l. es ++ l) (sym (append_assoc cs ms fs)) ∙ sym (append_assoc es (cs ++ ms) fs) in
    rw p.1 (adds_front _ _ _ _ _ _ _ (es ++ (cs ++ ms)) fs _ parts
    (adds_both _ _ _ _ _ _ _ _ es (cs ++ ms) (adds_as _ _ _ _ _ _ _ (ap (owned_edges_text style v) c.requires.whole.slices_are) c.in_ok-write_edges.ensures.adds) (adds_both _ _ _ _ _ _ _ _ cs ms centres c.in_err-write_middle.ensures.put)))

pub returns-in_err-write_faces-clause-adds : goal.returns-in_err-write_faces-clause-adds
returns-in_err-write_faces-clause-adds g c =
    let v = g.R.Heights.leveled c.args.rows.now in
    let style = c.args.walk.style in
    let es = owned_edges_text style v v.grid.nz in
    let cs = owned_centres_text style v v.grid.nz in
    let ms = middle_of style.format c.args.faces in
    let fs = owned_faces_text style.format (own_numbers v) v v.grid.nz in
    let centres = adds_as _ _ _ _ _ _ _ (ap (λ (v : Leveled). owned_centres_text style v c.args.walk.slices) c.in_ok-write_edges.ensures.volume ∙ ap (owned_centres_text style v) c.requires.whole.slices_are) c.in_ok-write_centres.ensures.adds in
    let same = c.in_ok-write_centres.ensures.volume ∙ c.in_ok-write_edges.ensures.volume in
    let faces = adds_as _ _ _ _ _ _ _ (ap (λ (v : Leveled). owned_faces_text style.format c.args.walk.numbers v c.args.walk.slices) same ∙ (ap (λ n. owned_faces_text style.format n v c.args.walk.slices) c.requires.whole.numbers_are ∙ ap (owned_faces_text style.format (own_numbers v) v) c.requires.whole.slices_are)) c.in_err-write_faces.ensures.adds in
    let all = lines_text style v c.args.faces in
    let p = err_from_is_err_and c.from_residual-in_err-write_faces.result c.from_residual-in_err-write_faces.ensures.1 in
    rw p.1 (adds_front _ _ _ _ _ _ _ all [] _ (sym (append-nil all))
    (adds_both _ _ _ _ _ _ _ _ es (cs ++ (ms ++ fs)) (adds_as _ _ _ _ _ _ _ (ap (owned_edges_text style v) c.requires.whole.slices_are) c.in_ok-write_edges.ensures.adds)
    (adds_both _ _ _ _ _ _ _ _ cs (ms ++ fs) centres (adds_both _ _ _ _ _ _ _ _ ms fs c.in_ok-write_middle.ensures.put faces))))

pub returns-clause-adds : goal.returns-clause-adds
returns-clause-adds g c =
    let v = g.R.Heights.leveled c.args.rows.now in
    let style = c.args.walk.style in
    let es = owned_edges_text style v v.grid.nz in
    let cs = owned_centres_text style v v.grid.nz in
    let ms = middle_of style.format c.args.faces in
    let fs = owned_faces_text style.format (own_numbers v) v v.grid.nz in
    let centres = adds_as _ _ _ _ _ _ _ (ap (λ (v : Leveled). owned_centres_text style v c.args.walk.slices) c.in_ok-write_edges.ensures.volume ∙ ap (owned_centres_text style v) c.requires.whole.slices_are) c.in_ok-write_centres.ensures.adds in
    let same = c.in_ok-write_centres.ensures.volume ∙ c.in_ok-write_edges.ensures.volume in
    let faces = adds_as _ _ _ _ _ _ _ (ap (λ (v : Leveled). owned_faces_text style.format c.args.walk.numbers v c.args.walk.slices) same ∙ (ap (λ n. owned_faces_text style.format n v c.args.walk.slices) c.requires.whole.numbers_are ∙ ap (owned_faces_text style.format (own_numbers v) v) c.requires.whole.slices_are)) c.in_ok-write_faces.ensures.adds in
    adds_both _ _ _ _ _ _ _ _ es (cs ++ (ms ++ fs)) (adds_as _ _ _ _ _ _ _ (ap (owned_edges_text style v) c.requires.whole.slices_are) c.in_ok-write_edges.ensures.adds)
    (adds_both _ _ _ _ _ _ _ _ cs (ms ++ fs) centres (adds_both _ _ _ _ _ _ _ _ ms fs c.in_ok-write_middle.ensures.put faces))
