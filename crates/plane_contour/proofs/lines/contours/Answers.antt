use Rattle.std.proofs.Common.{◌≡◌, ℕ, ◌+◌, ◌*◌, ◌<◌, ◌≤◌, ◌-◌, pos, Bool, false, sym, ap, ◌∙◌, subst, arith, get_or, length, map, List, [], ◌∷◌, ◌++◌, Some, None, replicate}
use Rattle.std.proofs.lemmas.List.{get_or-replicate}
use Rattle.iso_base.specs.Volume.{shifted, IsGrid}
use Rattle.plane_laws.proofs.Scan.{covered}
use Rattle.plane_laws.specs.Sides.{slot_name}
use Rattle.plane_laws.proofs.Slots.{lines_start, lines_end}
use Rattle.plane_laws.proofs.SameField.{same_lines}
use Rattle.plane_contour.specs.declared.plane.Plane.{Plane}
use Rattle.plane_contour.specs.Planes.{IsPlane, field_of, plane_size}
use Rattle.plane_contour.specs.Texts.{point_at}
use Rattle.plane_contour.specs.Drawn.{IsLineMet, drawn}
use Rattle.plane_contour.proofs.Scanned.{met_before, passed, grown, more_marked, same_points, written_back}
use Rattle.plane_contour.proofs.lines.contours.Goals as goal
use Rattle.plane_contour.proofs.lines.contours.Goals.{in-Some+in_ok-push, in_default}

pub loop-number-init : goal.loop-number-init
loop-number-init c =
    let p : Plane = record { values = c.args.values; sizes = c.args.sizes.now; k = c.args.k; level = c.args.level } in
    let deep : 0 < c.args.sizes.now.nz = let h = c.requires.plane in omega arith in
    let none : met_before p 0 ≡ [] = lines_start c.args.sizes.now (field_of p) c.args.k deep in
    let count : 2 * (c.nx.result * c.ny.result) ≡ 2 * plane_size c.args.sizes.now
    = ap (λ n. 2 * (n * c.ny.result)) c.nx.ensures.value ∙ ap (λ n. 2 * (c.args.sizes.now.nx * n)) c.ny.ensures.value in
    let none_marked : c.in_ok-seen.seen.items ≡ replicate (2 * (c.nx.result * c.ny.result)) false = c.in_ok-seen.ensures.items_if_clones_equal (λ y e. e) in
    record {
      count = c.in_ok-seen.ensures.len ∙ count;
      lines = c.new-lines.ensures.items ∙ ap (map (drawn c.args.sizes.now (field_of p))) (sym none);
      marks = λ t h. ap (λ l. get_or l t false) none_marked ∙ get_or-replicate (2 * (c.nx.result * c.ny.result)) t false false (subst (λ n. t < n) (sym count) h) ∙ ap (λ l. covered l (slot_name c.args.sizes.now c.args.k t)) (sym none);
    }

pub loop-number-preserved : goal.loop-number-preserved
loop-number-preserved c =
    let p : Plane = record { values = c.args.values; sizes = c.args.sizes.now; k = c.args.k; level = c.args.level } in
    let grid : IsGrid c.args.sizes.now = c.nx.ensures.grid in
    let is : IsPlane p = record { grid = grid; count = c.requires.count; samples = c.requires.samples; within = c.requires.plane } in
    let met : IsLineMet p c.loop-number.number c.loop-number.seen.items c.line_at.new.seen c.in_ok-line.field-0
    = subst (λ l. IsLineMet p c.loop-number.number l c.line_at.new.seen c.in_ok-line.field-0) c.deref_mut.ensures.value c.in_ok-line.ensures in
    let old_size : length c.loop-number.seen.items ≡ 2 * plane_size c.args.sizes.now
    = sym (ap (λ (l : List Bool). length l) c.deref_mut.ensures.value) ∙ (c.deref_mut.ensures.len ∙ c.loop-number.invariant.count) in
    let size : length c.line_at.new.seen ≡ c.loop-number.seen.len = c.line_at.auto.seen ∙ c.deref_mut.ensures.len in
    let inside : c.loop-number.number < 2 * plane_size c.args.sizes.now
    = subst (λ n. c.loop-number.number < n) (ap (λ n. 2 * (n * c.ny.result)) c.nx.ensures.value ∙ ap (λ n. 2 * (c.args.sizes.now.nx * n)) c.ny.ensures.value) c.loop-number-test.true in
    let marked : get_or c.loop-number.seen.items c.loop-number.number false ≡ covered (met_before p c.loop-number.number) (slot_name c.args.sizes.now c.args.k c.loop-number.number)
    = c.loop-number.invariant.marks c.loop-number.number inside in
    elim c.match-branch-3.branch [
      | in-Some+in_ok-push w ↦ (
          let found : IsLineMet p c.loop-number.number c.loop-number.seen.items c.line_at.new.seen (Some w.in-Some.line)
          = subst (IsLineMet p c.loop-number.number c.loop-number.seen.items c.line_at.new.seen) w.in-Some.is met in
          let pushed : c.match-branch-3.lines.items ≡ c.loop-number.lines.items ++ w.in-Some.line ∷ [] = ap (λ z. z.items) w.lines-is ∙ w.in_ok-push.ensures.items in
          record {
            count = c.loop-number.invariant.count;
            lines = pushed ∙ (ap (λ l. l ++ w.in-Some.line ∷ []) c.loop-number.invariant.lines ∙ sym (grown p is c.loop-number.number c.loop-number.seen.items c.line_at.new.seen w.in-Some.line found marked));
            marks = λ t h. written_back c.loop-number.seen.len c.loop-number.seen.items c.line_at.new.seen t size
                ∙ more_marked p is c.loop-number.number c.loop-number.seen.items c.line_at.new.seen w.in-Some.line t found marked (subst (λ n. t < n) (sym old_size) h) (c.loop-number.invariant.marks t h);
          })
      | in_default w ↦ (
          let none : IsLineMet p c.loop-number.number c.loop-number.seen.items c.line_at.new.seen None
          = subst (IsLineMet p c.loop-number.number c.loop-number.seen.items c.line_at.new.seen) w.in_default.is met in
          let same : met_before p (c.loop-number.number + 1) ≡ met_before p c.loop-number.number = passed p is c.loop-number.number c.loop-number.seen.items c.line_at.new.seen none marked in
          record {
            count = c.loop-number.invariant.count;
            lines = ap (λ z. z.items) w.lines-is ∙ (c.loop-number.invariant.lines ∙ ap (map (drawn c.args.sizes.now (field_of p))) (sym same));
            marks = λ t h. written_back c.loop-number.seen.len c.loop-number.seen.items c.line_at.new.seen t size
                ∙ (ap (λ (l : List Bool). get_or l t false) none.0 ∙ (c.loop-number.invariant.marks t h ∙ ap (λ l. covered l (slot_name c.args.sizes.now c.args.k t)) (sym same)));
          })
    ]

pub returns : goal.returns
returns c = λ s has.
    let p : Plane = record { values = c.args.values; sizes = c.args.sizes.now; k = c.args.k; level = c.args.level } in
    let deep : 0 < c.args.sizes.now.nz = let h = c.requires.plane in omega arith in
    let stop : c.loop-number.number ≡ 2 * plane_size c.args.sizes.now
    = (let high : c.loop-number.number ≤ 2 * (c.nx.result * c.ny.result) = c.loop-number.auto.number-end in
    let low = c.loop-number-test.false in
    let m : c.loop-number.number ≡ 2 * (c.nx.result * c.ny.result) = omega arith in
    m ∙ (ap (λ n. 2 * (n * c.ny.result)) c.nx.ensures.value ∙ ap (λ n. 2 * (c.args.sizes.now.nx * n)) c.ny.ensures.value)) in
    let agree : (q : ℕ) → q < plane_size c.args.sizes.now → field_of p (c.args.k * plane_size c.args.sizes.now + q) ≡ s (c.args.k * plane_size c.args.sizes.now + q)
    = λ q h. (let e : c.args.k * plane_size c.args.sizes.now + q - c.args.k * plane_size c.args.sizes.now ≡ q = omega arith in
    ap (λ n. shifted (get_or c.args.values.now n (pos 0)) c.args.level) e ∙ sym (has q h)) in
    c.new.ensures
    ∙ (c.loop-number.invariant.lines
    ∙ (ap (λ t. map (drawn c.args.sizes.now (field_of p)) (met_before p t)) stop
    ∙ (ap (map (drawn c.args.sizes.now (field_of p))) (lines_end c.args.sizes.now (field_of p) c.args.k deep c.requires.plane)
    ∙ same_lines c.args.sizes.now (field_of p) s c.args.k deep agree (point_at c.args.sizes.now (field_of p)) (point_at c.args.sizes.now s) (λ e a b. same_points c.args.sizes.now (field_of p) s e a b))))
