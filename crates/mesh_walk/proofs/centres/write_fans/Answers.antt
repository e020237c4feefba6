use Rattle.std.proofs.Common.{◌≡◌, ◌+◌, ◌*◌, ◌<◌, ◌≤◌, ◌∙◌, ◌++◌, ℕ, zero, suc, List, [], ◌∷◌, ap, arith, get_or, length, subst, sym, take}
use Rattle.std.proofs.lemmas.List.{take_all}
use Rattle.std.proofs.lemmas.Result.{err_from_is_err_and}
use Rattle.flat_mesh.specs.Centres.{IsCellAt, cell_place}
use Rattle.flat_mesh.specs.declared.centres.Cell.{Cell}
use Rattle.flat_mesh.specs.Lattice.{Leveled}
use Rattle.flat_mesh.specs.Rows.{row_start}
use Rattle.mesh_lines.specs.Lines.{vertex_line}
use Rattle.mesh_walk.specs.Fans.{row_fans}
use Rattle.mesh_walk.specs.declared.centres.RowFan.{RowFan}
use Rattle.mesh_walk.proofs.Adding.{adds_as, adds_behind, adds_both, adds_front, adds_none, behind_as}
use Rattle.mesh_walk.proofs.CentreLines.{centre_at}
use Rattle.mesh_walk.proofs.FanLines.{cut_lines, fan_count, fan_lines, listed, no_fan_lines, one_fan_line, row_lines}
use Rattle.mesh_walk.proofs.FanSums.{count_is}
use Rattle.mesh_walk.proofs.PlaceSlots.{placed}
use Rattle.mesh_walk.specs.Slots.{row_slot}
use Rattle.mesh_walk.proofs.centres.write_fans.Goals as goal

abbrev none : RowFan
none = record { x = 0; fan = 0 }

-- the rows round it begin within the slots
few_slots : (y z row : ℕ) → row < 4 → get_or (row_slot y z ∷ row_slot (y + 1) z ∷ row_slot y (z + 1) ∷ row_slot (y + 1) (z + 1) ∷ []) row 0 ≤ 9234
few_slots y z zero low = omega arith
few_slots y z (suc zero) low = omega arith
few_slots y z (suc (suc zero)) low = omega arith
few_slots y z (suc (suc (suc zero))) low = omega arith
few_slots y z (suc (suc (suc (suc row)))) low = absurd (omega (arith, low))

-- the cell of a row
abbrev cell_at : Leveled → ℕ → ℕ → ℕ → Cell
cell_at v y z x = record { index = row_start v.grid y z + x; low = record { x = x; y = y; z = z } }

is_cell_at : (v : Leveled) (y z x : ℕ) → x + 1 < v.grid.nx → y + 1 < v.grid.ny → z + 1 < v.grid.nz → IsCellAt v.grid (cell_at v y z x)
is_cell_at v y z x hx hy hz = record { index = omega arith; x = hx; y = hy; z = hz }

pub loop-k-init : goal.loop-k-init
loop-k-init g c =
    let v = g.H.Heights.leveled c.args.field.now in
    let texts = c.args.row.texts.now in
    let start = row_start v.grid texts.y texts.z in
    record {
      adds = adds_as _ _ _ _ _ _ _ (no_fan_lines texts.style v start (row_fans v start v.grid.nx)) (adds_none _ c.args.block.now tt);
      bytes = omega arith;
    }

pub returns-in_err-reserve-clause-adds : goal.returns-in_err-reserve-clause-adds
returns-in_err-reserve-clause-adds g c =
    let v = g.H.Heights.leveled c.args.field.now in
    let texts = c.args.row.texts.now in
    let start = row_start v.grid texts.y texts.z in
    let p = err_from_is_err_and c.from_residual.result c.from_residual.ensures.1 in
    let done = fan_lines texts.style v start (take c.loop-k.k (row_fans v start v.grid.nx)) in
    rw p.1 (adds_front _ _ _ _ _ _ _ (done ++ []) _ _ (sym (row_lines texts.style v start v.grid.nx) ∙ cut_lines texts.style v start c.loop-k.k (row_fans v start v.grid.nx))
    (adds_both _ _ _ _ _ _ _ _ done [] c.loop-k.invariant.adds c.in_err-reserve.ensures.put))

pub centre-at-requires-clause-room : goal.centre-at-requires-clause-room
centre-at-requires-clause-room g c row low =
    let v = g.H.Heights.leveled c.args.field.now in
    let texts = c.args.row.texts.now in
    let here = listed v texts.y texts.z c.requires.y c.requires.z c.args.fans.now c.requires.fans c.loop-k.k none c.loop-k-test.true in
    let slot : get_or c.args.row.rows row 0 ≤ 9234 = subst (λ (l : List ℕ). get_or l row 0 ≤ 9234) (sym c.requires.places.rows_are) (few_slots texts.y texts.z row low) in
    omega (arith, slot, here.x, here.good.x, c.sizes.ensures.leveled.grid.x.most)

pub centre-at-requires-clause-some : goal.centre-at-requires-clause-some
centre-at-requires-clause-some g c =
    let v = g.H.Heights.leveled c.args.field.now in
    let texts = c.args.row.texts.now in
    let here = listed v texts.y texts.z c.requires.y c.requires.z c.args.fans.now c.requires.fans c.loop-k.k none c.loop-k-test.true in
    omega (arith, count_is _ c.fan_numbers.result.now (c.fan_numbers.ensures ∙ here.numbers), here.good.shape.least)

pub centre-at-requires-clause-few : goal.centre-at-requires-clause-few
centre-at-requires-clause-few g c =
    let v = g.H.Heights.leveled c.args.field.now in
    let texts = c.args.row.texts.now in
    let here = listed v texts.y texts.z c.requires.y c.requires.z c.args.fans.now c.requires.fans c.loop-k.k none c.loop-k-test.true in
    omega (arith, count_is _ c.fan_numbers.result.now (c.fan_numbers.ensures ∙ here.numbers), here.good.shape.most)

pub push_centre-requires-clause-x : goal.push_centre-requires-clause-x
push_centre-requires-clause-x g c =
    let v = g.H.Heights.leveled c.args.field.now in
    let texts = c.args.row.texts.now in
    let here = listed v texts.y texts.z c.requires.y c.requires.z c.args.fans.now c.requires.fans c.loop-k.k none c.loop-k-test.true in
    omega (arith, c.from.ensures, here.x, here.good.x, c.requires.width)

pub push_centre-requires-clause-at : goal.push_centre-requires-clause-at
push_centre-requires-clause-at g c =
    let v = g.H.Heights.leveled c.args.field.now in
    let texts = c.args.row.texts.now in
    let start = row_start v.grid texts.y texts.z in
    let here = listed v texts.y texts.z c.requires.y c.requires.z c.args.fans.now c.requires.fans c.loop-k.k none c.loop-k-test.true in
    let l = get_or (row_fans v start v.grid.nx) c.loop-k.k (0, []) in
    let cell = cell_at v texts.y texts.z l.0 in
    let is = is_cell_at v texts.y texts.z l.0 here.good.x c.requires.y c.requires.z in
    let at : 3 * (get_or c.args.fans.now c.loop-k.k none).x ≡ 3 * l.0 = omega (arith, here.x) in
    (c.centre-at.ensures (cell_place v cell.index) l.1 (c.fan_numbers.ensures ∙ here.numbers) (placed v cell is c.args.row.places.now.places c.args.row.rows l.1 _ c.requires.places at here.good.shape here.good.crossing)).few

pub loop-k-preserved : goal.loop-k-preserved
loop-k-preserved g c =
    let v = g.H.Heights.leveled c.args.field.now in
    let texts = c.args.row.texts.now in
    let start = row_start v.grid texts.y texts.z in
    let fans = c.args.fans.now in
    let are = c.requires.fans in
    let k = c.loop-k.k in
    let here = listed v texts.y texts.z c.requires.y c.requires.z fans are k none c.loop-k-test.true in
    let rows = row_fans v start v.grid.nx in
    let l = get_or rows k (0, []) in
    let cell = cell_at v texts.y texts.z l.0 in
    let is = is_cell_at v texts.y texts.z l.0 here.good.x c.requires.y c.requires.z in
    let at : 3 * (get_or fans k none).x ≡ 3 * l.0 = omega (arith, here.x) in
    let centre = c.centre-at.ensures (cell_place v cell.index) l.1 (c.fan_numbers.ensures ∙ here.numbers) (placed v cell is c.args.row.places.now.places c.args.row.rows l.1 _ c.requires.places at here.good.shape here.good.crossing) in
    let x = get_or c.centre-at.result 0 0 in
    let y = get_or c.centre-at.result 1 0 in
    let z = get_or c.centre-at.result 2 0 in
    let line = ap (λ m. vertex_line texts.style (0, (1000 * m + x, 1000 * texts.y + y, 1000 * texts.z + z))) (c.from.ensures ∙ here.x)
    ∙ centre_at v cell is texts.style 0 x y z l.1 (let least = here.good.shape.least in omega (arith, least)) here.good.shape.low centre.x centre.y centre.z in
    let within : k < length rows = omega (arith, fan_count v texts.y texts.z c.requires.y c.requires.z fans are, c.loop-k-test.true) in
    record {
      adds = adds_as _ _ _ _ _ _ _ (sym (one_fan_line texts.style v start k rows within))
          (adds_both _ _ _ _ _ _ _ _ (fan_lines texts.style v start (take k rows)) _ c.loop-k.invariant.adds
          (adds_both _ _ _ _ _ _ _ _ [] _ c.in_ok-reserve.ensures.put (adds_behind _ _ _ tt _ (behind_as _ _ _ _ line c.push_centre.ensures.put))));
      bytes = omega (arith, c.push_centre.ensures.bytes, c.in_ok-reserve.ensures.bytes, c.loop-k.invariant.bytes);
    }

pub returns-clause-adds : goal.returns-clause-adds
returns-clause-adds g c =
    let v = g.H.Heights.leveled c.args.field.now in
    let texts = c.args.row.texts.now in
    let start = row_start v.grid texts.y texts.z in
    let rows = row_fans v start v.grid.nx in
    let all = take_all c.loop-k.k rows (omega (arith, fan_count v texts.y texts.z c.requires.y c.requires.z c.args.fans.now c.requires.fans, c.loop-k-test.false)) in
    adds_as _ _ _ _ _ _ _ (ap (fan_lines texts.style v start) all ∙ row_lines texts.style v start v.grid.nx) c.loop-k.invariant.adds
