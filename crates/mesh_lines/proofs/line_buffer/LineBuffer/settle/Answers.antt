use Rattle.std.proofs.Common.{◌≡◌, ◌+◌, ◌-◌, sym, ap, length, take, drop, arith}
use Rattle.std.proofs.lemmas.List.{length-drop, length-take}
use Rattle.std.proofs.lemmas.Result.{err_from_is_err_and}
use Rattle.mesh_lines.specs.Blocks.{counted}
use Rattle.mesh_lines.proofs.Settled.{block_cut, block_written}
use Rattle.mesh_lines.proofs.line_buffer.LineBuffer.settle.Goals as goal

pub slice_bounds-write_all_of-end : goal.slice_bounds-write_all_of-end
slice_bounds-write_all_of-end g c =
    let page : length c.self.inside.lines - 65536 ≡ c.args.self.now.page = ap (λ b. b.page) c.self.view_is in
    let count : length c.as_bytes.result.now ≡ length c.self.inside.lines = ap length c.as_bytes.ensures in
    let front = length-take 65536 c.as_bytes.result.now in
    omega (arith, c.requires.whole)

pub returns-in_err-write_all_of-clause-put : goal.returns-in_err-write_all_of-clause-put
returns-in_err-write_all_of-clause-put g c =
    let p = err_from_is_err_and c.from_residual.result c.from_residual.ensures.1 in
    rw p.1 (record {
      staged = block_cut _ _ _ _ _ _ c.self.inside.lines _ 65536 (sym (ap (λ b. b.waiting) c.self.view_is))
          (ap (take 65536) c.as_bytes.ensures) c.in_err-write_all_of.ensures;
      total = tt;
    })

pub returns-clause-put : goal.returns-clause-put
returns-clause-put g c = record {
  staged = block_written _ _ _ _ _ _ c.self.inside.lines _ 65536 (sym (ap (λ b. b.waiting) c.self.view_is))
      c.drop_front.ensures (ap (take 65536) c.as_bytes.ensures) c.in_ok-write_all_of.ensures;
  total =
      let page : length c.self.inside.lines - 65536 ≡ c.args.self.now.page = ap (λ b. b.page) c.self.view_is in
      let total : counted (c.self.inside.written + length c.self.inside.lines) ≡ c.args.self.now.total = ap (λ b. b.total) c.self.view_is in
      let moved : length c.drop_front.new.self ≡ length (drop 65536 c.self.inside.lines) = ap length c.drop_front.ensures in
      let rest = length-drop 65536 c.self.inside.lines in
      omega (arith, c.requires.whole, c.saturating_add-self-inside.ensures);
}

pub returns-clause-room : goal.returns-clause-room
returns-clause-room g c =
    let page : length c.self.inside.lines - 65536 ≡ c.args.self.now.page = ap (λ b. b.page) c.self.view_is in
    let moved : length c.drop_front.new.self ≡ length (drop 65536 c.self.inside.lines) = ap length c.drop_front.ensures in
    let rest = length-drop 65536 c.self.inside.lines in
    omega (arith, c.requires.few)

pub returns-clause-bytes : goal.returns-clause-bytes
returns-clause-bytes g c =
    let page : length c.self.inside.lines - 65536 ≡ c.args.self.now.page = ap (λ b. b.page) c.self.view_is in
    let total : counted (c.self.inside.written + length c.self.inside.lines) ≡ c.args.self.now.total = ap (λ b. b.total) c.self.view_is in
    let moved : length c.drop_front.new.self ≡ length (drop 65536 c.self.inside.lines) = ap length c.drop_front.ensures in
    let rest = length-drop 65536 c.self.inside.lines in
    omega (arith, c.requires.whole, c.saturating_add-self-inside.ensures)
