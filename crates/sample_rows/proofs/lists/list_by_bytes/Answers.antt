use Rattle.std.proofs.Common.{◌≡◌, ◌+◌, ◌-◌, ◌*◌, ◌≤◌, ◌∙◌, length, refl, sym, ap, arith}
use Rattle.row_bits.specs.Active.{active_among}
use Rattle.row_bits.proofs.ActiveLists.{active_none, active_on, length_on}
use Rattle.sample_rows.specs.Lists.{mixed_of}
use Rattle.sample_rows.proofs.MixedRows.{few_to_end, none_mixed, up_to_end}
use Rattle.sample_rows.proofs.lists.list_by_bytes.Goals as goal

pub loop-many-init : goal.loop-many-init
loop-many-init c =
    let none = active_none (mixed_of c.args.bytes.now) 0 in
    record { places = sym none; end = sym (ap length none); cases = refl }

pub list_many-at-requires-clause-room : goal.list_many-at-requires-clause-room
list_many-at-requires-clause-room c =
    let flags = mixed_of c.args.bytes.now in
    let at = 64 * c.loop-many.many in
    let all : length (active_among flags 0 (at + 64)) ≤ length c.args.cases.now - 1
    = few_to_end flags (length c.args.cases.now - 1) (none_mixed c.args.bytes.now (length c.args.cases.now) c.requires.rest) (at + 64) in
    let more = length_on flags at at 64 (at + 64) c.loop-many.at (c.loop-many.at + length (active_among flags at 64)) refl refl c.loop-many.invariant.end refl in
    omega (arith, all, more, c.requires.few)

pub loop-many-preserved : goal.loop-many-preserved
loop-many-preserved c =
    let flags = mixed_of c.args.bytes.now in
    let at = 64 * c.loop-many.many in
    let next : 64 * (c.loop-many.many + 1) ≡ at + 64 = omega arith in
    record {
      places = active_on flags _ _ at at 64 (64 * (c.loop-many.many + 1)) refl next c.loop-many.invariant.places c.list_many-at.ensures.places;
      end = length_on flags at at 64 (64 * (c.loop-many.many + 1)) _ _ refl next c.loop-many.invariant.end c.list_many-at.ensures.end;
      cases = c.list_many-at.ensures.cases;
    }

pub returns-clause-places : goal.returns-clause-places
returns-clause-places c =
    c.loop-many.invariant.places
    ∙ up_to_end (mixed_of c.args.bytes.now) (length c.args.cases.now - 1) (none_mixed c.args.bytes.now (length c.args.cases.now) c.requires.rest)
    (64 * c.loop-many.many) (omega (arith, c.loop-many-test.false, c.requires.runs, c.requires.room))

pub returns-clause-count : goal.returns-clause-count
returns-clause-count c =
    omega (
      arith,
      c.requires.some,
      c.loop-many.invariant.end,
      few_to_end (mixed_of c.args.bytes.now) (length c.args.cases.now - 1) (none_mixed c.args.bytes.now (length c.args.cases.now) c.requires.rest) (64 * c.loop-many.many),
    )
