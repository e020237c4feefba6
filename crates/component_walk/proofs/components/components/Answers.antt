use Rattle.std.proofs.Common.{◌≡◌, ◌∙◌, ℕ, ◌<◌, List, length, get_or, ap, ap₂, sym, subst, arith}
use Rattle.std.specs.List.{sum_by}
use Rattle.iso_base.specs.Volume.{IsGrid}
use Rattle.iso_defs.specs.Lists.{below}
use Rattle.crossing_edges.specs.Flags.{rank}
use Rattle.flat_mesh.specs.Lattice.{heights}
use Rattle.component_labels.specs.Walks.{IsLeast}
use Rattle.part_laws.specs.ByLabels.{firsts}
use Rattle.component_walk.specs.Begun.{AreAdded, AreBegun, AreFew, IsEmpty}
use Rattle.component_walk.specs.Components.{AreComponents, edges_of}
use Rattle.component_walk.proofs.AddedLaws.{added_same}
use Rattle.component_walk.proofs.ComponentLaws.{components_are, crossings_few, joined_inside, steps_few, order_few, order_inside, order_is}
use Rattle.component_walk.proofs.RowLaws.{all_written}
use Rattle.component_walk.proofs.components.components.Goals as goal

pub begin_all-requires-clause-few : goal.begin_all-requires-clause-few
begin_all-requires-clause-few g c =
    let w = c.args.walked in
    let h = c.requires.whole in
    let is : IsGrid h.0.grid = subst IsGrid (c.sizes.ensures ∙ h.1.walked.labelled_are.grid) c.nx.ensures.grid in
    omega (arith, order_few g.T.Tally.value g.T.Tally.fits g.T.Tally.of_loop h.0 w.labels w.tallies.items w.edges h.1 is, ap length c.deref.ensures.value)

pub begin_all-requires-clause-labels : goal.begin_all-requires-clause-labels
begin_all-requires-clause-labels g c = λ k d l.
    (let w = c.args.walked in
    let h = c.requires.whole in
    let e : get_or c.deref.result.now k d ≡ get_or w.edges.order.items k d = ap (λ os. get_or os k d) c.deref.ensures.value in
    let a : (get_or w.edges.order.items k d).0 < w.labels.count = order_inside g.T.Tally.value g.T.Tally.fits g.T.Tally.of_loop h.0 w.labels w.tallies.items w.edges h.1 k d (omega (arith, l, ap length c.deref.ensures.value)) in
    omega (arith, ap (λ (o : ℕ × ℕ). o.0) e, a, ap length c.deref-2.ensures.value, c.in_ok-joined.ensures.count))

pub begin_all-requires-clause-joined : goal.begin_all-requires-clause-joined
begin_all-requires-clause-joined g c = λ a l.
    (let e = c.in_ok-joined.ensures in
    let w = c.args.walked in
    let size : length c.deref-2.result.now ≡ w.labels.count = ap length c.deref-2.ensures.value ∙ e.count in
    let low : get_or c.in_ok-joined.joined.items a 0 < w.labels.count = joined_inside w.labels.count w.labels.pairs c.in_ok-joined.joined.items e a (omega (arith, l, size)) in
    omega (arith, low, ap (λ js. get_or js a 0) c.deref-2.ensures.value, ap length c.as_mut_slice.ensures.value, c.in_ok-places.places.ok.0, c.in_ok-places.ensures.len, c.len.ensures, e.count, c.in_ok-joined.joined.ok.0))

pub add_all-requires-clause-joined : goal.add_all-requires-clause-joined
add_all-requires-clause-joined g c = λ a l.
    (let e = c.in_ok-joined.ensures in
    let w = c.args.walked in
    let low : get_or c.in_ok-joined.joined.items a 0 < w.labels.count
    = joined_inside w.labels.count w.labels.pairs c.in_ok-joined.joined.items e a (omega (arith, l, ap length c.deref-3.ensures.value, e.count)) in
    let size : length c.begin_all.new.places ≡ length c.in_ok-places.places.items = c.in_ok-components.ensures.size ∙ ap length c.as_mut_slice.ensures.value in
    let all : length c.deref-4.result.now ≡ length c.begin_all.new.places
    = ap length (c.deref-4.ensures.value ∙ all_written c.in_ok-places.places.len c.in_ok-places.places.items c.begin_all.new.places c.in_ok-places.places.ok.0 size) in
    omega (arith, low, ap (λ js. get_or js a 0) c.deref-3.ensures.value, all, size, c.in_ok-places.places.ok.0, c.in_ok-places.ensures.len, c.len.ensures, e.count, c.in_ok-joined.joined.ok.0))

pub add_all-requires-clause-empty : goal.add_all-requires-clause-empty
add_all-requires-clause-empty g c = λ i d l.
    (let h = c.requires.whole in
    let w = c.args.walked in
    let order = c.deref.ensures.value ∙ order_is g.T.Tally.value g.T.Tally.fits g.T.Tally.of_loop h.0 w.labels w.tallies.items w.edges h.1 in
    let begun = c.in_ok-components.ensures.begun h.1.walked.label (rank h.0.grid (heights h.0)) (firsts h.1.walked.label (edges_of h.0)) order in
    subst (λ cs. IsEmpty g.T.Tally.value g.T.Tally.fits (get_or cs i d)) (sym c.as_mut_slice-2.ensures.value) (begun.empty i d (omega (arith, l, ap length c.as_mut_slice-2.ensures.value))))

pub add_all-requires-clause-few_edges : goal.add_all-requires-clause-few_edges
add_all-requires-clause-few_edges g c =
    let w = c.args.walked in
    let h = c.requires.whole in
    let is : IsGrid h.0.grid = subst IsGrid (c.sizes.ensures ∙ h.1.walked.labelled_are.grid) c.nx.ensures.grid in
    let size : length c.deref-3.result.now ≡ w.labels.count = ap length c.deref-3.ensures.value ∙ c.in_ok-joined.ensures.count in
    let same : sum_by (λ a. get_or c.deref-5.result.now a 0) (below (length c.deref-3.result.now)) ≡ sum_by (λ a. get_or w.edges.crossings.items a 0) (below w.labels.count)
    = ap₂ (λ xs n. sum_by (λ a. get_or xs a 0) (below n)) c.deref-5.ensures.value size in
    omega (arith, same, crossings_few g.T.Tally.value g.T.Tally.fits g.T.Tally.of_loop h.0 w.labels w.tallies.items w.edges h.1 is)

pub add_all-requires-clause-few_steps : goal.add_all-requires-clause-few_steps
add_all-requires-clause-few_steps g c =
    let w = c.args.walked in
    let h = c.requires.whole in
    let is : IsGrid h.0.grid = subst IsGrid (c.sizes.ensures ∙ h.1.walked.labelled_are.grid) c.nx.ensures.grid in
    let size : length c.deref-3.result.now ≡ w.labels.count = ap length c.deref-3.ensures.value ∙ c.in_ok-joined.ensures.count in
    subst (λ n. AreFew g.T.Tally.fits n c.deref-6.result.now) (sym size) (subst (AreFew g.T.Tally.fits w.labels.count) (sym c.deref-6.ensures.value)
    (steps_few g.T.Tally.value g.T.Tally.fits g.T.Tally.of_loop h.0 w.labels w.tallies.items w.edges h.1 is))

pub returns : goal.returns
returns g c = λ v h.
    (let w = c.args.walked in
    let joined : List ℕ = c.in_ok-joined.joined.items in
    let label : ℕ → ℕ = h.walked.label in
    let number : ℕ → ℕ = rank v.grid (heights v) in
    let ds : List ℕ = firsts label (edges_of v) in
    let is : IsGrid v.grid = subst IsGrid (c.sizes.ensures ∙ h.walked.labelled_are.grid) c.nx.ensures.grid in
    let least : IsLeast w.labels.count w.labels.pairs joined = c.in_ok-joined.ensures in
    let places : List ℕ = c.begin_all.new.places in
    let size : length places ≡ length c.in_ok-places.places.items = c.in_ok-components.ensures.size ∙ ap length c.as_mut_slice.ensures.value in
    let many : length places ≡ w.labels.count = omega (arith, size, c.in_ok-places.places.ok.0, c.in_ok-places.ensures.len, c.len.ensures, least.count, c.in_ok-joined.joined.ok.0) in
    let order = c.deref.ensures.value ∙ order_is g.T.Tally.value g.T.Tally.fits g.T.Tally.of_loop v w.labels w.tallies.items w.edges h in
    let begun : AreBegun g.T.Tally.value g.T.Tally.fits (λ e. get_or joined (label e) 0) number ds places c.in_ok-components.components.items
    = subst (λ js. AreBegun g.T.Tally.value g.T.Tally.fits (λ e. get_or js (label e) 0) number ds places c.in_ok-components.components.items) c.deref-2.ensures.value (c.in_ok-components.ensures.begun label number ds order) in
    let new = c.add_all.new.components in
    let added : AreAdded g.T.Tally.value g.T.Tally.fits (λ a. get_or places (get_or joined a 0) 0) w.labels.count w.edges.crossings.items w.tallies.items c.in_ok-components.components.items new
    = added_same g.T.Tally.value g.T.Tally.fits c.deref-4.result.now places c.deref-3.result.now joined c.deref-5.result.now w.edges.crossings.items (length c.deref-3.result.now) w.labels.count
    c.deref-6.result.now w.tallies.items c.as_mut_slice-2.result.now c.in_ok-components.components.items new
    (c.deref-4.ensures.value ∙ all_written c.in_ok-places.places.len c.in_ok-places.places.items places c.in_ok-places.places.ok.0 size)
    c.deref-3.ensures.value (ap length c.deref-3.ensures.value ∙ least.count) c.deref-5.ensures.value c.deref-6.ensures.value c.as_mut_slice-2.ensures.value c.add_all.ensures in
    subst (AreComponents g.T.Tally.value g.T.Tally.fits g.T.Tally.of_loop v) (sym (all_written c.in_ok-components.components.len c.in_ok-components.components.items new c.in_ok-components.components.ok.0 added.count))
    (components_are g.T.Tally.value g.T.Tally.fits g.T.Tally.of_loop v w.labels w.tallies.items w.edges h is joined least places many c.in_ok-components.components.items new begun added))
