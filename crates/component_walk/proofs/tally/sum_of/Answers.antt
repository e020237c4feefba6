use Rattle.std.proofs.Common.{◌≡◌, ◌∙◌, ℕ, ◌+◌, ◌-◌, ◌≤◌, ◌+ℤ◌, length, take, sym, ap, subst, arith}
use Rattle.std.proofs.lemmas.List.{take_all}
use Rattle.std.specs.List.{sum_by}
use Rattle.iso_defs.specs.Lists.{below}
use Rattle.measure_laws.specs.Vectors.{total}
use Rattle.component_walk.proofs.SumLaws.{sum_more, sum_within, total_more}
use Rattle.component_walk.proofs.tally.sum_of.Goals as goal

pub loop-tally-init : goal.loop-tally-init
loop-tally-init g c = record { values = λ i. c.none-sum.ensures.values i; fits = λ n h. c.none-sum.ensures.fits }

pub add-requires : goal.add-requires
add-requires g c =
    let r = c.requires.room in
    let i : ℕ = c.loop-tally.tally-index in
    let count : ℕ = length c.args.tallies.now in
    let last : i + 1 + (count - (i + 1)) ≡ count = omega (arith, c.loop-tally-test.true) in
    let within : sum_by r.0 (below i) + r.0 i ≤ sum_by r.0 (below count) = subst (λ n. sum_by r.0 (below i) + r.0 i ≤ sum_by r.0 (below n)) last (sum_within r.0 i (count - (i + 1))) in
    record {
      room = (
        sum_by r.0 (below i),
        r.0 i,
        omega (arith, within, r.1),
        c.loop-tally.invariant.fits r.0 r.2,
        subst (λ t. g.T.Tally.fits (r.0 i) t) (sym c.tally-item.is) (r.2.each i c.tally-item.result c.loop-tally-test.true),
      );
    }

pub loop-tally-preserved : goal.loop-tally-preserved
loop-tally-preserved g c =
    let i : ℕ = c.loop-tally.tally-index in
    record {
      values = λ k.
          c.add.ensures.values k
          ∙ (ap (λ n. n +ℤ g.T.Tally.value c.tally-item.result k) (c.loop-tally.invariant.values k)
          ∙ (ap (λ t. total (λ t. g.T.Tally.value t k) (take i c.args.tallies.now) +ℤ g.T.Tally.value t k) c.tally-item.is
          ∙ sym (total_more (λ t. g.T.Tally.value t k) c.args.tallies.now i c.tally-item.result c.loop-tally-test.true)));
      fits = λ n h.
          subst (λ m. g.T.Tally.fits m c.add.new.self) (sym (sum_more n i))
          (c.add.ensures.fits (sum_by n (below i)) (n i) (c.loop-tally.invariant.fits n h)
          (subst (λ t. g.T.Tally.fits (n i) t) (sym c.tally-item.is) (h.each i c.tally-item.result c.loop-tally-test.true)));
    }

pub returns : goal.returns
returns g c = λ k.
    c.loop-tally.invariant.values k ∙ ap (total (λ t. g.T.Tally.value t k)) (take_all c.loop-tally.tally-index c.args.tallies.now (omega (arith, c.loop-tally-test.false)))
