-- The samples of a slab in its padding.
use Rattle.std.proofs.Common.{ℕ, Bool, true, false, if◌then◌else◌, List, length, get_or, All, ℤ, pos, inl, inr, sym, subst, rules}
use Rattle.std.proofs.Math.ListN.{get_or-eq_default}
use Rattle.std.proofs.lemmas.Bool.{cases_lt}
use Rattle.std.proofs.lemmas.List.Elements.{All-from_get_or, All-get_or, All-map}
use Rattle.iso_defs.specs.Grid.{Grid, is_outer, point_count}
use Rattle.iso_defs.specs.Lists.{below}
use Rattle.iso_base.specs.Volume.{IsSample, grown, inner_point, padded_sample, sample}
use Rattle.padded_samples.specs.PaddedSlabs.{SlabInPad, point_in_both, ringed, slab_at, slab_list}

any_sample : (samples : List ℤ) (i : ℕ) → All IsSample samples → IsSample (sample samples i)
any_sample samples i all = elim (cases_lt i (length samples)) [
  | inl low ↦ All-get_or IsSample samples i (pos 0) low all
  | inr high ↦ subst IsSample (sym (get_or-eq_default samples (pos 0) high)) zero_is
]
  where
    zero_is : IsSample (pos 0)
    zero_is = search rules

one_padded : (g : Grid) (samples : List ℤ) (pad : ℤ) (p : ℕ) → All IsSample samples → IsSample pad → IsSample (padded_sample g samples pad p)
unfolding padded_sample
one_padded g samples pad p all is = by (is_outer (grown g) p)
  where
    by : (t : Bool) → IsSample (if t then pad else sample samples (inner_point g p))
    by true = is
    by false = any_sample samples (inner_point g p) all

-- each is in the range of samples
pub all_in_pad : (s : SlabInPad) → All IsSample s.samples → IsSample s.pad → All IsSample (slab_list s)
all_in_pad s all is =
    let points = below (point_count (ringed s.ends s.grid)) in
    All-map IsSample (slab_at s) points
    (All-from_get_or (λ p. IsSample (slab_at s p)) points 0 (λ i low. one_padded s.grid s.samples s.pad (point_in_both s (get_or points i 0)) all is))
