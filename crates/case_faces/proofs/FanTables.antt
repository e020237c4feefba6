-- The table of loops with a centre is right: a test of all cases, and what it says of one.
use Rattle.std.proofs.Common.{◌≡◌, ℕ, ◌<◌, ◌≤◌, ◌∙◌, Bool, true, ◌&&◌, List, [], ◌∷◌, length, get_or, map, take, refl, sym, ap}
use Rattle.std.specs.Prelude.{nat_le}
use Rattle.std.specs.List.{enumerate_from, filter}
use Rattle.std.proofs.lemmas.Bool.{and_parts, leb-true}
use Rattle.iso_defs.specs.Cell.{case_loops}
use Rattle.iso_defs.specs.Scratch.{has_centre}
use Rattle.case_table.specs.Cases.{case_joined, case_signs, cases}
use Rattle.cell_loops.specs.Loops.{row_centres}
use Rattle.case_faces.specs.Fans.{all_fans, fan_numbers, fan_of}
use Rattle.case_faces.specs.declared.fans.TheConstants.{FIRST, NUMBERS, SECOND}
use Rattle.case_faces.proofs.Tables.{all_cases, all_at_most, at_most_at, case_passes, same_faces, same_faces-true}

-- the loops of a case in the table
abbrev pub case_fans : ℕ → List ℕ
case_fans n = get_or FIRST n 0 ∷ get_or SECOND n 0 ∷ []

-- the numbers of a loop in the table
abbrev pub table_fan : ℕ → List ℕ
table_fan fan = get_or NUMBERS fan []

-- they are those of all loops that have a centre
numbers_are : NUMBERS ≡ all_fans
unfolding all_fans cases fan_of
numbers_are = refl

pub fan_is : (fan : ℕ) → table_fan fan ≡ fan_numbers fan
unfolding fan_numbers
fan_is fan = ap (λ (t : List (List ℕ)). get_or t fan []) numbers_are

fans_are : (fans : List ℕ) → map fan_numbers fans ≡ map table_fan fans
unfolding fan_numbers
fans_are fans = sym (ap (λ (t : List (List ℕ)). map (λ fan. get_or t fan []) fans) numbers_are)

-- the loops of a case are those that have a centre
abbrev case_fits : ℕ → List Bool → List Bool → Bool
case_fits n signs joined =
    let centres : List (ℕ × List ℕ) = filter has_centre (enumerate_from 0 (case_loops signs joined)) in
    nat_le (length centres) 2 && same_faces (map table_fan (take (length centres) (case_fans n))) (map (λ (l : ℕ × List ℕ). fan_of l.1) centres)

all_fit : all_cases case_fits 0 cases ≡ true
unfolding cases fan_of
all_fit = refl

pub first_bound : (n : ℕ) → get_or FIRST n 0 ≤ 114
unfolding all_at_most
first_bound n = at_most_at 114 FIRST n refl

pub second_bound : (n : ℕ) → get_or SECOND n 0 ≤ 114
unfolding all_at_most
second_bound n = at_most_at 114 SECOND n refl

-- what the test says of one case
pub record AreFans (n : ℕ) : Type 0 where
  pub value : map fan_numbers (take (length (row_centres n)) (case_fans n)) ≡ map (λ (l : ℕ × List ℕ). fan_of l.1) (row_centres n)
  pub few : length (row_centres n) ≤ 2

pub fans_at : (n : ℕ) → n < 656 → AreFans n
unfolding row_centres
fans_at n small =
    let centres : List (ℕ × List ℕ) = filter has_centre (enumerate_from 0 (case_loops (case_signs n) (case_joined n))) in
    let parts = and_parts (nat_le (length centres) 2)
    (same_faces (map table_fan (take (length centres) (case_fans n))) (map (λ (l : ℕ × List ℕ). fan_of l.1) centres)) (case_passes case_fits all_fit n small) in
    record { value = fans_are (take (length centres) (case_fans n)) ∙ same_faces-true _ _ parts.1; few = leb-true _ _ parts.0 }
