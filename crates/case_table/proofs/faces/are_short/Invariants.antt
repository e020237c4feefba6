use Rattle.std.proofs.Common.{◌≡◌, ◌^◌, take}
use Rattle.std.specs.Prelude.{nat_lt}
use Rattle.std.specs.List.{list_all}
use Rattle.case_table.proofs.Short.{is_short}
use Rattle.case_table.proofs.faces.are_short.Given as goal

abbrev pub invariant-loop-i : goal.invariant-loop-i
invariant-loop-i l = record {
  short : nat_lt l.size (2 ^ 31) ≡ list_all is_short (take l.i l.values);
}
