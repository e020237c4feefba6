use Rattle.std.proofs.Common.{◌≡◌, ◌<◌, ◌^◌, take, fold, true}
use Rattle.std.specs.List.{list_all}
use Rattle.text_lines.specs.Numbers.{is_digit, with_digit}
use Rattle.text_lines.proofs.numbers.digits.Given as goal

abbrev pub invariant-loop-b : goal.invariant-loop-b
invariant-loop-b l = record {
  value : l.value ≡ fold with_digit 0 (take l.b-index l.word);
  digits : list_all is_digit (take l.b-index l.word) ≡ true;
  bound : l.value < 10 ^ l.b-index;
}
