use Rattle.std.proofs.Common.{◌≡◌, ◌^◌, take, true, min}
use Rattle.std.specs.List.{list_all}
use Rattle.std.specs.Str.Parse.{digits_value}
use Rattle.ksv_basics.specs.Numerals.{is_digit}
use Rattle.ksv_basics.proofs.digits.numeral.Given as goal

abbrev pub invariant-loop-digit : goal.invariant-loop-digit
invariant-loop-digit l = record {
  digits : list_all (is_digit l.radix) (take l.digit-index l.text) ≡ true;
  number : l.number ≡ min (digits_value l.radix (take l.digit-index l.text)) (2 ^ 64);
}
