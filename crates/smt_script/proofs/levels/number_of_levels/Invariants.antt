use Rattle.std.proofs.Common.{◌≡◌, ◌≤◌, ◌^◌, min, drop}
use Rattle.std.specs.Str.Parse.{digits_value, digits_value_after}
use Rattle.smt_script.proofs.levels.number_of_levels.Given as goal

abbrev pub invariant-loop-byte : goal.invariant-loop-byte
invariant-loop-byte l = record {
  cut : min (digits_value_after 10 l.value (drop l.byte-index l.digits)) (2 ^ 32) ≡ min (digits_value 10 l.digits) (2 ^ 32);
  small : l.value ≤ 2 ^ 32;
}
