use Rattle.std.proofs.Common.{◌≡◌, ◌+◌, ◌^◌, ◌≤◌, min, drop}
use Rattle.std.specs.Str.Parse.{digits_value_after}
use Rattle.smt_sexp.proofs.words.value_after.Given as goal

abbrev pub invariant-loop-digit : goal.invariant-loop-digit
invariant-loop-digit l = record {
  start : l.value ≤ 10 ^ 36 + 1;
  cut : min (digits_value_after 10 l.value (drop l.digit-index l.digits)) (10 ^ 36 + 1) ≡ min (digits_value_after 10 l.fn.start l.fn.digits) (10 ^ 36 + 1);
}
