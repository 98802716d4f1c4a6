use Rattle.std.proofs.Common.{◌≡◌, ◌+◌, ◌*◌, ◌-◌, ◌^◌, min, drop, get_or, ap, ◌∙◌, arith}
use Rattle.std.specs.Str.Parse.{digits_value_after}
use Rattle.smt_sexp.proofs.Numbers.{value_more}
use Rattle.smt_sexp.proofs.words.value_after.Goals as goal

pub loop-digit-preserved : goal.loop-digit-preserved
loop-digit-preserved c =
    let ds = c.args.digits.now in
    let i = c.loop-digit.digit-index in
    let digit = c.requires.digits i 0 c.loop-digit-test.true in
    let value : c.min-value.result ≡ min (c.loop-digit.value * 10 + (get_or ds i 0 - 48)) (10 ^ 36 + 1) =
    c.min-value.ensures ∙ ap (λ d. min (c.loop-digit.value * 10 + d) (10 ^ 36 + 1)) c.from.ensures in
    record {
      start = omega (arith, c.min-value.ensures);
      cut = ap (λ v. min (digits_value_after 10 v (drop (i + 1) ds)) (10 ^ 36 + 1)) value ∙
          value_more (10 ^ 36 + 1) c.loop-digit.value _ ds i c.loop-digit-test.true digit.0 digit.1 c.loop-digit.invariant.cut;
    }
