use Rattle.std.proofs.Common.{◌<◌, ◌+◌, arith, get_or, length}
use Rattle.std.proofs.lemmas.Int.Digits.{digits_value_more}
use Rattle.std.proofs.lemmas.Str.{digit_value_digit}
use Rattle.std.proofs.lemmas.Str.Parse.{digits_value-take-le}
use Rattle.cert_read.proofs.number.value.Goals as goal

pub loop-digit-preserved : goal.loop-digit-preserved
loop-digit-preserved c =
    let text = c.args.digits.now in
    let i = c.loop-digit.digit-index in
    let within : i < length text = omega arith in
    let more = digits_value_more 10 text i within in
    let digit = digit_value_digit (get_or text i 0) (c.requires i within) in
    record { value = omega (arith, more, digit, c.from.ensures); small = omega arith }

pub returns-then-value-gt-LARGEST : goal.returns-then-value-gt-LARGEST
returns-then-value-gt-LARGEST c =
    let text = c.args.digits.now in
    let i = c.loop-digit.digit-index in
    let within : i < length text = omega arith in
    let more = digits_value_more 10 text i within in
    let digit = digit_value_digit (get_or text i 0) (c.requires i within) in
    omega (arith, more, digit, c.from.ensures, digits_value-take-le 10 text (i + 1))
