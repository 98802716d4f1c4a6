use Rattle.std.proofs.Common.{◌≡◌, ◌+◌, ◌*◌, ◌<◌, ◌^◌, min, ap, sym, ◌∙◌, arith, drop, length, get_or}
use Rattle.std.specs.Char.{digit_value}
use Rattle.std.specs.Str.Parse.{digits_value_after}
use Rattle.std.proofs.lemmas.List.{drop_more}
use Rattle.smt_sexp.proofs.Numbers.{cut_before}
use Rattle.smt_script.proofs.Digits.{digit_most}
use Rattle.smt_script.proofs.levels.number_of_levels.Goals as goal

pub loop-byte-preserved : goal.loop-byte-preserved
loop-byte-preserved c =
    let ds = c.args.digits.now in let i = c.loop-byte.byte-index in let before = c.loop-byte.value in
    let within : i < length ds = omega arith in
    let x = get_or ds i 0 in
    let digit : c.unwrap_or-digit.result ≡ digit_value x = grind (arith, c.to_digit.ensures.value, c.unwrap_or-digit.ensures, c.from.ensures, digit_most x) in
    let value : c.min-value.result ≡ min (before * 10 + digit_value x) (2 ^ 32) = grind (arith, c.min-value.ensures, digit) in
    record {
      cut = ap (λ v. min (digits_value_after 10 v (drop (i + 1) ds)) (2 ^ 32)) value ∙ cut_before (2 ^ 32) (before * 10 + digit_value x) (drop (i + 1) ds) ∙
          ap (λ xs. min (digits_value_after 10 before xs) (2 ^ 32)) (sym (drop_more ds i 0 within)) ∙ c.loop-byte.invariant.cut;
      small = omega (arith, value);
    }
