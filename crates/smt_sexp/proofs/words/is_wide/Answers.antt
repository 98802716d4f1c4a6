use Rattle.std.proofs.Common.{◌+◌, ◌^◌, min, ap, ◌∙◌, arith}
use Rattle.std.specs.Str.Parse.{digits_value_after}
use Rattle.smt_sexp.proofs.Numbers.{is_wide_by_cut}
use Rattle.smt_sexp.proofs.words.is_wide.Goals as goal

pub returns : goal.returns
returns c =
    is_wide_by_cut (10 ^ 36) c.value_after-2.result c.args.digits.now c.args.decimals.now
    (c.value_after-2.ensures ∙ ap (λ v. min (digits_value_after 10 v c.args.decimals.now) (10 ^ 36 + 1)) c.value_after.ensures) (omega (arith, c.if-decimals-gt-WIDEST_POWER.false))
