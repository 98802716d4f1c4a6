use Rattle.std.proofs.lemmas.Result.{on_ok_weaker}
use Rattle.dyadic.specs.Views.{dyadic_of}
use Rattle.cert_text.proofs.Spelling.{interval_appended}
use Rattle.cert_text.proofs.append.append_interval.Goals as goal

pub returns : goal.returns
returns c = on_ok_weaker c.append_break.result
    (λ e. interval_appended (dyadic_of c.args.low) (dyadic_of c.args.high) _ _ _ _ _ _ (record { spelled = c.append_number.ensures.spelled; short = c.append_number.ensures.short })
    (record { spelled = c.append_number-2.ensures.spelled; short = c.append_number-2.ensures.short })
    c.in_ok-extend_from_slice.ensures.items c.in_ok-append_number.ensures.text c.in_ok-extend_from_slice-2.ensures.items c.in_ok-append_number-2.ensures.text e)
    c.append_break.ensures
