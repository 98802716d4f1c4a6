use Rattle.std.proofs.lemmas.Result.{on_ok_weaker}
use Rattle.dyadic.specs.Views.{dyadic_of}
use Rattle.cert_text.proofs.Spelling.{lower_appended}
use Rattle.cert_text.proofs.append.append_lower.Goals as goal

pub returns : goal.returns
returns c = on_ok_weaker c.append_break.result
    (λ e. lower_appended (dyadic_of c.args.bound) _ _ _ _ (record { spelled = c.append_number.ensures.spelled; short = c.append_number.ensures.short })
    c.in_ok-extend_from_slice.ensures.items c.in_ok-append_number.ensures.text e)
    c.append_break.ensures
