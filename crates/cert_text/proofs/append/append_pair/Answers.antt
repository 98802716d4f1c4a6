use Rattle.std.proofs.lemmas.Result.{on_ok_weaker}
use Rattle.dyadic.specs.Views.{dyadic_of}
use Rattle.cert_text.proofs.Spelling.{pair_appended}
use Rattle.cert_text.proofs.append.append_pair.Goals as goal

pub returns : goal.returns
returns c = on_ok_weaker c.append_number.result
    (λ e. pair_appended c.args.atom (dyadic_of c.args.by) _ _ _ _ c.append_word_and_count.ensures.count (record { spelled = c.append_number.ensures.spelled; short = c.append_number.ensures.short })
    c.in_ok-append_word_and_count.ensures.text c.in_ok-extend_from_slice.ensures.items e)
    c.append_number.ensures.text
