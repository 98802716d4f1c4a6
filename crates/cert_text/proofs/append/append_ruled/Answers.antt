use Rattle.std.proofs.Common.{◌++◌, List, ℕ, ap, ◌∙◌}
use Rattle.std.proofs.lemmas.Result.{on_ok_weaker}
use Rattle.cover_line.specs.Views.{rule_word}
use Rattle.cert_text.specs.Ruled.{operands_in}
use Rattle.cert_text.proofs.Ruled.{ruled}
use Rattle.cert_text.proofs.append.append_ruled.Goals as goal

pub returns : goal.returns
returns c = on_ok_weaker c.append_break.result
    (λ e. ruled (rule_word c.args.word) (operands_in c.args.operands.now) _ _ _ _
    (c.in_ok-extend_from_slice.ensures.items ∙ ap (λ (w : List ℕ). c.args.text.now.items ++ w) (c.as_bytes.ensures.value ∙ c.text.ensures)) c.in_ok-append_operands.ensures e)
    c.append_break.ensures
