use Rattle.std.proofs.Common.{◌∷◌, ◌++◌, List, ℕ, ap, ◌∙◌}
use Rattle.std.specs.Prelude.{decimal}
use Rattle.std.proofs.lemmas.Result.{on_ok_weaker}
use Rattle.cert_text.proofs.Spelling.{counted_appended}
use Rattle.cert_text.proofs.append.append_counted.Goals as goal

pub returns : goal.returns
returns c = on_ok_weaker c.append_break.result
    (λ e. counted_appended c.args.word c.args.n _ _ _ c.append_word_and_count.ensures.count
    (c.in_ok-append_word_and_count.ensures.text ∙ ap (λ (w : List ℕ). c.args.text.now.items ++ (w ++ (32 ∷ decimal c.args.n))) c.counted_bytes.ensures) e)
    c.append_break.ensures
