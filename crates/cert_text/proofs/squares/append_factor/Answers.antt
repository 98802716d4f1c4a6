use Rattle.std.proofs.Common.{sym, subst, OnOk}
use Rattle.std.specs.Prelude.{decimal}
use Rattle.std.proofs.lemmas.Result.{on_ok_weaker}
use Rattle.cover_line.specs.declared.block.Factor.{Factor}
use Rattle.cover_line.specs.Views.{factor_of}
use Rattle.cert_read.specs.LineText.{factor_words}
use Rattle.cert_text.specs.Ruled.{HasWords}
use Rattle.cert_text.proofs.Words.{count_word, two_words}
use Rattle.cert_text.proofs.squares.append_factor.Goals as goal

pub returns-in-One-clause-words : goal.returns-in-One-clause-words
returns-in-One-clause-words c =
    subst (λ (f : Factor). OnOk c.append_word_and_count.result (HasWords c.args.text.now.items (factor_words (factor_of f)) c.append_word_and_count.new.text.items)) (sym c.in-One.is)
    (on_ok_weaker c.append_word_and_count.result (λ e. count_word 0 _ _ c.append_word_and_count.ensures.count e) c.append_word_and_count.ensures.text)

pub returns-in_ok-append_word_and_count-in-BoundOf-clause-words : goal.returns-in_ok-append_word_and_count-in-BoundOf-clause-words
returns-in_ok-append_word_and_count-in-BoundOf-clause-words c =
    subst (λ (f : Factor). OnOk c.append_word_and_count-in-BoundOf-2.result (HasWords c.args.text.now.items (factor_words (factor_of f)) c.append_word_and_count-in-BoundOf-2.new.text.items)) (sym c.in-BoundOf.is)
    (on_ok_weaker c.append_word_and_count-in-BoundOf-2.result
    (λ e. two_words (decimal 1) (decimal c.in-BoundOf.axis) _ _ _ (count_word 1 _ _ c.append_word_and_count-in-BoundOf.ensures.count c.in_ok-append_word_and_count-in-BoundOf.ensures.text)
    (count_word c.in-BoundOf.axis _ _ c.append_word_and_count-in-BoundOf-2.ensures.count e))
    c.append_word_and_count-in-BoundOf-2.ensures.text)
