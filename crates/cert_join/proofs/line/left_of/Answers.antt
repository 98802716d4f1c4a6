use Rattle.std.proofs.Common.{◌≡◌, length, ap, sym, ◌∙◌, arith}
use Rattle.cover_line.specs.Words.{open_word, word_of}
use Rattle.cover_line.specs.Views.{rule_word}
use Rattle.cert_join.specs.Kinds.{kind_of_word, left_kind}
use Rattle.cert_join.proofs.RuleWords.{first_of_rule, same_word, open_alone, word_leaves}
use Rattle.cert_join.proofs.line.left_of.Goals as goal

pub returns-in-Some-Open : goal.returns-in-Some-Open
returns-in-Some-Open c r e =
    let first = first_of_rule r _ _ _ c.first_word-word.ensures.1 e in
    let is = rw c.in-Some-Open.field-0-is at c.in-Some-Open.ensures in
    let all = e ∙ open_alone r (same_word open_word (word_of r) (sym is ∙ first)) ∙ sym is in
    absurd (omega (arith, ap length all, c.if-word-line.true))

pub returns-in-Some : goal.returns-in-Some
returns-in-Some c r e =
    let first = first_of_rule r _ _ _ c.first_word-word.ensures.1 e in
    let same : kind_of_word (rule_word c.in-Some.word) ≡ left_kind r = ap (λ v. kind_of_word v) (same_word _ (word_of r) (sym (c.in-Some.ensures) ∙ first)) ∙ word_leaves r in cc

pub returns-in-None : goal.returns-in-None
returns-in-None c r e = absurd (c.in-None.ensures (word_of r) (first_of_rule r _ _ _ c.first_word-word.ensures.1 e))
