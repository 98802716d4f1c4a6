use Rattle.std.proofs.Common.{ap, sym, ◌∙◌}
use Rattle.std.specs.Cmp.Lexicographic.{same_text}
use Rattle.cert_join.specs.Numbered.{word_kind}
use Rattle.cert_join.proofs.LineKinds.{first_kind}
use Rattle.cert_join.proofs.numbering.kind_of.Goals as goal

pub returns-then-eq : goal.returns-then-eq
returns-then-eq c = λ l t.
    sym (ap word_kind (same_text c.first_word-word.result.now c.as_slice.result.now c.if-eq.ensures ∙ c.as_slice.ensures))
    ∙ first_kind l c.args.line.now c.first_word-word.result.now c.first_word-word.ensures.0 c.first_word-word.ensures.1 t

pub returns-then-eq-2 : goal.returns-then-eq-2
returns-then-eq-2 c = λ l t.
    sym (ap word_kind (same_text c.first_word-word.result.now c.as_slice-else-eq.result.now c.if-eq-2.ensures ∙ c.as_slice-else-eq.ensures))
    ∙ first_kind l c.args.line.now c.first_word-word.result.now c.first_word-word.ensures.0 c.first_word-word.ensures.1 t

pub returns-then-eq-3 : goal.returns-then-eq-3
returns-then-eq-3 c = λ l t.
    sym (ap word_kind (same_text c.first_word-word.result.now c.as_slice-else-eq-2.result.now c.if-eq-3.ensures ∙ c.as_slice-else-eq-2.ensures))
    ∙ first_kind l c.args.line.now c.first_word-word.result.now c.first_word-word.ensures.0 c.first_word-word.ensures.1 t
