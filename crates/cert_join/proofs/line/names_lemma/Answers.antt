use Rattle.std.proofs.Common.{Bool, ◌||◌, refl, ap, sym, ◌∙◌}
use Rattle.std.specs.Str.{bytes_eq}
use Rattle.cover_line.specs.Words.{ban_word, word_text}
use Rattle.cert_join.proofs.RuleWords.{names_from}
use Rattle.cert_join.proofs.line.names_lemma.Goals as goal

pub returns-then-eq : goal.returns-then-eq
returns-then-eq c r e =
    let w = c.first_word-word in
    let u = word_text ban_word in
    c.if-eq.true ∙ sym (ap (λ (b : Bool). b || bytes_eq w.result.now u) (sym c.eq.ensures ∙ c.if-eq.true))
    ∙ names_from r _ _ _ w.ensures.1 e c.as_bytes.result.now u (c.as_bytes.ensures.value ∙ c.text.ensures) refl

pub returns-else-eq : goal.returns-else-eq
returns-else-eq c r e =
    let w = c.first_word-word in
    let u = c.as_bytes-else-eq.result.now in
    c.eq-else-eq.ensures ∙ sym (ap (λ (b : Bool). b || bytes_eq w.result.now u) (sym c.eq.ensures ∙ c.if-eq.false))
    ∙ names_from r _ _ _ w.ensures.1 e c.as_bytes.result.now u (c.as_bytes.ensures.value ∙ c.text.ensures)
    (c.as_bytes-else-eq.ensures.value ∙ c.text-else-eq.ensures)
