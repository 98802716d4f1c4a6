use Rattle.std.proofs.Common.{OnOk, ap, subst, sym, ◌∙◌}
use Rattle.cert_read.specs.CertLine.{CertLine}
use Rattle.cert_read.specs.LineText.{line_text, IsSpelled}
use Rattle.cert_join.specs.Kinds.{IsRenumbered}
use Rattle.cert_join.proofs.RuleWords.{one_named}
use Rattle.cert_join.proofs.line.append_renumbered.Goals as goal

pub returns-then-names_lemma : goal.returns-then-names_lemma
returns-then-names_lemma c l e s =
    let one = one_named l (sym (c.names_lemma.ensures l e) ∙ c.if-names_lemma.true) in
    let P : CertLine → Type 0 = λ k. IsSpelled k in
    let Q : CertLine → Type 0 = λ k. OnOk c.append_naming.result (IsRenumbered c.args.numbers.now k c.args.text.now.items c.append_naming.new.text.items) in
    subst Q (sym one.2) (c.append_naming.ensures one.0 one.1 (e ∙ ap line_text one.2) (subst P one.2 s) one.3)
