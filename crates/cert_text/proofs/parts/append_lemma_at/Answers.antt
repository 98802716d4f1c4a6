use Rattle.std.proofs.Common.{◌∙◌, ap}
use Rattle.std.proofs.lemmas.Result.{on_ok_weaker}
use Rattle.cover_model.specs.State.{State}
use Rattle.cert_text.proofs.Items.{whole_lemma}
use Rattle.cert_text.proofs.parts.append_lemma_at.Goals as goal

pub returns : goal.returns
returns c = on_ok_weaker c.append_lines.result
    (λ e. whole_lemma c.args.id c.args.lemma.now _ _ _ _ _ _ _ _ (c.space.ensures ∙ ap (λ (S : State). S.space) c.requires.state) (c.marks-marks.ensures ∙ c.lits.ensures ∙ ap (λ (S : State). S.marks) c.requires.state) c.in_ok-append_counted.ensures c.in_ok-append_space.ensures c.in_ok-append_marks.ensures c.in_ok-append_marks-2.ensures e)
    c.append_lines.ensures
