use Rattle.std.proofs.Common.{◌∷◌, [], sym, subst, OnOk}
use Rattle.std.proofs.lemmas.Result.{on_ok_weaker}
use Rattle.cover_line.specs.Line.{narrow_by}
use Rattle.cover_data.specs.Views.{narrowing_of, step_line}
use Rattle.cover_data.specs.declared.step.Step.{Step}
use Rattle.cert_read.specs.CertLine.{rule_line}
use Rattle.cert_text.specs.Lines.{HasAppended}
use Rattle.cert_text.proofs.Ruled.{ruled_appended}
use Rattle.cert_text.proofs.parts.append_step.Goals as goal

pub returns-in-Narrow : goal.returns-in-Narrow
returns-in-Narrow c =
    subst (λ (x : Step). OnOk c.append_ruled.result (HasAppended c.args.text.now.items (rule_line (step_line x) ∷ []) c.append_ruled.new.text.items)) (sym c.in-Narrow.is)
    (on_ok_weaker c.append_ruled.result (λ h. ruled_appended (narrow_by (narrowing_of c.in-Narrow.narrowing)) _ _ _ _ c.kind_of.ensures.narrows c.of_kept.ensures.operands h c.of_kept.ensures.few) c.append_ruled.ensures)
