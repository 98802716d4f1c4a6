use Rattle.std.proofs.Common.{◌∷◌, [], sym, subst, OnOk}
use Rattle.std.proofs.lemmas.Result.{on_ok_weaker}
use Rattle.cover_line.specs.Line.{branch_by}
use Rattle.cover_line.specs.Views.{branching_of}
use Rattle.cover_data.specs.Views.{end_line}
use Rattle.cover_data.specs.declared.step.End.{End}
use Rattle.cert_read.specs.CertLine.{rule_line}
use Rattle.cert_text.specs.Lines.{HasAppended}
use Rattle.cert_text.specs.Ruled.{HasFewGroups, HasFewPairs}
use Rattle.cert_text.proofs.Ruled.{ruled_appended}
use Rattle.cert_text.proofs.parts.append_end.Goals as goal

pub returns-in-Part : goal.returns-in-Part
returns-in-Part c =
    let few = subst HasFewPairs (sym c.of_branching.ensures) (subst (λ (x : End). HasFewGroups (end_line x)) c.in-Part.is c.requires) in
    subst (λ (x : End). OnOk c.append_ruled.result (HasAppended c.args.text.now.items (rule_line (end_line x) ∷ []) c.append_ruled.new.text.items)) (sym c.in-Part.is)
    (on_ok_weaker c.append_ruled.result (λ h. ruled_appended (branch_by (branching_of c.in-Part.branching)) _ _ _ _ c.branch_word.ensures c.of_branching.ensures h few) c.append_ruled.ensures)
