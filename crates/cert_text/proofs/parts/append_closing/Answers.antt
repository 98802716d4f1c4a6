use Rattle.std.proofs.Common.{◌∷◌, [], refl, sym, subst, OnOk}
use Rattle.std.proofs.lemmas.Result.{on_ok_weaker}
use Rattle.cover_line.specs.Line.{Line, end_by, void_by, by_squares}
use Rattle.cover_line.specs.Views.{blocks_of, multipliers_of}
use Rattle.cover_data.specs.Views.{narrowing_of, closing_of}
use Rattle.cover_data.specs.declared.step.Closing.{Closing}
use Rattle.cert_read.specs.CertLine.{rule_line}
use Rattle.cert_text.specs.Lines.{HasAppended}
use Rattle.cert_text.proofs.Ruled.{ruled_appended}
use Rattle.cert_text.proofs.parts.append_closing.Goals as goal

abbrev closing_line : Closing → Line
closing_line x = end_by (closing_of x)

pub returns-in-Void : goal.returns-in-Void
returns-in-Void c =
    subst (λ (x : Closing). OnOk c.append_ruled.result (HasAppended c.args.text.now.items (rule_line (closing_line x) ∷ []) c.append_ruled.new.text.items)) (sym c.in-Void.is)
    (on_ok_weaker c.append_ruled.result (λ h. ruled_appended (end_by (void_by (narrowing_of c.in-Void.narrowing))) _ _ _ _ c.kind_of.ensures.voids c.of_kept.ensures.operands h c.of_kept.ensures.few) c.append_ruled.ensures)

pub returns-in-Squares : goal.returns-in-Squares
returns-in-Squares c =
    let s = c.in-Squares.squares in
    subst (λ (x : Closing). OnOk c.append_ruled-in-Squares.result (HasAppended c.args.text.now.items (rule_line (closing_line x) ∷ []) c.append_ruled-in-Squares.new.text.items)) (sym c.in-Squares.is)
    (on_ok_weaker c.append_ruled-in-Squares.result
    (λ h. ruled_appended (end_by (by_squares (multipliers_of s.pairs.items) (blocks_of s.blocks.items))) _ _ _ _ refl c.of_kept_squares.ensures.operands h c.of_kept_squares.ensures.few) c.append_ruled-in-Squares.ensures)
