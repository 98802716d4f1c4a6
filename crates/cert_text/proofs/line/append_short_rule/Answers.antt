use Rattle.std.proofs.Common.{sym, subst}
use Rattle.std.proofs.lemmas.Result.{on_ok_weaker}
use Rattle.cover_line.specs.Views.{line_of}
use Rattle.cert_text.specs.Ruled.{HasFewPairs}
use Rattle.cert_text.proofs.Ruled.{ruled_appended}
use Rattle.cert_text.proofs.line.append_short_rule.Goals as goal

pub returns : goal.returns
returns c = on_ok_weaker c.append_ruled.result
    (λ h. ruled_appended (line_of c.args.rule.now) _ _ _ _ c.word.ensures c.of_rule.ensures h (subst HasFewPairs (sym c.of_rule.ensures) c.requires)) c.append_ruled.ensures
