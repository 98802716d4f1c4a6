use Rattle.std.proofs.lemmas.Result.{on_ok_weaker}
use Rattle.cover_line.specs.Views.{line_of}
use Rattle.cert_text.proofs.Ruled.{ruled_text}
use Rattle.cert_text.proofs.line.append_rule.Goals as goal

pub returns : goal.returns
returns c = on_ok_weaker c.append_ruled.result (λ h. ruled_text (line_of c.args.rule.now) _ _ _ _ c.word.ensures c.of_rule.ensures h) c.append_ruled.ensures
