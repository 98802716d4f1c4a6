use Rattle.std.proofs.Common.{map, take}
use Rattle.cover_data.specs.Views.{step_line}
use Rattle.cert_read.specs.CertLine.{rule_line}
use Rattle.cert_text.specs.Lines.{HasAppended}
use Rattle.cert_text.proofs.parts.append_lines.Given as goal

abbrev pub invariant-loop-step : goal.invariant-loop-step
invariant-loop-step l = HasAppended l.fn.text.items (map (λ x. rule_line (step_line x)) (take l.step-index l.lines.steps.items)) l.text.items
