use Rattle.std.proofs.Common.{◌≡◌, ◌++◌, map, take}
use Rattle.cert_read.specs.Views.{line_of}
use Rattle.cert_model.specs.Accepted.{certificate_text}
use Rattle.cert_resume.proofs.text.append_lines.Given as goal

abbrev pub invariant-loop-line : goal.invariant-loop-line
invariant-loop-line l = l.text.items ≡ l.fn.text.items ++ certificate_text (map line_of (take l.line-index l.lines))
