use Rattle.std.proofs.Common.{take}
use Rattle.cert_text.specs.Lines.{HasAppended}
use Rattle.cert_text.specs.Parts.{learned_lines}
use Rattle.cert_text.proofs.parts.append_lemmas.Given as goal

abbrev pub invariant-loop-i : goal.invariant-loop-i
invariant-loop-i l = HasAppended l.fn.text.items (learned_lines l.first (take l.i l.lemmas)) l.text.items
