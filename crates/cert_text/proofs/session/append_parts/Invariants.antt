use Rattle.std.proofs.Common.{take}
use Rattle.cert_text.specs.Session.{HasAppendedParts}
use Rattle.cert_text.proofs.session.append_parts.Given as goal

abbrev pub invariant-loop-k : goal.invariant-loop-k
invariant-loop-k l = HasAppendedParts l.fn.text.items (take l.k l.books) l.text.items
