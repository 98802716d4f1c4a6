use Rattle.std.proofs.Common.{map, take}
use Rattle.ival.specs.SpaceViews.{domain_of}
use Rattle.cert_model.specs.Written.{domain_line}
use Rattle.cert_text.specs.Lines.{HasAppended}
use Rattle.cert_text.proofs.parts.append_space.Given as goal

abbrev pub invariant-loop-domain : goal.invariant-loop-domain
invariant-loop-domain l = HasAppended l.fn.text.items (map (λ d. domain_line (domain_of d)) (take l.domain-index l.space.axes.items)) l.text.items
