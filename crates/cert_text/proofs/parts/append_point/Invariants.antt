use Rattle.std.proofs.Common.{map, take}
use Rattle.ival.specs.SpaceViews.{domain_of}
use Rattle.cert_model.specs.Written.{point_line}
use Rattle.cert_text.specs.Lines.{HasAppended}
use Rattle.cert_text.proofs.parts.append_point.Given as goal

abbrev pub invariant-loop-domain : goal.invariant-loop-domain
invariant-loop-domain l = HasAppended l.fn.text.items (map (λ d. point_line (domain_of d)) (take l.domain-index l.point.axes.items)) l.text.items
