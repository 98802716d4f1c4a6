use Rattle.std.proofs.Common.{◌≡◌}
use Rattle.ival.specs.SpaceViews.{domain_of, space_of}
use Rattle.cert_check.specs.Changed.{placed}
use Rattle.cert_check.proofs.Placed.{joined}
use Rattle.cert_check.proofs.changes.axes_apart.Given as goal

-- the changes so far make the axes so far
abbrev pub invariant-loop-axis : goal.invariant-loop-axis
invariant-loop-axis l = placed domain_of l.apart.items (space_of l.from) ≡ joined l.axis (space_of l.from) (space_of l.to)
