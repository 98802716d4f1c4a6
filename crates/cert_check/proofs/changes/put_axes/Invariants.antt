use Rattle.std.proofs.Common.{◌≡◌, drop}
use Rattle.ival.specs.SpaceViews.{domain_of, space_of}
use Rattle.cert_check.specs.Changed.{placed}
use Rattle.cert_check.proofs.changes.put_axes.Given as goal

abbrev pub invariant-loop-change : goal.invariant-loop-change
invariant-loop-change l = placed domain_of l.changes (space_of l.initial.space) ≡ placed domain_of (drop l.change-index l.changes) (space_of l.space)
