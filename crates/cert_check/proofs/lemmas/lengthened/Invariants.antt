use Rattle.std.proofs.Common.{◌≡◌}
use Rattle.ival.specs.SpaceViews.{space_of}
use Rattle.cert_check.proofs.Carried.{partly}
use Rattle.cert_check.proofs.lemmas.lengthened.Given as goal

-- so many domains are those of the space
abbrev pub invariant-loop-axis : goal.invariant-loop-axis
invariant-loop-axis l = space_of l.whole ≡ partly l.axis (space_of l.space) (space_of l.beyond)
